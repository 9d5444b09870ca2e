use Rattle.std.proofs.Common.{length, ◌∙◌, ap}
use Rattle.bd_disks.proofs.Ends.{done_writing, inside_disk}
use Rattle.bd_disks.proofs.Held.{length_put}
use Rattle.bd_disks.proofs.serving.write.Goals as goal

pub write-requires : goal.write-requires
write-requires g c =
    let p = c.args.piece.now in
    inside_disk (g.D.Disk.state c.args.disk.now) c.args.size p c.requires.inside (length c.args.from.now) (ap length c.requires.bytes ∙ length_put c.args.size p.op p.first p.count)

pub returns-in-Ok-clause-served : goal.returns-in-Ok-clause-served
returns-in-Ok-clause-served g c =
    done_writing c.args.size c.args.piece.now (g.D.Disk.state c.args.disk.now) (g.D.Disk.state c.write.new.self) c.requires.inside c.write.ensures.same_shape c.done.result.end c.done.result.read c.done.ensures.end
    c.requires.writing c.args.from.now c.requires.bytes c.in-Ok.ensures.written c.write.ensures.flush_count (c.done.ensures.read ∙ c.no_bytes.ensures)
