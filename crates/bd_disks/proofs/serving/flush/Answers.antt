use Rattle.std.proofs.Common.{◌∙◌}
use Rattle.bd_disks.proofs.Ends.{done_flushing}
use Rattle.bd_disks.proofs.serving.flush.Goals as goal

pub returns-in-Ok-clause-served : goal.returns-in-Ok-clause-served
returns-in-Ok-clause-served g c =
    done_flushing c.args.size c.args.piece.now (g.D.Disk.state c.args.disk.now) (g.D.Disk.state c.flush.new.self) c.requires.inside c.flush.ensures.same_shape c.done.result.end c.done.result.read c.done.ensures.end
    c.requires.flush c.flush.ensures.same_content c.in-Ok.ensures.done (c.done.ensures.read ∙ c.no_bytes.ensures)
