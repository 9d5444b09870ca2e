use Rattle.std.proofs.Common.{refl, ◌∙◌}
use Rattle.bd_disks.proofs.Ends.{done_passing}
use Rattle.bd_disks.proofs.serving.pass.Goals as goal

pub returns : goal.returns
returns g c =
    let disk = g.D.Disk.state c.args._disk.now in
    done_passing c.args._size c.args._piece.now disk disk c.requires.inside (record { size = refl; blocks = refl; place = refl }) c.done.result.end c.done.result.read c.done.ensures.end
    c.requires.no_piece refl refl (c.done.ensures.read ∙ c.no_bytes.ensures)
