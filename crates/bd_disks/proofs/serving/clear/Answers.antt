use Rattle.std.proofs.Common.{◌∙◌}
use Rattle.bd_disks.proofs.Ends.{zeroing_puts, zeroing_writes}
use Rattle.bd_disks.proofs.serving.clear.Goals as goal

pub write-requires-clause-writing : goal.write-requires-clause-writing
write-requires-clause-writing g c = zeroing_writes c.args.piece.now.op c.requires.zeroing

pub write-requires-clause-bytes : goal.write-requires-clause-bytes
write-requires-clause-bytes g c =
    let p = c.args.piece.now in
    c.as_slice.ensures.value ∙ c.in_ok-bytes.ensures ∙ zeroing_puts c.args.size p.count p.first p.op c.requires.zeroing
