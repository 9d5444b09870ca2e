use Rattle.std.proofs.Common.{◌≡◌, length}
use Rattle.std.specs.List.{concat}
use Rattle.bd_machine.specs.Effect.{patterned, zero_blocks}
use Rattle.bd_disks.proofs.image.patterns.Given as goal

abbrev pub invariant-loop-k : goal.invariant-loop-k
invariant-loop-k l = (length l.block ≡ l.size) × (l.bytes.items ≡ concat (patterned l.seed l.number (zero_blocks l.size l.k)))
