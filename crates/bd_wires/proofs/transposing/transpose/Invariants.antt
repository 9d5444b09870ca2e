use Rattle.bd_wires.specs.Transposing.{TransposedTo}
use Rattle.bd_wires.proofs.transposing.transpose.Given as goal

abbrev pub invariant-loop-thread : goal.invariant-loop-thread
invariant-loop-thread l = TransposedTo l.thread l.initial.passes l.passes
