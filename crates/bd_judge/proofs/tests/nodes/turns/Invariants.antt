use Rattle.bd_node.specs.Whole.{IsNode}
use Rattle.bd_outside.specs.Memory.{memory_state}
use Rattle.bd_judge.proofs.tests.nodes.turns.Given as goal

abbrev pub invariant-loop-thread : goal.invariant-loop-thread
invariant-loop-thread g l = IsNode memory_state l.node
