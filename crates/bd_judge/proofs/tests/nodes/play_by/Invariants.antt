use Rattle.bd_node.specs.Whole.{IsNode}
use Rattle.bd_outside.specs.Memory.{memory_state}
use Rattle.bd_judge.proofs.tests.nodes.play_by.Given as goal

abbrev pub invariant-loop : goal.invariant-loop
invariant-loop g l = IsNode memory_state l.node
