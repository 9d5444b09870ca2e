use Rattle.std.proofs.Common.{◌≡◌, ◌++◌, drop}
use Rattle.bd_machine.specs.Start.{handles_from}
use Rattle.bd_blocks.proofs.registry.base_handles.Given as goal

abbrev pub invariant-loop-number : goal.invariant-loop-number
invariant-loop-number l = l.handles ++ handles_from l.setup l.number (drop l.number l.firsts) ≡ handles_from l.setup 0 l.firsts
