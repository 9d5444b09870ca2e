use Rattle.std.proofs.Common.{◌≡◌, ◌-◌, ◌++◌, [], map}
use Rattle.std.specs.List.{range_with_len}
use Rattle.bd_machine.specs.Start.{part_at_start}
use Rattle.bd_state.proofs.start.parts_at_start.Given as goal

abbrev pub invariant-loop-t : goal.invariant-loop-t
invariant-loop-t l = l.parts ++ map (part_at_start l.setup []) (range_with_len l.t (l.setup.threads - l.t)) ≡ map (part_at_start l.setup []) (range_with_len 0 l.setup.threads)
