use Rattle.std.proofs.Common.{◌≡◌, drop}
use Rattle.bd_machine.specs.Same.{same_dev}
use Rattle.bd_machine.specs.Table.{look_up}
use Rattle.bd_delay.proofs.latency.delayed_of.Given as goal

abbrev pub invariant-loop-row : goal.invariant-loop-row
invariant-loop-row l = look_up same_dev (drop l.row-index l.part.delayed) l.dev ≡ look_up same_dev l.part.delayed l.dev
