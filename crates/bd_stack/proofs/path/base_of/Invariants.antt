use Rattle.std.proofs.Common.{◌≡◌, ◌-◌, length}
use Rattle.bd_machine.specs.BlockMap.{base_of}
use Rattle.bd_stack.proofs.Downwards.{bottom}
use Rattle.bd_stack.proofs.path.base_of.Given as goal

-- the base lies so many steps down as are left
abbrev pub invariant-loop-step : goal.invariant-loop-step
invariant-loop-step l = bottom l.setup (length l.setup.devices - l._step) l.base ≡ base_of l.setup l.fn.dev
