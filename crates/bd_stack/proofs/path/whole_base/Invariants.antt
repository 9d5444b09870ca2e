use Rattle.std.proofs.Common.{◌≡◌, ◌-◌, length, Some}
use Rattle.std.specs.List.{list_all}
use Rattle.bd_machine.specs.BlockMap.{base_of, below, is_whole_or}
use Rattle.bd_stack.specs.Walks.{devices_left}
use Rattle.bd_stack.proofs.Downwards.{bottom}
use Rattle.bd_stack.proofs.path.whole_base.Given as goal

-- the base lies so many steps down as are left, and the devices that are left decide
abbrev pub invariant-loop-step : goal.invariant-loop-step
invariant-loop-step l = record {
  lies : bottom l.setup (length l.setup.devices - l._step) l.base ≡ base_of l.setup l.fn.dev;
  whole : list_all (is_whole_or l.setup (base_of l.setup l.fn.dev)) (devices_left l.setup (length l.setup.devices - l._step) (Some l.base)) ≡ list_all (is_whole_or l.setup (base_of l.setup l.fn.dev)) (below l.setup l.fn.dev);
}
