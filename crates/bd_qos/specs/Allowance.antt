-- What contracts see of a device's limits.
use Rattle.std.specs.Prelude.{ℕ, ◌-◌, ◌+◌, if◌then◌else◌, ◌==◌}
use Rattle.bd_base.specs.declared.device.Rates.{Rates}
use Rattle.bd_machine.specs.declared.state.Left.{Left}
use Rattle.bd_machine.specs.Budget.{quotas_of, renewed, slices_passed}

-- the limits per second, what is left of each, the start of the first timeslice (microseconds), and how
-- many timeslices were counted since
pub record Allowance : Type 0 where
  pub rates : Rates
  pub left : Left
  pub start : ℕ
  pub slices : ℕ

-- the timeslices that passed by a moment and weren't counted yet
abbrev pub newly_passed : ℕ → Allowance → ℕ
newly_passed now a = slices_passed a.start now - a.slices

-- after this number of further timeslices; 0 of them change nothing
abbrev pub after_slices : ℕ → Allowance → Allowance
after_slices k a = if k == 0 then a else record a { left = renewed (quotas_of a.rates) k a.left; slices = a.slices + k }
