-- Counts of what is open on each device, and whether any of it has a device below.
use Rattle.std.specs.Prelude.{ℕ, ◌+◌, Bool, false, not, ◌&&◌, ◌||◌, ◌==◌, List, [], ◌∷◌}
use Rattle.bd_base.specs.declared.id.DevId.{DevId}
use Rattle.bd_base.specs.declared.setup.Setup.{Setup}
use Rattle.bd_machine.specs.Aborts.{is_below}

-- of these counts, by the numbers of devices from n on, one isn't 0 and its device is this one or has it below
abbrev pub any_counted : Setup → DevId → ℕ → List ℕ → Bool
any_counted setup dev n [] = false
any_counted setup dev n (count ∷ counts) = not (count == 0) && is_below setup (record { 0 = n }) dev || any_counted setup dev (n + 1) counts
