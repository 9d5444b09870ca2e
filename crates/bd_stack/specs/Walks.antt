-- The devices below, as a walk comes to them.
use Rattle.std.specs.Prelude.{ℕ, zero, suc, List, [], ◌∷◌, Option, Some, None}
use Rattle.bd_base.specs.declared.id.DevId.{DevId}
use Rattle.bd_base.specs.declared.setup.Setup.{Setup}
use Rattle.bd_machine.specs.BlockMap.{stands_on}

-- the devices from the next one down, of which at most n follow it
abbrev pub devices_left : Setup → ℕ → Option DevId → List DevId
devices_left setup n None = []
devices_left setup zero (Some dev) = dev ∷ []
devices_left setup (suc n) (Some dev) = dev ∷ devices_left setup n (stands_on setup dev)
