-- The places of names.
use Rattle.std.specs.Prelude.{◌≡◌, ℕ, List, cond, nat_eq, Option, Some, None}
use Rattle.std.specs.Cmp.Lexicographic.{pointwise}
use Rattle.indexmap.specs.IndexMap.{get_by}
use Rattle.bd_base.specs.Name.{same_name}
use Rattle.bd_base.specs.declared.setup.Setup.{Setup}
use Rattle.bd_machine.specs.Registry.{device_named}
use Rattle.bd_devices.specs.declared.names.Names.{Names}

-- the place of a name; none where it has none
abbrev pub place_of_name : Names → List ℕ → Option ℕ
place_of_name names q = get_by (λ k. pointwise nat_eq q k.items) names.places

-- the first place, or else this one
abbrev pub first_of : Option ℕ → Option ℕ → Option ℕ
first_of None place = place
first_of (Some n) place = Some n

-- a name that had no place has this one
abbrev pub Gains : Names → List ℕ → ℕ → Names → Type 0
Gains old name place new = (q : List ℕ) → place_of_name new q ≡ first_of (place_of_name old q) (cond (same_name name q) (Some place) None)

-- the names have the places of the devices that they name
abbrev pub AreNamed : Names → Setup → Type 0
AreNamed names setup = (q : List ℕ) → place_of_name names q ≡ device_named setup q
