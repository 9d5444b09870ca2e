-- The devices over which a request stands.
use Rattle.std.specs.Prelude.{Bool, true, false, ◌&&◌, List, [], ◌∷◌, if◌then◌else◌, nat_lt, replicate, slice_index_or, slice_set}
use Rattle.bd_base.specs.declared.id.DevId.{DevId}
use Rattle.bd_tables.specs.declared.under.Under.{Under}

-- no device
abbrev pub nothing_under : Under
nothing_under = record { devices = replicate 256 false }

-- one more device
abbrev pub inserted : DevId → Under → Under
inserted dev set = if nat_lt dev.0 256 then record { devices = slice_set set.devices dev.0 true } else set

abbrev pub set_from : Under → List DevId → Under
set_from set [] = set
set_from set (dev ∷ devs) = set_from (inserted dev set) devs

-- the set of these devices
abbrev pub set_of : List DevId → Under
set_of devs = set_from nothing_under devs

abbrev pub is_under : DevId → Under → Bool
is_under dev set = nat_lt dev.0 256 && slice_index_or set.devices dev.0 false
