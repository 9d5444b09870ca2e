-- The shape of a configuration: its subsystems, and the calls of those that are block devices.
use Rattle.std.specs.Prelude.{ℕ, Bool, true, ◌&&◌, List, [], ◌∷◌, ◌++◌, codes, Option, None, Some, is_some, option_map, option_and_then, if◌then◌else◌}
use Rattle.std.specs.List.{list_all}
use Rattle.serde_json.specs.Data.{Data, Items, no_items, item}
use Rattle.serde_json.specs.Find.{get, as_null, as_str, as_array, as_object}
use Rattle.bd_base.specs.Name.{same_name}

-- the elements of an array, in order
abbrev pub listed : Items → List Data
listed no_items = []
listed (item d ds) = d ∷ listed ds

abbrev pub elements : Data → Option (List Data)
elements d = option_map listed (as_array d)

-- the text under a key
abbrev pub text_of : List ℕ → Data → Option (List ℕ)
text_of key d = option_and_then as_str (get key d)

abbrev pub is_object_or_absent : Option Data → Bool
is_object_or_absent None = true
is_object_or_absent (Some d) = is_some (as_object d)

-- a call has a text `method`, and `params` that are an object or absent
abbrev pub is_call : Data → Bool
is_call d = is_some (text_of (codes "method") d) && is_object_or_absent (get (codes "params") d)

-- the elements of `config`, which is an array, null or absent
abbrev pub config_from : Option Data → Option (List Data)
config_from None = Some []
config_from (Some d) = if is_some (as_null d) then Some [] else elements d

-- the calls among these elements of a subsystem of this name; none where one is no call
abbrev pub calls_from : List ℕ → List Data → Option (List Data)
calls_from name config =
    if same_name name (codes "bdev") then (if list_all is_call config then Some config else None) else Some []

-- the calls of a subsystem; none where the value is no subsystem
abbrev pub calls_in : Data → Option (List Data)
calls_in d = option_and_then (λ name. option_and_then (calls_from name) (config_from (get (codes "config") d))) (text_of (codes "subsystem") d)

-- the array of subsystems
abbrev pub subsystems_of : Data → Option (List Data)
subsystems_of d = option_and_then elements (get (codes "subsystems") d)

abbrev pub calls_or_empty : Option (List Data) → List Data
calls_or_empty None = []
calls_or_empty (Some calls) = calls

-- the calls of all subsystems, in order
abbrev pub calls_of : List Data → List Data
calls_of [] = []
calls_of (d ∷ ds) = calls_or_empty (calls_in d) ++ calls_of ds

abbrev pub is_subsystem : Data → Bool
is_subsystem d = is_some (calls_in d)
