-- The first of two finds.
use Rattle.std.specs.Prelude.{Bool, if◌then◌else◌, Option, Some, None}

-- what was found first, or else what is found now
abbrev pub first_of : {X : Type 0} → Option X → Option X → Option X
first_of (Some x) _ = Some x
first_of None found = found

-- a value at a key that is meant, and nothing at another
abbrev pub if_key : {X : Type 0} → Bool → X → Option X
if_key is x = if is then Some x else None
