-- A part with the stamp of its first entry beside it.
use Rattle.std.specs.Prelude.{◌≡◌, ◌≢◌, ℕ, ◌-◌, ◌^◌, List, [], ◌∷◌}
use Rattle.bd_base.specs.declared.act.Entry.{Entry}
use Rattle.bd_log.specs.Merge.{Part, IsPart}

-- the stamp of the first entry, and the greatest number where there is none
abbrev pub first_stamp : List Entry → ℕ
first_stamp [] = 2 ^ 128 - 1
first_stamp (x ∷ xs) = x.stamp

-- a part, of which this is the first stamp
abbrev pub IsKeptPart : ℕ → Part → Type 0
IsKeptPart first p = (first ≡ first_stamp p.entries) × IsPart p

-- the first entry, where there is one, has another stamp
abbrev pub BeginsElsewhere : ℕ → List Entry → Type 0
BeginsElsewhere stamp [] = Unit {0}
BeginsElsewhere stamp (x ∷ xs) = x.stamp ≢ stamp
