-- A list that is written in place.
use Rattle.std.specs.Prelude.{ℕ, ◌+◌, List, ◌++◌, length, take, drop}

-- what stands before a place, the new items from there on, and what stands behind them
abbrev pub written : {A : Type 0} → ℕ → List A → List A → List A
written at new old = take at old ++ (new ++ drop (at + length new) old)
