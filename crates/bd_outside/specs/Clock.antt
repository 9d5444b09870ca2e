-- The moments of a clock, in microseconds.
use Rattle.std.specs.Prelude.{ℕ, ◌≤◌, Option, None, Some}

-- the least and the greatest moment that a clock may answer
pub record Moments : Type 0 where
  pub least : ℕ
  pub greatest : ℕ

-- a moment lies between those that the clock tells, if it tells them
abbrev pub IsWithin : Option Moments → ℕ → Type 0
IsWithin None moment = Unit {0}
IsWithin (Some range) moment = (range.least ≤ moment) × (moment ≤ range.greatest)
