-- What three tests that all pass say of each.
use Rattle.std.proofs.Common.{◌≡◌, Bool, true, ◌&&◌, rules}

-- all three hold
pub record All (a b c : Bool) : Type 0 where
  pub first : a ≡ true
  pub second : b ≡ true
  pub third : c ≡ true

pub all_pass : (a b c : Bool) → a && b && c ≡ true → All a b c
all_pass a b c both = record { first = search rules; second = search rules; third = search rules }
