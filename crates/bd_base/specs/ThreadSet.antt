-- Sets of threads as bits.
use Rattle.std.specs.Prelude.{◌≡◌, ℕ, ◌<◌}
use Rattle.std.specs.Int.{bit_at}

-- the thread is in the set with these bits
abbrev pub Has : ℕ → ℕ → Type 0
Has bits thread = bit_at bits thread ≡ 1

-- the thread is in the set, and no lesser one is
pub record IsFirst (bits thread : ℕ) : Type 0 where
  pub below : thread < 16
  pub inside : Has bits thread
  pub least : (k : ℕ) → k < thread → ¬ Has bits k
