-- Sets of threads as bits.
use Rattle.std.proofs.Common.{◌≡◌, ℕ, ◌^◌, ◌<◌, ◌≤◌, ◌==◌, inl, inr, true, false, sym, ◌∙◌, arith}
use Rattle.std.specs.Int.{bit_at}
use Rattle.std.proofs.lemmas.Bool.{cases_lt, ne_eqb}
use Rattle.std.proofs.lemmas.Nat.Bits.{bit_at_above}

-- a set has no thread of 16 and on
pub none_above : (bits t : ℕ) → bits < 2 ^ 16 → 16 ≤ t → (bit_at bits t == 1) ≡ false
none_above bits t fits above = ne_eqb (bit_at bits t) 1 (λ e. let zero : bit_at bits t ≡ 0 = bit_at_above bits 16 t fits above in omega (arith, e, zero))

absurd_bool : true ≡ false → ⊥
absurd_bool e = cc

pub below_16 : (bits t : ℕ) → bits < 2 ^ 16 → (bit_at bits t == 1) ≡ true → t < 16
below_16 bits t fits inside = elim (cases_lt t 16) [
  | inl lt ↦ lt
  | inr ge ↦ absurd (absurd_bool (sym inside ∙ none_above bits t fits ge))
]
