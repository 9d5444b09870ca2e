-- Above 16 neither set has a bit.
use Rattle.std.proofs.Common.{◌≡◌, ◌≢◌, ◌<◌, ◌≤◌, ℕ, ◌-◌, ◌*◌, ◌^◌, ◌%◌, ◌⊎◌, inl, inr, arith}
use Rattle.std.specs.Int.{w16, bit_at}
use Rattle.std.specs.Prelude.{bit_and}
use Rattle.std.proofs.lemmas.Bool.{cases_lt}
use Rattle.std.proofs.lemmas.Nat.Bits.{bit_at_clear_same, bit_at_clear_other, bit_at_above, bit_at_and}
use Rattle.bd_base.proofs.thread_set.ThreadSet.remove.Goals as goal

clears_others : (n t : ℕ) → n < 2 ^ 16 → t < 16 → (k : ℕ) → k ≢ t → (k < 16) ⊎ (16 ≤ k) → bit_at (bit_and n (65535 - 1 * 2 ^ t % 65536)) k ≡ bit_at n k
clears_others n t fits below k other (inl lt) = bit_at_clear_other w16 n t below k lt other
clears_others n t fits below k other (inr above) =
    let zero : bit_at n k ≡ 0 = bit_at_above n 16 k fits above in
    let both = bit_at_and n (65535 - 1 * 2 ^ t % 65536) k in
    omega (arith, both, zero)

pub returns-clause-same : goal.returns-clause-same
returns-clause-same c = bit_at_clear_same w16 c.args.self.now.0 c.args.t.0 (omega arith)

pub returns-clause-others : goal.returns-clause-others
returns-clause-others c = λ k other. clears_others c.args.self.now.0 c.args.t.0 (omega arith) (omega arith) k other (cases_lt k 16)
