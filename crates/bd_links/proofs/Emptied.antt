-- Queues without a message.
use Rattle.std.proofs.Common.{◌≡◌, ℕ, zero, suc, ◌+◌, ◌-◌, ◌<◌, [], ◌∷◌, replicate, refl, ap, slice_index_or, arith}
use mathlib.Core.Path.{fun_ext}
use Rattle.bd_links.specs.Queues.{empty_queues, queues_of}

-- the same value a number of times
pub zeros_next : {X : Type 0} (i n : ℕ) (x : X) → i < n → replicate (n - i) x ≡ x ∷ replicate (n - (i + 1)) x
zeros_next i n x h = let e : n - i ≡ suc (n - (i + 1)) = omega arith in ap (λ (k : ℕ). replicate k x) e

-- no message stands in an empty queue, whichever it is
empty_at : (n r : ℕ) → slice_index_or (empty_queues n) r [] ≡ []
empty_at zero r = refl
empty_at (suc n) zero = refl
empty_at (suc n) (suc r) = empty_at n r

pub empty_queues_of : (n : ℕ) → queues_of (empty_queues n) ≡ (λ r. [])
empty_queues_of n = fun_ext (λ (r : ℕ). empty_at n r)
