-- The last piece of a queue.
use Rattle.std.proofs.Common.{◌≡◌, ℕ, zero, suc, ◌-◌, ◌<◌, ◌&&◌, ◌==◌, List, [], ◌∷◌, length, get_or, refl, arith}
use Rattle.bd_base.specs.declared.id.ReqId.{ReqId}
use Rattle.bd_machine.specs.Homes.{is_last}
use Rattle.bd_machine.specs.Same.{same_request}

last_at : (req : ReqId) (k : ℕ) (qs : List (ReqId × ℕ)) (n : ℕ) (d : ReqId × ℕ) → length qs ≡ suc n → is_last req k qs ≡ (same_request (get_or qs n d).0 req && ((get_or qs n d).1 == k))
last_at req k [] n d h = absurd (omega (arith, h))
last_at req k (q ∷ []) zero d h = refl
last_at req k (q ∷ []) (suc n) d h = absurd (omega (arith, h))
last_at req k (q ∷ r ∷ qs) zero d h = absurd (omega (arith, h))
last_at req k (q ∷ r ∷ qs) (suc n) d h = last_at req k (r ∷ qs) n d (omega (arith, h))

pub last_is : (req : ReqId) (k : ℕ) (qs : List (ReqId × ℕ)) (d : ReqId × ℕ) → 0 < length qs → is_last req k qs ≡ (same_request (get_or qs (length qs - 1) d).0 req && ((get_or qs (length qs - 1) d).1 == k))
last_is req k qs d h = last_at req k qs (length qs - 1) d (omega (arith, h))
