-- The last piece of a queue.
use Rattle.std.proofs.Common.{◌≡◌, ℕ, zero, suc, ◌-◌, ◌<◌, List, [], ◌∷◌, length, get_or, Some, refl, sym, arith}
use Rattle.bd_base.specs.declared.id.ReqId.{ReqId}
use Rattle.bd_home.specs.Serving.{last_of}

last_read : (qs : List (ReqId × ℕ)) (n : ℕ) (d : ReqId × ℕ) → length qs ≡ suc n → last_of qs ≡ Some (get_or qs n d)
last_read [] n d h = absurd (omega (arith, h))
last_read (q ∷ []) zero d h = refl
last_read (q ∷ []) (suc n) d h = absurd (omega (arith, h))
last_read (q ∷ r ∷ qs) zero d h = absurd (omega (arith, h))
last_read (q ∷ r ∷ qs) (suc n) d h = last_read (r ∷ qs) n d (omega (arith, h))

-- what stands at the end of a queue is its last
pub last_is : (qs : List (ReqId × ℕ)) (d : ReqId × ℕ) → 0 < length qs → Some (get_or qs (length qs - 1) d) ≡ last_of qs
last_is qs d h = sym (last_read qs (length qs - 1) d (omega (arith, h)))
