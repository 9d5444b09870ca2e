-- A ticket is spent, where it is kept.
use Rattle.std.proofs.Common.{◌≡◌, ◌↔◌, suc, Bool, true, false, cond, List, [], ◌∷◌, Option, Some, None, IsSome, OnSome, IfNone, Contains, refl, sym, ◌∙◌, ap, arith}
use Rattle.bd_base.specs.declared.id.ReqId.{ReqId}
use Rattle.bd_machine.specs.Same.{same_request}
use Rattle.bd_machine.proofs.Tables.{request_same}
use Rattle.bd_msg.specs.Purse.{without}
use Rattle.bd_msg.specs.Purse.{Kept as Purse}
use Rattle.bd_msg.specs.declared.ticket.Finished.{Finished}

unkept : (id : ReqId) (xs : List ReqId) → ¬ Contains xs id → without id xs ≡ xs
unkept id [] h = refl
unkept id (x ∷ xs) h = go (same_request x id) refl (unkept id xs (λ c. h (suc c.0, omega (arith, c.1), c.2)))
  where
    go : (b : Bool) → same_request x id ≡ b → without id xs ≡ xs → cond b xs (x ∷ without id xs) ≡ x ∷ xs
    go true e rest = absurd (h (0, omega arith, request_same.exact x id e))
    go false e rest = ap (λ (ys : List ReqId). x ∷ ys) rest

not_some : (o : Option Finished) → o ≡ None → IsSome o → ⊥
not_some None e h = cc
not_some (Some x) e h = cc

pub spent : (result : Option Finished) (old new : Purse) (id : ReqId)
    → IsSome result ↔ Contains old.ids id
    → OnSome result (new ≡ record old { ids = without id old.ids })
    → IfNone result (new ≡ old)
    → new.ids ≡ without id old.ids
spent (Some finished) old new id found rest none = ap (λ (k : Purse). k.ids) rest
spent None old new id found rest none = ap (λ (k : Purse). k.ids) none ∙ sym (unkept id old.ids (λ c. not_some None refl (found.1 c)))
