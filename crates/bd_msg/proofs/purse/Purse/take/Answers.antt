use Rattle.std.proofs.Common.{◌≡◌, ℕ, List, length, Option, Some, None, IfNone, OnSome, sym, ◌∙◌, ap, ap₂, slice_index_or, remove, IsSome, arith}
use Rattle.std.proofs.lemmas.Option.{IfSome_then}
use Rattle.bd_base.specs.declared.id.ReqId.{ReqId}
use Rattle.bd_msg.specs.Purse.{Kept}
use Rattle.bd_msg.proofs.Rising.{taken}
use Rattle.bd_msg.proofs.Without.{position-contains, position-none, position-some, position-at, remove-position}
use Rattle.bd_msg.proofs.purse.Purse.take.Goals as goal

not_some : (r : Option ReqId) → r ≡ None → IsSome r → ⊥
not_some None e h = cc
not_some (Some x) e h = cc

on_none : {X A B : Type 0} (r : Option X) → (A → B) → IfNone r A → IfNone r B
on_none None so h = so h
on_none (Some x) so h = h

on_some : {X A B : Type 0} (r : Option X) → (A → B) → OnSome r A → OnSome r B
on_some None so h = h
on_some (Some x) so h = so h

pub returns-in_err-place-clause-found : goal.returns-in_err-place-clause-found
returns-in_err-place-clause-found c = (
  λ h. absurd (not_some c.from_residual.result c.from_residual.ensures h),
  λ h. absurd (position-none c.args.id c.args.self.now.ids (sym c.in_err-place.ensures) h),
)

pub returns-clause-found : goal.returns-clause-found
returns-clause-found c =
    let items : c.self.inside.tickets.items ≡ c.args.self.now.ids = ap (λ (k : Kept). k.ids) c.self.view_is in
    let at = position-some c.args.id c.args.self.now.ids c.in_ok-place.place (sym c.in_ok-place.ensures) in
    (λ h. position-contains c.args.id c.args.self.now.ids c.in_ok-place.place (sym c.in_ok-place.ensures), λ h. c.remove.ensures.variant.1 (omega (arith, at.0, at.1, ap length items)))

pub returns-clause-ticket : goal.returns-clause-ticket
returns-clause-ticket c =
    let items : c.self.inside.tickets.items ≡ c.args.self.now.ids = ap (λ (k : Kept). k.ids) c.self.view_is in
    IfSome_then c.remove.result c.remove.ensures.value
    (λ ticket is. is
    ∙ ap (λ (xs : List ReqId). slice_index_or xs c.in_ok-place.place ticket) items
    ∙ position-at c.args.id c.args.self.now.ids c.in_ok-place.place ticket (sym c.in_ok-place.ensures))

pub returns-clause-rest : goal.returns-clause-rest
returns-clause-rest c =
    let items : c.self.inside.tickets.items ≡ c.args.self.now.ids = ap (λ (k : Kept). k.ids) c.self.view_is in
    let room = ap (λ (k : Kept). k.capacity) c.self.view_is in
    let make : List ReqId → ℕ → Kept = λ xs n. record { ids = xs; capacity = n } in
    on_some c.remove.result
    (λ removed. ap₂ make
    (removed
    ∙ ap (λ (xs : List ReqId). remove xs c.in_ok-place.place) items
    ∙ remove-position c.args.id c.args.self.now.ids c.in_ok-place.place (sym c.in_ok-place.ensures))
    (c.remove.ensures.capacity ∙ room))
    c.remove.ensures.items

pub invariant_of-self : goal.invariant_of-self
invariant_of-self c =
    taken c.remove.result c.self.inside.next c.self.inside.tickets.items c.remove.new.self.items c.in_ok-place.place c.self.invariant
    c.remove.ensures.items (on_none c.remove.result (λ same. ap (λ q. q.items) same) c.remove.ensures.unchanged)
