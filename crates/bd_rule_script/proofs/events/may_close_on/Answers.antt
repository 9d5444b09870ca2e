use Rattle.std.proofs.Common.{◌≡◌, Bool, true, false, cond, ◌&&◌, ◌||◌, List, [], ◌∷◌, filter, refl, sym, ◌∙◌, ap}
use Rattle.std.specs.List.{list_any}
use Rattle.bd_machine.specs.declared.state.Handle.{Handle}
use Rattle.bd_machine.specs.Asked.{may_close}
use Rattle.bd_machine.specs.Same.{same_dev}
use Rattle.bd_rule_view.specs.Came.{came_shut}
use Rattle.bd_rule_script.proofs.events.may_close_on.Goals as goal

-- what asks for the first test finds the same among those that pass it
any_of_kept : {X : Type 0} (p q : X → Bool) (xs : List X) → list_any (λ x. p x && q x) (filter p xs) ≡ list_any (λ x. p x && q x) xs
any_of_kept p q [] = refl
any_of_kept p q (x ∷ xs) = go (p x) refl (any_of_kept p q xs)
  where
    go : (b : Bool) → p x ≡ b → list_any (λ x. p x && q x) (filter p xs) ≡ list_any (λ x. p x && q x) xs
        → list_any (λ x. p x && q x) (cond b (x ∷ filter p xs) (filter p xs)) ≡ list_any (λ x. p x && q x) (x ∷ xs)
    go true e ih = ap (λ b. (p x && q x) || b) ih
    go false e ih = ih ∙ sym (ap (λ b. (b && q x) || list_any (λ y. p y && q y) xs) e)

pub loop-h-init : goal.loop-h-init
loop-h-init g c =
    let v = g.S.Sees.view_of c.args.seen.now in
    let closes : Handle → Bool = λ h. may_close c.args.setup.now c.args.thread v (came_shut c.args.shut) h.id in
    ap (list_any (λ h. same_dev h.dev c.args.dev && closes h)) c.handles_of-h-items.ensures ∙ any_of_kept (λ h. same_dev h.dev c.args.dev) closes v.handles
