use Rattle.std.proofs.Common.{◌≡◌, ◌<◌, Bool, true, false, ◌||◌, refl, sym, ◌∙◌, ap, subst}
use Rattle.bd_machine.specs.Lines.{shutdown_at}
use Rattle.bd_registry.specs.State.{Registered, is_shut, shut_at}
use Rattle.bd_registry.proofs.Journals.{shut_more}
use Rattle.bd_registry.proofs.Registering.{is_registered_shut, registered_shut}
use Rattle.bd_registry.proofs.registry.Registry.shut.Goals as goal

or_true : (b : Bool) → (b || true) ≡ true
or_true true = refl
or_true false = refl

pub invariant_of-self-2 : goal.invariant_of-self-2
invariant_of-self-2 c =
    let journal = c.self.inside.journal.items in
    let less = subst (λ (s : Registered). s.last < c.args.stamp) (sym c.self.view_is) c.requires in (
      is_registered_shut c.self.inside.setup journal c.self.inside.last c.args.stamp c.push.new.self.items c.in_ok-push.ensures.items c.self.inside.names c.self.inside.tables c.self.invariant.0 less,
      sym (ap is_shut c.in_ok-push.ensures.items ∙ shut_more journal (shutdown_at c.args.stamp) ∙ or_true (is_shut journal)),
    )

pub returns-clause-ok : goal.returns-clause-ok
returns-clause-ok c =
    registered_shut c.self.inside.setup c.self.inside.journal.items c.self.inside.last c.args.stamp c.push.new.self.items c.in_ok-push.ensures.items
    ∙ ap (λ (s : Registered). shut_at s c.args.stamp) c.self.view_is
