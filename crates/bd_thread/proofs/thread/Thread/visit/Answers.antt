use Rattle.std.proofs.Common.{true, false, refl, sym, ◌∙◌, ap, subst}
use Rattle.bd_machine.specs.View.{View}
use Rattle.bd_steps.specs.Visiting.{visitor}
use Rattle.bd_thread.specs.Walking.{VisitsBy}
use Rattle.bd_thread.proofs.Going.{acted_then}
use Rattle.bd_thread.proofs.thread.Thread.visit.Goals as goal

pub returns-in_default-clause-visits : goal.returns-in_default-clause-visits
returns-in_default-clause-visits c =
    let t = c.args.self.now in
    let links = c.args.links.now in
    let none = sym (c.visitor.ensures ∙ ap (λ (v : View). visitor t.setup.now t.me v c.args.id) c.seen.ensures) ∙ c.in_default.is in
    subst (VisitsBy c.args.id t links t links false) (sym none) (refl, refl, refl)

pub pass-requires : goal.pass-requires
pass-requires c =
    let t = c.args.self.now in
    sym (c.visitor.ensures ∙ ap (λ (v : View). visitor t.setup.now t.me v c.args.id) c.seen.ensures) ∙ c.in-Some.is

pub returns-clause-acted : goal.returns-clause-acted
returns-clause-acted c = acted_then _ _ _ _ _ _ (acted_then _ _ _ _ _ _ c.in_ok-pass.ensures.acted c.in_ok-grace.ensures.acted) c.in_ok-stop_for.ensures.acted

pub returns-clause-visits : goal.returns-clause-visits
returns-clause-visits c =
    let t = c.args.self.now in
    let links = c.args.links.now in
    let due = sym (c.visitor.ensures ∙ ap (λ (v : View). visitor t.setup.now t.me v c.args.id) c.seen.ensures) ∙ c.in-Some.is in
    subst (VisitsBy c.args.id t links c.stop_for.new.self c.stop_for.new.links true) (sym due) (
      refl,
      record {
        middle = c.pass.new.self;
        shared = c.pass.new.links;
        first = c.in_ok-pass.ensures.visited;
        second = record { middle = c.grace.new.self; shared = c.grace.new.links; first = c.in_ok-grace.ensures.graces; second = c.in_ok-stop_for.ensures.stops };
      },
    )
