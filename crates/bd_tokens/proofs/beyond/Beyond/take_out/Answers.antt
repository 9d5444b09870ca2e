use Rattle.std.proofs.Common.{List, Option, None, sym, ◌∙◌, ap, subst}
use Rattle.bd_machine.specs.declared.state.Id.{Id}
use Rattle.bd_machine.specs.declared.state.Kept.{Kept}
use Rattle.bd_tokens.specs.Places.{items_in, items_with}
use Rattle.bd_tokens.specs.declared.places.Tier.TheVariants.{Far}
use Rattle.bd_tokens.specs.Tokens.{Held, here_in, Sets}
use Rattle.bd_tokens.proofs.Placed.{held_there, here_other, takes}
use Rattle.bd_tokens.proofs.beyond.Beyond.take_out.Goals as goal

pub invariant_of-self : goal.invariant_of-self
invariant_of-self c = (takes Far c.self.inside.rows.items c.take_at.new.rows.items c.as_slice.result.now c.self.inside.unplaced.items c.in-Some.place c.args.id c.self.invariant c.as_slice.ensures.value c.in-Some.ensures.within c.in-Some.ensures.place c.in-Some.ensures.own c.take_at.ensures.taken).kept

pub invariant_of-self-in-None : goal.invariant_of-self-in-None
invariant_of-self-in-None c = (held_there Far c.self.inside.rows.items c.self.inside.unplaced.items c.take_out.new.self.items c.args.id None c.self.invariant (ap (λ (rs : List (Option (Id × Kept))). here_in (items_in rs) c.args.id) (sym c.as_slice.ensures.value) ∙ c.in-None.ensures.none) c.take_out.ensures.gone).kept

pub returns-in-Some-clause-kept : goal.returns-in-Some-clause-kept
returns-in-Some-clause-kept c = c.opened.ensures ∙ c.take_at.ensures.kept ∙ sym (takes Far c.self.inside.rows.items c.take_at.new.rows.items c.as_slice.result.now c.self.inside.unplaced.items c.in-Some.place c.args.id c.self.invariant c.as_slice.ensures.value c.in-Some.ensures.within c.in-Some.ensures.place c.in-Some.ensures.own c.take_at.ensures.taken).is ∙ ap (λ (h : Held). here_in h.items c.args.id) c.self.view_is

pub returns-in-Some-clause-gone : goal.returns-in-Some-clause-gone
returns-in-Some-clause-gone c =
    subst (λ (h : Held). Sets h.items (items_with c.take_at.new.rows.items c.self.inside.unplaced.items) c.args.id None) c.self.view_is (takes Far c.self.inside.rows.items c.take_at.new.rows.items c.as_slice.result.now c.self.inside.unplaced.items c.in-Some.place c.args.id c.self.invariant c.as_slice.ensures.value c.in-Some.ensures.within c.in-Some.ensures.place c.in-Some.ensures.own c.take_at.ensures.taken).gone

pub returns-in-None-clause-kept : goal.returns-in-None-clause-kept
returns-in-None-clause-kept c =
    c.take_out.ensures.kept
    ∙ sym (here_other c.self.inside.rows.items c.self.inside.unplaced.items c.args.id (ap (λ (rs : List (Option (Id × Kept))). here_in (items_in rs) c.args.id) (sym c.as_slice.ensures.value) ∙ c.in-None.ensures.none))
    ∙ ap (λ (h : Held). here_in h.items c.args.id) c.self.view_is

pub returns-in-None-clause-gone : goal.returns-in-None-clause-gone
returns-in-None-clause-gone c =
    subst (λ (h : Held). Sets h.items (items_with c.self.inside.rows.items c.take_out.new.self.items) c.args.id None) c.self.view_is (held_there Far c.self.inside.rows.items c.self.inside.unplaced.items c.take_out.new.self.items c.args.id None c.self.invariant (ap (λ (rs : List (Option (Id × Kept))). here_in (items_in rs) c.args.id) (sym c.as_slice.ensures.value) ∙ c.in-None.ensures.none) c.take_out.ensures.gone).held
