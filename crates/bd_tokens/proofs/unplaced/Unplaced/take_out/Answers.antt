use Rattle.std.proofs.Common.{None, sym, ◌∙◌, ap, subst}
use Rattle.bd_tokens.specs.Tokens.{Held, here_in, Sets}
use Rattle.bd_tokens.specs.Walks.{unplaced_with}
use Rattle.bd_tokens.proofs.Listed.{here_mapped, mapped, walk_here, walk_taken}
use Rattle.bd_tokens.proofs.unplaced.Unplaced.take_out.Goals as goal

pub invariant_of-self : goal.invariant_of-self
invariant_of-self c = (walk_taken c.self.inside.walks.items c.take_walk.new.walks.items c.self.inside.map.entries c.args.id c.in-Some.walk c.self.invariant (cc) c.take_walk.ensures.rest).unplaced

pub invariant_of-self-in-None : goal.invariant_of-self-in-None
invariant_of-self-in-None c = (mapped c.self.inside.walks.items c.self.inside.map.entries c.take_other.new.map.entries c.args.id None c.self.invariant (cc) c.take_other.ensures.gone).unplaced

pub returns-in-Some-clause-kept : goal.returns-in-Some-clause-kept
returns-in-Some-clause-kept c =
    c.take_walk.ensures.kept
    ∙ sym (walk_here c.self.inside.walks.items c.self.inside.map.entries c.args.id c.in-Some.walk c.self.invariant (cc))
    ∙ ap (λ (h : Held). here_in h.items c.args.id) c.self.view_is

pub returns-in-Some-clause-gone : goal.returns-in-Some-clause-gone
returns-in-Some-clause-gone c =
    subst (λ (h : Held). Sets h.items (unplaced_with c.take_walk.new.walks.items c.self.inside.map.entries) c.args.id None) c.self.view_is
    (walk_taken c.self.inside.walks.items c.take_walk.new.walks.items c.self.inside.map.entries c.args.id c.in-Some.walk c.self.invariant (cc) c.take_walk.ensures.rest).sets

pub returns-in-None-clause-kept : goal.returns-in-None-clause-kept
returns-in-None-clause-kept c =
    c.take_other.ensures.kept
    ∙ sym (here_mapped c.self.inside.walks.items c.self.inside.map.entries c.args.id (cc))
    ∙ ap (λ (h : Held). here_in h.items c.args.id) c.self.view_is

pub returns-in-None-clause-gone : goal.returns-in-None-clause-gone
returns-in-None-clause-gone c =
    subst (λ (h : Held). Sets h.items (unplaced_with c.self.inside.walks.items c.take_other.new.map.entries) c.args.id None) c.self.view_is
    (mapped c.self.inside.walks.items c.self.inside.map.entries c.take_other.new.map.entries c.args.id None c.self.invariant (cc) c.take_other.ensures.gone).sets
