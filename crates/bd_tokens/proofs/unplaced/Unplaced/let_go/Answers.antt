use Rattle.std.proofs.Common.{None, subst}
use Rattle.bd_tokens.specs.Tokens.{Held, Sets}
use Rattle.bd_tokens.specs.Walks.{unplaced_with}
use Rattle.bd_tokens.proofs.Listed.{mapped, walk_taken}
use Rattle.bd_tokens.proofs.unplaced.Unplaced.let_go.Goals as goal

pub invariant_of-self : goal.invariant_of-self
invariant_of-self c = (walk_taken c.self.inside.walks.items c.drop_walk.new.walks.items c.self.inside.map.entries c.args.id c.in-Some.walk c.self.invariant (cc) c.drop_walk.ensures.rest).unplaced

pub invariant_of-self-in-None : goal.invariant_of-self-in-None
invariant_of-self-in-None c = (mapped c.self.inside.walks.items c.self.inside.map.entries c.drop_other.new.map.entries c.args.id None c.self.invariant (cc) c.drop_other.ensures.gone).unplaced

pub returns-in-Some-clause-gone : goal.returns-in-Some-clause-gone
returns-in-Some-clause-gone c =
    subst (λ (h : Held). Sets h.items (unplaced_with c.drop_walk.new.walks.items c.self.inside.map.entries) c.args.id None) c.self.view_is
    (walk_taken c.self.inside.walks.items c.drop_walk.new.walks.items c.self.inside.map.entries c.args.id c.in-Some.walk c.self.invariant (cc) c.drop_walk.ensures.rest).sets

pub returns-in-None-clause-gone : goal.returns-in-None-clause-gone
returns-in-None-clause-gone c =
    subst (λ (h : Held). Sets h.items (unplaced_with c.self.inside.walks.items c.drop_other.new.map.entries) c.args.id None) c.self.view_is
    (mapped c.self.inside.walks.items c.self.inside.map.entries c.drop_other.new.map.entries c.args.id None c.self.invariant (cc) c.drop_other.ensures.gone).sets
