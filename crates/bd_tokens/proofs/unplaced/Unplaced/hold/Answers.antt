use Rattle.std.proofs.Common.{Some, refl, ap, subst}
use Rattle.bd_tokens.specs.Tokens.{Held, here_in, Sets}
use Rattle.bd_tokens.specs.Walks.{unplaced_with}
use Rattle.bd_tokens.proofs.Listed.{mapped, unplaced_still, walk_written}
use Rattle.bd_tokens.proofs.unplaced.Unplaced.hold.Goals as goal

pub invariant_of-self-in-Some : goal.invariant_of-self-in-Some
invariant_of-self-in-Some c = (walk_written c.self.inside.walks.items c.hold_walk.new.walks.items c.self.inside.map.entries c.args.id c.in-Some.walk c.args.kept c.self.invariant (cc) c.in_ok-hold_walk-in-Some.ensures.ok).unplaced

pub invariant_of-self-in_err-hold_other-in-None : goal.invariant_of-self-in_err-hold_other-in-None
invariant_of-self-in_err-hold_other-in-None c =
    unplaced_still c.self.inside.walks.items c.self.inside.walks.items c.self.inside.map.entries c.hold_other.new.map.entries c.self.invariant refl (ap here_in c.in_err-hold_other-in-None.ensures.err)

pub invariant_of-self-in-None : goal.invariant_of-self-in-None
invariant_of-self-in-None c = (mapped c.self.inside.walks.items c.self.inside.map.entries c.hold_other.new.map.entries c.args.id (Some c.args.kept) c.self.invariant (cc) c.in_ok-hold_other-in-None.ensures.ok).unplaced

pub returns-in_ok-hold_walk-in-Some-clause-ok : goal.returns-in_ok-hold_walk-in-Some-clause-ok
returns-in_ok-hold_walk-in-Some-clause-ok c =
    subst (λ (h : Held). Sets h.items (unplaced_with c.hold_walk.new.walks.items c.self.inside.map.entries) c.args.id (Some c.args.kept)) c.self.view_is
    (walk_written c.self.inside.walks.items c.hold_walk.new.walks.items c.self.inside.map.entries c.args.id c.in-Some.walk c.args.kept c.self.invariant (cc) c.in_ok-hold_walk-in-Some.ensures.ok).sets

pub returns-in_ok-hold_other-in-None-clause-ok : goal.returns-in_ok-hold_other-in-None-clause-ok
returns-in_ok-hold_other-in-None-clause-ok c =
    subst (λ (h : Held). Sets h.items (unplaced_with c.self.inside.walks.items c.hold_other.new.map.entries) c.args.id (Some c.args.kept)) c.self.view_is
    (mapped c.self.inside.walks.items c.self.inside.map.entries c.hold_other.new.map.entries c.args.id (Some c.args.kept) c.self.invariant (cc) c.in_ok-hold_other-in-None.ensures.ok).sets
