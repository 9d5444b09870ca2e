use Rattle.std.proofs.Common.{Some, subst, arith}
use Rattle.bd_machine.specs.declared.state.Kept.{Kept}
use Rattle.bd_tokens.specs.declared.places.Tier.TheVariants.{Far}
use Rattle.bd_tokens.specs.Tokens.{Sets}
use Rattle.bd_tokens.proofs.Placed.{held_beside, held_put, kept_still}
use Rattle.bd_tokens.proofs.beyond.hold_at.Goals as goal

pub returns-in-Ok-clause-kept : goal.returns-in-Ok-clause-kept
returns-in-Ok-clause-kept c =
    (held_put Far c.args.rows.now.items c.put_at.new.rows.items c.args.unplaced.now.items c.let_go.new.self.items c.args.place c.args.id c.args.kept c.requires.kept (omega (arith, c.requires.within)) c.requires.place c.requires.free c.in-Ok.ensures.ok c.let_go.ensures.gone).kept

pub returns-in-Ok-clause-ok : goal.returns-in-Ok-clause-ok
returns-in-Ok-clause-ok c =
    (held_put Far c.args.rows.now.items c.put_at.new.rows.items c.args.unplaced.now.items c.let_go.new.self.items c.args.place c.args.id c.args.kept c.requires.kept (omega (arith, c.requires.within)) c.requires.place c.requires.free c.in-Ok.ensures.ok c.let_go.ensures.gone).held

pub returns-in_err-hold-in-Err-clause-kept : goal.returns-in_err-hold-in-Err-clause-kept
returns-in_err-hold-in-Err-clause-kept c =
    kept_still Far c.args.rows.now.items c.put_at.new.rows.items c.args.unplaced.now.items c.hold.new.self.items c.requires.kept c.in-Err.ensures.err c.in_err-hold-in-Err.ensures.err

pub returns-in_ok-hold-in-Err-clause-kept : goal.returns-in_ok-hold-in-Err-clause-kept
returns-in_ok-hold-in-Err-clause-kept c =
    (held_beside Far c.args.rows.now.items c.put_at.new.rows.items c.args.unplaced.now.items c.hold.new.self.items c.args.place c.args.id c.in-Err.kept c.requires.kept c.requires.place c.in-Err.ensures.err c.in-Err.ensures.none c.in_ok-hold-in-Err.ensures.ok).kept

pub returns-in_ok-hold-in-Err-clause-ok : goal.returns-in_ok-hold-in-Err-clause-ok
returns-in_ok-hold-in-Err-clause-ok c =
    (held_beside Far c.args.rows.now.items c.put_at.new.rows.items c.args.unplaced.now.items c.hold.new.self.items c.args.place c.args.id c.args.kept c.requires.kept c.requires.place c.in-Err.ensures.err c.in-Err.ensures.none
    (subst (λ (k : Kept). Sets c.args.unplaced.now.items c.hold.new.self.items c.args.id (Some k)) c.in-Err.ensures.back c.in_ok-hold-in-Err.ensures.ok)).held
