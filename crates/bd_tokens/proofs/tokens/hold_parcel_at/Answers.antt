use Rattle.std.proofs.Common.{arith}
use Rattle.bd_tokens.specs.declared.places.Tier.TheVariants.{Near}
use Rattle.bd_tokens.proofs.Placed.{held_at}
use Rattle.bd_tokens.proofs.tokens.hold_parcel_at.Goals as goal

pub returns-clause-kept : goal.returns-clause-kept
returns-clause-kept c =
    (held_at Near c.args.rows.now.items c.args.beyond.now.items c.let_go.new.self.items c.args.place c.args.id c.args.parcel c.requires.kept (omega (arith, c.requires.within)) c.requires.place c.requires.free c.let_go.ensures.gone).kept

pub returns-clause-held : goal.returns-clause-held
returns-clause-held c =
    (held_at Near c.args.rows.now.items c.args.beyond.now.items c.let_go.new.self.items c.args.place c.args.id c.args.parcel c.requires.kept (omega (arith, c.requires.within)) c.requires.place c.requires.free c.let_go.ensures.gone).held
