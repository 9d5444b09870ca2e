use Rattle.std.proofs.Common.{arith}
use Rattle.bd_tokens.specs.declared.places.Tier.TheVariants.{Near}
use Rattle.bd_tokens.proofs.Placed.{kept_places}
use Rattle.bd_tokens.proofs.tokens.Tokens.land.Goals as goal

pub hold_parcel-requires : goal.hold_parcel-requires
hold_parcel-requires c = kept_places Near c.self.inside.rows.items c.make_places.new.rows.items c.self.inside.beyond.items c.self.invariant (omega (arith, c.make_places.ensures.few)) c.make_places.ensures.at c.make_places.ensures.same
