use Rattle.std.proofs.Common.{arith}
use Rattle.bd_tokens.specs.declared.places.Tier.TheVariants.{Near}
use Rattle.bd_tokens.proofs.Placed.{kept_places}
use Rattle.bd_tokens.proofs.tokens.Tokens.hold.Goals as goal

pub hold-requires : goal.hold-requires
hold-requires c = kept_places Near c.self.inside.rows.items c.make_places.new.rows.items c.self.inside.beyond.items c.self.invariant (omega (arith, c.make_places.ensures.few)) c.make_places.ensures.at c.make_places.ensures.same
