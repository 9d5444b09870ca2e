use Rattle.std.proofs.Common.{arith}
use Rattle.bd_tokens.specs.declared.places.Tier.TheVariants.{Far}
use Rattle.bd_tokens.proofs.Placed.{kept_places}
use Rattle.bd_tokens.proofs.beyond.Beyond.hold.Goals as goal

pub hold-requires : goal.hold-requires
hold-requires c = kept_places Far c.self.inside.rows.items c.widen.new.rows.items c.self.inside.unplaced.items c.self.invariant (omega (arith, c.widen.ensures.few)) c.widen.ensures.at c.widen.ensures.same
