use Rattle.std.proofs.Common.{refl, arith}
use Rattle.bd_tables.proofs.Order.{reserved_in_order}
use Rattle.bd_tables.proofs.shelf.Shelf.reserve.Goals as goal

pub invariant_of-self : goal.invariant_of-self
invariant_of-self c =
    (reserved_in_order c.self.inside.slab c.reserve.new.self c.self.inside.order.items _ c.reserve.ensures.rest_kept refl c.self.invariant.0, c.self.invariant.1)

pub invariant_of-self-in_err-reserve-2 : goal.invariant_of-self-in_err-reserve-2
invariant_of-self-in_err-reserve-2 c = (
  reserved_in_order c.self.inside.slab c.reserve.new.self c.self.inside.order.items _ c.reserve.ensures.rest_kept c.reserve-2.ensures.items c.self.invariant.0,
  omega (arith, c.reserve-2.ensures.len, c.self.invariant.1),
)

pub invariant_of-self-2 : goal.invariant_of-self-2
invariant_of-self-2 c = (
  reserved_in_order c.self.inside.slab c.reserve.new.self c.self.inside.order.items _ c.reserve.ensures.rest_kept c.reserve-2.ensures.items c.self.invariant.0,
  omega (arith, c.reserve-2.ensures.len, c.self.invariant.1),
)
