use Rattle.std.proofs.Common.{◌<◌, length, arith, ap, subst, sym, ℕ, IsSome}
use Rattle.bd_tables.specs.Rows.{Rows}
use Rattle.bd_tables.specs.Shelf.{slot_at}
use Rattle.bd_tables.proofs.Order.{filled_at, length_rows}
use Rattle.bd_tables.proofs.shelf.Shelf.at.Goals as goal

pub index-requires-2 : goal.index-requires-2
index-requires-2 c =
    let inside : c.args.i < length c.self.inside.order.items =
    omega (arith, ap (λ (t : Rows). length t.rows) c.self.view_is, length_rows c.self.inside.slab.slots c.self.inside.order.items) in
    subst (λ (n : ℕ). IsSome (slot_at c.self.inside.slab.slots n)) (sym c.index.ensures)
    (filled_at c.self.inside.slab.slots c.self.inside.order.items c.args.i c.index.result.now c.self.invariant.0.filled inside)
