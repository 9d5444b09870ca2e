use Rattle.std.proofs.Common.{◌≡◌, ◌<◌, ◌+◌, length, remove, arith, ap, ◌∙◌, sym, subst, ℕ, IsSome, vec_len}
use Rattle.std.specs.Vec.{vec_capacity}
use Rattle.bd_tables.specs.Rows.{Rows}
use Rattle.bd_tables.specs.Shelf.{slot_at, rows_of, room_of}
use Rattle.bd_tables.proofs.Order.{filled_at, length_rows, take_in_order, take_rows, same_table}
use Rattle.bd_tables.proofs.shelf.Shelf.take.Goals as goal

pub remove-requires : goal.remove-requires
remove-requires c =
    let inside : c.args.i < length c.self.inside.order.items =
    omega (arith, ap (λ (t : Rows). length t.rows) c.self.view_is, length_rows c.self.inside.slab.slots c.self.inside.order.items) in
    subst (λ (n : ℕ). IsSome (slot_at c.self.inside.slab.slots n)) (sym c.remove-key.ensures.value)
    (filled_at c.self.inside.slab.slots c.self.inside.order.items c.args.i c.remove-key.result c.self.invariant.0.filled inside)

pub invariant_of-self : goal.invariant_of-self
invariant_of-self c =
    let inside : c.args.i < length c.self.inside.order.items =
    omega (arith, ap (λ (t : Rows). length t.rows) c.self.view_is, length_rows c.self.inside.slab.slots c.self.inside.order.items) in (
      rw c.remove-key.ensures.items (take_in_order c.self.inside.slab.slots c.remove.new.self.slots c.self.inside.order.items c.args.i c.remove-key.result c.self.invariant.0 inside c.remove-key.ensures.value c.remove.ensures.updates.others c.remove.ensures.len),
      omega (arith, c.remove-key.ensures.len, c.self.invariant.1),
    )

pub returns-clause-rest : goal.returns-clause-rest
returns-clause-rest c =
    let inside : c.args.i < length c.self.inside.order.items =
    omega (arith, ap (λ (t : Rows). length t.rows) c.self.view_is, length_rows c.self.inside.slab.slots c.self.inside.order.items) in
    let rows : rows_of c.remove.new.self.slots c.remove-key.new.self.items ≡ remove c.args.self.now.rows c.args.i =
    rw c.remove-key.ensures.items (take_rows c.self.inside.slab.slots c.remove.new.self.slots c.self.inside.order.items c.args.i c.remove-key.result c.self.invariant.0 inside c.remove-key.ensures.value c.remove.ensures.updates.others ∙ ap (λ (t : Rows). remove t.rows c.args.i) c.self.view_is) in
    let room : room_of c.remove.new.self.capacity (vec_capacity c.remove-key.new.self) (vec_len c.remove-key.new.self) ≡ c.args.self.now.room + 1 =
    omega (arith, ap (λ (t : Rows). t.room) c.self.view_is, c.remove-key.ensures.len, c.remove-key.ensures.capacity, c.remove.ensures.capacity, c.remove.ensures.room, c.remove.ensures.len, c.self.invariant.0.all, c.self.invariant.1, c.self.inside.order.ok) in
    same_table _ _ _ _ rows room
