use Rattle.std.proofs.Common.{◌≡◌, ◌∷◌, [], ◌++◌, ◌-◌, arith, ap, ◌∙◌, vec_len}
use Rattle.std.specs.Vec.{vec_capacity}
use Rattle.bd_tables.specs.Rows.{Rows}
use Rattle.bd_tables.specs.Shelf.{rows_of, room_of}
use Rattle.bd_tables.proofs.Order.{join_in_order, join_rows, same_table}
use Rattle.bd_tables.proofs.shelf.Shelf.join.Goals as goal

pub invariant_of-self : goal.invariant_of-self
invariant_of-self c =
    let put = c.insert_reserved-key.ensures in (
      rw c.push_reserved.ensures.items (join_in_order c.self.inside.slab.slots c.insert_reserved-key.new.self.slots c.self.inside.order.items c.insert_reserved-key.result c.args.row c.self.invariant.0 put.was_vacant put.updates.changed put.updates.others put.len),
      omega (arith, ap (λ (t : Rows). t.room) c.self.view_is, c.push_reserved.ensures.len),
    )

pub returns : goal.returns
returns c =
    let put = c.insert_reserved-key.ensures in
    let rows : rows_of c.insert_reserved-key.new.self.slots c.push_reserved.new.self.items ≡ c.args.self.now.rows ++ c.args.row ∷ [] =
    rw c.push_reserved.ensures.items (join_rows c.self.inside.slab.slots c.insert_reserved-key.new.self.slots c.self.inside.order.items c.insert_reserved-key.result c.args.row c.self.invariant.0 put.was_vacant put.updates.changed put.updates.others ∙ ap (λ (t : Rows). t.rows ++ c.args.row ∷ []) c.self.view_is) in
    let room : room_of c.insert_reserved-key.new.self.capacity (vec_capacity c.push_reserved.new.self) (vec_len c.push_reserved.new.self) ≡ c.args.self.now.room - 1 =
    omega (arith, ap (λ (t : Rows). t.room) c.self.view_is, c.push_reserved.ensures.len, c.push_reserved.ensures.capacity, put.capacity) in
    same_table _ _ _ _ rows room
