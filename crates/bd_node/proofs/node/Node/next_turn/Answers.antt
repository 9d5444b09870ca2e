use Rattle.std.proofs.Common.{Bool, subst, sym}
use Rattle.bd_worker.specs.Seats.{HasMoved}
use Rattle.bd_node.specs.Whole.{entries_made}
use Rattle.bd_worker.proofs.Stepping.{moved_as_told}
use Rattle.bd_node.proofs.node.Node.next_turn.Goals as goal

pub returns-clause-moved : goal.returns-clause-moved
returns-clause-moved g c =
    let before = entries_made c.args.self.now in
    let after = entries_made c.turn_of.new.self in
    subst (λ (b : Bool). HasMoved before after b) (sym c.has_moved.ensures) (moved_as_told before after c.in_ok-turned.turned c.in_ok-turned.ensures.turned)

pub returns-clause-disks : goal.returns-clause-disks
returns-clause-disks g c =
    let k = c.in_ok-turned.ensures.disks in
    record { shelf = k.shelf; node = λ starts h. k.node starts (record { many = h.many; met = h.met; trace = h.trace; counted = h.counted; phases = h.phases; seated = h.seated; phases_are = h.phases_are }) }
