use Rattle.std.proofs.Common.{◌≡◌, List, [], ◌∷◌, ◌++◌, IsPermutation, append_assoc, ap, ap₂, subst, sym, ◌∙◌, rules}
use Rattle.bd_base.specs.declared.id.DevId.{DevId}
use Rattle.bd_worker.specs.declared.seat.Seat.{Seat}
use Rattle.bd_node.specs.Disks.{disks_of}
use Rattle.bd_node.proofs.ending.take_all_apart.Goals as goal

-- what was put on the shelf, and what is left, are the disks of all seats
pub returns-then-is_err-clause-kept : goal.returns-then-is_err-clause-kept
returns-then-is_err-clause-kept g c =
    let left = c.pop_front.new.self.items in
    let first : c.loop-seat.left.items ≡ c.in-Some.seat ∷ left = search rules in
    let rest : c.into.result.items ≡ left = search rules in
    let shelf = c.loop-seat.shelf.items in
    let all : c.take_apart-own.new.shelf.items ++ disks_of c.into.result.items ≡ c.args.shelf.now.items ++ disks_of c.args.seats.items =
    ap₂ (λ (ds : List (List (DevId × g.row.D.Denot))) (ss : List (Seat g.row.D.Denot)). ds ++ disks_of ss) c.take_apart-own.ensures.disks rest
    ∙ append_assoc shelf (c.in-Some.seat.disks ∷ []) (disks_of left)
    ∙ ap (λ (ss : List (Seat g.row.D.Denot)). shelf ++ disks_of ss) (sym first)
    ∙ c.loop-seat.invariant.disks in
    subst (λ (ds : List (List (DevId × g.row.D.Denot))). IsPermutation ds c.abandon_all.new.shelf.items) all c.abandon_all.ensures
