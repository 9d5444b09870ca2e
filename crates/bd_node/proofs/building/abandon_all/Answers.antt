use Rattle.std.proofs.Common.{◌≡◌, ◌+◌, List, ◌++◌, ◌∷◌, [], length, IsPermutation, subst, sym, ◌∙◌, ap, arith}
use Rattle.std.proofs.lemmas.List.{length-append}
use Rattle.std.proofs.lemmas.List.Sorted.{IsPermutation-refl}
use Rattle.bd_base.specs.declared.id.DevId.{DevId}
use Rattle.bd_node.specs.Disks.{disks_of}
use Rattle.bd_node.proofs.Kept.{one_given}
use Rattle.bd_node.proofs.building.abandon_all.Goals as goal

pub loop-seat-init : goal.loop-seat-init
loop-seat-init g c = record { room = c.requires; all = IsPermutation-refl _ }

pub loop-seat-preserved : goal.loop-seat-preserved
loop-seat-preserved g c =
    let start = c.args.shelf.now.items ++ disks_of c.args.seats.items in
    let one : length c.take_apart.new.shelf.items ≡ length c.loop-seat.shelf.items + 1 =
    ap (λ (ds : List (List (DevId × g.row.D.Denot))). length ds) c.take_apart.ensures.disks ∙ length-append c.loop-seat.shelf.items (c.in-Some.seat.disks ∷ []) in
    record {
      room = omega (arith, c.in-Some.ensures.cases, c.loop-seat.invariant.room, one, c.take_apart.ensures.capacity);
      all = subst (λ (shelf : List (List (DevId × g.row.D.Denot))). IsPermutation start (shelf ++ disks_of c.pop.new.self.items)) (sym c.take_apart.ensures.disks)
          (one_given start c.loop-seat.shelf.items c.pop.new.self.items c.loop-seat.left.items c.in-Some.seat c.in-Some.ensures.items c.loop-seat.invariant.all);
    }
