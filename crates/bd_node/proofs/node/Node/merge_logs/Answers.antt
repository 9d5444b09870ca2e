-- The parts are those of all logs, in order, and there is room for what they have.
use Rattle.std.proofs.Common.{◌≡◌, ◌≤◌, ◌++◌, All, List, length, map, sum_by, vec_len, refl, sym, ◌∙◌, ap, ap₂, subst, arith, rules}
use Rattle.std.specs.List.{slice_get}
use Rattle.std.specs.Vec.{with_items}
use Rattle.std.proofs.lemmas.List.{with_items_is}
use Rattle.bd_log.specs.Merge.{AreOfDifferentThreads, IsMerge, Part}
use Rattle.bd_worker.specs.declared.seat.Seat.{Seat}
use Rattle.bd_worker.specs.Seats.{part_in, made_by}
use Rattle.bd_node.specs.Gathering.{greatest_last}
use Rattle.bd_node.proofs.Telling.{sum_by_map}
use Rattle.bd_node.proofs.node.Node.merge_logs.Goals as goal

pub hand_out_all-requires-clause-below : goal.hand_out_all-requires-clause-below
hand_out_all-requires-clause-below g c =
    subst (λ (ss : List (Seat g.row.D.Denot)). All (λ s. s.worker.log.last ≤ c.greatest-stamp.result) ss) (c.as_slice.ensures.value ∙ sym c.as_mut_slice.ensures.value) c.greatest-stamp.ensures.above

pub hand_out_all-requires-clause-room : goal.hand_out_all-requires-clause-room
hand_out_all-requires-clause-room g c =
    let parts = c.args.parts in
    let none : length parts.items ≡ 0 = ap (λ (ps : List Part). length ps) c.requires.none in
    let many : vec_len parts ≡ length parts.items = search rules in
    let seats : length c.as_mut_slice.result.now ≡ length c.args.self.now.seats.items = ap (λ (ss : List (Seat g.row.D.Denot)). length ss) c.as_mut_slice.ensures.value in
    omega (arith, c.requires.parts, none, many, seats)

pub merge_onto-requires-clause-threads : goal.merge_onto-requires-clause-threads
merge_onto-requires-clause-threads g c =
    let parts-are : c.hand_out_all.new.parts.items ≡ map part_in c.args.self.now.seats.items =
    c.hand_out_all.ensures.parts ∙ ap₂ (λ (ps : List Part) (ss : List (Seat g.row.D.Denot)). ps ++ map part_in ss) c.requires.none c.as_mut_slice.ensures.value in
    subst (λ (ps : List Part). AreOfDifferentThreads ps) (sym parts-are) c.requires.apart

pub merge_onto-requires-clause-room : goal.merge_onto-requires-clause-room
merge_onto-requires-clause-room g c =
    let o = c.args.self.now in
    let parts-are : c.hand_out_all.new.parts.items ≡ map part_in o.seats.items =
    c.hand_out_all.ensures.parts ∙ ap₂ (λ (ps : List Part) (ss : List (Seat g.row.D.Denot)). ps ++ map part_in ss) c.requires.none c.as_mut_slice.ensures.value in
    let total : sum_by (λ p. length p.entries) c.hand_out_all.new.parts.items ≡ sum_by made_by o.seats.items =
    ap (λ (ps : List Part). sum_by (λ p. length p.entries) ps) parts-are ∙ sum_by_map (λ (p : Part). length p.entries) part_in o.seats.items in
    let many : vec_len o.trace ≡ length o.trace.items = search rules in
    omega (arith, c.requires.room, total, many)

pub returns : goal.returns
returns g c =
    let o = c.args.self.now in
    let news = c.hand_out_all.new.seats in
    let many : vec_len o.seats ≡ length o.seats.items = search rules in
    let len : length news ≡ length o.seats.items = c.hand_out_all.ensures.len ∙ ap (λ (ss : List (Seat g.row.D.Denot)). length ss) c.as_mut_slice.ensures.value in
    let items-are : (with_items o.seats news).items ≡ news = with_items_is o.seats news (len ∙ sym many) in
    let parts-are : c.hand_out_all.new.parts.items ≡ map part_in o.seats.items =
    c.hand_out_all.ensures.parts ∙ ap₂ (λ (ps : List Part) (ss : List (Seat g.row.D.Denot)). ps ++ map part_in ss) c.requires.none c.as_mut_slice.ensures.value in
    record {
      merged = c.merge_onto.ensures.merged;
      is_merge = subst (λ (ps : List Part). IsMerge ps c.merge_onto.ensures.merged) parts-are c.merge_onto.ensures.is_merge;
      trace = c.merge_onto.ensures.is;
      stamp = c.greatest-stamp.result;
      greatest = c.greatest-stamp.ensures.is ∙ ap (λ (ss : List (Seat g.row.D.Denot)). greatest_last ss) c.as_slice.ensures.value;
      below = subst (λ (ss : List (Seat g.row.D.Denot)). All (λ s. s.worker.log.last ≤ c.greatest-stamp.result) ss) c.as_slice.ensures.value c.greatest-stamp.ensures.above;
      len = ap (λ (ss : List (Seat g.row.D.Denot)). length ss) items-are ∙ len;
      each = λ i a b h k. c.hand_out_all.ensures.each i a b (ap (λ (ss : List (Seat g.row.D.Denot)). slice_get ss i) c.as_mut_slice.ensures.value ∙ h) (ap (λ (ss : List (Seat g.row.D.Denot)). slice_get ss i) (sym items-are) ∙ k);
      setup = refl;
      wires = refl;
      schedule = refl;
      shut = refl;
      counter = refl;
      shelf = refl;
    }
