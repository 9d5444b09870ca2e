use Rattle.std.proofs.Common.{◌≡◌, ◌<◌, ◌+◌, ◌-◌, ◌++◌, ℕ, List, ◌∷◌, [], Some, drop, length, vec_len, IsPermutation, refl, subst, sym, ◌∙◌, ap, arith, length-drop, rules}
use Rattle.std.specs.List.{slice_get}
use Rattle.std.proofs.lemmas.List.{length-append}
use Rattle.std.proofs.lemmas.Option.{slice_get_read}
use Rattle.bd_wires.specs.declared.wires.Passes.{Passes}
use Rattle.bd_worker.specs.declared.seat.Seat.{Seat}
use Rattle.bd_node.specs.Starting.{AreNewSeats}
use Rattle.bd_node.specs.Disks.{disks_of}
use Rattle.bd_node.proofs.Disks.{disks_more, no_more, no_more_disks}
use Rattle.bd_base.specs.declared.id.DevId.{DevId}
use Rattle.bd_disks.specs.Shelf.{Shelved}
use Rattle.bd_node.proofs.Kept.{all_back, next_back}
use Rattle.bd_node.proofs.Starts.{at_drop, drop_next, new_more}
use Rattle.bd_node.proofs.building.seats_of.Goals as goal

pub loop-me-preserved : goal.loop-me-preserved
loop-me-preserved g c =
    let i = c.loop-me.invariant in
    let items = c.in_default.ensures.items in
    let seats = c.loop-me.seats.items in
    let me = c.loop-me.me in
    let passes = c.args.passes.items in
    let left = c.loop-me.left.items in
    let pass = c.remove.result in
    let seat = c.in-Ok.seat in
    let many : length left ≡ length passes - me = ap (λ (qs : List Passes). length qs) i.left ∙ length-drop me passes in
    let all : length passes ≡ c.args.setup.now.threads = (let e : vec_len c.args.passes ≡ length c.args.passes.items = search rules in sym e ∙ c.requires.passes) in
    let some : 0 < length left = omega arith in
    let at : slice_get passes me ≡ Some pass =
    sym (at_drop passes me) ∙ ap (λ (qs : List Passes). slice_get qs 0) (sym i.left) ∙ slice_get_read left (length left) 0 pass refl some c.remove.ensures.value in
    record {
      len = ap (λ (ss : List (Seat g.row.D.Denot)). length ss) items ∙ length-append seats (seat ∷ []) ∙ ap (λ (n : ℕ). n + 1) i.len;
      left = c.remove.ensures.items ∙ ap (λ (qs : List Passes). drop 1 qs) i.left ∙ drop_next passes me;
      many = omega (arith, c.in-Ok.ensures.rest, i.many);
      room = omega (arith, c.in-Ok.ensures.capacity, i.room);
      disks = ap (λ (ss : List (Seat g.row.D.Denot)). disks_of ss ++ c.seat_of.new.shelf.items) items ∙ disks_more seats seat c.seat_of.new.shelf.items ∙ ap (λ ds. disks_of seats ++ ds) (sym c.in-Ok.ensures.disks) ∙ i.disks;
      each = subst (λ (ss : List (Seat g.row.D.Denot)). AreNewSeats c.args.setup.now passes ss) (sym items) (new_more c.args.setup.now passes seats me seat pass i.len i.each at c.in-Ok.ensures.new);
    }

pub returns-clause-disks : goal.returns-clause-disks
returns-clause-disks g c =
    let i = c.loop-me.invariant in
    let none = no_more c.loop-me.shelf.items (omega (arith, i.many)) in
    no_more_disks (disks_of c.loop-me.seats.items) c.loop-me.shelf.items none ∙ i.disks

pub returns-clause-none : goal.returns-clause-none
returns-clause-none g c = no_more c.loop-me.shelf.items (omega (arith, c.loop-me.invariant.many))

pub returns-in-Err-clause-kept : goal.returns-in-Err-clause-kept
returns-in-Err-clause-kept g c =
    let seated = disks_of c.loop-me.seats.items in
    let shelf = c.seat_of.new.shelf.items in
    let same : shelf ≡ c.loop-me.shelf.items = ap (λ (s : Shelved g.row.D.Denot). s.items) c.in-Err.ensures.same in
    all_back c.args.shelf.now.items seated shelf c.abandon_all.new.shelf.items (ap (λ (ds : List (List (DevId × g.row.D.Denot))). seated ++ ds) same ∙ c.loop-me.invariant.disks) c.abandon_all.ensures

pub returns-in-Err-push-clause-kept : goal.returns-in-Err-push-clause-kept
returns-in-Err-push-clause-kept g c =
    let seated = disks_of c.push.new.self.items in
    let shelf = c.loop-me.shelf.items in
    let rest = c.seat_of.new.shelf.items in
    let final = c.abandon_all-in-Err-push.new.shelf.items in
    let own = c.in-Err-push.failed.value.disks in
    let are : seated ++ shelf ≡ c.args.shelf.now.items = ap (λ (ss : List (Seat g.row.D.Denot)). disks_of ss ++ shelf) c.in-Err-push.ensures.items ∙ c.loop-me.invariant.disks in
    let is : shelf ≡ own ∷ rest = c.in-Ok.ensures.disks ∙ ap (λ (s : Seat g.row.D.Denot). s.disks ∷ rest) (sym c.in-Err-push.ensures.value_returned) in
    next_back c.args.shelf.now.items seated rest shelf final own are is
    (subst (λ (ds : List (List (DevId × g.row.D.Denot))). IsPermutation (ds ++ seated) final) c.take_apart.ensures.disks c.abandon_all-in-Err-push.ensures)
