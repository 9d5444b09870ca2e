use Rattle.std.proofs.Common.{◌≡◌, ◌+◌, ◌≤◌, true, All, List, ◌++◌, length, map, sum_by, vec_len, refl, subst, sym, ◌∙◌, ap, rules}
use Rattle.std.specs.List.{list_all}
use Rattle.std.specs.Vec.{with_items}
use Rattle.std.proofs.lemmas.List.{with_items_is}
use Rattle.bd_worker.specs.declared.seat.Seat.{Seat}
use Rattle.bd_log.specs.Merge.{Part}
use Rattle.bd_worker.specs.Seats.{made_by, IsSitting}
use Rattle.bd_node.specs.Whole.{disks_in, log_with, past_of, seat_goes, AreSeated, StaySeated}
use Rattle.bd_disks.specs.Shelf.{AreAllThere}
use Rattle.bd_node.specs.Disks.{disks_of}
use Rattle.bd_node.specs.Times.{HaveTimesWithin, StayWithin}
use Rattle.bd_node.proofs.Growing.{made_alike}
use Rattle.bd_node.proofs.Kept.{node_seats}
use Rattle.bd_node.proofs.Rounds.{all_sit}
use Rattle.bd_node.proofs.node.Node.turn_in_round.Goals as goal

pub turn_all-requires-clause-sits : goal.turn_all-requires-clause-sits
turn_all-requires-clause-sits g c κs within =
    let o = c.args.self.now in
    subst (λ (ss : List (Seat g.row.D.Denot)). All (IsSitting g.D.Disk.state o.wires) ss) (sym c.as_mut_slice.ensures.value) (all_sit o.setup.now o.wires c.requires.starts (past_of c.requires.node.met o.trace.items) o.seats.items o.shut c.requires.node.phases c.requires.node.seated)

pub returns-then-all_go-clause-node : goal.returns-then-all_go-clause-node
returns-then-all_go-clause-node g c =
    let o = c.args.self.now in
    let news = c.turn_all.new.seats in
    let many : vec_len o.seats ≡ length o.seats.items = search rules in
    let same : length news ≡ length o.seats.items = c.turn_all.ensures.len ∙ ap (λ (ss : List (Seat g.row.D.Denot)). length ss) c.as_mut_slice.ensures.value in
    let items-are : (with_items o.seats news).items ≡ news = with_items_is o.seats news (same ∙ sym many) in
    let go : list_all seat_goes news ≡ true =
    ap (list_all seat_goes) (sym (c.as_slice.ensures.value ∙ items-are)) ∙ sym c.all_go.ensures ∙ c.if-all_go.true in
    let stay : StaySeated g.D.Disk.state o.wires o.seats.items news = subst (λ (ss : List (Seat g.row.D.Denot)). StaySeated g.D.Disk.state o.wires ss news) c.as_mut_slice.ensures.value c.turn_all.ensures.seats in
    record {
      starts = c.requires.starts;
      node = record {
        many = c.requires.node.many;
        met = c.requires.node.met;
        trace = c.requires.node.trace;
        counted = c.requires.node.counted;
        phases = c.requires.node.phases;
        seated = subst (λ (ss : List (Seat g.row.D.Denot)). AreSeated g.D.Disk.state o.setup.now o.wires c.requires.starts (past_of c.requires.node.met o.trace.items) ss o.shut c.requires.node.phases) (sym items-are)
            (stay go o.setup.now c.requires.starts (past_of c.requires.node.met o.trace.items) o.shut c.requires.node.phases c.requires.node.seated);
        phases_are = c.requires.node.phases_are;
      };
    }

pub returns-then-all_go-clause-disks : goal.returns-then-all_go-clause-disks
returns-then-all_go-clause-disks g c =
    let o = c.args.self.now in
    let news = c.turn_all.new.seats in
    let many : vec_len o.seats ≡ length o.seats.items = search rules in
    let same : length news ≡ length o.seats.items = c.turn_all.ensures.len ∙ ap (λ (ss : List (Seat g.row.D.Denot)). length ss) c.as_mut_slice.ensures.value in
    let items-are : (with_items o.seats news).items ≡ news = with_items_is o.seats news (same ∙ sym many) in
    let go : list_all seat_goes news ≡ true =
    ap (list_all seat_goes) (sym (c.as_slice.ensures.value ∙ items-are)) ∙ sym c.all_go.ensures ∙ c.if-all_go.true in
    let stay : StaySeated g.D.Disk.state o.wires o.seats.items news = subst (λ (ss : List (Seat g.row.D.Denot)). StaySeated g.D.Disk.state o.wires ss news) c.as_mut_slice.ensures.value c.turn_all.ensures.seats in
    record {
      shelf = refl;
      node = λ starts h. record {
        many = h.many;
        met = h.met;
        trace = h.trace;
        counted = h.counted;
        phases = h.phases;
        seated = subst (λ (ss : List (Seat g.row.D.Denot)). AreSeated g.D.Disk.state o.setup.now o.wires starts (past_of h.met o.trace.items) ss o.shut h.phases) (sym items-are) (stay go o.setup.now starts (past_of h.met o.trace.items) o.shut h.phases h.seated);
        phases_are = h.phases_are;
      };
    }

pub returns-then-all_go-clause-kept : goal.returns-then-all_go-clause-kept
returns-then-all_go-clause-kept g c =
    let o = c.args.self.now in
    let state = g.D.Disk.state in
    let news = c.turn_all.new.seats in
    let many : vec_len o.seats ≡ length o.seats.items = search rules in
    let same : length news ≡ length o.seats.items = c.turn_all.ensures.len ∙ ap (λ (ss : List (Seat g.row.D.Denot)). length ss) c.as_mut_slice.ensures.value in
    let items-are : (with_items o.seats news).items ≡ news = with_items_is o.seats news (same ∙ sym many) in
    let there : AreAllThere state (disks_of o.seats.items) (disks_of news) = subst (λ (ss : List (Seat g.row.D.Denot)). AreAllThere state (disks_of ss) (disks_of news)) c.as_mut_slice.ensures.value c.turn_all.ensures.kept in
    subst (λ (ss : List (Seat g.row.D.Denot)). AreAllThere state (disks_in o) (o.shelf.items ++ disks_of ss)) (sym items-are) (node_seats state o news there)

pub returns-clause-kept : goal.returns-clause-kept
returns-clause-kept g c =
    let o = c.args.self.now in
    let state = g.D.Disk.state in
    let news = c.turn_all.new.seats in
    let many : vec_len o.seats ≡ length o.seats.items = search rules in
    let same : length news ≡ length o.seats.items = c.turn_all.ensures.len ∙ ap (λ (ss : List (Seat g.row.D.Denot)). length ss) c.as_mut_slice.ensures.value in
    let items-are : (with_items o.seats news).items ≡ news = with_items_is o.seats news (same ∙ sym many) in
    let there : AreAllThere state (disks_of o.seats.items) (disks_of news) = subst (λ (ss : List (Seat g.row.D.Denot)). AreAllThere state (disks_of ss) (disks_of news)) c.as_mut_slice.ensures.value c.turn_all.ensures.kept in
    subst (λ (ss : List (Seat g.row.D.Denot)). AreAllThere state (disks_in o) (o.shelf.items ++ disks_of ss)) (sym items-are) (node_seats state o news there)

pub returns-then-all_go-clause-times : goal.returns-then-all_go-clause-times
returns-then-all_go-clause-times g c = λ within.
    let o = c.args.self.now in
    let news = c.turn_all.new.seats in
    let many : vec_len o.seats ≡ length o.seats.items = search rules in
    let same : length news ≡ length o.seats.items = c.turn_all.ensures.len ∙ ap (λ (ss : List (Seat g.row.D.Denot)). length ss) c.as_mut_slice.ensures.value in
    let items-are : (with_items o.seats news).items ≡ news = with_items_is o.seats news (same ∙ sym many) in
    let go : list_all seat_goes news ≡ true =
    ap (list_all seat_goes) (sym (c.as_slice.ensures.value ∙ items-are)) ∙ sym c.all_go.ensures ∙ c.if-all_go.true in
    let range = g.C.Clock.range c.args.outside.now.clock.now in
    let stay = subst (λ r. StayWithin r o.seats.items news) (ap (λ x. g.C.Clock.range x.clock.now) c.new-watch.ensures)
    (subst (λ (ss : List (Seat g.row.D.Denot)). StayWithin (g.C.Clock.range c.new-watch.result.outside.now.clock.now) ss news) c.as_mut_slice.ensures.value c.turn_all.ensures.times) in
    subst (λ (ss : List (Seat g.row.D.Denot)). HaveTimesWithin range ss) (sym items-are) (stay go within)

pub returns-then-all_go-clause-made : goal.returns-then-all_go-clause-made
returns-then-all_go-clause-made g c =
    let o = c.args.self.now in
    let news = c.turn_all.new.seats in
    let many : vec_len o.seats ≡ length o.seats.items = search rules in
    let same : length news ≡ length o.seats.items = c.turn_all.ensures.len ∙ ap (λ (ss : List (Seat g.row.D.Denot)). length ss) c.as_mut_slice.ensures.value in
    let items-are : (with_items o.seats news).items ≡ news = with_items_is o.seats news (same ∙ sym many) in
    let go : list_all seat_goes news ≡ true =
    ap (list_all seat_goes) (sym (c.as_slice.ensures.value ∙ items-are)) ∙ sym c.all_go.ensures ∙ c.if-all_go.true in
    let stay : StaySeated g.D.Disk.state o.wires o.seats.items news = subst (λ (ss : List (Seat g.row.D.Denot)). StaySeated g.D.Disk.state o.wires ss news) c.as_mut_slice.ensures.value c.turn_all.ensures.seats in
    let grows : sum_by made_by o.seats.items ≤ sum_by made_by news = subst (λ (ss : List (Seat g.row.D.Denot)). sum_by made_by ss ≤ sum_by made_by news) c.as_mut_slice.ensures.value (c.turn_all.ensures.grows go) in
    let h = c.requires.node in
    let seated = stay go o.setup.now c.requires.starts (past_of h.met o.trace.items) o.shut h.phases h.seated in
    let alike = made_alike o.trace.items o.seats.items news same (λ i a b at at'. (seated.each i b at').sits.seat.worker.log_thread ∙ sym (h.seated.each i a at).sits.seat.worker.log_thread) in
    record {
      more = subst (λ (ss : List (Seat g.row.D.Denot)). sum_by made_by o.seats.items ≤ sum_by made_by ss) (sym items-are) grows;
      same = subst (λ (ss : List (Seat g.row.D.Denot)). sum_by (λ (p : Part). length p.entries) (map (log_with o.trace.items) ss) + sum_by made_by o.seats.items ≡ sum_by (λ (p : Part). length p.entries) (map (log_with o.trace.items) o.seats.items) + sum_by made_by ss) (sym items-are) alike;
    }
