use Rattle.std.proofs.Common.{◌≡◌, ◌<◌, ◌≤◌, true, All, List, ◌++◌, Some, length, length-set, refl, set, vec_len, subst, sym, ◌∙◌, ap, arith, rules}
use Rattle.std.specs.List.{slice_get}
use Rattle.std.specs.Vec.{with_item}
use Rattle.std.proofs.lemmas.List.{with_items_is}
use Rattle.bd_worker.specs.declared.seat.Seat.{Seat}
use Rattle.bd_disks.specs.Rows.{places}
use Rattle.bd_disks.specs.Shelf.{places_of, AreAllThere}
use Rattle.bd_node.specs.Disks.{disks_at, disks_of}
use Rattle.bd_node.specs.Shutting.{AreToLearn}
use Rattle.bd_node.specs.Times.{HaveTimesWithin}
use Rattle.bd_node.specs.Whole.{disks_in, past_of, AreSeated}
use Rattle.bd_node.proofs.Kept.{all_same, node_seats, seat_kept}
use Rattle.bd_node.proofs.Marks.{each_adds, first_at, node_shuts, others_learn, AreAllShut}
use Rattle.bd_node.proofs.Times.{times_shut}
use Rattle.bd_node.proofs.node.Node.shut.Goals as goal

pub shut-requires-clause-sits : goal.shut-requires-clause-sits
shut-requires-clause-sits g c =
    let o = c.args.self.now in
    let a = c.index_mut-first.result.now in
    let at = first_at o a c.requires.node c.index_mut-first.ensures.value in
    record { setup = o.setup.now; t = 0; p = c.requires.node.node.phases 0; past = past_of c.requires.node.node.met o.trace.items 0; opened = disks_at c.requires.node.starts 0; sits = (c.requires.node.node.seated.each 0 a at).sits }

pub shut-requires-clause-first : goal.shut-requires-clause-first
shut-requires-clause-first g c =
    let o = c.args.self.now in
    let a = c.index_mut-first.result.now in
    let at = first_at o a c.requires.node c.index_mut-first.ensures.value in
    (c.requires.node.node.seated.each 0 a at).sits.seat.worker.me

pub learn_all-requires : goal.learn_all-requires
learn_all-requires g c =
    let o = c.args.self.now in
    let n = c.requires.node.node in
    let a = c.index_mut-first.result.now in
    let stamp = c.in_ok-stamp.stamp in
    let shut = c.in_ok-stamp.ensures.shut in
    let within = subst (λ (ss : List (Seat g.row.D.Denot)). All (λ s. s.worker.log.last ≤ c.greatest-above.result) ss) c.as_slice.ensures.value c.greatest-above.ensures.above in
    subst (λ (ss : List (Seat g.row.D.Denot)). AreToLearn stamp ss) (sym c.as_mut_slice.ensures.value)
    (others_learn g.D.Disk.state o.setup.now o.wires c.requires.node.starts (past_of n.met o.trace.items) o.seats.items o.shut n.phases c.shut.new.self c.greatest-above.result stamp n.seated within shut.0)

pub returns-clause-node : goal.returns-clause-node
returns-clause-node g c =
    let o = c.args.self.now in
    let a = c.index_mut-first.result.now in
    let news = c.learn_all.new.seats in
    let shut = c.in_ok-stamp.ensures.shut in
    let starts = c.requires.node.starts in
    let all : AreAllShut g.D.Disk.state o.setup.now o.wires starts (past_of c.requires.node.node.met o.trace.items) news =
    node_shuts g.D.Disk.state starts o c.greatest-above.result c.in_ok-stamp.stamp a c.shut.new.self c.as_mut_slice.result.now news c.requires.node.node c.requires.idle
    (first_at o a c.requires.node c.index_mut-first.ensures.value) shut.0 shut.1 c.as_mut_slice.ensures.value c.learn_all.ensures.len c.learn_all.ensures.first c.learn_all.ensures.others in
    let v = with_item o.seats 0 c.shut.new.self in
    let many : vec_len o.seats ≡ length o.seats.items = search rules in
    let len : length news ≡ vec_len o.seats =
    c.learn_all.ensures.len ∙ ap (λ (ss : List (Seat g.row.D.Denot)). length ss) c.as_mut_slice.ensures.value ∙ length-set o.seats.items 0 c.shut.new.self ∙ sym many in
    record {
      starts = starts;
      node = record {
        many = c.requires.node.node.many;
        met = c.requires.node.node.met;
        trace = c.requires.node.node.trace;
        counted = c.requires.node.node.counted;
        phases = all.phases;
        seated = subst (λ (ss : List (Seat g.row.D.Denot)). AreSeated g.D.Disk.state o.setup.now o.wires starts (past_of c.requires.node.node.met o.trace.items) ss true all.phases) (sym (with_items_is v news len)) all.seated;
        phases_are = all.phases_are;
      };
    }

pub returns-clause-logs : goal.returns-clause-logs
returns-clause-logs g c =
    let o = c.args.self.now in
    let a = c.index_mut-first.result.now in
    let news = c.learn_all.new.seats in
    let shut = c.in_ok-stamp.ensures.shut in
    let v = with_item o.seats 0 c.shut.new.self in
    let many : vec_len o.seats ≡ length o.seats.items = search rules in
    let len : length news ≡ vec_len o.seats =
    c.learn_all.ensures.len ∙ ap (λ (ss : List (Seat g.row.D.Denot)). length ss) c.as_mut_slice.ensures.value ∙ length-set o.seats.items 0 c.shut.new.self ∙ sym many in
    let within = subst (λ (ss : List (Seat g.row.D.Denot)). All (λ s. s.worker.log.last ≤ c.greatest-above.result) ss) c.as_slice.ensures.value c.greatest-above.ensures.above in
    record {
      stamp = c.in_ok-stamp.stamp;
      above = λ i d lt. (let most = within i d lt in let more = shut.0 in omega (arith, most, more));
      trace = refl;
      each = λ t s s' h k. each_adds g.D.Disk.state o c.in_ok-stamp.stamp a c.shut.new.self c.as_mut_slice.result.now news c.requires.node (first_at o a c.requires.node c.index_mut-first.ensures.value) shut.1
          c.as_mut_slice.ensures.value c.learn_all.ensures.first c.learn_all.ensures.others t s s' h (ap (λ (ss : List (Seat g.row.D.Denot)). slice_get ss t) (sym (with_items_is v news len)) ∙ k);
    }

pub returns-clause-disks : goal.returns-clause-disks
returns-clause-disks g c =
    let o = c.args.self.now in
    let a = c.index_mut-first.result.now in
    let news = c.learn_all.new.seats in
    let shut = c.in_ok-stamp.ensures.shut in
    let v = with_item o.seats 0 c.shut.new.self in
    let many : vec_len o.seats ≡ length o.seats.items = search rules in
    let len : length news ≡ vec_len o.seats =
    c.learn_all.ensures.len ∙ ap (λ (ss : List (Seat g.row.D.Denot)). length ss) c.as_mut_slice.ensures.value ∙ length-set o.seats.items 0 c.shut.new.self ∙ sym many in
    let at : slice_get o.seats.items 0 ≡ Some a = first_at o a c.requires.node c.index_mut-first.ensures.value in
    let state = g.D.Disk.state in
    record {
      shelf = refl;
      node = λ starts h.
          let all : AreAllShut state o.setup.now o.wires starts (past_of h.met o.trace.items) news =
          node_shuts state starts o c.greatest-above.result c.in_ok-stamp.stamp a c.shut.new.self c.as_mut_slice.result.now news h c.requires.idle
          at shut.0 shut.1 c.as_mut_slice.ensures.value c.learn_all.ensures.len c.learn_all.ensures.first c.learn_all.ensures.others in
          record {
            many = h.many;
            met = h.met;
            trace = h.trace;
            counted = h.counted;
            phases = all.phases;
            seated = subst (λ (ss : List (Seat g.row.D.Denot)). AreSeated state o.setup.now o.wires starts (past_of h.met o.trace.items) ss true all.phases) (sym (with_items_is v news len)) all.seated;
            phases_are = all.phases_are;
          };
    }

pub returns-clause-kept : goal.returns-clause-kept
returns-clause-kept g c =
    let o = c.args.self.now in
    let state = g.D.Disk.state in
    let a = c.index_mut-first.result.now in
    let news = c.learn_all.new.seats in
    let v = with_item o.seats 0 c.shut.new.self in
    let many : vec_len o.seats ≡ length o.seats.items = search rules in
    let len : length news ≡ vec_len o.seats =
    c.learn_all.ensures.len ∙ ap (λ (ss : List (Seat g.row.D.Denot)). length ss) c.as_mut_slice.ensures.value ∙ length-set o.seats.items 0 c.shut.new.self ∙ sym many in
    let disks-are : disks_of news ≡ disks_of (set o.seats.items 0 c.shut.new.self) = c.learn_all.ensures.disks ∙ ap (λ (ss : List (Seat g.row.D.Denot)). disks_of ss) c.as_mut_slice.ensures.value in
    let same = ap (places_of state) disks-are ∙ seat_kept state o.seats.items 0 a c.shut.new.self (first_at o a c.requires.node c.index_mut-first.ensures.value) (ap (places state) c.shut.ensures.disks) in
    subst (λ (ss : List (Seat g.row.D.Denot)). AreAllThere state (disks_in o) (o.shelf.items ++ disks_of ss)) (sym (with_items_is v news len))
    (node_seats state o news (all_same state (disks_of o.seats.items) (disks_of news) same))

pub returns-in_err-stamp-clause-kept : goal.returns-in_err-stamp-clause-kept
returns-in_err-stamp-clause-kept g c =
    let o = c.args.self.now in
    let state = g.D.Disk.state in
    let a = c.index_mut-first.result.now in
    node_seats state o (set o.seats.items 0 c.shut.new.self)
    (all_same state (disks_of o.seats.items) (disks_of (set o.seats.items 0 c.shut.new.self)) (seat_kept state o.seats.items 0 a c.shut.new.self (first_at o a c.requires.node c.index_mut-first.ensures.value) (ap (places state) c.shut.ensures.disks)))

pub returns-clause-times : goal.returns-clause-times
returns-clause-times g c range within =
    let o = c.args.self.now in
    let a = c.index_mut-first.result.now in
    let news = c.learn_all.new.seats in
    let shut = c.in_ok-stamp.ensures.shut in
    let v = with_item o.seats 0 c.shut.new.self in
    let many : vec_len o.seats ≡ length o.seats.items = search rules in
    let len : length news ≡ vec_len o.seats =
    c.learn_all.ensures.len ∙ ap (λ (ss : List (Seat g.row.D.Denot)). length ss) c.as_mut_slice.ensures.value ∙ length-set o.seats.items 0 c.shut.new.self ∙ sym many in
    subst (λ (ss : List (Seat g.row.D.Denot)). HaveTimesWithin range ss) (sym (with_items_is v news len))
    (times_shut g.D.Disk.state o.wires range c.in_ok-stamp.stamp o.seats.items c.as_mut_slice.result.now news a c.shut.new.self (first_at o a c.requires.node c.index_mut-first.ensures.value) shut.1.thread
    c.as_mut_slice.ensures.value c.learn_all.ensures.len c.learn_all.ensures.first c.learn_all.ensures.others within)
