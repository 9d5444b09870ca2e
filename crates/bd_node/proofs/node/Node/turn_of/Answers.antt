use Rattle.std.proofs.Common.{◌≡◌, ◌<◌, ◌≤◌, ◌+◌, length, set, vec_len, Some, refl, ap, rules}
use Rattle.std.specs.Coded.{le_prop}
use Rattle.std.specs.List.{slice_get}
use Rattle.std.proofs.lemmas.Option.{slice_get_read}
use Rattle.std.proofs.lemmas.Result.{on_ok_weaker, IfOk-weaker}
use Rattle.bd_worker.proofs.Times.{turn_within}
use Rattle.bd_node.specs.Disks.{disks_of}
use Rattle.bd_node.specs.Whole.{past_of}
use Rattle.bd_node.proofs.Kept.{all_same, node_seats, seat_kept}
use Rattle.bd_node.proofs.Rounds.{log_thread_stays, one_sits, one_turned}
use Rattle.bd_node.proofs.Telling.{both_ok, tells_among}
use Rattle.bd_node.proofs.Times.{times_set}
use Rattle.bd_node.proofs.Waiting.{turns_at}
use Rattle.bd_node.proofs.node.Node.turn_of.Goals as goal

pub turn-requires : goal.turn-requires
turn-requires g c =
    let o = c.args.self.now in
    let a = c.index_mut-seat.result.now in
    let lt : c.args.thread < length o.seats.items = search rules in
    let at : slice_get o.seats.items c.args.thread ≡ Some a = slice_get_read o.seats.items (length o.seats.items) c.args.thread a refl lt c.index_mut-seat.ensures.value in
    one_sits o.setup.now o.wires c.requires.starts (past_of c.requires.node.met o.trace.items) o.seats.items o.shut c.requires.node.phases c.requires.node.seated c.args.thread a at

pub returns-clause-node : goal.returns-clause-node
returns-clause-node g c =
    let o = c.args.self.now in
    let a = c.index_mut-seat.result.now in
    let lt : c.args.thread < length o.seats.items = search rules in
    let at : slice_get o.seats.items c.args.thread ≡ Some a = slice_get_read o.seats.items (length o.seats.items) c.args.thread a refl lt c.index_mut-seat.ensures.value in
    on_ok_weaker c.turn.result (λ on. record {
      starts = c.requires.starts;
      node = record {
        many = c.requires.node.many;
        met = c.requires.node.met;
        trace = c.requires.node.trace;
        counted = c.requires.node.counted;
        phases = c.requires.node.phases;
        seated = one_turned o.setup.now o.wires c.requires.starts (past_of c.requires.node.met o.trace.items) o.seats.items o.shut c.requires.node.phases c.requires.node.seated c.args.thread a c.turn.new.self at on;
        phases_are = c.requires.node.phases_are;
      };
    }) c.turn.ensures.goes

pub returns-clause-turned : goal.returns-clause-turned
returns-clause-turned g c =
    let o = c.args.self.now in
    let a = c.index_mut-seat.result.now in
    let lt : c.args.thread < length o.seats.items = search rules in
    let at : slice_get o.seats.items c.args.thread ≡ Some a = slice_get_read o.seats.items (length o.seats.items) c.args.thread a refl lt c.index_mut-seat.ensures.value in
    let old = one_sits o.setup.now o.wires c.requires.starts (past_of c.requires.node.met o.trace.items) o.seats.items o.shut c.requires.node.phases c.requires.node.seated c.args.thread a at in
    both_ok c.turn.result _ _ _ (λ on turned told. tells_among o.trace.items o.seats.items c.args.thread a c.turn.new.self turned at (log_thread_stays o.wires a c.turn.new.self old on) told) c.turn.ensures.goes c.turn.ensures.turned

pub returns-clause-quiet : goal.returns-clause-quiet
returns-clause-quiet g c =
    let o = c.args.self.now in
    let a = c.index_mut-seat.result.now in
    let lt : c.args.thread < length o.seats.items = search rules in
    let at : slice_get o.seats.items c.args.thread ≡ Some a = slice_get_read o.seats.items (length o.seats.items) c.args.thread a refl lt c.index_mut-seat.ensures.value in
    IfOk-weaker c.turn.result _ _ (λ turned q. turns_at (g.C.Clock.range c.args.clock.now) c.now-now.result o.seats.items c.args.thread a c.turn.new.self turned c.now-now.ensures at q) c.turn.ensures.quiet

pub returns-then-place-len-clause-none : goal.returns-then-place-len-clause-none
returns-then-place-len-clause-none g c =
    let o = c.args.self.now in
    λ beyond. ap (λ (room : vec_len o.seats + length o.shelf.items ≤ o.shelf.capacity). record o { room = room }) (le_prop _ o.room)

pub returns-clause-disks : goal.returns-clause-disks
returns-clause-disks g c =
    let o = c.args.self.now in
    let a = c.index_mut-seat.result.now in
    let lt : c.args.thread < length o.seats.items = search rules in
    let at : slice_get o.seats.items c.args.thread ≡ Some a = slice_get_read o.seats.items (length o.seats.items) c.args.thread a refl lt c.index_mut-seat.ensures.value in
    on_ok_weaker c.turn.result (λ on. record {
      shelf = refl;
      node = λ starts h. record {
        many = h.many;
        met = h.met;
        trace = h.trace;
        counted = h.counted;
        phases = h.phases;
        seated = one_turned o.setup.now o.wires starts (past_of h.met o.trace.items) o.seats.items o.shut h.phases h.seated c.args.thread a c.turn.new.self at on;
        phases_are = h.phases_are;
      };
    }) c.turn.ensures.goes

pub returns-clause-kept : goal.returns-clause-kept
returns-clause-kept g c =
    let o = c.args.self.now in
    let state = g.D.Disk.state in
    let a = c.index_mut-seat.result.now in
    let lt : c.args.thread < length o.seats.items = search rules in
    let at : slice_get o.seats.items c.args.thread ≡ Some a = slice_get_read o.seats.items (length o.seats.items) c.args.thread a refl lt c.index_mut-seat.ensures.value in
    node_seats state o (set o.seats.items c.args.thread c.turn.new.self)
    (all_same state (disks_of o.seats.items) (disks_of (set o.seats.items c.args.thread c.turn.new.self)) (seat_kept state o.seats.items c.args.thread a c.turn.new.self at c.turn.ensures.kept))

pub returns-clause-times : goal.returns-clause-times
returns-clause-times g c =
    let o = c.args.self.now in
    let a = c.index_mut-seat.result.now in
    let lt : c.args.thread < length o.seats.items = search rules in
    let at : slice_get o.seats.items c.args.thread ≡ Some a = slice_get_read o.seats.items (length o.seats.items) c.args.thread a refl lt c.index_mut-seat.ensures.value in
    let range = g.C.Clock.range c.args.clock.now in
    on_ok_weaker c.turn.result (λ turned within.
    times_set range o.seats.items c.args.thread a c.turn.new.self at (turn_within range c.now-now.result a.worker.thread c.turn.new.self.worker.thread turned c.now-now.ensures (within c.args.thread a at)) within) c.turn.ensures.time
