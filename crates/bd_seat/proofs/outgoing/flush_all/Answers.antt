use Rattle.std.proofs.Common.{◌≡◌, ◌<◌, ◌==◌, false, List, [], length, slice_index_or, subst, ◌∙◌, rules}
use Rattle.std.proofs.lemmas.List.{get_or_default}
use Rattle.bd_turns.specs.declared.queue.Message.{Message}
use Rattle.bd_seat.specs.Outgoing.{Flushed}
use Rattle.bd_seat.proofs.FlushingAll.{next_flushed, own_stays, rings_stay}
use Rattle.bd_seat.proofs.outgoing.flush_all.Goals as goal
use Rattle.bd_seat.proofs.outgoing.flush_all.Goals.{then-to-me+in_ok-flush, else-to-me}

pub loop-to-preserved : goal.loop-to-preserved
loop-to-preserved g c = elim c.if-to-me.branch [
  | then-to-me+in_ok-flush w ↦
      let to = c.loop-to.to in
      let sends = c.loop-to.sends.items in
      let queues = c.loop-to.queues.items in
      let s = w.index_mut.result.now in
      let q = w.index_mut-then-to-me.result.now in
      let within : to < length sends = search rules in
      let within-queues : to < length queues = search rules in
      let other : (to == c.args.me) ≡ false = search rules in
      let flushed = w.in_ok-flush.ensures.flushed in
      let from : Flushed c.args.stamp s (slice_index_or queues to []) w.flush.new.pass w.flush.new.queue =
      subst (λ (ms : List Message). Flushed c.args.stamp s ms w.flush.new.pass w.flush.new.queue) (w.index_mut-then-to-me.ensures.value ∙ get_or_default queues to q [] within-queues) flushed in
      rw w.sends-is (rw w.queues-is (record {
        queues = c.loop-to.invariant.queues;
        sends = c.loop-to.invariant.sends;
        each = rings_stay c.args.rings.now sends to c.args.stamp s w.flush.new.pass q w.flush.new.queue within w.index_mut.ensures.value flushed c.loop-to.invariant.each;
        below = next_flushed to c.args.me c.args.stamp c.args.sends.now.items c.args.queues.now.items sends queues s w.flush.new.pass w.flush.new.queue other within within-queues w.index_mut.ensures.value from
            w.in_ok-flush.ensures.served c.loop-to.invariant.below;
      }))
  | else-to-me w ↦
      rw w.sends-is (rw w.queues-is (record {
        queues = c.loop-to.invariant.queues;
        sends = c.loop-to.invariant.sends;
        each = c.loop-to.invariant.each;
        below = own_stays c.loop-to.to c.args.me c.args.stamp c.args.sends.now.items c.args.queues.now.items c.loop-to.sends.items c.loop-to.queues.items (search rules) c.loop-to.invariant.below;
      }))
]
