-- Tries of the slot that found the registry away leave a seat where it is.
use Rattle.std.proofs.Common.{◌≡◌, ℕ, List, refl, sym, subst}
use Rattle.bd_base.specs.declared.id.DevId.{DevId}
use Rattle.bd_base.specs.declared.setup.Setup.{Setup}
use Rattle.bd_registry.specs.State.{Registered, start_of}
use Rattle.bd_ring.specs.Rings.{one_further}
use Rattle.bd_ring.specs.Slots.{Holder, after_miss, IsTakenBy}
use Rattle.bd_law_threads.specs.Course.{Course, Phase}
use Rattle.bd_outside.specs.Disk.{DiskState}
use Rattle.bd_wires.specs.declared.wires.Wires.{Wires}
use Rattle.bd_worker.specs.declared.seat.Seat.{Seat}
use Rattle.bd_worker.specs.Seats.{Continues, IsLentTo, IsSeat, IsSitting, Past}
use Rattle.bd_worker.specs.Shutting.{Shuts}
use Rattle.bd_worker.proofs.Borrowing.{lent_to}

-- the seat, but for how often its pass found the registry away
abbrev pub missed_as : {D : Type 0} → ℕ → Seat D → Seat D
missed_as n s = record s { passes = record s.passes { slot = record s.passes.slot { missed = n } } }

module _ {D : Type 0} (state : D → DiskState) (w : Wires) (s : Seat D) (n : ℕ) where
  pub missed_seat : (setup : Setup) (t : ℕ) (p : Phase) (c : Course) (past : Past) (opened : List (DevId × D)) → IsSeat state setup t p c past w opened s → IsSeat state setup t p c past w opened (missed_as n s)
  missed_seat setup t p c past opened q = record {
    worker = q.worker;
    linked = record {
      rings = q.linked.rings;
      takes = q.linked.takes;
      senders = q.linked.senders;
      sends = q.linked.sends;
      sends_to = q.linked.sends_to;
      numbers = q.linked.numbers;
      slot = q.linked.slot;
      thread = q.linked.thread;
      passes = q.linked.passes;
      free = q.linked.free;
    };
    start = q.start;
    taken = q.taken;
    sent = q.sent;
    seen = q.seen;
    wrote = q.wrote;
    count = q.count;
    done = q.done;
  }

  pub missed_sitting : IsSitting state w s → IsSitting state w (missed_as n s)
  missed_sitting h = record {
    setup = h.setup;
    t = h.t;
    p = h.p;
    past = h.past;
    opened = h.opened;
    sits = record { course = h.sits.course; seat = missed_seat h.setup h.t h.p h.sits.course h.past h.opened h.sits.seat };
  }

  missed_continues : Continues state w s (missed_as n s)
  missed_continues = record {
    flag = refl;
    halted = refl;
    sits = λ setup t p past opened h. record { course = h.course; seat = missed_seat setup t p h.course past opened h.seat };
  }

  -- what comes of a seat after such tries comes of it
  pub missed_shuts : (stamp : ℕ) (new : Seat D) → Shuts state w stamp (missed_as n s) new → Shuts state w stamp s new
  missed_shuts stamp new h = record {
    flag = h.flag;
    halted = h.halted;
    thread = h.thread;
    later = h.later;
    entries = h.entries;
    sits = λ setup t p c past opened q.
        let shut = h.sits setup t p c past opened (missed_seat setup t p c past opened q) in
        record { course = shut.course; seat = shut.seat };
  }

  pub missed_lent_to : (lent : Registered) (pass : Holder) → IsSitting state w s → IsTakenBy (record s.passes.slot { missed = n }) lent.journal (start_of lent.setup) pass → IsLentTo s.worker s.seen lent
  missed_lent_to lent pass h took =
      let l = lent_to w (missed_as n s) lent pass (missed_sitting h) took in
      record { setup = l.setup; t = l.t; p = l.p; c = l.c; past = l.past; contents = l.contents; at = l.at; lent_is = l.lent_is }

-- one try
pub missed_once : {D : Type 0} (state : D → DiskState) (w : Wires) (s : Seat D) (slot : Holder) → slot ≡ after_miss s.passes.slot → Continues state w s (record s { passes = record s.passes { slot = slot } })
missed_once state w s slot is =
    subst (λ (h : Holder). Continues state w s (record s { passes = record s.passes { slot = h } })) (sym is) (missed_continues state w s (one_further s.passes.slot.missed))
