-- A seat goes on: posts come and go, and its worker works, without the registry and with it.
use Rattle.std.proofs.Common.{◌≡◌, ℕ, ◌<◌, ◌≤◌, List, [], ◌∷◌, ◌++◌, map, max, vec_len, refl, sym, ◌∙◌, ap, subst, arith}
use Rattle.std.specs.List.{AllByRecursion}
use Rattle.bd_base.specs.declared.act.Entry.{Entry}
use Rattle.bd_base.specs.declared.id.DevId.{DevId}
use Rattle.bd_base.specs.declared.setup.Setup.{Setup}
use Rattle.bd_machine.specs.declared.state.Content.{Content}
use Rattle.bd_turns.specs.declared.queue.Message.{Message}
use Rattle.bd_turns.specs.declared.queue.Post.{Post}
use Rattle.bd_turns.specs.Local.{Local}
use Rattle.bd_links.specs.Queues.{queues_of}
use Rattle.bd_log.specs.Log.{Written}
use Rattle.bd_law_logs.specs.Rows.{message_of}
use Rattle.bd_ring.specs.Rings.{Receiver}
use Rattle.bd_law_held.proofs.Ends.{end_later}
use Rattle.bd_law_threads.specs.Course.{Course, IsCourse, Phase}
use Rattle.bd_law_threads.specs.Steps.{arrived_more, with_arrived, with_queues}
use Rattle.bd_law_threads.proofs.Arriving.{arrivals_are_met}
use Rattle.bd_seat.specs.Incoming.{Fetched, IsMet}
use Rattle.bd_thread.specs.declared.links.Links.{Links}
use Rattle.bd_disks.specs.Contents.{contents_of}
use Rattle.bd_thread.specs.Asleep.{begun_at}
use Rattle.bd_thread.specs.Seen.{local, time_of}
use Rattle.bd_thread.specs.Timely.{IsOnTime}
use Rattle.bd_thread.proofs.OnTime.{on_time_begun}
use Rattle.bd_thread.proofs.Tickets.{same_tickets}
use Rattle.bd_law_disks.specs.Told.{told_local, AreBasesLowest}
use Rattle.bd_wires.specs.declared.wires.Wires.{Wires}
use Rattle.bd_worker.specs.declared.seat.Seat.{Seat}
use Rattle.bd_outside.specs.Disk.{DiskState}
use Rattle.bd_worker.specs.Seats.{seen_over, Continues, IsAt, IsSeat, IsSitting, Past}
use Rattle.bd_worker.specs.Waits.{begun_seat}
use Rattle.bd_worker.specs.declared.worker.Worker.{Worker}

-- ---- one after the other

pub continues_still : {D : Type 0} → (state : D → DiskState) (w : Wires) (s : Seat D) → Continues state w s s
continues_still state w s = record { flag = refl; halted = refl; sits = λ setup t p past opened h. h }

pub continues_then : {D : Type 0} {state : D → DiskState} → (w : Wires) (a b c : Seat D) → Continues state w a b → Continues state w b c → Continues state w a c
continues_then {state = state} w a b c f g = record {
  flag = g.flag ∙ f.flag;
  halted = g.halted ∙ f.halted;
  sits = λ setup t p past opened h. g.sits setup t p past opened (f.sits setup t p past opened h);
}

-- who sat there sits there still
pub sitting_then : {D : Type 0} {state : D → DiskState} → (w : Wires) (a b : Seat D) → IsSitting state w a → Continues state w a b → IsSitting state w b
sitting_then w a b s f = record { setup = s.setup; t = s.t; p = s.p; past = s.past; opened = s.opened; sits = f.sits s.setup s.t s.p s.past s.opened s.sits }

-- ---- a turn begins

-- nothing of a thread's course goes by its moments, and what it did went with them
begun_worker : (setup : Setup) (t : ℕ) (p : Phase) (c : Course) (past : Past) (contents : DevId → Content) (now : ℕ) (w : Worker)
    → IsAt setup t p c past contents w → IsAt setup t p c past contents (record w { thread = begun_at now w.thread })
begun_worker setup t p c past contents now w a = record {
  me = a.me;
  number = a.number;
  given = a.given;
  within = a.within;
  tickets = record { tickets = same_tickets w.thread (begun_at now w.thread) refl refl refl a.tickets.tickets; looks = a.tickets.looks };
  queues = a.queues;
  rows = a.rows;
  empty = a.empty;
  log_thread = a.log_thread;
  log_entries = a.log_entries;
  log_last = a.log_last;
  later = a.later;
  met = a.met;
  times = on_time_begun w.thread now (past.entries ++ w.log.entries) a.times;
  held = end_later setup (time_of w.thread).moment (time_of (begun_at now w.thread)).moment c.held (later (time_of w.thread).moment now) a.held;
  once = a.once;
  replica = a.replica;
  course = a.course;
}
  where
    later : (m now : ℕ) → m ≤ max m now
    later m now = omega arith

pub begun_continues : {D : Type 0} (state : D → DiskState) (w : Wires) (now : ℕ) (s : Seat D) → Continues state w s (begun_seat now s)
begun_continues {D} state w now s = record {
  flag = refl;
  halted = refl;
  sits = λ setup t p past opened h. record { course = h.course; seat = seat setup t p h.course past opened h.seat };
}
  where
    seat : (setup : Setup) (t : ℕ) (p : Phase) (c : Course) (past : Past) (opened : List (DevId × D)) → IsSeat state setup t p c past w opened s → IsSeat state setup t p c past w opened (begun_seat now s)
    seat setup t p c past opened q = record {
      worker = begun_worker setup t p c past (contents_of state s.disks) now s.worker q.worker;
      linked = q.linked;
      start = q.start;
      taken = q.taken;
      sent = q.sent;
      seen = q.seen;
      wrote = q.wrote;
      count = q.count;
      done = q.done;
    }

-- ---- posts come

-- what was met has stamps and senders that the thread's course may have
stamps_of : (senders last : ℕ) (posts : List Post) → AllByRecursion (IsMet senders last) posts → AllByRecursion (λ m. m.stamp ≤ last) posts
stamps_of senders last [] all = tt
stamps_of senders last (m ∷ ms) all = (all.0.stamp, stamps_of senders last ms all.1)

senders_of : (senders last : ℕ) (posts : List Post) → AllByRecursion (IsMet senders last) posts → AllByRecursion (λ m. m.message.sender < senders) posts
senders_of senders last [] all = tt
senders_of senders last (m ∷ ms) all = (all.0.sender, senders_of senders last ms all.1)

-- the seat with what was taken of its ring
abbrev with_taken : {D : Type 0} → Seat D → Receiver → Written → Links → Seat D
with_taken s take log links = record s { worker = record s.worker { links = links; log = log }; passes = record s.passes { take = take } }

module _ {D : Type 0} (state : D → DiskState) (w : Wires) (s : Seat D) (take : Receiver) (log : Written) (links : Links) (links-is : links ≡ record s.worker.links { queues = links.queues }) (len : vec_len links.queues ≡ vec_len s.worker.links.queues)
    (f : Fetched s.worker.me s.passes.take s.worker.log s.worker.links.queues.items take log links.queues.items) where
  abbrev new : Seat D
  new = with_taken s take log links

  abbrev posts : List Post
  posts = f.posts

  seat : (setup : Setup) (t : ℕ) (p : Phase) (c : Course) (past : Past) (opened : List (DevId × D)) → IsSeat state setup t p c past w opened s → IsSeat state setup t p (arrived_more c posts log.last) past w opened new
  seat setup t p c past opened q =
      let contents : DevId → Content = contents_of state s.disks in
      let a : IsAt setup t p c past contents s.worker = q.worker in
      let same : s.worker.me ≡ t = a.me in
      let senders : s.passes.take.senders ≡ setup.threads = q.linked.senders in
      let later : c.last ≤ log.last = subst (λ (n : ℕ). n ≤ log.last) a.log_last f.later in
      let l : Local = seen_over setup contents s.worker in
      let entries-are : log.entries ≡ s.worker.log.entries = ap (λ (x : Written). x.entries) f.log_is in
      let course : AreBasesLowest setup → IsCourse setup t p (arrived_more c posts log.last) (with_queues l (with_arrived t (map message_of posts) l.shared.queues)) =
      λ lowest. arrivals_are_met setup t p c l posts log.last later (stamps_of s.passes.take.senders log.last posts f.met)
      (subst (λ (n : ℕ). AllByRecursion (λ m. m.message.sender < n) posts) senders (senders_of s.passes.take.senders log.last posts f.met)) (a.course lowest) in
      record {
        worker = record {
          me = a.me;
          number = a.number;
          given = a.given;
          within = a.within;
          tickets = a.tickets;
          queues = len ∙ a.queues;
          rows = ap (λ (x : Links). x.registry.setup) links-is ∙ a.rows;
          empty = ap (λ (x : Links). x.entries) links-is ∙ a.empty;
          log_thread = ap (λ (x : Written). x.thread) f.log_is ∙ a.log_thread;
          log_entries = ap (λ (es : List Entry). past.entries ++ es) entries-are ∙ a.log_entries;
          log_last = refl;
          later = subst (λ (es : List Entry). AllByRecursion (λ x. past.met < x.stamp) es) (sym entries-are) a.later;
          met = (let n : s.worker.log.last ≤ log.last = f.later in let m : past.met ≤ s.worker.log.last = a.met in omega (arith, n, m));
          times = subst (λ (es : List Entry). IsOnTime s.worker.thread (past.entries ++ es)) (sym entries-are) a.times;
          held = a.held;
          once = a.once;
          replica = ap (λ (x : Links). x.registry.state) links-is ∙ a.replica;
          course = λ lowest.
              subst (λ (x : Links). IsCourse setup t p (arrived_more c posts log.last) (told_local setup contents (local s.worker.thread x))) (sym links-is)
              (subst (λ (qs : ℕ → List Message). IsCourse setup t p (arrived_more c posts log.last) (with_queues l qs)) (sym (f.queued ∙ ap (λ (n : ℕ). with_arrived n (map message_of posts) (queues_of s.worker.links.queues.items)) same)) (course lowest));
        };
        linked = record {
          rings = q.linked.rings;
          takes = λ d. ap (λ (x : Receiver). x.ring) f.taken ∙ q.linked.takes d;
          senders = ap (λ (x : Receiver). x.senders) f.taken ∙ q.linked.senders;
          sends = q.linked.sends;
          sends_to = q.linked.sends_to;
          numbers = q.linked.numbers;
          slot = q.linked.slot;
          thread = q.linked.thread;
          passes = q.linked.passes;
          free = q.linked.free;
        };
        start = q.start;
        taken = ap (λ (x : Receiver). x.taken) f.taken ∙ ap (λ (ms : List Post). ms ++ posts) q.taken;
        sent = q.sent;
        seen = q.seen;
        wrote = q.wrote;
        count = q.count;
        done = q.done;
      }

  pub received_continues : Continues state w s new
  received_continues = record {
    flag = ap (λ (x : Links). x.shut) links-is;
    halted = refl;
    sits = λ setup t p past opened h. record { course = arrived_more h.course posts log.last; seat = seat setup t p h.course past opened h.seat };
  }
