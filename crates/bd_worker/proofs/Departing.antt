-- What a thread put to others goes into their rings: the seat goes on.
use Rattle.std.proofs.Common.{◌≡◌, ℕ, ◌<◌, ◌≤◌, Bool, true, false, ◌==◌, nat_lt, List, [], ◌∷◌, ◌++◌, zero, suc, length, vec_len, Option, refl, sym, ◌∙◌, ap, subst, append-nil, eq-eqb, ltb-true, ltb-false, arith, rules}
use Rattle.std.specs.List.{slice_get}
use Rattle.std.specs.Prelude.{slice_index_or}
use Rattle.std.proofs.lemmas.Option.{slice_get-get_or, slice_get_past}
use Rattle.bd_base.specs.declared.id.DevId.{DevId}
use Rattle.bd_base.specs.declared.setup.Setup.{Setup}
use Rattle.bd_machine.specs.declared.state.Content.{Content}
use Rattle.bd_turns.specs.declared.queue.Message.{Message}
use Rattle.bd_turns.specs.declared.queue.Post.{Post}
use Rattle.bd_turns.specs.Local.{Local}
use Rattle.bd_links.specs.Queues.{queues_of}
use Rattle.bd_ring.specs.Rings.{AreSendsTo, Sender}
use Rattle.bd_law_threads.specs.Course.{Course, IsCourse, Phase}
use Rattle.bd_law_threads.specs.Steps.{sent_more, with_queues, Goes}
use Rattle.bd_law_threads.proofs.Leaving.{departures_are_stamped}
use Rattle.bd_seat.specs.Outgoing.{FlushedAll, FlushedIf}
use Rattle.bd_thread.specs.declared.links.Links.{Links}
use Rattle.bd_disks.specs.Contents.{contents_of}
use Rattle.bd_thread.specs.Seen.{local}
use Rattle.bd_law_disks.specs.Told.{told_local, AreBasesLowest}
use Rattle.bd_wires.specs.declared.wires.Passes.{Passes}
use Rattle.bd_wires.specs.declared.wires.Wires.{Wires}
use Rattle.bd_wires.specs.Wires.{put_by, put_into}
use Rattle.bd_worker.specs.declared.seat.Seat.{Seat}
use Rattle.bd_outside.specs.Disk.{DiskState}
use Rattle.bd_worker.specs.Seats.{seen_over, Continues, IsAt, IsSeat, Past}

-- the seat with what went out
abbrev with_sent : {D : Type 0} → Seat D → Links → Passes → Seat D
with_sent s links passes = record s { worker = record s.worker { links = links }; passes = passes }

-- beyond the queues there is none
none_past : (qs : List (List Message)) (r : ℕ) → length qs ≤ r → slice_index_or qs r [] ≡ []
none_past [] r le = refl
none_past (q ∷ qs) zero le = absurd (omega arith)
none_past (q ∷ qs) (suc r) le = none_past qs r (omega arith)

module _ {D : Type 0} (state : D → DiskState) (w : Wires) (s : Seat D) (links : Links) (passes : Passes) (links-is : links ≡ record s.worker.links { queues = links.queues }) (passes-is : passes ≡ record s.passes { sends = passes.sends })
    (len : vec_len links.queues ≡ vec_len s.worker.links.queues) (sends-len : vec_len passes.sends ≡ vec_len s.passes.sends)
    (f : FlushedAll s.worker.me s.worker.log.last s.passes.sends.items s.worker.links.queues.items passes.sends.items links.queues.items) where
  abbrev new : Seat D
  new = with_sent s links passes

  abbrev qs : List (List Message)
  qs = s.worker.links.queues.items

  abbrev n : ℕ
  n = length qs

  -- for what isn't there
  abbrev nobody : Sender
  nobody = record { ring = s.passes.take.ring; senders = 0; number = 0; put = []; refused = 0 }

  abbrev old-send : ℕ → Sender
  old-send r = slice_index_or s.passes.sends.items r nobody

  abbrev new-send : ℕ → Sender
  new-send r = slice_index_or passes.sends.items r nobody

  abbrev old-queue : ℕ → List Message
  old-queue r = queues_of qs r

  abbrev new-queue : ℕ → List Message
  new-queue r = queues_of links.queues.items r

  -- what went to a thread
  abbrev posts_if : (r : ℕ) (own : Bool) → FlushedIf own s.worker.log.last (old-send r) (old-queue r) (new-send r) (new-queue r) → List Post
  posts_if r true h = []
  posts_if r false h = h.posts

  abbrev posts_at : (r : ℕ) (within : Bool) → nat_lt r n ≡ within → List Post
  posts_at r true e = posts_if r (r == s.worker.me) (f r nobody (ltb-true r n e))
  posts_at r false e = []

  abbrev posts : ℕ → List Post
  posts r = posts_at r (nat_lt r n) refl

  -- ---- to itself nothing went

  none_if : (r : ℕ) (own : Bool) (h : FlushedIf own s.worker.log.last (old-send r) (old-queue r) (new-send r) (new-queue r)) → own ≡ true → posts_if r own h ≡ []
  none_if r true h e = refl
  none_if r false h e = cc

  none_at : (r : ℕ) (within : Bool) (e : nat_lt r n ≡ within) → r ≡ s.worker.me → posts_at r within e ≡ []
  none_at r true e same = none_if r (r == s.worker.me) (f r nobody (ltb-true r n e)) (eq-eqb r s.worker.me same)
  none_at r false e same = refl

  stays_if : (r : ℕ) (own : Bool) → own ≡ true → FlushedIf own s.worker.log.last (old-send r) (old-queue r) (new-send r) (new-queue r) → new-queue r ≡ old-queue r
  stays_if r true e h = h.1
  stays_if r false e h = cc

  past_same : (r : ℕ) → n ≤ r → new-queue r ≡ old-queue r
  past_same r le = none_past links.queues.items r (let same : length links.queues.items ≡ n = lengths in omega arith) ∙ sym (none_past qs r le)
    where
      lengths : length links.queues.items ≡ n
      lengths = search rules

  own_stays : (r : ℕ) → r ≡ s.worker.me → new-queue r ≡ old-queue r
  own_stays r same = go (nat_lt r n) refl
    where
      go : (b : Bool) → nat_lt r n ≡ b → new-queue r ≡ old-queue r
      go true e = stays_if r (r == s.worker.me) (eq-eqb r s.worker.me same) (f r nobody (ltb-true r n e))
      go false e = past_same r (ltb-false r n e)

  -- ---- to each other thread its posts went

  goes_if : (r : ℕ) (own : Bool) (h : FlushedIf own s.worker.log.last (old-send r) (old-queue r) (new-send r) (new-queue r)) → Goes s.worker.log.last (posts_if r own h) (old-queue r) (new-queue r)
  goes_if r true h = record { queue_is = h.1; stamped = tt }
  goes_if r false h = record { queue_is = h.queue_is; stamped = h.stamped }

  goes_at : (r : ℕ) (within : Bool) (e : nat_lt r n ≡ within) → Goes s.worker.log.last (posts_at r within e) (old-queue r) (new-queue r)
  goes_at r true e = goes_if r (r == s.worker.me) (f r nobody (ltb-true r n e))
  goes_at r false e = record { queue_is = past_same r (ltb-false r n e); stamped = tt }

  -- ---- and are in the passes

  put_if : (r : ℕ) (own : Bool) (h : FlushedIf own s.worker.log.last (old-send r) (old-queue r) (new-send r) (new-queue r)) → (new-send r).put ≡ (old-send r).put ++ posts_if r own h
  put_if r true h = ap (λ (x : Sender). x.put) h.0 ∙ sym (append-nil (old-send r).put)
  put_if r false h = ap (λ (x : Sender). x.put) h.put

  -- a pass keeps its ring and its number
  ring_if : (r : ℕ) (own : Bool) → FlushedIf own s.worker.log.last (old-send r) (old-queue r) (new-send r) (new-queue r) → ((new-send r).ring ≡ (old-send r).ring) × ((new-send r).number ≡ (old-send r).number)
  ring_if r true h = (ap (λ (x : Sender). x.ring) h.0, ap (λ (x : Sender). x.number) h.0)
  ring_if r false h = (ap (λ (x : Sender). x.ring) h.put, ap (λ (x : Sender). x.number) h.put)

  -- what a list has at a place
  at_place : (xs : List Sender) (r : ℕ) → r < length xs → put_by (slice_get xs r) ≡ (slice_index_or xs r nobody).put
  at_place xs r lt = ap put_by (slice_get-get_or xs r nobody lt)

  module _ (same-len : length s.passes.sends.items ≡ n) where
    new-len : length passes.sends.items ≡ n
    new-len = (let e : length passes.sends.items ≡ length s.passes.sends.items = search rules in e) ∙ same-len

    put_at : (r : ℕ) (within : Bool) (e : nat_lt r n ≡ within) → put_into passes r ≡ put_into s.passes r ++ posts_at r within e
    put_at r true e =
        let lt : r < n = ltb-true r n e in
        at_place passes.sends.items r (subst (λ (k : ℕ). r < k) (sym new-len) lt)
        ∙ put_if r (r == s.worker.me) (f r nobody lt)
        ∙ ap (λ (ps : List Post). ps ++ posts_if r (r == s.worker.me) (f r nobody lt)) (sym (at_place s.passes.sends.items r (subst (λ (k : ℕ). r < k) (sym same-len) lt)))
    put_at r false e =
        let le : n ≤ r = ltb-false r n e in
        ap put_by (slice_get_past passes.sends.items r (subst (λ (k : ℕ). k ≤ r) (sym new-len) le))
        ∙ ap (λ (o : Option Sender). put_by o ++ []) (sym (slice_get_past s.passes.sends.items r (subst (λ (k : ℕ). k ≤ r) (sym same-len) le)))

  seat : (setup : Setup) (t : ℕ) (p : Phase) (c : Course) (past : Past) (opened : List (DevId × D)) → IsSeat state setup t p c past w opened s → IsSeat state setup t p (sent_more c posts) past w opened new
  seat setup t p c past opened q =
      let contents : DevId → Content = contents_of state s.disks in
      let a : IsAt setup t p c past contents s.worker = q.worker in
      let same-me : s.worker.me ≡ t = a.me in
      let n-is : n ≡ setup.threads = (let e : n ≡ vec_len s.worker.links.queues = search rules in e) ∙ a.queues in
      let sends-are : length s.passes.sends.items ≡ n = (let e : length s.passes.sends.items ≡ vec_len s.passes.sends = search rules in e) ∙ q.linked.sends ∙ sym n-is in
      let l : Local = seen_over setup contents s.worker in
      let course : AreBasesLowest setup → IsCourse setup t p (sent_more c posts) (with_queues l new-queue) =
      λ lowest. departures_are_stamped setup t p c l posts new-queue
      (none_at t (nat_lt t n) refl (sym same-me))
      (own_stays t (sym same-me))
      (λ r other. subst (λ (k : ℕ). Goes k (posts r) (old-queue r) (new-queue r)) a.log_last (goes_at r (nat_lt r n) refl))
      (a.course lowest) in
      let keeps : (k : ℕ) → k < setup.threads → ((new-send k).ring ≡ (old-send k).ring) × ((new-send k).number ≡ (old-send k).number) =
      (λ k lt. let within : k < n = subst (λ (m : ℕ). k < m) (sym n-is) lt in ring_if k (k == s.worker.me) (f k nobody within)) in
      record {
        worker = record {
          me = a.me;
          number = a.number;
          given = a.given;
          within = a.within;
          tickets = a.tickets;
          queues = len ∙ a.queues;
          rows = ap (λ (x : Links). x.registry.setup) links-is ∙ a.rows;
          empty = ap (λ (x : Links). x.entries) links-is ∙ a.empty;
          log_thread = a.log_thread;
          log_entries = a.log_entries;
          log_last = a.log_last;
          later = a.later;
          met = a.met;
          times = a.times;
          held = a.held;
          once = a.once;
          replica = ap (λ (x : Links). x.registry.state) links-is ∙ a.replica;
          course = λ lowest. subst (λ (x : Links). IsCourse setup t p (sent_more c posts) (told_local setup contents (local s.worker.thread x))) (sym links-is) (course lowest);
        };
        linked = record {
          rings = q.linked.rings;
          takes = λ d. ap (λ (x : Passes). x.take.ring) passes-is ∙ q.linked.takes d;
          senders = ap (λ (x : Passes). x.take.senders) passes-is ∙ q.linked.senders;
          sends = sends-len ∙ q.linked.sends;
          sends_to = sends_to setup t p c past opened q keeps;
          numbers = numbers setup t p c past opened q keeps;
          slot = ap (λ (x : Passes). x.slot.slot) passes-is ∙ q.linked.slot;
          thread = ap (λ (x : Passes). x.slot.thread) passes-is ∙ q.linked.thread;
          passes = λ e. ap (λ (x : Passes). x.slot.passes) passes-is ∙ q.linked.passes e;
          free = ap (λ (x : Passes). x.slot.holds) passes-is ∙ q.linked.free;
        };
        start = ap (λ (x : Passes). x.slot.start) passes-is ∙ q.start;
        taken = ap (λ (x : Passes). x.take.taken) passes-is ∙ q.taken;
        sent = λ r. put_at sends-are r (nat_lt r n) refl ∙ ap (λ (ps : List Post). ps ++ posts r) (q.sent r);
        seen = ap (λ (x : Passes). x.slot.seen) passes-is ∙ q.seen;
        wrote = ap (λ (x : Passes). x.slot.wrote) passes-is ∙ q.wrote;
        count = q.count;
        done = q.done;
      }
    where
      -- whichever default is read
      default : (xs : List Sender) (k : ℕ) (d : Sender) → k < length xs → slice_index_or xs k d ≡ slice_index_or xs k nobody
      default [] k d lt = absurd (omega arith)
      default (x ∷ xs) zero d lt = refl
      default (x ∷ xs) (suc k) d lt = default xs k d (omega arith)

      sends_to : (setup : Setup) (t : ℕ) (p : Phase) (c : Course) (past : Past) (opened : List (DevId × D)) (q : IsSeat state setup t p c past w opened s)
          → ((k : ℕ) → k < setup.threads → ((new-send k).ring ≡ (old-send k).ring) × ((new-send k).number ≡ (old-send k).number))
          → AreSendsTo w.rings.items passes.sends.items
      sends_to setup t p c past opened q keeps k d e lt =
          let rings : length w.rings.items ≡ setup.threads = (let e : length w.rings.items ≡ vec_len w.rings = search rules in e) ∙ q.linked.rings in
          let within : k < setup.threads = subst (λ (m : ℕ). k < m) rings lt in
          let count : length passes.sends.items ≡ setup.threads = (let e : length passes.sends.items ≡ vec_len passes.sends = search rules in e) ∙ sends-len ∙ q.linked.sends in
          ap (λ (x : Sender). x.ring) (default passes.sends.items k e (subst (λ (m : ℕ). k < m) (sym count) within)) ∙ (keeps k within).0 ∙ q.linked.sends_to k d nobody lt

      numbers : (setup : Setup) (t : ℕ) (p : Phase) (c : Course) (past : Past) (opened : List (DevId × D)) (q : IsSeat state setup t p c past w opened s)
          → ((k : ℕ) → k < setup.threads → ((new-send k).ring ≡ (old-send k).ring) × ((new-send k).number ≡ (old-send k).number))
          → (k : ℕ) (d : Sender) → k < setup.threads → (slice_index_or passes.sends.items k d).number ≡ t
      numbers setup t p c past opened q keeps k d lt =
          let count : length passes.sends.items ≡ setup.threads = (let e : length passes.sends.items ≡ vec_len passes.sends = search rules in e) ∙ sends-len ∙ q.linked.sends in
          ap (λ (x : Sender). x.number) (default passes.sends.items k d (subst (λ (m : ℕ). k < m) (sym count) lt)) ∙ (keeps k lt).1 ∙ q.linked.numbers k nobody lt

  pub departed_continues : Continues state w s new
  departed_continues = record {
    flag = ap (λ (x : Links). x.shut) links-is;
    halted = refl;
    sits = λ setup t p past opened h. record { course = sent_more h.course posts; seat = seat setup t p h.course past opened h.seat };
  }
