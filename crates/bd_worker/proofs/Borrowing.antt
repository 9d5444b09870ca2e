-- A worker works, without the registry and with it: the seat goes on.
use Rattle.std.proofs.Common.{◌≡◌, ℕ, ◌==◌, Bool, cond, List, [], ◌∷◌, ◌++◌, All, drop, length, refl, sym, ◌∙◌, ap, ap₂, subst, eq-eqb}
use Rattle.std.proofs.lemmas.List.Elements.{filter-append, All-head, All-tail}
use Rattle.bd_base.specs.declared.act.Entry.{Entry}
use Rattle.bd_base.specs.declared.id.DevId.{DevId}
use Rattle.bd_base.specs.declared.setup.Setup.{Setup}
use Rattle.bd_log.specs.Merge.{entries_of}
use Rattle.bd_registry.specs.State.{Registered, start_of}
use Rattle.bd_ring.specs.SlotRule.{AddsOwn, StartsWith, rows_of}
use Rattle.bd_ring.specs.Slots.{Holder, after_give, after_take, IsTakenBy}
use Rattle.bd_law_threads.specs.Course.{Course, Phase}
use Rattle.bd_turns.specs.declared.queue.Post.{Post}
use Rattle.bd_disks.specs.Contents.{contents_of}
use Rattle.bd_disks.specs.Done.{AreDoneBy}
use Rattle.bd_disks.proofs.Done.{done_then, done_same}
use Rattle.bd_wires.specs.declared.wires.Wires.{Wires}
use Rattle.bd_worker.specs.declared.seat.Seat.{Seat}
use Rattle.bd_worker.specs.declared.worker.Worker.{Worker}
use Rattle.bd_outside.specs.Disk.{DiskState}
use Rattle.bd_worker.specs.Seats.{AddsServed, Continues, GoesAlone, GoesWith, IsLent, IsLentTo, IsSeat, IsSitting, Past, IsWorking, Sits, WentAlone, WentWith}

-- ---- its disks

-- the disks did what a course says, and then what it says further
pub done_further : {D : Type 0} (state : D → DiskState) (setup : Setup) (c c' : Course) (opened before after : List (DevId × D))
    → AreDoneBy state setup c.served opened before → AddsServed state setup c c' before after → AreDoneBy state setup c'.served opened after
done_further state setup c c' opened before after h adds =
    done_same state setup (λ dev. c.served dev ++ adds.more dev) c'.served opened after (λ dev. sym (adds.served dev)) (done_then state setup c.served adds.more opened before after h adds.done)

-- ---- without the registry

-- the seat after a turn of its worker with its disks
abbrev with_worker : {D : Type 0} → Seat D → Worker → List (DevId × D) → Seat D
with_worker s worker disks = record s { worker = worker; disks = disks }

pub alone : {D : Type 0} → (state : D → DiskState) (w : Wires) (s : Seat D) (worker : Worker) (disks : List (DevId × D)) → GoesAlone state s.disks disks s.worker worker → Continues state w s (with_worker s worker disks)
alone {D} state w s worker disks g = record {
  flag = g.0;
  halted = refl;
  sits = λ setup t p past opened h. on setup t p h.course past opened h.seat;
}
  where
    on : (setup : Setup) (t : ℕ) (p : Phase) (c : Course) (past : Past) (opened : List (DevId × D)) → IsSeat state setup t p c past w opened s → Sits state setup t p past w opened (with_worker s worker disks)
    on setup t p c past opened q =
        let went : WentAlone state setup t p c past s.disks disks worker = g.1 setup t p c past q.worker in
        record {
          course = went.course;
          seat = record {
            worker = went.at;
            linked = q.linked;
            start = q.start;
            taken = q.taken ∙ sym went.posts.taken;
            sent = λ r. q.sent r ∙ ap (λ (f : ℕ → List Post). f r) (sym went.posts.sent);
            seen = q.seen ∙ sym went.seen;
            wrote = q.wrote ∙ ap (entries_of t) (sym went.seen);
            count = q.count ∙ ap (λ (es : List Entry). length es) (sym went.seen);
            done = done_further state setup c went.course opened s.disks disks q.done went.did;
          };
        }

-- who sits works
pub works : {D : Type 0} {state : D → DiskState} → (w : Wires) (s : Seat D) → IsSitting state w s → IsWorking s.worker
works {state = state} w s h = record { setup = h.setup; t = h.t; p = h.p; c = h.sits.course; past = h.past; contents = contents_of state s.disks; at = h.sits.seat.worker }

-- ---- with it

-- what the slot gave was lent as the worker wants it
pub lent_is : {D : Type 0} {state : D → DiskState} → (setup : Setup) (t : ℕ) (p : Phase) (c : Course) (past : Past) (w : Wires) (opened : List (DevId × D)) (s : Seat D) (lent : Registered) (pass : Holder)
    → IsSeat state setup t p c past w opened s → IsTakenBy s.passes.slot lent.journal (start_of lent.setup) pass → IsLent setup t c s.seen lent
lent_is setup t p c past w opened s lent pass q took = record {
  start = took.3 ∙ q.start;
  begins = subst (λ (es : List Entry). StartsWith lent.journal es) q.seen took.1;
  own = ap (λ (n : ℕ). rows_of n lent.journal) (sym q.linked.thread) ∙ took.2 ∙ q.wrote;
  count = q.count;
}

pub lent_to : {D : Type 0} {state : D → DiskState} → (w : Wires) (s : Seat D) (lent : Registered) (pass : Holder) → IsSitting state w s → IsTakenBy s.passes.slot lent.journal (start_of lent.setup) pass → IsLentTo s.worker s.seen lent
lent_to {state = state} w s lent pass h took = record {
  setup = h.setup;
  t = h.t;
  p = h.p;
  c = h.sits.course;
  past = h.past;
  contents = contents_of state s.disks;
  at = h.sits.seat.worker;
  lent_is = lent_is h.setup h.t h.p h.sits.course h.past w h.opened s lent pass h.sits.seat took;
}

-- what comes after the first rows
rest_after : (xs ys : List Entry) → drop (length xs) (xs ++ ys) ≡ ys
rest_after [] ys = refl
rest_after (x ∷ xs) ys = rest_after xs ys

-- rows of one thread alone are its rows
pub own_rows : (t : ℕ) (xs : List Entry) → All (λ r. r.thread ≡ t) xs → rows_of t xs ≡ xs
own_rows t [] all = refl
own_rows t (x ∷ xs) all =
    ap₂ (λ (b : Bool) (es : List Entry). cond b (x ∷ es) es) (eq-eqb x.thread t (All-head (λ (r : Entry). r.thread ≡ t) x xs all)) (own_rows t xs (All-tail (λ (r : Entry). r.thread ≡ t) x xs all))

module _ {D : Type 0} (state : D → DiskState) (w : Wires) (s : Seat D) (worker : Worker) (disks : List (DevId × D)) (lent lent' : Registered) (pass : Holder) (took : IsTakenBy s.passes.slot lent.journal (start_of lent.setup) pass)
    (g : GoesWith state s.disks disks s.seen s.worker lent worker lent') where
  -- the pass once the registry is back in its slot
  abbrev given : Holder
  given = after_give pass lent'.journal

  abbrev new : Seat D
  new = record s { worker = worker; passes = record s.passes { slot = given }; seen = length lent'.journal; disks = disks }

  on : (setup : Setup) (t : ℕ) (p : Phase) (c : Course) (past : Past) (opened : List (DevId × D)) → IsSeat state setup t p c past w opened s → Sits state setup t p past w opened new
  on setup t p c past opened q =
      let lends : IsLent setup t c s.seen lent = lent_is setup t p c past w opened s lent pass q took in
      let went : WentWith state setup t p c past s.disks disks lent worker lent' = g.1 setup t p c past q.worker lends in
      let added : List Entry = went.adds.0 in
      let journal : lent'.journal ≡ lent.journal ++ added = went.adds.1 in
      let taken-is : pass ≡ after_take s.passes.slot lent.journal = took.0 in
      let wrote : given.wrote ≡ s.passes.slot.wrote ++ added =
      ap (λ (h : Holder). h.wrote ++ drop (length h.seen) lent'.journal) taken-is
      ∙ ap (λ (es : List Entry). s.passes.slot.wrote ++ es) (ap (drop (length lent.journal)) journal ∙ rest_after lent.journal added) in
      let rows : entries_of t lent'.journal ≡ s.passes.slot.wrote ++ added =
      ap (entries_of t) journal ∙ filter-append (λ x. x.thread == t) lent.journal added
      ∙ ap₂ (λ (xs ys : List Entry). xs ++ ys) (lends.own ∙ sym q.wrote) (own_rows t added went.adds.2) in
      record {
        course = went.course;
        seat = record {
          worker = went.at;
          linked = record {
            rings = q.linked.rings;
            takes = q.linked.takes;
            senders = q.linked.senders;
            sends = q.linked.sends;
            sends_to = q.linked.sends_to;
            numbers = q.linked.numbers;
            slot = ap (λ (h : Holder). h.slot) taken-is ∙ q.linked.slot;
            thread = ap (λ (h : Holder). h.thread) taken-is ∙ q.linked.thread;
            passes = λ e. ap (λ (h : Holder). h.passes) taken-is ∙ q.linked.passes e;
            free = refl;
          };
          start = ap (λ (h : Holder). h.start) taken-is ∙ q.start;
          taken = q.taken ∙ sym went.posts.taken;
          sent = λ r. q.sent r ∙ ap (λ (f : ℕ → List Post). f r) (sym went.posts.sent);
          seen = sym went.seen;
          wrote = wrote ∙ sym rows ∙ ap (entries_of t) (sym went.seen);
          count = ap (λ (es : List Entry). length es) (sym went.seen);
          done = done_further state setup c went.course opened s.disks disks q.done went.did;
        };
      }

  pub borrowed_continues : Continues state w s new
  borrowed_continues = record { flag = g.0; halted = refl; sits = λ setup t p past opened h. on setup t p h.course past opened h.seat }

  -- the registry goes back into its slot as the slot wants it
  module _ (h : IsSitting state w s) where
    went_with : WentWith state h.setup h.t h.p h.sits.course h.past s.disks disks lent worker lent'
    went_with = g.1 h.setup h.t h.p h.sits.course h.past h.sits.seat.worker (lent_is h.setup h.t h.p h.sits.course h.past w h.opened s lent pass h.sits.seat took)

    pub gives_start : start_of lent'.setup ≡ pass.start
    gives_start = went_with.start ∙ took.3 ∙ sym (ap (λ (x : Holder). x.start) took.0)

    pub gives_own : AddsOwn pass.thread pass.seen lent'.journal
    gives_own =
        subst (λ (x : Holder). AddsOwn x.thread x.seen lent'.journal) (sym took.0)
        (subst (λ (n : ℕ). AddsOwn n lent.journal lent'.journal) (sym h.sits.seat.linked.thread) went_with.adds)
