-- A soft mark gets its moment, and becomes hard, by the local rules.
use Rattle.std.proofs.Common.{◌≡◌, ℕ, ◌+◌, ◌<◌, Bool, true, false, cond, nat_le, List, [], ◌∷◌, length, find, Option, Some, None, refl, sym, ◌∙◌, ap, subst, arith}
use Rattle.std.proofs.lemmas.Bool.{and_parts}
use Rattle.std.proofs.lemmas.Option.{same_Some}
use Rattle.bd_base.specs.declared.act.Act.TheVariants as acts
use Rattle.bd_base.specs.declared.id.DevId.{DevId}
use Rattle.bd_base.specs.declared.id.WalkId.{WalkId}
use Rattle.bd_base.specs.declared.request.AbortCause.TheVariants.{Frozen}
use Rattle.bd_base.specs.declared.setup.Setup.{Setup}
use Rattle.bd_machine.specs.declared.state.FreezeMark.{FreezeMark}
use Rattle.bd_machine.specs.declared.state.FreezeMark.TheVariants as marks
use Rattle.bd_machine.specs.declared.state.Id.{Id}
use Rattle.bd_machine.specs.declared.state.Kept.{Kept}
use Rattle.bd_machine.specs.declared.state.Marking.{Marking}
use Rattle.bd_machine.specs.declared.state.Part.{Part}
use Rattle.bd_machine.specs.declared.state.Registry.{Registry}
use Rattle.bd_machine.specs.Grace.{change_due, change_grace, dev_if_any, ending_mark, has_come, has_ended, is_ending, is_mark_due, may_grace, remarked_if_any, softened, until_of}
use Rattle.bd_machine.specs.Marks.{hardened, with_until}
use Rattle.bd_machine.specs.Same.{same_walk}
use Rattle.bd_turns.specs.declared.queue.Message.{Message}
use Rattle.bd_turns.specs.Local.{Local}
use Rattle.bd_links.specs.Queues.{queues_of}
use Rattle.bd_tokens.specs.Tokens.{here_in}
use Rattle.bd_tokens.proofs.Listed.{walk_same}
use Rattle.bd_thread.specs.declared.links.Links.{Links}
use Rattle.bd_thread.specs.declared.thread.Thread.{Thread}
use Rattle.bd_thread.specs.Aborts.{StopsAll}
use Rattle.bd_thread.specs.Acted.{Acted}
use Rattle.bd_thread.specs.Grace.{ended_walk, grace_until, is_due, is_due_by, next_due, walk_of_row, with_walk, Graces, GracesBy, Hardens, HardensBy, IsGraced, IsHardened, NoDue}
use Rattle.bd_thread.specs.Requests.{KeepsTickets}
use Rattle.bd_thread.specs.Seen.{local_at, untaken}
use Rattle.bd_thread.specs.Waits.{Idles, IsIdle}
use Rattle.bd_thread.proofs.Going.{Steps, steps, still_shut}
use Rattle.bd_thread.proofs.Idle.{all_grows, more}
use Rattle.bd_thread.proofs.Submissions.{acted_into}
use Rattle.bd_thread.proofs.Tickets.{same_tickets}
use Rattle.bd_thread.proofs.Timing.{time_stays, untimed}

-- ---- what a mark's change leaves

requests_stay : (o : Option DevId) (change : Marking → Marking) (part : Part) → (remarked_if_any o change part).requests ≡ part.requests
requests_stay None change part = refl
requests_stay (Some dev) change part = refl

next_stays : (o : Option DevId) (change : Marking → Marking) (part : Part) → (remarked_if_any o change part).next_request ≡ part.next_request
next_stays None change part = refl
next_stays (Some dev) change part = refl

-- ---- the acts, by the local rules

module _ (setup : Setup) (me : ℕ) (part : Part) (here : Id → Option Kept) (registry : Registry) (shut : Bool) (stamp : ℕ) (queues : ℕ → List Message) where
  abbrev old : Local
  old = local_at me part here registry shut stamp queues

  grace_steps : (walk : WalkId) (until : ℕ)
      → may_grace part walk until ≡ true
      → Steps setup me old (acts.Grace walk until) (local_at me (untaken (change_grace old.view walk until).part) here registry shut (stamp + 1) queues)
  grace_steps walk until may =
      let after : Bool → Local = λ b. local_at me (untaken (change_grace old.view walk until).part) here registry b (stamp + 1) queues in
      steps setup me old (after shut) (acts.Grace walk until) refl refl (may, tt) (ap after (still_shut shut))

  due_steps : (walk : WalkId) (now : ℕ)
      → is_mark_due part walk now ≡ true
      → Steps setup me old (acts.Due walk now) (local_at me (untaken (change_due old.view walk now).part) here registry shut (stamp + 1) queues)
  due_steps walk now due =
      let after : Bool → Local = λ b. local_at me (untaken (change_due old.view walk now).part) here registry b (stamp + 1) queues in
      steps setup me old (after shut) (acts.Due walk now) refl refl (due, tt) (ap after (still_shut shut))

-- ---- Grace

pub graced_acted : (old : Thread) (before : Links) (new : Thread) (after : Links) (walk : WalkId) (until : ℕ)
    → may_grace old.part walk until ≡ true
    → IsGraced walk until old before new after
    → Acted old before new after
graced_acted old before new after walk until may is =
    acted_into old before new after (acts.Grace walk until) _ (here_in old.held.items)
    (ap (λ (t : Thread). t.me) is.thread) (ap (λ (t : Thread). t.setup) is.thread) (ap (λ (t : Thread). t.part) is.thread) (ap (λ (t : Thread). here_in t.held.items) is.thread) is.links
    (grace_steps old.setup.now old.me old.part (here_in old.held.items) before.registry.state before.shut (length before.entries) (queues_of before.queues.items) walk until may) refl
    (untimed (acts.Grace walk until) old new refl (ap (λ (t : Thread). t.time) is.thread))

pub graced_tickets : (old : Thread) (before : Links) (new : Thread) (after : Links) (walk : WalkId) (until : ℕ)
    → IsGraced walk until old before new after
    → KeepsTickets old
    → KeepsTickets new
graced_tickets old before new after walk until is keeps =
    same_tickets old new (ap (λ (t : Thread). t.purse.ids) is.thread)
    (ap (λ (t : Thread). t.part.requests) is.thread ∙ requests_stay (softened walk old.part.prior) (with_until until) old.part)
    (ap (λ (t : Thread). t.part.next_request) is.thread ∙ next_stays (softened walk old.part.prior) (with_until until) old.part) keeps

pub graces_so : (old : Thread) (before : Links) (new : Thread) (after : Links) (walk : WalkId) (time : ℕ)
    → may_grace old.part walk (grace_until old time) ≡ true
    → IsGraced walk (grace_until old time) old before new after
    → Graces walk time old before new after
graces_so old before new after walk time may is = subst (GracesBy walk (grace_until old time) old before new after) (sym may) is

pub graces_none : (old : Thread) (before : Links) (walk : WalkId) (time : ℕ) → may_grace old.part walk (grace_until old time) ≡ false → Graces walk time old before old before
graces_none old before walk time may = subst (GracesBy walk (grace_until old time) old before old before) (sym may) (refl, refl)

-- ---- Due

pub hardened_acted : (old : Thread) (before : Links) (new : Thread) (after : Links) (walk : WalkId)
    → is_mark_due old.part walk old.time.moment ≡ true
    → IsHardened walk old before new after
    → Acted old before new after
hardened_acted old before new after walk due is =
    acted_into old before new after (acts.Due walk old.time.moment) _ (here_in old.held.items)
    (ap (λ (t : Thread). t.me) is.thread) (ap (λ (t : Thread). t.setup) is.thread) (ap (λ (t : Thread). t.part) is.thread) (ap (λ (t : Thread). here_in t.held.items) is.thread) is.links
    (due_steps old.setup.now old.me old.part (here_in old.held.items) before.registry.state before.shut (length before.entries) (queues_of before.queues.items) walk old.time.moment due) refl
    (record { time = time_stays old.time new.time (ap (λ (t : Thread). t.time) is.thread); named = refl; held = tt; fits = λ dev. tt })

pub hardened_tickets : (old : Thread) (before : Links) (new : Thread) (after : Links) (walk : WalkId)
    → IsHardened walk old before new after
    → KeepsTickets old
    → KeepsTickets new
hardened_tickets old before new after walk is keeps =
    same_tickets old new (ap (λ (t : Thread). t.purse.ids) is.thread)
    (ap (λ (t : Thread). t.part.requests) is.thread ∙ requests_stay (dev_if_any (ending_mark old.part walk)) hardened old.part)
    (ap (λ (t : Thread). t.part.next_request) is.thread ∙ next_stays (dev_if_any (ending_mark old.part walk)) hardened old.part) keeps

-- ---- which marks may become hard

-- of a soft mark that the rules let become hard, its row is due
row_due : (part : Part) (walk : WalkId) (now : ℕ) (row : DevId × Marking) → is_mark_due part walk now ≡ true → has_come now (until_of walk row.1.frozen) ≡ true → is_due part now row ≡ true
row_due part walk now row due come = go row.1.frozen come
  where
    go : (mark : FreezeMark) → has_come now (until_of walk mark) ≡ true → is_due_by part now (ended_walk now mark) ≡ true
    go marks.Not k = cc
    go marks.Hard k = cc
    go (marks.Soft w time until) k = by (same_walk w walk) refl until k
      where
        by : (b : Bool) → same_walk w walk ≡ b → (u : Option ℕ) → has_come now (cond b u None) ≡ true → is_due_by part now (ended_walk now (marks.Soft w time u)) ≡ true
        by false e u k = cc
        by true e None k = cc
        by true e (Some u) k = subst (λ (c : Bool). is_due_by part now (cond c (Some w) None) ≡ true) (sym k) (subst (λ (x : WalkId). is_mark_due part x now ≡ true) (sym (walk_same.exact w walk e)) due)

-- where no row is due, none may
pub none_due : (part : Part) (now : ℕ) → find (is_due part now) part.marked ≡ None → (walk : WalkId) → is_mark_due part walk now ≡ false
none_due part now none walk = go (is_mark_due part walk now) refl
  where
    in_rows : is_mark_due part walk now ≡ true → (rows : List (DevId × Marking)) → find (is_due part now) rows ≡ None → has_ended walk now (find (is_ending walk) rows) ≡ true → ⊥
    in_rows due [] h k = cc
    in_rows due (row ∷ rows) h k = here (is_ending walk row) refl (is_due part now row) refl h k (in_rows due rows)
      where
        here : (e : Bool) → is_ending walk row ≡ e → (d : Bool) → is_due part now row ≡ d
            → cond d (Some row) (find (is_due part now) rows) ≡ None
            → has_ended walk now (cond e (Some row) (find (is_ending walk) rows)) ≡ true
            → (find (is_due part now) rows ≡ None → has_ended walk now (find (is_ending walk) rows) ≡ true → ⊥)
            → ⊥
        here e ending true is h k rest = cc
        here true ending false is h k rest = let so = row_due part walk now row due k in let no : true ≡ false = sym so ∙ is in cc
        here false ending false is h k rest = rest h k

    go : (b : Bool) → is_mark_due part walk now ≡ b → is_mark_due part walk now ≡ false
    go false e = e
    go true e = absurd (in_rows e part.marked none (and_parts (has_ended walk now (ending_mark part walk)) (nat_le part.moments.last now) e).0)

-- a row that was found is due
found_due : (part : Part) (now : ℕ) (row : DevId × Marking) (rows : List (DevId × Marking)) → find (is_due part now) rows ≡ Some row → is_due part now row ≡ true
found_due part now row [] h = cc
found_due part now row (x ∷ xs) h = go (is_due part now x) refl h (found_due part now row xs)
  where
    go : (b : Bool) → is_due part now x ≡ b → cond b (Some x) (find (is_due part now) xs) ≡ Some row → (find (is_due part now) xs ≡ Some row → is_due part now row ≡ true) → is_due part now row ≡ true
    go true e k rest = subst (λ (y : DevId × Marking). is_due part now y ≡ true) (same_Some x row k) e
    go false e k rest = rest k

-- the mark of the walk that is next may become hard
pub walk_due : (part : Part) (now : ℕ) (due : DevId × WalkId) → next_due part now ≡ Some due → is_mark_due part due.1 now ≡ true
walk_due part now due next = go (find (is_due part now) part.marked) refl next
  where
    by : (dev : DevId) (o : Option WalkId) → is_due_by part now o ≡ true → with_walk dev o ≡ Some due → is_mark_due part due.1 now ≡ true
    by dev None e k = cc
    by dev (Some walk) e k = subst (λ (x : DevId × WalkId). is_mark_due part x.1 now ≡ true) (same_Some (dev, walk) due k) e

    go : (o : Option (DevId × Marking)) → find (is_due part now) part.marked ≡ o → walk_of_row now o ≡ Some due → is_mark_due part due.1 now ≡ true
    go None e k = cc
    go (Some row) e k = by row.0 (ended_walk now row.1.frozen) (found_due part now row part.marked e) k

-- where none is next, no row is due
none_next : (part : Part) (now : ℕ) → next_due part now ≡ None → find (is_due part now) part.marked ≡ None
none_next part now next = go (find (is_due part now) part.marked) refl next
  where
    by : (dev : DevId) (o : Option WalkId) → is_due_by part now o ≡ true → with_walk dev o ≡ None → ⊥
    by dev None e k = cc
    by dev (Some walk) e k = cc

    go : (o : Option (DevId × Marking)) → find (is_due part now) part.marked ≡ o → walk_of_row now o ≡ None → find (is_due part now) part.marked ≡ None
    go None e k = e
    go (Some row) e k = absurd (by row.0 (ended_walk now row.1.frozen) (found_due part now row part.marked e) k)

-- ---- one after the other

pub hardens_none : (old : Thread) (before : Links) → next_due old.part old.time.moment ≡ None → Hardens old before old before false
hardens_none old before none = subst (λ (o : Option (DevId × WalkId)). HardensBy o old before old before false) (sym none) (refl, refl, refl)

pub hardens_so : (old : Thread) (before : Links) (middle : Thread) (shared : Links) (new : Thread) (after : Links) (due : DevId × WalkId)
    → next_due old.part old.time.moment ≡ Some due
    → IsHardened due.1 old before middle shared
    → StopsAll due.0 (Frozen due.0) middle shared new after
    → Hardens old before new after true
hardens_so old before middle shared new after due next is stops =
    subst (λ (o : Option (DevId × WalkId)). HardensBy o old before new after true) (sym next) (refl, record { middle = middle; shared = shared; first = is; second = stops })

pub hardens_idle : (old : Thread) (before : Links) (new : Thread) (after : Links) (done : Bool) → Hardens old before new after done → Idles NoDue old before new after
hardens_idle old before new after done h few = go (next_due old.part old.time.moment) refl h
  where
    go : (o : Option (DevId × WalkId)) → next_due old.part old.time.moment ≡ o → HardensBy o old before new after done → IsIdle NoDue old before new after
    go None e k = record { thread = k.1; links = k.2; waits = none_due old.part old.time.moment (none_next old.part old.time.moment e) }
    go (Some due) e k =
        absurd (more old.me before k.1.shared (acts.Due due.1 old.time.moment) (ap (λ (l : Links). l.entries) k.1.first.links) (omega (arith, few, all_grows due.0 (Frozen due.0) k.1.middle k.1.shared new after k.1.second)))

-- a thread that has marks of no device has none that may become hard
pub none_marked : (t : Thread) (links : Links) → (0 < length t.part.marked → NoDue t links) → NoDue t links
none_marked t links some = none_due t.part t.time.moment (go t.part.marked refl)
  where
    go : (rows : List (DevId × Marking)) → t.part.marked ≡ rows → find (is_due t.part t.time.moment) t.part.marked ≡ None
    go [] e = ap (find (is_due t.part t.time.moment)) e
    go (row ∷ rows) e = none_found t.part.marked (some (omega (arith, ap length e)))
      where
        row_not : NoDue t links → (x : DevId × Marking) → is_due t.part t.time.moment x ≡ false
        row_not none x = by (ended_walk t.time.moment x.1.frozen)
          where
            by : (o : Option WalkId) → is_due_by t.part t.time.moment o ≡ false
            by None = refl
            by (Some walk) = none walk

        none_found : (xs : List (DevId × Marking)) → NoDue t links → find (is_due t.part t.time.moment) xs ≡ None
        none_found [] none = refl
        none_found (x ∷ xs) none = ap (λ b. cond b (Some x) (find (is_due t.part t.time.moment) xs)) (row_not none x) ∙ none_found xs none
