-- Where a thread waits but for what it would ask the registry, and doesn't want that, it waits altogether.
use Rattle.std.proofs.Common.{◌≡◌, ◌⊎◌, inl, inr, ℕ, zero, suc, ◌+◌, ◌<◌, ◌≤◌, ◌^◌, Bool, true, false, cond, not, ◌&&◌, ◌||◌, ◌==◌, nat_lt, List, [], ◌∷◌, length, find, Option, Some, None, is_some, refl, ◌∙◌, ap, subst, eqb-true, arith}
use Rattle.std.specs.List.{list_any, range_with_len}
use Rattle.std.proofs.lemmas.Bool.{cases_lt}
use Rattle.bd_base.specs.declared.event.RegEvent.TheVariants as events
use Rattle.bd_base.specs.declared.id.HandleId.{HandleId}
use Rattle.bd_base.specs.declared.job.Job.{Job}
use Rattle.bd_base.specs.declared.job.Job.TheVariants as jobs
use Rattle.bd_machine.specs.declared.state.Between.TheVariants.{Closing}
use Rattle.bd_machine.specs.declared.state.Handle.{Handle}
use Rattle.bd_machine.specs.declared.state.Owed.{Owed}
use Rattle.bd_machine.specs.declared.state.Owed.TheVariants as owes
use Rattle.bd_machine.specs.Asked.{bound_to, is_handle_on, open_on, is_job_close}
use Rattle.bd_machine.specs.Admission.{is_gone}
use Rattle.bd_machine.specs.BlockMap.{row_of}
use Rattle.bd_machine.specs.Registry.{handle_of, is_live}
use Rattle.bd_machine.specs.Same.{same_handle}
use Rattle.bd_machine.specs.Users.{is_base_handle}
use Rattle.bd_steps.specs.Asking.{asks_registry, is_base_if_any, is_live_at}
use Rattle.bd_steps.specs.Duties.{duty_of, growth_of, is_duty, is_growth, is_pending, removal_of}
use Rattle.bd_touched.specs.Reach.{Touches}
use Rattle.bd_thread.specs.Looking.{LooksAt}
use Rattle.bd_thread.specs.declared.links.Links.{Links}
use Rattle.bd_thread.specs.declared.thread.Thread.{Thread}
use Rattle.bd_thread.specs.Duties.{NoDuty}
use Rattle.bd_thread.specs.Endings.{left_on}
use Rattle.bd_thread.specs.Growing.{if_growable}
use Rattle.bd_thread.specs.Lines.{change_of, claim_of, close_of, handle_if_any, if_asked, if_closable, job_now, may_ask, may_ask_after, may_close, open_of}
use Rattle.bd_thread.specs.Seen.{view_of}
use Rattle.bd_thread.specs.Waits.{IsWaiting, NoHandle, NoLine, NoRemoval}
use Rattle.bd_thread.specs.Work.{has_calls, has_left, has_removal, is_left_at, is_some_left, wants_registry, IsWaitingAlone}
use Rattle.bd_thread.proofs.Leftovers.{found_is, no_removal_beyond, none_left}
use Rattle.bd_thread.proofs.Waiting.{line_waits}

-- ---- by parts

true_false : {Q : Type 0} → true ≡ false → Q
true_false h = cc

-- neither of two
neither : (a b : Bool) → a || b ≡ false → (a ≡ false) × (b ≡ false)
neither true b h = true_false h
neither false b h = (refl, h)

none_of : {X : Type 0} (o : Option X) → is_some o ≡ false → o ≡ None
none_of None h = refl
none_of (Some x) h = true_false h

-- none passes, so none is found
none_found : {X : Type 0} (is : X → Bool) (xs : List X) → list_any is xs ≡ false → find is xs ≡ None
none_found is [] h = refl
none_found is (x ∷ xs) h = let parts = neither (is x) (list_any is xs) h in ap (λ b. cond b (Some x) (find is xs)) parts.0 ∙ none_found is xs parts.1

-- of the first numbers none passes
none_at : (is : ℕ → Bool) (from count n : ℕ) → list_any is (range_with_len from count) ≡ false → from ≤ n → n < from + count → is n ≡ false
none_at is from zero n h low high = absurd (omega (arith, low, high))
none_at is from (suc count) n h low high =
    let parts : (is from ≡ false) × (list_any is (range_with_len (from + 1) count) ≡ false) = neither (is from) (list_any is (range_with_len (from + 1) count)) h in
    go parts.0 (λ less. none_at is (from + 1) count n parts.1 (omega (arith, less)) (omega (arith, high))) (cases_lt from n)
  where
    go : is from ≡ false → (from < n → is n ≡ false) → (from < n) ⊎ (n ≤ from) → is n ≡ false
    go first rest (inl less) = rest less
    go first rest (inr more) = let same : from ≡ n = omega (arith, low, more) in subst (λ (m : ℕ). is m ≡ false) same first

-- ---- what it owes, and what is left

-- none passes, so none passes that has to
none_so : {X : Type 0} (also is : X → Bool) → ((x : X) → also x ≡ false → is x ≡ false) → (xs : List X) → list_any also xs ≡ false → list_any is xs ≡ false
none_so also is so [] h = refl
none_so also is so (x ∷ xs) h =
    let parts = neither (also x) (list_any also xs) h in
    ap (λ b. b || list_any is xs) (so x parts.0) ∙ none_so also is so xs parts.1

-- what isn't pending is neither done by an event nor a growth
no_event : (owed : Owed) → is_pending owed ≡ false → is_duty owed ≡ false
no_event (owes.Destruct dev) h = refl
no_event (owes.Grow dev blocks) h = refl
no_event (owes.Drop dev) h = h
no_event (owes.Put dev) h = h
no_event (owes.Close id) h = h
no_event (owes.Remove dev) h = h
no_event (owes.Report dev) h = h
no_event (owes.EndResize dev) h = h

no_growth : (owed : Owed) → is_pending owed ≡ false → is_growth owed ≡ false
no_growth (owes.Destruct dev) h = refl
no_growth (owes.Grow dev blocks) h = h
no_growth (owes.Drop dev) h = refl
no_growth (owes.Put dev) h = refl
no_growth (owes.Close id) h = refl
no_growth (owes.Remove dev) h = refl
no_growth (owes.Report dev) h = refl
no_growth (owes.EndResize dev) h = refl

no_duty : (t : Thread) (links : Links) → list_any is_pending t.part.owed ≡ false → NoDuty t links
no_duty t links h = record {
  growth = ap (λ (o : Option Owed). if_growable t links (growth_of o)) (none_found is_growth t.part.owed (none_so is_pending is_growth no_growth t.part.owed h));
  event = ap (λ (o : Option Owed). if_asked t links (duty_of t.setup.now o)) (none_found is_duty t.part.owed (none_so is_pending is_duty no_event t.part.owed h));
}

no_handle : (t : Thread) (links : Links) → has_left t links (length t.setup.now.devices) ≡ false → NoHandle t links
no_handle t links h dev known less = go (length t.part.gone == 0) refl h
  where
    go : (none : Bool) → (length t.part.gone == 0) ≡ none → not none && list_any (is_left_at t links) (range_with_len 0 (length t.setup.now.devices)) ≡ false → left_on dev t links ≡ None
    go true e k = none_left dev t links (eqb-true (length t.part.gone) 0 e)
    go false e k = none_of (left_on dev t links) (none_at (is_left_at t links) 0 (length t.setup.now.devices) dev.0 k (omega arith) (omega (arith, known)))

no_removal : (t : Thread) (links : Links) → has_removal t links (length t.setup.now.devices) ≡ false → NoRemoval t links
no_removal t links h dev from = go (cases_lt dev.0 (length t.setup.now.devices))
  where
    live : (shut first : Bool)
        → shut && first && list_any (is_live_at links.registry.state) (range_with_len 0 (length t.setup.now.devices)) ≡ false
        → dev.0 < length t.setup.now.devices
        → if_asked t links (cond (shut && first && is_live links.registry.state dev) (removal_of (row_of t.setup.now dev)) None) ≡ None
    live true true k less =
        ap (λ b. if_asked t links (cond b (removal_of (row_of t.setup.now dev)) None)) (none_at (is_live_at links.registry.state) 0 (length t.setup.now.devices) dev.0 k (omega arith) (omega (arith, less)))
    live true false k less = refl
    live false first k less = refl

    go : (dev.0 < length t.setup.now.devices) ⊎ (length t.setup.now.devices ≤ dev.0) → if_asked t links (cond (links.shut && (t.me == 0) && is_live links.registry.state dev) (removal_of (row_of t.setup.now dev)) None) ≡ None
    go (inl less) = live links.shut (t.me == 0) h less
    go (inr more) = no_removal_beyond t links dev more

-- ---- the next line

-- a base handle isn't closed by a line
base_stays : (t : Thread) (links : Links) (h : Handle) → is_base_handle t.setup.now h.id ≡ true → may_close t links h ≡ false
base_stays t links h base =
    let v = view_of t links in
    second (may_ask t links (events.PutChannel h.dev true)) (may_ask_after t links (Some (Closing t.me h.dev)) (events.Close h.id))
    (second (t.me == t.me) (is_handle_on h.dev (handle_of v.handles h.id) && closes)
    (second (is_handle_on h.dev (handle_of v.handles h.id)) closes
    (ap (λ b. not b && is_some (handle_of v.handles h.id) && (open_on t.part h.id == 0) && (is_gone t.part h.id || is_job_close t.part h.id (job_now t links))) base)))
  where
    closes : Bool
    closes = not (is_base_handle t.setup.now h.id) && is_some (handle_of (view_of t links).handles h.id) && (open_on t.part h.id == 0) && (is_gone t.part h.id || is_job_close t.part h.id (job_now t links))

    second : (a b : Bool) → b ≡ false → a && b ≡ false
    second true b e = e
    second false b e = refl

unclosed : (t : Thread) (links : Links) (o : Option HandleId) → not (is_base_if_any t.setup.now o) ≡ false → if_closable t links (handle_if_any (view_of t links).handles o) ≡ None
unclosed t links None h = refl
unclosed t links (Some id) h = go (handle_of (view_of t links).handles id) refl
  where
    based : (b : Bool) → not b ≡ false → b ≡ true
    based true e = refl
    based false e = true_false e

    go : (own : Option Handle) → handle_of (view_of t links).handles id ≡ own → if_closable t links own ≡ None
    go None e = refl
    go (Some x) e =
        let exact : x.id ≡ id = ap (λ (n : ℕ). let i : HandleId = record { 0 = n } in i) (eqb-true x.id.0 id.0 (found_is (λ y. same_handle y.id id) (view_of t links).handles x e)) in
        ap (λ b. cond b (Some x) None) (base_stays t links x (ap (is_base_handle t.setup.now) exact ∙ based (is_base_handle t.setup.now id) h))

-- a line that doesn't ask the registry
unasked : (t : Thread) (links : Links) (job : Option Job)
    → asks_registry t.setup.now t.part job ≡ false
    → (if_asked t links (open_of job) ≡ None)
    × (if_closable t links (handle_if_any (view_of t links).handles (close_of t.part job)) ≡ None)
    × (if_asked t links (claim_of t.part job) ≡ None)
    × (if_asked t links (change_of job) ≡ None)
unasked t links None h = (refl, refl, refl, refl)
unasked t links (Some (jobs.Open handle dev write)) h = true_false h
unasked t links (Some (jobs.Close handle)) h = (refl, unclosed t links (bound_to t.part handle) h, refl, refl)
unasked t links (Some (jobs.Claim handle kind)) h = true_false h
unasked t links (Some (jobs.Remove dev)) h = true_false h
unasked t links (Some (jobs.Submit handle op lba count)) h = (refl, refl, refl, refl)
unasked t links (Some jobs.Wait) h = (refl, refl, refl, refl)
unasked t links (Some (jobs.Sleep time)) h = (refl, refl, refl, refl)
unasked t links (Some (jobs.Post mark)) h = (refl, refl, refl, refl)
unasked t links (Some (jobs.Await mark)) h = (refl, refl, refl, refl)
unasked t links (Some (jobs.Gone handle)) h = (refl, refl, refl, refl)
unasked t links (Some (jobs.Resize dev blocks)) h = true_false h
unasked t links (Some (jobs.Sized handle blocks)) h = (refl, refl, refl, refl)

-- ---- altogether

pub nothing_else_waits : (touched : Touches) (t : Thread) (links : Links) → IsWaitingAlone (LooksAt touched) t links → wants_registry t links ≡ false → NoLine t links × IsWaiting (LooksAt touched) t links
nothing_else_waits touched t links alone unwanted =
    let count : ℕ = length t.setup.now.devices in
    let following : Bool = is_some links.registry.state.between in
    let owing : Bool = list_any is_pending t.part.owed in
    let asking : Bool = asks_registry t.setup.now t.part (job_now t links) in
    let one = neither (following || owing || has_calls t || asking) (is_some_left t links count) unwanted in
    let two = neither (following || owing || has_calls t) asking one.0 in
    let noted = neither (following || owing) (has_calls t) two.0 in
    let three = neither following owing noted.0 in
    let four = counted (nat_lt count (2 ^ 32)) one.1 in
    let asks = unasked t links (job_now t links) two.1 in
    let line : NoLine t links = record { opening = asks.0; closing = asks.1; claiming = asks.2; changing = asks.3; submission = alone.line.submission; outcome = alone.line.outcome } in (
      line,
      record {
        message = alone.message;
        refusal = alone.refusal;
        retry = alone.retry;
        duty = no_duty t links three.1;
        piece = alone.piece;
        mark = alone.mark;
        limit = alone.limit;
        walk = alone.walk;
        line = line_waits t links line;
        left = record { removal = no_removal t links four.1; own = record { handle = no_handle t links four.0; device = alone.device } };
        outbox = alone.outbox;
        due = alone.due;
        request = alone.request;
        call = λ looked free. alone.call looked noted.1;
      },
    )
  where
    counted : (few : Bool) → cond few (has_left t links (length t.setup.now.devices) || has_removal t links (length t.setup.now.devices)) true ≡ false → (has_left t links (length t.setup.now.devices) ≡ false) × (has_removal t links (length t.setup.now.devices) ≡ false)
    counted true h = neither (has_left t links (length t.setup.now.devices)) (has_removal t links (length t.setup.now.devices)) h
    counted false h = true_false h
