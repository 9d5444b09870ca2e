-- The laws of whole runs.
use Rattle.std.proofs.Common.{◌≡◌, ℕ, ◌+◌, ◌<◌, ◌≤◌, not, ◌⊎◌, inl, inr, List, [], ◌∷◌, ◌++◌, Option, Some, None, refl, sym, ◌∙◌, ap, subst, arith}
use Rattle.std.proofs.lemmas.Bool.{cases_eq}
use Rattle.bd_base.specs.declared.id.ReqId.{ReqId}
use Rattle.bd_base.specs.declared.act.Entry.{Entry}
use Rattle.bd_base.specs.declared.setup.Setup.{Setup}
use Rattle.bd_machine.specs.declared.state.Id.TheVariants.{Request}
use Rattle.bd_machine.specs.declared.state.Part.{Part}
use Rattle.bd_machine.specs.declared.state.Place.{Place}
use Rattle.bd_machine.specs.declared.state.Place.TheVariants.{At, Ring, Nowhere}
use Rattle.bd_machine.specs.declared.state.State.{State}
use Rattle.bd_machine.specs.declared.state.Tracked.{Tracked}
use Rattle.bd_machine.specs.Content.{Told}
use Rattle.bd_machine.specs.Laws.{PrefixIsRun, StepIsDetermined, ContentChangesAtHome, CompletedStaysClosed, EachIsCompletedOnce, EachIsDestructedOnce, OwnViewFollows, OtherViewsStay, AllOn, is_accept_of, is_complete_of, count_of, one_if, stored, stored_at}
use Rattle.bd_machine.specs.Placement.{place_of}
use Rattle.bd_machine.specs.Rest.{is_nowhere}
use Rattle.bd_machine.specs.Run.{IsRun, IsRunFrom, after_all, state_after}
use Rattle.bd_machine.specs.Same.{same_id}
use Rattle.bd_machine.specs.Start.{start}
use Rattle.bd_machine.specs.Step.{IsAllowed, after, change_in}
use Rattle.bd_machine.specs.Table.{look_up}
use Rattle.bd_machine.specs.View.{Change, view, came_for}
use Rattle.bd_machine.proofs.Acts.{IsFresh}
use Rattle.bd_machine.proofs.Complete.{fresh_start, balance, accepts_once, completed_as_accepted, accepted_on_own, completed_on_own, destructed_once}
use Rattle.bd_machine.proofs.Laws.{part-own, part-other, view-own}
use Rattle.bd_machine.proofs.Acts.{open_if, open_now}
use Rattle.bd_machine.proofs.Meaning.{content_stays}
use Rattle.bd_machine.proofs.Steps.{allowed_thread, fresh_after, frame}

prefix_from : (setup : Setup) (s : State) (es fs : List Entry) → IsRunFrom setup s (es ++ fs) → IsRunFrom setup s es
prefix_from setup s [] fs run = tt
prefix_from setup s (e ∷ es) fs run = (run.0, prefix_from setup (after setup s e) es fs run.1)

pub prefix_is_run : PrefixIsRun
prefix_is_run setup told es fs run = prefix_from setup (start setup told) es fs run

pub step_is_determined : StepIsDetermined
step_is_determined setup s e s1 s2 a b = a.1 ∙ sym b.1

pub content_changes_at_home : ContentChangesAtHome
unfolding after
content_changes_at_home setup s e allowed still t = go (cases_eq e.thread t)
  where
    change_of : Change
    change_of = change_in setup s e.thread e.act

    own : stored_at (after setup s e) e.thread ≡ stored_at s e.thread
    own = ap (λ (p : Part). stored p.bases) (part-own setup s e (change_in setup s e.thread e.act) (allowed_thread setup s e allowed))
        ∙ content_stays setup e.thread (view s e.thread) e.act (came_for setup s e.thread e.act) still

    go : (e.thread ≡ t) ⊎ (e.thread ≡ t → ⊥) → stored_at (after setup s e) t ≡ stored_at s t
    go (inl same) = subst (λ (u : ℕ). stored_at (after setup s e) u ≡ stored_at s u) same own
    go (inr ne) = ap (λ (p : Part). stored p.bases) (part-other setup s e (change_in setup s e.thread e.act) t ne)

closed_if : (o : Option Tracked) → open_if o ≡ 0 → place_of o ≡ Nowhere
closed_if None h = refl
closed_if (Some token) h = go token.place h
  where
    go : (p : Place) → one_if (not (is_nowhere p)) ≡ 0 → p ≡ Nowhere
    go (At t) h = cc
    go (Ring a b n) h = cc
    go Nowhere h = refl

pub completed_stays_closed : CompletedStaysClosed
completed_stays_closed setup told es r run some =
    closed_if (look_up same_id (state_after setup told es).tokens (Request r))
    (none (count_of (is_accept_of r) es) (count_of (is_complete_of r) es) (open_now (state_after setup told es).tokens r) (balance setup (start setup told) r es (fresh_start setup told) run) (accepts_once setup (start setup told) r es (fresh_start setup told) run) some)
  where
    none : (a c o : ℕ) → a + 0 ≡ c + o → a ≤ 1 → 0 < c → o ≡ 0
    none a c o h k l = omega arith

accepts_own : (setup : Setup) (s : State) (r : ReqId) (es : List Entry) → IsRunFrom setup s es → AllOn r.thread (is_accept_of r) es
accepts_own setup s r [] run = tt
accepts_own setup s r (e ∷ es) run = ((λ h. sym (accepted_on_own setup s e r run.0 h)), accepts_own setup (after setup s e) r es run.1)

completes_own : (setup : Setup) (s : State) (r : ReqId) (es : List Entry) → IsRunFrom setup s es → AllOn r.thread (is_complete_of r) es
completes_own setup s r [] run = tt
completes_own setup s r (e ∷ es) run = ((λ h. sym (completed_on_own setup s e r run.0 h)), completes_own setup (after setup s e) r es run.1)

pub each_is_completed_once : EachIsCompletedOnce
each_is_completed_once setup told es run r = record {
  accepted_at_most_once = accepts_once setup (start setup told) r es (fresh_start setup told) run.0;
  completed_as_accepted = completed_as_accepted setup told es run r;
  accepted_on_own = accepts_own setup (start setup told) r es run.0;
  completed_on_own = completes_own setup (start setup told) r es run.0;
}

pub each_is_destructed_once : EachIsDestructedOnce
each_is_destructed_once setup told es run n h = destructed_once setup told es run n h

pub own_view_follows : OwnViewFollows
unfolding after
own_view_follows setup s e allowed = view-own setup s e (change_in setup s e.thread e.act) (allowed_thread setup s e allowed)

-- ---- the last entry of a run

fresh_by : (setup : Setup) (s : State) (es : List Entry) → IsFresh s → IsRunFrom setup s es → IsFresh (after_all setup s es)
fresh_by setup s [] fresh run = fresh
fresh_by setup s (e ∷ es) fresh run = fresh_by setup (after setup s e) es (fresh_after setup s e fresh run.0) run.1

-- the ids of a run are fresh
pub fresh_run : (setup : Setup) (told : Told) (es : List Entry) → IsRun setup told es → IsFresh (state_after setup told es)
fresh_run setup told es run = fresh_by setup (start setup told) es (fresh_start setup told) run

pub last_allowed : (setup : Setup) (s : State) (es : List Entry) (e : Entry) → IsRunFrom setup s (es ++ e ∷ []) → IsAllowed setup (after_all setup s es) e
last_allowed setup s [] e run = run.0
last_allowed setup s (x ∷ es) e run = last_allowed setup (after setup s x) es e run.1

after_last : (setup : Setup) (s : State) (es : List Entry) (e : Entry) → after_all setup s (es ++ e ∷ []) ≡ after setup (after_all setup s es) e
after_last setup s [] e = refl
after_last setup s (x ∷ es) e = after_last setup (after setup s x) es e

pub other_views_stay : OtherViewsStay
other_views_stay setup told es e run t ne =
    ap (λ (s : State). view s t) (after_last setup (start setup told) es e)
    ∙ frame setup (state_after setup told es) e (fresh_run setup told es (prefix_is_run setup told es (e ∷ []) run)) (last_allowed setup (start setup told) es e run) t ne
