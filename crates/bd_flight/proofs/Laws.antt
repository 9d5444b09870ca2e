-- The laws of the next step: what it answers the rules let the request do, and where it waits they let it do nothing.
use Rattle.std.proofs.Common.{◌≡◌, ℕ, Bool, true, false, cond, not, ◌&&◌, ◌==◌, List, [], ◌∷◌, find, Option, Some, None, is_some, is_none, option_map, slice_get, refl, sym, ◌∙◌, ap, subst, eq-eqb}
use Rattle.std.proofs.lemmas.Bool.{and_from, and_parts}
use Rattle.bd_base.specs.declared.id.DevId.{DevId}
use Rattle.bd_base.specs.declared.id.ReqId.{ReqId}
use Rattle.bd_base.specs.declared.request.AbortCause.{AbortCause}
use Rattle.bd_base.specs.declared.request.Decision.{Decision}
use Rattle.bd_base.specs.declared.request.Status.{Status}
use Rattle.bd_base.specs.declared.request.Status.TheVariants.{Success, Failed, Aborted}
use Rattle.bd_base.specs.declared.setup.Setup.{Setup}
use Rattle.bd_machine.specs.declared.state.OpenRequest.{OpenRequest}
use Rattle.bd_machine.specs.Aborts.{may_abort}
use Rattle.bd_machine.specs.Admission.{has_range}
use Rattle.bd_machine.specs.Injections.{errors_below, goes_on, has_every_decision, is_fail, is_pend, is_under_way}
use Rattle.bd_machine.specs.Kept.{is_at_own, request_here}
use Rattle.bd_machine.specs.Limits.{next_limited}
use Rattle.bd_machine.specs.Marks.{is_marked}
use Rattle.bd_machine.specs.Requests.{may_cut}
use Rattle.bd_machine.specs.Same.{is_the, same_dev, same_op}
use Rattle.bd_machine.specs.View.{View}
use Rattle.bd_flight.specs.declared.next.Step.{Step}
use Rattle.bd_flight.specs.declared.next.Step.TheVariants as steps
use Rattle.bd_flight.specs.Due.{abort_due, decision_due, end_due, limit_due, may_ask, may_be_held, may_end, may_go_to, may_stop, where_holds}
use Rattle.bd_flight.specs.Next.{first_step, is_abort, is_mark, is_wait, may_take, may_take_here, may_take_of, next_step, step_if, step_of, steps_due, way_due}
use Rattle.bd_flight.proofs.Completing.{end_found, fresh_goes_on, IsFresh, no_end}
use Rattle.bd_flight.proofs.Marks.{due_is_stop, held_where, IsStop, one_of, same_one, stop_is_due, unmarked}

-- ---- the first of some steps

-- P of each step that there is
abbrev Each : (Step → Type 0) → List (Option Step) → Type 0
Each P [] = Unit {0}
Each P (o ∷ os) = ((s : Step) → o ≡ Some s → P s) × Each P os

first_holds : (P : Step → Type 0) (os : List (Option Step)) → Each P os → P steps.Wait → P (first_step os)
first_holds P [] each wait = wait
first_holds P (None ∷ os) each wait = first_holds P os each.1 wait
first_holds P (Some s ∷ os) each wait = each.0 s refl

abbrev AllNone : List (Option Step) → Type 0
AllNone [] = Unit {0}
AllNone (o ∷ os) = (o ≡ None) × AllNone os

-- where the first of them is to wait, and none of them says that, there is none
none_first : (os : List (Option Step)) → Each (λ s. is_wait s ≡ false) os → first_step os ≡ steps.Wait → AllNone os
none_first [] each h = tt
none_first (None ∷ os) each h = (refl, none_first os each.1 h)
none_first (Some s ∷ os) each h = let f : true ≡ false = sym (ap is_wait h) ∙ each.0 s refl in cc

mapped : {X : Type 0} (P : Step → Type 0) (step : X → Step) (o : Option X) → ((x : X) → o ≡ Some x → P (step x)) → (s : Step) → option_map step o ≡ Some s → P s
mapped P step None each s h = cc
mapped P step (Some x) each s h = subst P (one_of (step x) s h) (each x refl)

tested : (P : Step → Type 0) (may : Bool) (step : Step) → (may ≡ true → P step) → (s : Step) → step_if may step ≡ Some s → P s
tested P true step each s h = subst P (one_of step s h) (each refl)
tested P false step each s h = cc

unmapped : {X : Type 0} (step : X → Step) (o : Option X) → option_map step o ≡ None → o ≡ None
unmapped step None h = refl
unmapped step (Some x) h = cc

untested : (may : Bool) (step : Step) → step_if may step ≡ None → may ≡ false
untested true step h = cc
untested false step h = refl

abort_first : (o : Option AbortCause) (os : List (Option Step)) → is_some o ≡ true → is_abort (first_step (option_map steps.Abort o ∷ os)) ≡ true
abort_first None os h = cc
abort_first (Some c) os h = refl

-- ---- tests

found_passes : {X : Type 0} (is : X → Bool) (xs : List X) (x : X) → find is xs ≡ Some x → is x ≡ true
found_passes is [] x h = cc
found_passes is (y ∷ ys) x h = by_test (is y) refl h (found_passes is ys x)
  where
    by_test : (b : Bool) → is y ≡ b → cond b (Some y) (find is ys) ≡ Some x → (find is ys ≡ Some x → is x ≡ true) → is x ≡ true
    by_test true e h rest = subst (λ z. is z ≡ true) (one_of y x h) e
    by_test false e h rest = rest h

none_unless : {X : Type 0} (o : Option X) → ((x : X) → o ≡ Some x → false ≡ true) → o ≡ None
none_unless None h = refl
none_unless (Some x) h = let f = h x refl in cc

none_is : {X : Type 0} (o : Option X) → o ≡ None → is_some o ≡ true → false ≡ true
none_is o none some = sym (ap is_some none) ∙ some

kept_where : {X : Type 0} (is : X → Bool) (o : Option X) (x : X) → o ≡ Some x → is x ≡ true → where_holds is o ≡ Some x
kept_where is o x found may = ap (where_holds is) found ∙ ap (λ (b : Bool). cond b (Some x) None) may

the_found : (dev : DevId) (o : Option DevId) → is_the same_dev dev o ≡ true → o ≡ Some dev
the_found dev None h = cc
the_found dev (Some d) h = ap (λ (x : DevId). Some x) (sym (same_one dev d h))

found_the : (dev : DevId) (o : Option DevId) → o ≡ Some dev → is_the same_dev dev o ≡ true
found_the dev o h = ap (is_the same_dev dev) h ∙ eq-eqb dev.0 dev.0 refl

not_false : (b : Bool) → not b ≡ true → b ≡ false
not_false true h = cc
not_false false h = refl

going_passes : (d : Decision) → goes_on d ≡ true → is_fail d ≡ false
going_passes d h = let w = and_parts (not (is_pend d)) (not (is_fail d)) h in not_false _ w.1

module _ (setup : Setup) (t : ℕ) (v : View) (req : ReqId) (r : OpenRequest) where
  -- ---- what is answered, the rules let it do

  abbrev IsLet : Step → Type 0
  IsLet s = may_take_here setup t v req r s ≡ true

  stop_let : (c : AbortCause) → abort_due setup t v req r ≡ Some c → IsLet (steps.Abort c)
  stop_let c h =
      let s = due_is_stop setup t v req r c h in
      and_from (is_mark c && is_none r.pieces) (may_stop setup t v req (Some r) c) (and_from (is_mark c) (is_none r.pieces) s.mark s.uncut) s.may

  end_let : (s : Status) → end_due setup t v req r ≡ Some s → IsLet (steps.Complete s)
  end_let s h = found_passes (may_end setup t v req (Some r)) (Failed ∷ Aborted ∷ Success ∷ []) s h

  limit_let : (d : DevId) → limit_due setup t req r ≡ Some d → IsLet (steps.Limit d)
  limit_let d h = let w = held_where (may_go_to setup t req r) (next_limited setup r) d h in and_from _ (may_go_to setup t req r d) (found_the d _ w.0) w.1

  ask_let : (d : DevId) → decision_due setup t v req r ≡ Some d → IsLet (steps.Inject d)
  ask_let d h = let w = held_where (may_ask setup t v req r) (slice_get (errors_below setup r.dev) r.injected.count) d h in w.1

  each_let : Each IsLet (steps_due setup t v req r)
  each_let = (
    mapped IsLet steps.Abort _ stop_let,
    (
      mapped IsLet steps.Complete _ end_let,
      (
        tested IsLet _ steps.Cut (λ h. h),
        (
          tested IsLet _ steps.Hold (λ h. h),
          (
            mapped IsLet steps.Limit _ limit_let,
            (
              mapped IsLet steps.Inject _ ask_let,
              (tested IsLet _ steps.Pend (λ h. h), tt),
            ),
          ),
        ),
      ),
    ),
  )

  here_let : IsLet (first_step (steps_due setup t v req r))
  here_let = first_holds IsLet (steps_due setup t v req r) each_let refl

  -- ---- where the rules let it do that, it is answered

  stopped_is_fresh : (c : AbortCause) → IsStop setup t v req r c → IsFresh setup t v req r
  stopped_is_fresh c s =
      let m = and_parts (may_abort v req (Some r)) _ s.may in
      let a = and_parts (has_range r.op && is_none r.aborted && not (is_fail r.injected.last)) _ m.0 in
      let b = and_parts (has_range r.op && is_none r.aborted) _ a.0 in
      let d = and_parts (has_range r.op) _ b.0 in
      record { range = d.0; uncut = s.uncut; whole = d.1; passed = not_false _ b.1 }

  stop_of : (c : AbortCause) → IsLet (steps.Abort c) → IsStop setup t v req r c
  stop_of c h =
      let w = and_parts (is_mark c && is_none r.pieces) (may_stop setup t v req (Some r) c) h in
      let u = and_parts (is_mark c) (is_none r.pieces) w.0 in
      record { mark = u.0; uncut = u.1; may = w.1 }

  stop_here : (c : AbortCause) → IsLet (steps.Abort c) → is_abort (first_step (steps_due setup t v req r)) ≡ true
  stop_here c h = abort_first (abort_due setup t v req r) _ (stop_is_due setup t v req r c (stop_of c h))

  -- what comes after the abort and the completion, in their order
  abbrev later : List (Option Step)
  later = step_if (may_cut setup t v req (Some r)) steps.Cut ∷ step_if (may_be_held setup t v req (Some r)) steps.Hold ∷ way_due setup t v req r

  no_stop_at_end : (s : Status) → may_end setup t v req (Some r) s ≡ true → abort_due setup t v req r ≡ None
  no_stop_at_end s h = none_unless _ (λ c e. sym (fresh_goes_on setup t v req r (stopped_is_fresh c (due_is_stop setup t v req r c e)) s) ∙ h)

  end_here : (s : Status) → IsLet (steps.Complete s) → first_step (steps_due setup t v req r) ≡ steps.Complete s
  end_here s h =
      ap (λ (o : Option AbortCause). first_step (option_map steps.Abort o ∷ option_map steps.Complete (end_due setup t v req r) ∷ later)) (no_stop_at_end s h)
      ∙ ap (λ (o : Option Status). first_step (option_map steps.Complete o ∷ later)) (sym (end_found setup t v req r s h))

  cut_here : IsLet steps.Cut → first_step (steps_due setup t v req r) ≡ steps.Cut
  cut_here h =
      let way = and_parts (is_under_way setup t v req r) (has_every_decision setup r) h in
      let g = and_parts (is_at_own t req r && has_range r.op && is_none r.pieces && is_none r.aborted && not (is_marked setup v.part r) && is_none (next_limited setup r)) (goes_on r.injected.last) way.0 in
      let n = and_parts (is_at_own t req r && has_range r.op && is_none r.pieces && is_none r.aborted && not (is_marked setup v.part r)) (is_none (next_limited setup r)) g.0 in
      let m = and_parts (is_at_own t req r && has_range r.op && is_none r.pieces && is_none r.aborted) (not (is_marked setup v.part r)) n.0 in
      let a = and_parts (is_at_own t req r && has_range r.op && is_none r.pieces) (is_none r.aborted) m.0 in
      let p = and_parts (is_at_own t req r && has_range r.op) (is_none r.pieces) a.0 in
      let o = and_parts (is_at_own t req r) (has_range r.op) p.0 in
      let fresh : IsFresh setup t v req r = record { range = o.1; uncut = p.1; whole = a.1; passed = going_passes r.injected.last g.1 } in
      ap (λ (o : Option AbortCause). first_step (option_map steps.Abort o ∷ option_map steps.Complete (end_due setup t v req r) ∷ later)) (unmarked setup t v req r (not_false _ m.1))
      ∙ ap (λ (o : Option Status). first_step (option_map steps.Complete o ∷ later)) (sym (no_end setup t v req r (fresh_goes_on setup t v req r fresh)))
      ∙ ap (λ (b : Bool). first_step (step_if b steps.Cut ∷ step_if (may_be_held setup t v req (Some r)) steps.Hold ∷ way_due setup t v req r)) h

  each_busy : Each (λ s. is_wait s ≡ false) (steps_due setup t v req r)
  each_busy = (
    mapped _ steps.Abort _ (λ c e. refl),
    (
      mapped _ steps.Complete _ (λ s e. refl),
      (
        tested _ _ steps.Cut (λ h. refl),
        (
          tested _ _ steps.Hold (λ h. refl),
          (
            mapped _ steps.Limit _ (λ d e. refl),
            (
              mapped _ steps.Inject _ (λ d e. refl),
              (tested _ _ steps.Pend (λ h. refl), tt),
            ),
          ),
        ),
      ),
    ),
  )

  wait_here : first_step (steps_due setup t v req r) ≡ steps.Wait → (s : Step) → IsLet s → s ≡ steps.Wait
  wait_here wait (steps.Abort c) h = let f : false ≡ true = sym (ap is_abort wait) ∙ stop_here c h in cc
  wait_here wait (steps.Complete s) h = let f : steps.Complete s ≡ steps.Wait = sym (end_here s h) ∙ wait in cc
  wait_here wait steps.Cut h = let f : steps.Cut ≡ steps.Wait = sym (cut_here h) ∙ wait in cc
  wait_here wait steps.Hold h =
      let n = none_first (steps_due setup t v req r) each_busy wait in
      let f : false ≡ true = sym (untested _ steps.Hold n.1.1.1.0) ∙ h in cc
  wait_here wait (steps.Limit d) h =
      let n = none_first (steps_due setup t v req r) each_busy wait in
      let w = and_parts (is_the same_dev d (next_limited setup r)) (may_go_to setup t req r d) h in
      let there : limit_due setup t req r ≡ Some d = kept_where (may_go_to setup t req r) _ d (the_found d _ w.0) w.1 in
      let f : None ≡ Some d = sym (unmapped steps.Limit (limit_due setup t req r) n.1.1.1.1.0) ∙ there in cc
  wait_here wait (steps.Inject d) h =
      let n = none_first (steps_due setup t v req r) each_busy wait in
      let w = and_parts (is_under_way setup t v req r && same_op r.op r.op && (r.injected.asked == r.injected.count)) (is_the same_dev d (slice_get (errors_below setup r.dev) r.injected.count)) h in
      let there : decision_due setup t v req r ≡ Some d = kept_where (may_ask setup t v req r) _ d (the_found d _ w.1) h in
      let f : None ≡ Some d = sym (unmapped steps.Inject (decision_due setup t v req r) n.1.1.1.1.1.0) ∙ there in cc
  wait_here wait steps.Pend h =
      let n = none_first (steps_due setup t v req r) each_busy wait in
      let f : false ≡ true = sym (untested _ steps.Pend n.1.1.1.1.1.1.0) ∙ h in cc
  wait_here wait steps.Wait h = refl

-- ---- a request that is here, or isn't

module _ (setup : Setup) (t : ℕ) (v : View) (req : ReqId) where
  let_of : (here : Option OpenRequest) → may_take_of setup t v req (step_of setup t v req here) here ≡ true
  let_of None = refl
  let_of (Some r) = here_let setup t v req r

  stop_comes_of : (c : AbortCause) (here : Option OpenRequest) → may_take_of setup t v req (steps.Abort c) here ≡ true → is_abort (step_of setup t v req here) ≡ true
  stop_comes_of c None h = cc
  stop_comes_of c (Some r) h = stop_here setup t v req r c h

  end_comes_of : (s : Status) (here : Option OpenRequest) → may_take_of setup t v req (steps.Complete s) here ≡ true → step_of setup t v req here ≡ steps.Complete s
  end_comes_of s None h = cc
  end_comes_of s (Some r) h = end_here setup t v req r s h

  cut_comes_of : (here : Option OpenRequest) → may_take_of setup t v req steps.Cut here ≡ true → step_of setup t v req here ≡ steps.Cut
  cut_comes_of None h = cc
  cut_comes_of (Some r) h = cut_here setup t v req r h

  waits_of : (here : Option OpenRequest) → step_of setup t v req here ≡ steps.Wait → (s : Step) → may_take_of setup t v req s here ≡ true → s ≡ steps.Wait
  waits_of None wait s h = only_wait s h
    where
      only_wait : (s : Step) → is_wait s ≡ true → s ≡ steps.Wait
      only_wait steps.Wait h = refl
      only_wait (steps.Abort c) h = cc
      only_wait (steps.Complete s) h = cc
      only_wait steps.Cut h = cc
      only_wait steps.Hold h = cc
      only_wait (steps.Limit d) h = cc
      only_wait (steps.Inject d) h = cc
      only_wait steps.Pend h = cc
  waits_of (Some r) wait s h = wait_here setup t v req r wait s h

  -- the rules let the request take the step that is answered
  pub is_let : may_take setup t v req (next_step setup t v req) ≡ true
  is_let = let_of (request_here v req)

  -- where they let it be aborted by a mark before its cut, complete or be cut, that is answered
  pub stop_comes : (c : AbortCause) → may_take setup t v req (steps.Abort c) ≡ true → is_abort (next_step setup t v req) ≡ true
  stop_comes c h = stop_comes_of c (request_here v req) h

  pub end_comes : (s : Status) → may_take setup t v req (steps.Complete s) ≡ true → next_step setup t v req ≡ steps.Complete s
  end_comes s h = end_comes_of s (request_here v req) h

  pub cut_comes : may_take setup t v req steps.Cut ≡ true → next_step setup t v req ≡ steps.Cut
  cut_comes h = cut_comes_of (request_here v req) h

  -- where it waits, they let it do nothing else
  pub waits : next_step setup t v req ≡ steps.Wait → (s : Step) → may_take setup t v req s ≡ true → s ≡ steps.Wait
  waits wait s h = waits_of (request_here v req) wait s h
