-- Where a request that has a range waits by what a thread sees, it waits by all that shows the same tokens of it and the same marks below it.
use Rattle.std.proofs.Common.{◌≡◌, ℕ, ◌+◌, Bool, true, false, cond, not, ◌&&◌, ◌||◌, ◌==◌, nat_le, min, List, [], ◌∷◌, find, map, Option, Some, None, is_none, is_some, option_map, slice_get, refl, sym, ◌∙◌, ap, ap₂, le-leb, eq-eqb, unwrap_or}
use Rattle.std.specs.List.{list_any, list_all, range_with_len}
use Rattle.std.proofs.Math.Nat.{min-le_right}
use Rattle.std.proofs.lemmas.Bool.{and_from, and_parts}
use Rattle.bd_base.specs.declared.id.DevId.{DevId}
use Rattle.bd_base.specs.declared.id.ReqId.{ReqId}
use Rattle.bd_base.specs.declared.request.AbortCause.{AbortCause}
use Rattle.bd_base.specs.declared.request.AbortCause.TheVariants.{Frozen, Removed}
use Rattle.bd_base.specs.declared.request.Op.{Op}
use Rattle.bd_base.specs.declared.request.Op.TheVariants as ops
use Rattle.bd_base.specs.declared.request.Status.{Status}
use Rattle.bd_base.specs.declared.request.Status.TheVariants.{Success, Failed, Aborted}
use Rattle.bd_base.specs.declared.setup.Setup.{Setup}
use Rattle.bd_flight.specs.declared.next.Step.{Step}
use Rattle.bd_flight.specs.declared.next.Step.TheVariants as steps
use Rattle.bd_flight.specs.Due.{abort_due, cause_at, decision_due, end_due, limit_due, mark_below, may_ask, may_be_held, may_end, may_stop, where_holds}
use Rattle.bd_flight.specs.Next.{first_step, is_wait, step_if, steps_due}
use Rattle.bd_flight.proofs.Marks.{found_is_in}
use Rattle.bd_machine.specs.declared.state.Id.TheVariants as ids
use Rattle.bd_machine.specs.declared.state.Marking.{Marking}
use Rattle.bd_machine.specs.declared.state.OpenPiece.{OpenPiece}
use Rattle.bd_machine.specs.declared.state.OpenRequest.{OpenRequest}
use Rattle.bd_base.specs.DevSet.{has_dev}
use Rattle.bd_machine.specs.Aborts.{is_below, is_cause, is_held, is_stoppable, may_abort}
use Rattle.bd_machine.specs.Admission.{has_range}
use Rattle.bd_machine.specs.BlockMap.{below}
use Rattle.bd_machine.specs.Completion.{is_back, is_done, pieces_of, waits_unsent}
use Rattle.bd_machine.specs.Delays.{is_before, is_delayed, is_served, last_moment, latency, may_hold}
use Rattle.bd_machine.specs.Injections.{errors_below, goes_on, has_every_decision, is_fail, is_under_way, may_pend}
use Rattle.bd_machine.specs.Kept.{as_piece, is_at_own, piece_here}
use Rattle.bd_machine.specs.Limits.{next_limited, way_of}
use Rattle.bd_machine.specs.Marks.{is_hard_mark, is_marked, is_removed, is_soft_mark, marking_of, stops_here}
use Rattle.bd_machine.specs.Requests.{is_walking, may_complete, may_cut}
use Rattle.bd_machine.specs.Same.{same_dev, same_op, is_the}
use Rattle.bd_machine.specs.Statuses.{is_delay_left, is_failed, is_status, is_success_due, may_be_status}
use Rattle.bd_machine.specs.Walks.{reset_of}
use Rattle.bd_machine.specs.View.{View}

-- ---- the steps that there are none of

-- by the rules there is nothing for the request to do
pub record Waits (setup : Setup) (t : ℕ) (v : View) (req : ReqId) (r : OpenRequest) : Type 0 where
  pub abort : abort_due setup t v req r ≡ None
  pub end : end_due setup t v req r ≡ None
  pub cut : may_cut setup t v req (Some r) ≡ false
  pub hold : may_be_held setup t v req (Some r) ≡ false
  pub limit : limit_due setup t req r ≡ None
  pub ask : decision_due setup t v req r ≡ None
  pub pend : may_pend t req (Some r) ≡ false

mapped_none : {X : Type 0} (f : X → Step) (o : Option X) (os : List (Option Step)) → ((x : X) → is_wait (f x) ≡ false) → is_wait (first_step (option_map f o ∷ os)) ≡ true
    → (o ≡ None) × (is_wait (first_step os) ≡ true)
mapped_none f None os plain h = (refl, h)
mapped_none f (Some x) os plain h = let e : false ≡ true = sym (plain x) ∙ h in cc

tested_none : (b : Bool) (s : Step) (os : List (Option Step)) → is_wait s ≡ false → is_wait (first_step (step_if b s ∷ os)) ≡ true → (b ≡ false) × (is_wait (first_step os) ≡ true)
tested_none false s os plain h = (refl, h)
tested_none true s os plain h = let e : false ≡ true = sym plain ∙ h in cc

-- where the next step is to wait, there is nothing to do
pub waits_for : (setup : Setup) (t : ℕ) (v : View) (req : ReqId) (r : OpenRequest) → is_wait (first_step (steps_due setup t v req r)) ≡ true → Waits setup t v req r
waits_for setup t v req r h =
    let abort = mapped_none steps.Abort (abort_due setup t v req r) _ (λ c. refl) h in
    let end = mapped_none steps.Complete (end_due setup t v req r) _ (λ s. refl) abort.1 in
    let cut = tested_none (may_cut setup t v req (Some r)) steps.Cut _ refl end.1 in
    let hold = tested_none (may_be_held setup t v req (Some r)) steps.Hold _ refl cut.1 in
    let limit = mapped_none steps.Limit (limit_due setup t req r) _ (λ d. refl) hold.1 in
    let ask = mapped_none steps.Inject (decision_due setup t v req r) _ (λ d. refl) limit.1 in
    let pend = tested_none (may_pend t req (Some r)) steps.Pend [] refl ask.1 in
    record { abort = abort.0; end = end.0; cut = cut.0; hold = hold.0; limit = limit.0; ask = ask.0; pend = pend.0 }

after_mapped : {X : Type 0} (f : X → Step) (o : Option X) (os : List (Option Step)) → o ≡ None → first_step (option_map f o ∷ os) ≡ first_step os
after_mapped f None os h = refl
after_mapped f (Some x) os h = cc

after_tested : (b : Bool) (s : Step) (os : List (Option Step)) → b ≡ false → first_step (step_if b s ∷ os) ≡ first_step os
after_tested false s os h = refl
after_tested true s os h = cc

-- where there is nothing to do, the next step is to wait
pub waits_so : (setup : Setup) (t : ℕ) (v : View) (req : ReqId) (r : OpenRequest) → Waits setup t v req r → first_step (steps_due setup t v req r) ≡ steps.Wait
waits_so setup t v req r w =
    after_mapped steps.Abort (abort_due setup t v req r) _ w.abort
    ∙ after_mapped steps.Complete (end_due setup t v req r) _ w.end
    ∙ after_tested (may_cut setup t v req (Some r)) steps.Cut _ w.cut
    ∙ after_tested (may_be_held setup t v req (Some r)) steps.Hold _ w.hold
    ∙ after_mapped steps.Limit (limit_due setup t req r) _ w.limit
    ∙ after_mapped steps.Inject (decision_due setup t v req r) _ w.ask
    ∙ after_tested (may_pend t req (Some r)) steps.Pend [] w.pend

-- ---- lists

-- a test of the devices in a list, as another one there
find_same : (p q : DevId → Bool) (xs : List DevId) → ((d : DevId) → list_any (same_dev d) xs ≡ true → q d ≡ p d) → find q xs ≡ find p xs
find_same p q [] same = refl
find_same p q (x ∷ xs) same =
    let first : q x ≡ p x = same x (ap (λ b. b || list_any (same_dev x) xs) (eq-eqb x.0 x.0 refl)) in
    let rest = find_same p q xs (λ d h. same d (later (same_dev d x) (list_any (same_dev d) xs) h)) in
    ap₂ (λ (b : Bool) (o : Option DevId). cond b (Some x) o) first rest
  where
    later : (a b : Bool) → b ≡ true → a || b ≡ true
    later true b h = refl
    later false b h = h

any_same : (p q : DevId → Bool) (xs : List DevId) → ((d : DevId) → list_any (same_dev d) xs ≡ true → q d ≡ p d) → list_any q xs ≡ list_any p xs
any_same p q [] same = refl
any_same p q (x ∷ xs) same =
    let first : q x ≡ p x = same x (ap (λ b. b || list_any (same_dev x) xs) (eq-eqb x.0 x.0 refl)) in
    let rest = any_same p q xs (λ d h. same d (later (same_dev d x) (list_any (same_dev d) xs) h)) in
    ap₂ (λ (a b : Bool). a || b) first rest
  where
    later : (a b : Bool) → b ≡ true → a || b ≡ true
    later true b h = refl
    later false b h = h

not_true : (b : Bool) → (b ≡ true → ⊥) → b ≡ false
not_true true h = absurd (h refl)
not_true false h = refl

is_false : (a b : Bool) → a ≡ false → (b ≡ true → a ≡ true) → b ≡ false
is_false a b unset h = not_true b (λ set. let e : false ≡ true = sym unset ∙ h set in cc)

-- none is found where none was, of tests that are no wider
find_none : (p q : Status → Bool) (xs : List Status) → ((s : Status) → q s ≡ true → p s ≡ true) → find p xs ≡ None → find q xs ≡ None
find_none p q [] less h = refl
find_none p q (x ∷ xs) less h = go (p x) refl h (find_none p q xs less)
  where
    some : {X : Type 0} (y : Status) → Some y ≡ None → X
    some y e = cc

    go : (b : Bool) → p x ≡ b → cond b (Some x) (find p xs) ≡ None → (find p xs ≡ None → find q xs ≡ None) → cond (q x) (Some x) (find q xs) ≡ None
    go true e k rest = some x k
    go false e k rest = ap (λ b. cond b (Some x) (find q xs)) (is_false (p x) (q x) e (less x)) ∙ rest k

-- ---- a hold

late : (n : ℕ) → nat_le (min n last_moment) last_moment ≡ true
late n = le-leb (min n last_moment) last_moment (min-le_right n last_moment)

-- all that a hold asks but for how long it is
abbrev held_test : ℕ → View → ReqId → OpenRequest → List (Option OpenPiece) → Bool → Bool
held_test t u req r ps delayed = is_at_own t req r && delayed && is_some r.pieces && is_none r.aborted && is_before r.hold && list_all is_back ps && is_served ps

-- what isn't held until the last moment isn't held until any
pub never_held : (setup : Setup) (t : ℕ) (v : View) (req : ReqId) (r : OpenRequest) → Waits setup t v req r → (until : ℕ) → may_hold setup t v req until (Some r) ≡ false
never_held setup t v req r w until =
    is_false (may_be_held setup t v req (Some r)) (may_hold setup t v req until (Some r)) w.hold
    (λ h.
    let n : ℕ = v.part.moments.last + latency setup v.part r.dev (way_of r.op) in
    and_from (held_test t v req r (pieces_of v req r) (is_delayed setup r)) (nat_le (min n last_moment) last_moment)
    (and_parts (held_test t v req r (pieces_of v req r) (is_delayed setup r)) (nat_le (min n last_moment) until) h).0
    (late n))

-- ---- what shows the same of it

-- the same tokens of the request; the same marks below it, where it isn't cut; and no walk of its reset in the first
pub record ShowsSame (setup : Setup) (req : ReqId) (r : OpenRequest) (v w : View) : Type 0 where
  pub piece : (k : ℕ) → w.here (ids.Piece req k) ≡ v.here (ids.Piece req k)
  pub marks : is_none r.pieces ≡ true → (d : DevId) → is_below setup r.dev d ≡ true → marking_of w.part d ≡ marking_of v.part d
  pub still : is_walking (reset_of v.part req) ≡ false

module _ (setup : Setup) (t : ℕ) (req : ReqId) (r : OpenRequest) (v w : View) (range : has_range r.op ≡ true) (same : ShowsSame setup req r v w) where
  pieces_same : pieces_of w req r ≡ pieces_of v req r
  pieces_same = go (range_with_len 0 (unwrap_or r.pieces 0))
    where
      go : (ks : List ℕ) → map (piece_here w req) ks ≡ map (piece_here v req) ks
      go [] = refl
      go (k ∷ ks) = ap₂ (λ (x : Option OpenPiece) (xs : List (Option OpenPiece)). x ∷ xs) (ap as_piece (same.piece k)) (go ks)

  -- ---- an abort by a mark

  stoppable_same : is_stoppable w req r ≡ is_stoppable v req r
  stoppable_same = ap (λ (ps : List (Option OpenPiece)). is_none r.pieces || list_any waits_unsent ps || is_held r.hold) pieces_same

  may_abort_same : may_abort w req (Some r) ≡ may_abort v req (Some r)
  may_abort_same = ap (λ b. has_range r.op && is_none r.aborted && not (is_fail r.injected.last) && b) stoppable_same

  module _ (uncut : is_none r.pieces ≡ true) where
    mark_same : (d : DevId) → is_below setup r.dev d ≡ true → stops_here w.part r.late d ≡ stops_here v.part r.late d
    mark_same d h = ap (λ (m : Marking). m.removed || (is_hard_mark m.frozen || (is_soft_mark m.frozen && has_dev r.late d))) (same.marks uncut d h)

    cause_same : (o : Option DevId) → find (stops_here v.part r.late) (below setup r.dev) ≡ o → option_map (cause_at w.part) o ≡ option_map (cause_at v.part) o
    cause_same None e = refl
    cause_same (Some d) e =
        let is = found_is_in (stops_here v.part r.late) (below setup r.dev) d e in
        ap (λ (m : Marking). let c : Option AbortCause = Some (cond m.removed (Removed d) (Frozen d)) in c) (same.marks uncut d is.stands)

    below_same : mark_below setup w.part r ≡ mark_below setup v.part r
    below_same =
        ap (option_map (cause_at w.part)) (find_same (stops_here v.part r.late) (stops_here w.part r.late) (below setup r.dev) mark_same)
        ∙ cause_same (find (stops_here v.part r.late) (below setup r.dev)) refl

    stop_same : (d : DevId) → is_below setup r.dev d ≡ true → may_stop setup t w req (Some r) (cause_at v.part d) ≡ may_stop setup t v req (Some r) (cause_at v.part d)
    stop_same d h = ap₂ (λ (a b : Bool). a && b) may_abort_same (go (is_removed v.part d))
      where
        go : (b : Bool) → is_cause setup t w req r (cond b (Removed d) (Frozen d)) ≡ is_cause setup t v req r (cond b (Removed d) (Frozen d))
        go true = ap (λ (m : Marking). is_below setup r.dev d && m.removed) (same.marks uncut d h)
        go false = ap (λ (m : Marking). is_below setup r.dev d && (is_hard_mark m.frozen || (is_soft_mark m.frozen && has_dev r.late d))) (same.marks uncut d h)

    stops_none : (o : Option DevId) → find (stops_here v.part r.late) (below setup r.dev) ≡ o
        → where_holds (may_stop setup t w req (Some r)) (option_map (cause_at v.part) o) ≡ where_holds (may_stop setup t v req (Some r)) (option_map (cause_at v.part) o)
    stops_none None e = refl
    stops_none (Some d) e =
        let is = found_is_in (stops_here v.part r.late) (below setup r.dev) d e in
        ap (λ b. cond b (Some (cause_at v.part d)) None) (stop_same d is.stands)

    uncut_abort_same : where_holds (may_stop setup t w req (Some r)) (mark_below setup w.part r) ≡ where_holds (may_stop setup t v req (Some r)) (mark_below setup v.part r)
    uncut_abort_same = ap (where_holds (may_stop setup t w req (Some r))) below_same ∙ stops_none (find (stops_here v.part r.late) (below setup r.dev)) refl

    marked_same : is_marked setup w.part r ≡ is_marked setup v.part r
    marked_same = any_same (stops_here v.part r.late) (stops_here w.part r.late) (below setup r.dev) mark_same

  cond_where : {X : Type 0} (b : Bool) (x y z : X) → (b ≡ true → x ≡ y) → cond b x z ≡ cond b y z
  cond_where true x y z h = h refl
  cond_where false x y z h = refl

  abort_same : abort_due setup t w req r ≡ abort_due setup t v req r
  abort_same = cond_where (is_none r.pieces) _ _ None uncut_abort_same

  -- ---- the cut, and decisions

  and_where : (a b c d m n e f : Bool) → (c ≡ true → m ≡ n) → a && b && c && d && not m && e && f ≡ a && b && c && d && not n && e && f
  and_where a b true d m n e f h = ap (λ x. a && b && true && d && not x && e && f) (h refl)
  and_where true true false d m n e f h = refl
  and_where true false false d m n e f h = refl
  and_where false b false d m n e f h = refl

  under_same : is_under_way setup t w req r ≡ is_under_way setup t v req r
  under_same = and_where (is_at_own t req r) (has_range r.op) (is_none r.pieces) (is_none r.aborted) (is_marked setup w.part r) (is_marked setup v.part r) (is_none (next_limited setup r)) (goes_on r.injected.last) marked_same

  ask_same : decision_due setup t w req r ≡ decision_due setup t v req r
  ask_same = go (slice_get (errors_below setup r.dev) r.injected.count)
    where
      go : (o : Option DevId) → where_holds (may_ask setup t w req r) o ≡ where_holds (may_ask setup t v req r) o
      go None = refl
      go (Some d) =
          ap (λ b. cond (b && same_op r.op r.op && (r.injected.asked == r.injected.count) && is_the same_dev d (slice_get (errors_below setup r.dev) r.injected.count)) (Some d) None) under_same

  -- ---- its completion

  success_same : (op : Op) → has_range op ≡ true → is_success_due w req r op ≡ is_success_due v req r op
  success_same ops.Read h = ap (λ (ps : List (Option OpenPiece)). is_some r.pieces && list_all is_done ps) pieces_same
  success_same (ops.Write fill) h = ap (λ (ps : List (Option OpenPiece)). is_some r.pieces && list_all is_done ps) pieces_same
  success_same ops.Zeroes h = ap (λ (ps : List (Option OpenPiece)). is_some r.pieces && list_all is_done ps) pieces_same
  success_same ops.Unmap h = ap (λ (ps : List (Option OpenPiece)). is_some r.pieces && list_all is_done ps) pieces_same
  success_same ops.Flush h = ap (λ (ps : List (Option OpenPiece)). is_some r.pieces && list_all is_done ps) pieces_same
  success_same (ops.Reset time) h = cc
  success_same (ops.Abort seq) h = cc

  status_same : (s : Status) → is_status w req r s ≡ is_status v req r s
  status_same Failed = ap (is_failed r) pieces_same
  status_same Aborted = ap (λ (ps : List (Option OpenPiece)). not (is_failed r ps) && is_some r.aborted) pieces_same
  status_same Success =
      ap₂ (λ (ps : List (Option OpenPiece)) (b : Bool). not (is_failed r ps) && not (is_some r.aborted) && b) pieces_same (success_same r.op range)

  complete_less : may_complete t w req (Some r) ≡ true → may_complete t v req (Some r) ≡ true
  complete_less h =
      let both = and_parts (is_at_own t req r && list_all is_back (pieces_of w req r)) (not (is_walking (reset_of w.part req))) h in
      and_from (is_at_own t req r && list_all is_back (pieces_of v req r)) (not (is_walking (reset_of v.part req)))
      (sym (ap (λ (ps : List (Option OpenPiece)). is_at_own t req r && list_all is_back ps) pieces_same) ∙ both.0) (ap not same.still)

  end_less : (s : Status) → may_end setup t w req (Some r) s ≡ true → may_end setup t v req (Some r) s ≡ true
  end_less s h =
      let both = and_parts (may_complete t w req (Some r)) (may_be_status setup w req r s) h in
      and_from (may_complete t v req (Some r)) (may_be_status setup v req r s) (complete_less both.0) (sym (ap (λ b. not (is_delay_left setup r) && b) (status_same s)) ∙ both.1)

  -- ---- a hold

  hold_less : may_be_held setup t w req (Some r) ≡ true → may_be_held setup t v req (Some r) ≡ true
  hold_less h =
      let both = and_parts (held_test t w req r (pieces_of w req r) (is_delayed setup r)) (nat_le (min (w.part.moments.last + latency setup w.part r.dev (way_of r.op)) last_moment) last_moment) h in
      and_from (held_test t v req r (pieces_of v req r) (is_delayed setup r)) (nat_le (min (v.part.moments.last + latency setup v.part r.dev (way_of r.op)) last_moment) last_moment)
      (sym (ap (λ (ps : List (Option OpenPiece)). is_at_own t req r && is_delayed setup r && is_some r.pieces && is_none r.aborted && is_before r.hold && list_all is_back ps && is_served ps) pieces_same) ∙ both.0)
      (late (v.part.moments.last + latency setup v.part r.dev (way_of r.op)))

  -- ---- all of it

  pub waits_too : Waits setup t v req r → Waits setup t w req r
  waits_too h = record {
    abort = abort_same ∙ h.abort;
    end = find_none (may_end setup t v req (Some r)) (may_end setup t w req (Some r)) (Failed ∷ Aborted ∷ Success ∷ []) end_less h.end;
    cut = ap (λ b. b && has_every_decision setup r) under_same ∙ h.cut;
    hold = is_false (may_be_held setup t v req (Some r)) (may_be_held setup t w req (Some r)) h.hold hold_less;
    limit = h.limit;
    ask = ask_same ∙ h.ask;
    pend = h.pend;
  }
