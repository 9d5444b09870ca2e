-- With which status a request completes, and when with none.
use Rattle.std.proofs.Common.{◌≡◌, ℕ, Bool, true, false, cond, not, ◌&&◌, ◌||◌, List, [], ◌∷◌, find, Option, Some, None, IfSome, IfNone, is_some, is_none, unwrap_or, refl, sym, ◌∙◌, ap}
use Rattle.std.specs.List.{list_any, list_all}
use Rattle.std.proofs.lemmas.Bool.{and_from, and_right}
use Rattle.bd_base.specs.declared.id.ReqId.{ReqId}
use Rattle.bd_base.specs.declared.request.Op.{Op}
use Rattle.bd_base.specs.declared.request.Op.TheVariants as ops
use Rattle.bd_base.specs.declared.request.Status.{Status}
use Rattle.bd_base.specs.declared.request.Status.TheVariants.{Success, Failed, Aborted}
use Rattle.bd_base.specs.declared.setup.Setup.{Setup}
use Rattle.bd_machine.specs.declared.state.OpenRequest.{OpenRequest}
use Rattle.bd_machine.specs.Admission.{has_range}
use Rattle.bd_machine.specs.Completion.{is_done, is_faulted, pieces_of}
use Rattle.bd_machine.specs.Injections.{is_fail}
use Rattle.bd_machine.specs.Kept.{pieces_here}
use Rattle.bd_machine.specs.Requests.{may_complete}
use Rattle.bd_machine.specs.Statuses.{is_delay_left, is_failed, is_status, is_success_due, may_be_status}
use Rattle.bd_machine.specs.View.{View}
use Rattle.bd_flight.specs.Due.{end_due, may_end}

-- ---- the one status

abbrev statuses : List Status
statuses = Failed ∷ Aborted ∷ Success ∷ []

-- whether a request may complete with a status: where it may complete, delays hold it, it failed, was aborted, and where its success is due
abbrev ends_by : Bool → Bool → Bool → Bool → Bool → Status → Bool
ends_by may left failed aborted due Failed = may && (not left && failed)
ends_by may left failed aborted due Aborted = may && (not left && (not failed && aborted))
ends_by may left failed aborted due Success = may && (not left && (not failed && not aborted && due))

-- no other may be beside it
only_one : (may left failed aborted due : Bool) (s : Status) → ends_by may left failed aborted due s ≡ true → Some s ≡ find (ends_by may left failed aborted due) statuses
only_one false left failed aborted due Failed h = cc
only_one false left failed aborted due Aborted h = cc
only_one false left failed aborted due Success h = cc
only_one true true failed aborted due Failed h = cc
only_one true true failed aborted due Aborted h = cc
only_one true true failed aborted due Success h = cc
only_one true false true aborted due Failed h = refl
only_one true false true aborted due Aborted h = cc
only_one true false true aborted due Success h = cc
only_one true false false aborted due Failed h = cc
only_one true false false true due Aborted h = refl
only_one true false false false due Aborted h = cc
only_one true false false true due Success h = cc
only_one true false false false true Success h = refl
only_one true false false false false Success h = cc

none_of : (may : Status → Bool) → ((s : Status) → may s ≡ false) → None ≡ find may statuses
none_of may none =
    sym (ap (λ b. cond b (Some Failed) (find may (Aborted ∷ Success ∷ []))) (none Failed)
    ∙ ap (λ b. cond b (Some Aborted) (find may (Success ∷ []))) (none Aborted)
    ∙ ap (λ b. cond b (Some Success) None) (none Success))

module _ (setup : Setup) (t : ℕ) (v : View) (req : ReqId) (r : OpenRequest) where
  -- a status with which the request may complete is the one with which it does
  pub end_found : (s : Status) → may_end setup t v req (Some r) s ≡ true → Some s ≡ end_due setup t v req r
  end_found Failed h = only_one (may_complete t v req (Some r)) (is_delay_left setup r) (is_failed r (pieces_of v req r)) (is_some r.aborted) (is_success_due v req r r.op) Failed h
  end_found Aborted h = only_one (may_complete t v req (Some r)) (is_delay_left setup r) (is_failed r (pieces_of v req r)) (is_some r.aborted) (is_success_due v req r r.op) Aborted h
  end_found Success h = only_one (may_complete t v req (Some r)) (is_delay_left setup r) (is_failed r (pieces_of v req r)) (is_some r.aborted) (is_success_due v req r r.op) Success h

  pub no_end : ((s : Status) → may_end setup t v req (Some r) s ≡ false) → None ≡ end_due setup t v req r
  no_end none = none_of (may_end setup t v req (Some r)) none

  pub end_is : (o : Option Status) → may_complete t v req (Some r) ≡ true
      → IfSome o (λ s. may_be_status setup v req r s ≡ true)
      → IfNone o ((s : Status) → may_be_status setup v req r s ≡ false)
      → o ≡ end_due setup t v req r
  end_is None may some none = no_end (λ s. and_right (may_complete t v req (Some r)) (may_be_status setup v req r s) (none s))
  end_is (Some s) may some none = end_found s (and_from (may_complete t v req (Some r)) (may_be_status setup v req r s) may some)

  -- ---- where it completes with none

  none_is_false : (b : Bool) → not b ≡ true → b ≡ false
  none_is_false true h = cc
  none_is_false false h = refl

  neither : (a b : Bool) → a ≡ false → b ≡ false → (a || b) ≡ false
  neither true b first second = cc
  neither false b first second = second

  no_fault : (n : Option ℕ) → is_none n ≡ true → list_any is_faulted (pieces_here v req (unwrap_or n 0)) ≡ false
  no_fault None h = refl
  no_fault (Some n) h = cc

  -- a request with a range that isn't cut has no success due
  no_success : (op : Op) → has_range op ≡ true → is_some r.pieces ≡ false → is_success_due v req r op ≡ false
  no_success (ops.Reset time) range uncut = cc
  no_success (ops.Abort seq) range uncut = cc
  no_success ops.Read range uncut = ap (λ (b : Bool). b && list_all is_done (pieces_of v req r)) uncut
  no_success (ops.Write fill) range uncut = ap (λ (b : Bool). b && list_all is_done (pieces_of v req r)) uncut
  no_success ops.Zeroes range uncut = ap (λ (b : Bool). b && list_all is_done (pieces_of v req r)) uncut
  no_success ops.Unmap range uncut = ap (λ (b : Bool). b && list_all is_done (pieces_of v req r)) uncut
  no_success ops.Flush range uncut = ap (λ (b : Bool). b && list_all is_done (pieces_of v req r)) uncut

  -- it has a range, and is neither cut, aborted nor to fail
  pub record IsFresh : Type 0 where
    pub range : has_range r.op ≡ true
    pub uncut : is_none r.pieces ≡ true
    pub whole : is_none r.aborted ≡ true
    pub passed : is_fail r.injected.last ≡ false

  no_status : IsFresh → (s : Status) → is_status v req r s ≡ false
  no_status f Failed = neither _ _ f.passed (no_fault r.pieces f.uncut)
  no_status f Aborted = and_right (not (is_failed r (pieces_of v req r))) (is_some r.aborted) (none_is_false _ f.whole)
  no_status f Success =
      and_right (not (is_failed r (pieces_of v req r)) && not (is_some r.aborted)) (is_success_due v req r r.op) (no_success r.op f.range (none_is_false _ f.uncut))

  -- such a request may not complete
  pub fresh_goes_on : IsFresh → (s : Status) → may_end setup t v req (Some r) s ≡ false
  fresh_goes_on f s =
      and_right (may_complete t v req (Some r)) (may_be_status setup v req r s) (and_right (not (is_delay_left setup r)) (is_status v req r s) (no_status f s))
