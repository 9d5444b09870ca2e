-- What a step of an index adds to what it says.
use Rattle.std.proofs.Common.{◌≡◌, refl, sym, ap, ◌∙◌, ℕ, ◌+◌, ◌<◌, Bool, true, false, ◌&&◌, ◌||◌, if◌then◌else◌, List, [], ◌∷◌, ◌++◌, length, take, get_or, filter_map, Option, Some, None}
use Rattle.std.specs.List.{cons_option, slice_get}
use Rattle.std.proofs.lemmas.List.{take_more}
use Rattle.bd_base.specs.declared.act.Entry.{Entry}
use Rattle.bd_report.specs.First.{first_of, if_key}
use Rattle.bd_base.specs.declared.act.Act.TheVariants.{Complete}
use Rattle.bd_base.specs.declared.id.ReqId.{ReqId}
use Rattle.bd_base.specs.declared.request.Shown.{Shown}
use Rattle.bd_base.specs.declared.request.Status.{Status}
use Rattle.bd_base.specs.declared.request.Status.TheVariants.{Success, Failed, Aborted}
use Rattle.bd_report.specs.Counts.{is_status}
use Rattle.bd_report.specs.Report.{first_found}
use Rattle.bd_report.specs.Traffic.{is_success_of, same_request}
use Rattle.bd_report.proofs.ReportLemmas.{filter_map_push}

-- a value at a key of two parts
pub if_both : {X : Type 0} (a b : Bool) (x : X) → if_key (a && b) x ≡ (if a then (if b then Some x else None) else None)
if_both true b x = refl
if_both false b x = refl

first_of_empty : {X : Type 0} (found : Option X) → slice_get (cons_option found []) 0 ≡ found
first_of_empty None = refl
first_of_empty (Some x) = refl

-- the first of a list and what is found after it
first_behind : {X : Type 0} (xs : List X) (found : Option X) → slice_get (xs ++ cons_option found []) 0 ≡ first_of (slice_get xs 0) found
first_behind [] found = first_of_empty found
first_behind (x ∷ xs) found = refl

-- one more entry
pub first_found_more : {X : Type 0} (f : Entry → Option X) (trace : List Entry) (i : ℕ) (d : Entry) → i < length trace → first_found f (take (i + 1) trace) ≡ first_of (first_found f (take i trace)) (f (get_or trace i d))
first_found_more f trace i d h =
    ap (first_found f) (take_more trace i d h) ∙ ap (λ xs. slice_get xs 0) (filter_map_push f (take i trace) (get_or trace i d)) ∙ first_behind (filter_map f (take i trace)) (f (get_or trace i d))

-- what is kept first at a key, with one more entry noted
pub noted : {X : Type 0} (f : Entry → Option X) (trace : List Entry) (i : ℕ) (x : Entry) → i < length trace → x ≡ get_or trace i x → {old new : Option X} → new ≡ first_of old (f x) → old ≡ first_found f (take i trace) → new ≡ first_found f (take (i + 1) trace)
noted f trace i x h at {old} is was =
    is ∙ ap (λ o. first_of o (f x)) was ∙ ap (λ e. first_of (first_found f (take i trace)) (f e)) at ∙ sym (first_found_more f trace i x h)

-- a key that is in the set now, or was before
pub joined : (new old : Bool) → (if new then true else old) ≡ (old || new)
joined true true = refl
joined true false = refl
joined false true = refl
joined false false = refl

-- a completion with success, by its status and its request
pub success_of : (request req : ReqId) (status : Status) (shown : Option Shown) → (is_status Success status && same_request req request) ≡ is_success_of request (Complete req status shown)
success_of request req Success shown = refl
success_of request req Failed shown = refl
success_of request req Aborted shown = refl
