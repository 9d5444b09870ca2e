-- A run whose output was kept in memory, for whoever asked for it.
use Rattle.std.proofs.Common.{◌≡◌, ℕ, Bool, true, false, ◌⊎◌, inl, inr, List, [], ◌∷◌, Option, None, Some, refl, sym, ◌∙◌, ap, subst}
use Rattle.std.specs.Prelude.{codes, if◌then◌else◌}
use Rattle.std.proofs.lemmas.Slice.Eq.{bytes_eq-Decides}
use Rattle.bd_base.specs.Name.{same_name}
use Rattle.bd_outside.specs.Clock.{Moments}
use Rattle.bd_outside.specs.Host.{HostState}
use Rattle.bd_outside.specs.Sink.{SinkState}
use Rattle.bd_top.specs.declared.fault.Fault.{Fault}
use Rattle.bd_top.specs.declared.fault.Fault.TheVariants as faults
use Rattle.bd_top.specs.Run.{AreInForm, Cause, IsWrong, NothingFails}
use Rattle.bd_top.specs.Words.{Arguments, Asked, Run, asked_of, generate_of, generate_with, work_in, threads_of}
use Rattle.bd_top.proofs.InForm.{only_memory}
use Rattle.bd_top.proofs.Wrong.{only_this}
use Rattle.bdevtrace.specs.Traced.{asks_for_script, traced_of, kept_fault, IsInForm}

-- ---- the words

generate_is_no_run : (numbers threads : Option ℕ) (arguments : Arguments) → generate_with numbers threads ≡ Some (Run arguments) → ⊥
generate_is_no_run (Some numbers) (Some threads) arguments is = absurd (cc)
generate_is_no_run (Some numbers) None arguments is = absurd (cc)
generate_is_no_run None threads arguments is = absurd (cc)

generate_names_none : (rest : List (List ℕ)) (arguments : Arguments) → generate_of rest ≡ Some (Run arguments) → ⊥
generate_names_none [] arguments is = absurd (cc)
generate_names_none (numbers ∷ options) arguments is = generate_is_no_run (work_in numbers) (threads_of options) arguments is

-- words that ask for a script name no two files
script_names_none : (words : List (List ℕ)) (arguments : Arguments) → asks_for_script words ≡ true → asked_of words ≡ Some (Run arguments) → ⊥
script_names_none [] arguments script named = absurd (cc)
script_names_none (word ∷ rest) arguments script named =
    let is : word ≡ codes "generate" = (bytes_eq-Decides word (codes "generate")).0 script in
    generate_names_none rest arguments (subst (λ (w : List ℕ). asked_of (w ∷ rest) ≡ Some (Run arguments)) is named)

-- so nothing is wrong with two files that they name
pub script_not_wrong : (words : List (List ℕ)) (host : HostState) (fault : Fault) → asks_for_script words ≡ true → IsWrong words host fault → ⊥
script_not_wrong words host fault script wrong = script_names_none words wrong.arguments script wrong.named

-- what is asked of this program is asked of bdevrun
asked_too : (script : Bool) (of_words : Option Asked) (asked : Asked) → (if script then None else of_words) ≡ Some asked → of_words ≡ Some asked
asked_too true of_words asked named = absurd (cc)
asked_too false of_words asked named = named

in_form_too : (words : List (List ℕ)) (host : HostState) → IsInForm words host → AreInForm words host
in_form_too words host form = record { asked = form.asked; named = asked_too (asks_for_script words) (asked_of words) form.asked form.named; files = form.files }

-- ---- the faults

module _ (words : List (List ℕ)) (old new : HostState) (kept later before after : SinkState) (quiet : NothingFails old new before after) where
  -- where what the words name is in form and neither the files nor this other output fail, the fault is out of memory
  pub only_memory_kept : (range : Option Moments) → IsInForm words old → (fault : Fault) → Cause range words old new kept later fault → kept_fault fault ≡ faults.OutOfMemory
  only_memory_kept range form faults.WriteFault cause = refl
  only_memory_kept range form faults.Usage cause = only_memory words old new before after (in_form_too words old form) quiet range faults.Usage cause
  only_memory_kept range form (faults.NoFile name) cause = only_memory words old new before after (in_form_too words old form) quiet range (faults.NoFile name) cause
  only_memory_kept range form (faults.TooLong name) cause = only_memory words old new before after (in_form_too words old form) quiet range (faults.TooLong name) cause
  only_memory_kept range form (faults.ReadFault name) cause = only_memory words old new before after (in_form_too words old form) quiet range (faults.ReadFault name) cause
  only_memory_kept range form faults.ConfigText cause = only_memory words old new before after (in_form_too words old form) quiet range faults.ConfigText cause
  only_memory_kept range form (faults.ConfigShape place) cause = only_memory words old new before after (in_form_too words old form) quiet range (faults.ConfigShape place) cause
  only_memory_kept range form (faults.Method index code) cause = only_memory words old new before after (in_form_too words old form) quiet range (faults.Method index code) cause
  only_memory_kept range form (faults.JobText line) cause = only_memory words old new before after (in_form_too words old form) quiet range (faults.JobText line) cause
  only_memory_kept range form faults.OutOfMemory cause = refl

  -- where one thing is wrong with the files and neither they nor this other output fail, the fault is that one or out of memory
  pub only_this_kept : (range : Option Moments) (fault : Fault) → IsWrong words old fault → (given : Fault) → Cause range words old new kept later given → (kept_fault given ≡ fault) ⊎ (kept_fault given ≡ faults.OutOfMemory)
  only_this_kept range fault wrong faults.WriteFault cause = inr refl
  only_this_kept range fault wrong faults.Usage cause = only_this words old fault wrong new before after quiet range faults.Usage cause
  only_this_kept range fault wrong (faults.NoFile name) cause = only_this words old fault wrong new before after quiet range (faults.NoFile name) cause
  only_this_kept range fault wrong (faults.TooLong name) cause = only_this words old fault wrong new before after quiet range (faults.TooLong name) cause
  only_this_kept range fault wrong (faults.ReadFault name) cause = only_this words old fault wrong new before after quiet range (faults.ReadFault name) cause
  only_this_kept range fault wrong faults.ConfigText cause = only_this words old fault wrong new before after quiet range faults.ConfigText cause
  only_this_kept range fault wrong (faults.ConfigShape place) cause = only_this words old fault wrong new before after quiet range (faults.ConfigShape place) cause
  only_this_kept range fault wrong (faults.Method index code) cause = only_this words old fault wrong new before after quiet range (faults.Method index code) cause
  only_this_kept range fault wrong (faults.JobText line) cause = only_this words old fault wrong new before after quiet range (faults.JobText line) cause
  only_this_kept range fault wrong faults.OutOfMemory cause = inr refl
