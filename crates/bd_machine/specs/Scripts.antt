-- Script: a line is done.
use Rattle.std.specs.Prelude.{ℕ, ◌+◌, Bool, false, not, ◌&&◌, ◌==◌, List, [], ◌∷◌, ◌++◌, map, filter, Option, Some, None, option_map}
use Rattle.std.specs.List.{range_with_len}
use Rattle.bd_base.specs.Name.{same_name}
use Rattle.bd_base.specs.declared.act.Outcome.{Outcome}
use Rattle.bd_base.specs.declared.job.Job.{Job}
use Rattle.bd_base.specs.declared.job.Job.TheVariants as jobs
use Rattle.bd_base.specs.declared.job.Line.{Line}
use Rattle.bd_base.specs.declared.setup.Setup.{Setup}
use Rattle.bd_machine.specs.declared.guard.TheConstants.{NEXT_LINE, OUTCOME_DUE}
use Rattle.bd_machine.specs.declared.state.Binding.{Binding}
use Rattle.bd_machine.specs.declared.state.Decided.{Decided}
use Rattle.bd_machine.specs.declared.state.Decided.TheVariants as decisions
use Rattle.bd_machine.specs.declared.state.Due.{Due}
use Rattle.bd_machine.specs.declared.state.News.TheVariants.{Mark}
use Rattle.bd_machine.specs.Asked.{next_line, outcome_due, job_of}
use Rattle.bd_machine.specs.Same.{same_outcome, is_the}
use Rattle.bd_machine.specs.View.{View, Came, Change}

abbrev pub is_line : ℕ → Option Line → Bool
is_line number None = false
is_line number (Some line) = line.number == number

abbrev pub guards_script : Setup → ℕ → View → Came → ℕ → Outcome → List (ℕ × Bool)
guards_script setup t v came line outcome =
    (NEXT_LINE, is_line line (next_line setup t v.part) && not came.shut) ∷
    (OUTCOME_DUE, is_the same_outcome outcome (outcome_due setup t v)) ∷ []

abbrev pub unbound : List ℕ → List Binding → List Binding
unbound name bound = filter (λ b. not (same_name b.name name)) bound

-- an open that was accepted binds its name anew, a close that was accepted frees it
abbrev pub bound_after : Option Job → Option Decided → List Binding → List Binding
bound_after (Some (jobs.Open handle dev write)) (Some (decisions.Opened id)) bound = unbound handle bound ++ record { name = handle; handle = id } ∷ []
bound_after (Some (jobs.Close handle)) (Some decisions.Closed) bound = unbound handle bound
bound_after _ _ bound = bound

abbrev pub mark_to : List ℕ → ℕ → Due
mark_to mark receiver = record { receiver = receiver; news = Mark mark }

-- after a post its mark is due to every thread
abbrev pub posted : Setup → Option Job → List Due
posted setup (Some (jobs.Post mark)) = map (mark_to mark) (range_with_len 0 setup.threads)
posted setup _ = []

abbrev pub change_job : Setup → View → Option Job → Change
change_job setup v job = record {
  part = record v.part {
    next = v.part.next + 1;
    decided = None;
    bound = bound_after job v.part.decided v.part.bound;
    due = v.part.due ++ posted setup job;
  };
  moves = [];
}

abbrev pub change_script : Setup → ℕ → View → Change
change_script setup t v = change_job setup v (option_map job_of (next_line setup t v.part))
