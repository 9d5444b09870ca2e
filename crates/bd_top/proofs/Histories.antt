-- What a complete run says of scripts, requests and devices, and that it was played.
use Rattle.std.proofs.Common.{◌≡◌, ℕ, Bool, false, List, [], ◌∷◌, ◌++◌, Option, ◌∙◌, sym, subst, append_assoc}
use Rattle.bd_base.specs.declared.act.Entry.{Entry}
use Rattle.bd_base.specs.declared.setup.Setup.{Setup}
use Rattle.bd_machine.specs.BlockMap.{StandsOnEarlier}
use Rattle.bd_law_runs.proofs.Ledger.{budget_is_kept}
use Rattle.bd_law_runs.proofs.Quiesce.{quiescence}
use Rattle.bd_machine.specs.Content.{Told}
use Rattle.bd_machine.specs.Run.{IsRun, IsCompleteRun}
use Rattle.bd_machine.proofs.LastClose.{destructed_after_last_close}
use Rattle.bd_machine.proofs.Lines.{scripts_go_as_far}
use Rattle.bd_machine.proofs.Runs.{each_is_completed_once, each_is_destructed_once, prefix_is_run}
use Rattle.bd_node.specs.Times.{AreHoldsWithin}
use Rattle.bd_outside.specs.Clock.{Moments}
use Rattle.bd_report.specs.Report.{report_of}
use Rattle.bd_top.proofs.BuiltIn.{none_aio}
use Rattle.bd_top.proofs.NoDisks.{told_nothing, AreNoneAio}
use Rattle.bd_top.specs.Exercise.{IsExercise}
use Rattle.bd_top.specs.Run.{GoAsFar, AreBudgetsKept, AreCompletedOnce, AreDestructedOnce, AreAfterLastClose, AreOverAtResets, IsExercised, IsPlayed}

go_as_far : (setup : Setup) (told : Told) (trace : List Entry) → IsCompleteRun setup told trace → GoAsFar setup told trace
go_as_far setup told trace run t is_thread = scripts_go_as_far setup told trace t is_thread run

completed_once : (setup : Setup) (told : Told) (trace : List Entry) → IsCompleteRun setup told trace → AreCompletedOnce trace
completed_once setup told trace run = each_is_completed_once setup told trace run

destructed_once : (setup : Setup) (told : Told) (trace : List Entry) → IsCompleteRun setup told trace → AreDestructedOnce setup trace
destructed_once setup told trace run = each_is_destructed_once setup told trace run

after_last_close : (setup : Setup) (told : Told) (trace : List Entry) → IsCompleteRun setup told trace → AreAfterLastClose setup told trace
after_last_close setup told trace run dev before e behind split is = destructed_after_last_close setup told before e behind dev (subst (IsRun setup told) split run.0) is

budgets_kept : (setup : Setup) (told : Told) (trace : List Entry) → IsCompleteRun setup told trace → AreBudgetsKept setup trace
budgets_kept setup told trace run dev = budget_is_kept setup told trace run.0 dev

over_at_resets : (setup : Setup) (told : Told) (trace : List Entry) → StandsOnEarlier setup → IsCompleteRun setup told trace → AreOverAtResets setup told trace
over_at_resets setup told trace earlier run reset dev before accept between complete behind split accepts completes r some =
    let most : List Entry = before ++ accept ∷ between in
    let whole : IsRun setup told ((most ++ complete ∷ []) ++ behind) = subst (IsRun setup told) (split ∙ sym (append_assoc most (complete ∷ []) behind)) run.0 in
    quiescence setup told reset dev before accept between complete earlier (record { run = prefix_is_run setup told (most ++ complete ∷ []) behind whole; accepts = accepts; completes = completes }) r some

-- a setup was played where a complete run was made of it, with its report, and each device stands on one that was made before it
pub played : (range : Option Moments) (setup : Setup) (told : Told) (full : Bool) (trace : List Entry) (report : List ℕ) → StandsOnEarlier setup → IsCompleteRun setup told trace → AreHoldsWithin range setup trace → report ≡ report_of full setup trace
    → IsPlayed range setup told full trace report
played range setup told full trace report earlier complete holds says = record {
  complete = complete;
  scripts = go_as_far setup told trace complete;
  once = completed_once setup told trace complete;
  destructed = destructed_once setup told trace complete;
  last_close = after_last_close setup told trace complete;
  budgets = budgets_kept setup told trace complete;
  quiesces = over_at_resets setup told trace earlier complete;
  holds = holds;
  says = says;
}

-- an exercise was played, whatever is told of disks: it has none
pub exercised : (range : Option Moments) (numbers threads : ℕ) (setup : Setup) (told : Told) (trace : List Entry) (report : List ℕ) → StandsOnEarlier setup → IsExercise numbers threads setup → IsPlayed range setup told false trace report → IsExercised range numbers threads trace report
exercised range numbers threads setup told trace report earlier is was =
    let none : AreNoneAio setup.devices = subst (λ (s : Setup). AreNoneAio s.devices) (sym is.is) (none_aio threads is.devices is.of_config) in
    record {
      setup = setup;
      meant = is;
      played = played range setup [] false trace report earlier (told_nothing setup told none trace was.complete) was.holds was.says;
    }
