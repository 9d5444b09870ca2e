-- What each verdict on a history says.
use Rattle.std.specs.Prelude.{◌≡◌, ℕ, false, List, ◌∷◌, [], ◌++◌, Some}
use Rattle.bd_base.specs.declared.act.Entry.{Entry}
use Rattle.bd_base.specs.declared.setup.Setup.{Setup}
use Rattle.bd_judge.specs.declared.judging.Verdict.{Verdict}
use Rattle.bd_judge.specs.declared.judging.Verdict.TheVariants.{Complete, Unfinished, Illegal}
use Rattle.bd_machine.specs.Run.{IsRun, IsCompleteRun, state_after, is_finished}
use Rattle.bd_machine.specs.Step.{refusal}

-- a run that isn't complete
abbrev pub IsUnfinishedRun : Setup → List Entry → Type 0
IsUnfinishedRun setup entries = IsRun setup [] entries × (is_finished setup (state_after setup [] entries) ≡ false)

-- an entry with this stamp isn't allowed in the state that those before it left, a run: this is the first guard that it fails
pub record IsStopped (setup : Setup) (entries : List Entry) (guard stamp : ℕ) : Type 0 where
  pub before : List Entry
  pub entry : Entry
  pub behind : List Entry
  pub whole : entries ≡ before ++ entry ∷ behind
  pub run : IsRun setup [] before
  pub refused : refusal setup (state_after setup [] before) entry ≡ Some guard
  pub stamped : stamp ≡ entry.stamp

-- the verdict is right of a history that begins with no disk's content told
abbrev pub IsVerdict : Setup → List Entry → Verdict → Type 0
IsVerdict setup entries Complete = IsCompleteRun setup [] entries
IsVerdict setup entries Unfinished = IsUnfinishedRun setup entries
IsVerdict setup entries (Illegal guard stamp) = IsStopped setup entries guard stamp
