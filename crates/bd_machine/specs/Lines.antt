-- What a history says of scripts: which lines were done, and that each script goes as far as it can.
use Rattle.std.specs.Prelude.{◌≡◌, ℕ, ◌<◌, true, cond, ◌==◌, List, [], ◌∷◌, ◌++◌, map, take, filter_map, Option, Some, None}
use Rattle.bd_base.specs.declared.act.Act.{Act}
use Rattle.bd_base.specs.declared.act.Act.TheVariants as acts
use Rattle.bd_base.specs.declared.act.Entry.{Entry}
use Rattle.bd_base.specs.declared.job.Line.{Line}
use Rattle.bd_base.specs.declared.setup.Setup.{Setup}
use Rattle.bd_machine.specs.Asked.{is_script_blocked, lines_of}
use Rattle.bd_machine.specs.Content.{Told}
use Rattle.bd_machine.specs.Laws.{count_of}
use Rattle.bd_machine.specs.Run.{IsRun, IsCompleteRun, state_after}
use Rattle.bd_machine.specs.Step.{is_shutdown}
use Rattle.bd_machine.specs.View.{part_of, view}

abbrev pub line_of_act : Act → Option ℕ
line_of_act (acts.Script line outcome) = Some line
line_of_act _ = None

-- the number of the line, if the entry says that this thread did one
abbrev pub line_by : ℕ → Entry → Option ℕ
line_by t e = cond (e.thread == t) (line_of_act e.act) None

-- the lines that a thread did, in their order
abbrev pub lines_done : ℕ → List Entry → List ℕ
lines_done t es = filter_map (line_by t) es

abbrev pub number_of : Line → ℕ
number_of line = line.number

-- the Shutdown, an entry of thread 0
abbrev pub shutdown_at : ℕ → Entry
shutdown_at stamp = record { stamp = stamp; thread = 0; act = acts.Shutdown }

-- ---- the laws

-- in a run, the lines that a thread did are a prefix of its script, up to the line that it is at
abbrev pub LinesArePrefix : Type 0
LinesArePrefix = (setup : Setup) (told : Told) (es : List Entry) (t : ℕ) → IsRun setup told es
    → lines_done t es ≡ map number_of (take (part_of (state_after setup told es) t).next (lines_of setup t))

-- a thread's script at the one Shutdown of a history: it is at its end or at a line that waits; the lines before that one are the lines done, and none is done after the Shutdown
pub record GoesAsFar (setup : Setup) (told : Told) (es : List Entry) (t : ℕ) : Type 0 where
  pub before : List Entry
  pub stamp : ℕ
  pub rest : List Entry
  pub entries : es ≡ before ++ shutdown_at stamp ∷ rest
  pub one_shutdown : count_of is_shutdown es ≡ 1
  pub blocked : is_script_blocked setup t (view (state_after setup told before) t) ≡ true
  pub done : lines_done t es ≡ map number_of (take (part_of (state_after setup told before) t).next (lines_of setup t))
  pub none_after : lines_done t rest ≡ []

-- in a complete run, each script goes as far as it can
abbrev pub ScriptsGoAsFar : Type 0
ScriptsGoAsFar = (setup : Setup) (told : Told) (es : List Entry) (t : ℕ) → t < setup.threads → IsCompleteRun setup told es → GoesAsFar setup told es t
