-- What a call that ends with Ok did, and why another one ends.
use Rattle.std.specs.Prelude.{◌≡◌, ℕ, Bool, false, List, [], ◌∷◌, ◌++◌, codes, Option, None, Some, if◌then◌else◌}
use Rattle.std.specs.Io.KnownBytes.{Appends}
use Rattle.bd_base.specs.Name.{same_name}
use Rattle.bd_base.specs.declared.act.Entry.{Entry}
use Rattle.bd_outside.specs.Clock.{Moments}
use Rattle.bd_outside.specs.Host.{HostState}
use Rattle.bd_outside.specs.Sink.{SinkState, Fails}
use Rattle.bd_report.specs.Writing.{AppendsPrefix}
use Rattle.bd_top.specs.Run.{Cause, IsAskedInForm, IsDone}
use Rattle.bd_top.specs.Words.{Asked, asked_of}
use Rattle.bd_top.specs.declared.fault.Fault.{Fault}
use Rattle.bd_top.specs.declared.fault.Fault.TheVariants.{Usage, WriteFault, OutOfMemory}
use Rattle.bd_trace.specs.History.{history_text}

-- ---- the words

-- the words ask for a script
abbrev pub asks_for_script : List (List ℕ) → Bool
asks_for_script [] = false
asks_for_script (word ∷ rest) = same_name word (codes "generate")

-- what the words ask: what they ask of bdevrun, but for a script, which has no history
abbrev pub traced_of : List (List ℕ) → Option Asked
traced_of words = if asks_for_script words then None else asked_of words

-- ---- Ok

-- what the words ask was played by a clock that tells its moments, if it tells any: this is the history, and this its report
pub record WasPlayed (range : Option Moments) (words : List (List ℕ)) (old new : HostState) (trace : List Entry) (report : List ℕ) : Type 0 where
  pub asked : Asked
  pub named : traced_of words ≡ Some asked
  pub done : IsDone range asked old new trace report

-- it was played with this history, and the output gained the report and then the text of the history
pub record IsTraced (range : Option Moments) (words : List (List ℕ)) (old new : HostState) (trace : List Entry) (before after : SinkState) : Type 0 where
  pub report : List ℕ
  pub played : WasPlayed range words old new trace report
  pub output : Appends before.written after.written (report ++ history_text trace)

-- ---- faults

-- it was played, and the output failed, after a prefix of the report and the text of the history
pub record IsCutOff (range : Option Moments) (words : List (List ℕ)) (old new : HostState) (before after : SinkState) : Type 0 where
  pub trace : List Entry
  pub report : List ℕ
  pub played : WasPlayed range words old new trace report
  pub prefix : AppendsPrefix before.written after.written (report ++ history_text trace)
  pub failed : Fails before after

-- when each fault comes; but for the words and the output it is as of bdevrun
abbrev pub TraceCause : Option Moments → List (List ℕ) → HostState → HostState → SinkState → SinkState → Fault → Type 0
TraceCause range words old new before after Usage = traced_of words ≡ None
TraceCause range words old new before after WriteFault = IsCutOff range words old new before after
TraceCause range words old new before after fault = Cause range words old new before after fault

-- the fault of a run whose output was kept in memory, for this fault of it
abbrev pub kept_fault : Fault → Fault
kept_fault WriteFault = OutOfMemory
kept_fault fault = fault

-- ---- what is in form

-- the words ask for something that is played, and the files that they name are in form
pub record IsInForm (words : List (List ℕ)) (host : HostState) : Type 0 where
  pub asked : Asked
  pub named : traced_of words ≡ Some asked
  pub files : IsAskedInForm asked host
