-- The answer of a call by the cause that doing what it was asked gave.
use Rattle.std.proofs.Common.{◌≡◌, ◌∙◌, ℕ, List, Option, Some, subst, sym}
use Rattle.bd_outside.specs.Clock.{Moments}
use Rattle.bd_outside.specs.Host.{HostState}
use Rattle.bd_outside.specs.Sink.{SinkState}
use Rattle.bd_top.specs.declared.fault.Fault.{Fault}
use Rattle.bd_top.specs.declared.fault.Fault.TheVariants as faults
use Rattle.bd_top.specs.Run.{AskedCause, Cause, FileCause, NamesNoFile}
use Rattle.bd_top.specs.Words.{Arguments, Asked, Run, Exercise, Generate, asked_of}

module _ (range : Option Moments) (words : List (List ℕ)) (old new : HostState) (before after : SinkState) where
  -- a fault of two files that the words name
  of_files : (named : Arguments) (fault : Fault) → asked_of words ≡ Some (Run named) → FileCause old new named.config named.jobs named.playing.threads fault → Cause range words old new before after fault
  of_files named faults.Usage is cause = absurd cause
  of_files named faults.WriteFault is cause = absurd cause
  of_files named faults.OutOfMemory is cause = tt
  of_files named (faults.NoFile name) is cause = record { arguments = named; named = is; of_file = cause }
  of_files named (faults.TooLong name) is cause = record { arguments = named; named = is; of_file = cause }
  of_files named (faults.ReadFault name) is cause = record { arguments = named; named = is; of_file = cause }
  of_files named faults.ConfigText is cause = record { arguments = named; named = is; of_file = cause }
  of_files named (faults.ConfigShape place) is cause = record { arguments = named; named = is; of_file = cause }
  of_files named (faults.Method index code) is cause = record { arguments = named; named = is; of_file = cause }
  of_files named (faults.JobText line) is cause = record { arguments = named; named = is; of_file = cause }

  -- out of memory needs no cause
  of_memory : (fault : Fault) → fault ≡ faults.OutOfMemory → Cause range words old new before after fault
  of_memory fault is = subst (Cause range words old new before after) (sym is) tt

  -- a fault of what the words ask
  pub of_asked : (asked : Asked) (fault : Fault) → asked_of words ≡ Some asked → AskedCause asked old new fault → Cause range words old new before after fault
  of_asked (Run named) fault is cause = of_files named fault is cause
  of_asked (Exercise numbers playing) fault is cause = of_memory fault cause
  of_asked (Generate numbers threads) fault is cause = of_memory fault cause

-- words ask for one thing: where that names no file, neither does what they are known to ask
pub names_none : (words : List (List ℕ)) (one other : Asked) → asked_of words ≡ Some one → asked_of words ≡ Some other → NamesNoFile one → NamesNoFile other
names_none words one other is also none =
    let both : Some one ≡ Some other = sym is ∙ also in
    let same : one ≡ other = cc in
    subst NamesNoFile same none
