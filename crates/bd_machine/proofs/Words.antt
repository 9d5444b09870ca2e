-- Words for traces.
use Rattle.std.specs.List.{filter}
use Rattle.std.proofs.Common.{Bool, true, false, not, cond, ◌==◌, ◌++◌, ℕ, ◌+◌, List, [], ◌∷◌, Option, Some, None}
use Rattle.bd_base.specs.declared.id.DevId.{DevId}
use Rattle.bd_base.specs.declared.id.HandleId.{HandleId}
use Rattle.bd_base.specs.declared.id.ReqId.{ReqId}
use Rattle.bd_base.specs.declared.id.ThreadId.{ThreadId}
use Rattle.bd_base.specs.declared.id.WalkId.{WalkId}
use Rattle.bd_base.specs.declared.thread_set.ThreadSet.{ThreadSet}
use Rattle.bd_base.specs.declared.act.Act.{Act}
use Rattle.bd_base.specs.declared.act.Entry.{Entry}
use Rattle.bd_base.specs.declared.request.Op.{Op}
use Rattle.bd_base.specs.declared.request.Op.TheVariants as ops
use Rattle.bd_base.specs.declared.job.Job.{Job}
use Rattle.bd_base.specs.declared.job.Line.{Line}
use Rattle.bd_base.specs.declared.job.Script.{Script}
use Rattle.bd_base.specs.declared.setup.Setup.{Setup}
use Rattle.bd_machine.specs.declared.state.State.{State}
use Rattle.bd_machine.specs.Step.{after, rule_broken}

abbrev pub at : ℕ → ℕ → Act → Entry
at stamp thread act = record { stamp = stamp; thread = thread; act = act }

abbrev pub line : ℕ → Job → Line
line number job = record { number = number; job = job }

abbrev pub script : ℕ → List Line → Script
script thread lines = record { thread = thread; lines = lines }

abbrev pub dev : ℕ → DevId
dev n = record { 0 = n }

abbrev pub handle : ℕ → HandleId
handle n = record { 0 = n }

abbrev pub thread : ℕ → ThreadId
thread n = record { 0 = n }

abbrev pub threads : ℕ → ThreadSet
threads bits = record { 0 = bits }

abbrev pub req : ℕ → ℕ → ReqId
req thread seq = record { thread = thread; seq = seq }

abbrev pub walk : ℕ → ℕ → WalkId
walk thread seq = record { thread = thread; seq = seq }

abbrev pub write : ℕ → Op
write seed = ops.Write (record { seed = seed; flip = false })

-- an entry's place, and the number of a guard that fails there
pub record Refusal : Type 0 where
  pub place : ℕ
  pub guard : ℕ

abbrev pub refusal_or : ℕ → Option ℕ → Option Refusal → Option Refusal
refusal_or n None later = later
refusal_or n (Some guard) later = Some (record { place = n; guard = guard })

-- the first entry that breaks a rule, whether its act is built or not
abbrev pub refusal_in : Setup → State → ℕ → List Entry → Option Refusal
refusal_in setup s n [] = None
refusal_in setup s n (e ∷ es) = refusal_or n (rule_broken setup s e) (refusal_in setup (after setup s e) (n + 1) es)

-- an entry that is refused after the first entries of a trace, and the least guard that fails
pub record Refused : Type 0 where
  pub guard : ℕ
  pub place : ℕ
  pub thread : ℕ
  pub act : Act

abbrev pub is_guard : ℕ → Option ℕ → Bool
is_guard n None = false
is_guard n (Some guard) = guard == n

-- it is refused so in this state, or isn't due at this place
abbrev pub is_refused : Setup → State → ℕ → Refused → Bool
is_refused setup s n r = cond (r.place == n) (is_guard r.guard (rule_broken setup s (at 1000000000 r.thread r.act))) true

-- those of a table that are not refused so, at each place along a trace
abbrev pub refusals_along : Setup → State → ℕ → List Refused → List Entry → List Refused
refusals_along setup s n table [] = filter (λ r. not (is_refused setup s n r)) table
refusals_along setup s n table (e ∷ es) = filter (λ r. not (is_refused setup s n r)) table ++ refusals_along setup (after setup s e) (n + 1) table es
