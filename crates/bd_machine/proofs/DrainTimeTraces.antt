-- Resets with a drain time: a trace.
use Rattle.std.proofs.Common.{◌≡◌, true, List, [], ◌∷◌, Some, None, refl, codes}
use Rattle.bd_base.specs.declared.act.Act.TheVariants as acts
use Rattle.bd_base.specs.declared.act.Entry.{Entry}
use Rattle.bd_base.specs.declared.act.Outcome.TheVariants as outcomes
use Rattle.bd_base.specs.declared.act.Token.TheVariants as tokens
use Rattle.bd_base.specs.declared.device.ErrKind.TheVariants as errors
use Rattle.bd_base.specs.declared.device.Kind.TheVariants as devices
use Rattle.bd_base.specs.declared.event.Answer.TheVariants as answers
use Rattle.bd_base.specs.declared.event.Dropped.TheVariants as dropped
use Rattle.bd_base.specs.declared.event.RegEvent.TheVariants as events
use Rattle.bd_base.specs.declared.job.Job.TheVariants as jobs
use Rattle.bd_base.specs.declared.request.AbortCause.TheVariants as causes
use Rattle.bd_base.specs.declared.request.Decision.TheVariants as decisions
use Rattle.bd_base.specs.declared.request.Errno.TheVariants as errnos
use Rattle.bd_base.specs.declared.request.Op.TheVariants as ops
use Rattle.bd_base.specs.declared.request.Status.TheVariants as statuses
use Rattle.bd_base.specs.declared.request.WalkKind.TheVariants as kinds
use Rattle.bd_base.specs.declared.setup.Setup.{Setup}
use Rattle.bd_machine.specs.Run.{after_all, is_finished}
use Rattle.bd_machine.specs.Start.{start}
use Rattle.bd_machine.specs.Step.{after}
use Rattle.bd_machine.proofs.Words.{at, line, script, dev, handle, thread, threads, req, walk, write, refusal_in}

-- ---- a write that is kept without an answer is aborted once the drain time is over, and one that came after the freeze at once

abbrev pub drain_timed_setup : Setup
drain_timed_setup = record {
  threads = 1;
  devices =
      record { name = codes "N"; kind = devices.Null; base = None; blocks = 8; size = 512; boundary = 0; depth = 128; file = None; group = 0 } ∷
      record { name = codes "EE_N"; kind = devices.Error; base = (Some (dev 0)); blocks = 8; size = 512; boundary = 0; depth = 0; file = None; group = 1 } ∷
      [];
  rates =
      [];
  injections =
      record { read = record { kind = errors.Failure; left = 0 }; write = record { kind = errors.Failure; left = 0 }; zeroes = record { kind = errors.Failure; left = 0 }; unmap = record { kind = errors.Failure; left = 0 }; flush = record { kind = errors.Failure; left = 0 } } ∷
      record { read = record { kind = errors.Failure; left = 0 }; write = record { kind = errors.Pending; left = 1 }; zeroes = record { kind = errors.Failure; left = 0 }; unmap = record { kind = errors.Failure; left = 0 }; flush = record { kind = errors.Failure; left = 0 } } ∷
      [];
  waiting = [];
  scripts =
      script 0 (
      line 1 (jobs.Open (codes "h") (codes "EE_N") true) ∷
      line 2 (jobs.Submit (codes "h") (write 5) 0 1) ∷
      line 3 (jobs.Submit (codes "h") (ops.Reset 100) 0 0) ∷
      line 4 (jobs.Submit (codes "h") (write 6) 0 1) ∷
      line 5 jobs.Wait ∷
      line 6 (jobs.Close (codes "h")) ∷
      []) ∷
      [];
}

abbrev pub drain_timed : List Entry
drain_timed =
    at 1 0 (acts.Reg (events.Open (codes "EE_N") true) (answers.Opened (handle 1) (dev 1) 8)) ∷
    at 2 0 (acts.Reg (events.GetChannel (dev 1)) (answers.Got true [])) ∷
    at 3 0 (acts.Script 1 outcomes.Done) ∷
    at 4 0 (acts.Accept (dev 1) 0 (handle 1) (req 0 0) (write 5) 1) ∷
    at 5 0 (acts.Reg (events.TakeInjection (dev 1) (req 0 0) (write 5)) (answers.Injected decisions.Pend)) ∷
    at 6 0 (acts.Inject (req 0 0) (dev 1) decisions.Pend) ∷
    at 7 0 (acts.Pend (req 0 0)) ∷
    at 8 0 (acts.Script 2 (outcomes.Accepted (req 0 0))) ∷
    at 9 0 (acts.Accept (dev 1) 0 (handle 1) (req 0 1) (ops.Reset 100) 0) ∷
    at 10 0 (acts.Reg (events.BeginReset (dev 1) (req 0 1)) (answers.ResetStarted (threads 1))) ∷
    at 11 0 (acts.Script 3 (outcomes.Accepted (req 0 1))) ∷
    at 12 0 (acts.Put 0 0 (tokens.Walk (walk 0 0))) ∷
    at 13 0 (acts.Took 0 0 (tokens.Walk (walk 0 0))) ∷
    at 14 0 (acts.Visit (walk 0 0) (dev 1) kinds.Freeze) ∷
    at 15 0 (acts.Grace (walk 0 0) 100) ∷
    at 16 0 (acts.Accept (dev 1) 0 (handle 1) (req 0 2) (write 6) 1) ∷
    at 17 0 (acts.Abort (req 0 2) (causes.Frozen (dev 1))) ∷
    at 18 0 (acts.Complete (req 0 2) statuses.Aborted None) ∷
    at 19 0 (acts.Script 4 (outcomes.Accepted (req 0 2))) ∷
    at 20 0 (acts.Put 0 1 (tokens.Walk (walk 0 1))) ∷
    at 21 0 (acts.Took 0 1 (tokens.Walk (walk 0 1))) ∷
    at 22 0 (acts.Due (walk 0 0) 100) ∷
    at 23 0 (acts.Abort (req 0 0) (causes.Frozen (dev 1))) ∷
    at 24 0 (acts.Complete (req 0 0) statuses.Aborted None) ∷
    at 25 0 (acts.Visit (walk 0 1) (dev 1) kinds.Drain) ∷
    at 26 0 (acts.Reg (events.EndReset (dev 1)) (answers.ResetEnded (threads 1))) ∷
    at 27 0 (acts.Put 0 2 (tokens.Walk (walk 0 2))) ∷
    at 28 0 (acts.Took 0 2 (tokens.Walk (walk 0 2))) ∷
    at 29 0 (acts.Visit (walk 0 2) (dev 1) kinds.Thaw) ∷
    at 30 0 (acts.Reg (events.FinishReset (dev 1)) (answers.ResetFinished None)) ∷
    at 31 0 (acts.Complete (req 0 1) statuses.Success None) ∷
    at 32 0 (acts.Script 5 outcomes.Done) ∷
    at 33 0 (acts.Reg (events.PutChannel (dev 1) true) (answers.PutDown 0)) ∷
    at 34 0 (acts.Reg (events.Close (handle 1)) (answers.Closed None)) ∷
    at 35 0 (acts.Script 6 outcomes.Done) ∷
    at 36 0 (acts.Put 0 3 (tokens.Channel (dev 1))) ∷
    at 37 0 (acts.Took 0 3 (tokens.Channel (dev 1))) ∷
    at 38 0 (acts.Reg (events.DropChannel (dev 1)) (answers.Dropped dropped.Last (Some (dev 0)) None)) ∷
    at 39 0 (acts.Put 0 4 (tokens.Channel (dev 0))) ∷
    at 40 0 (acts.Took 0 4 (tokens.Channel (dev 0))) ∷
    at 41 0 (acts.Reg (events.DropChannel (dev 0)) (answers.Dropped dropped.Last None None)) ∷
    at 42 0 acts.Shutdown ∷
    at 43 0 (acts.Reg (events.BeginRemove (codes "EE_N")) (answers.Removing (dev 1) (threads 0) [] (Some (dev 1)))) ∷
    at 44 0 (acts.Reg (events.BeginRemove (codes "N")) (answers.Removing (dev 0) (threads 0) (((handle 0), thread 0) ∷ []) None)) ∷
    at 45 0 (acts.Put 0 5 (tokens.Device (dev 1))) ∷
    at 46 0 (acts.Put 0 6 (tokens.Gone (handle 0))) ∷
    at 47 0 (acts.Took 0 5 (tokens.Device (dev 1))) ∷
    at 48 0 (acts.Destruct (dev 1) None) ∷
    at 49 0 (acts.Reg (events.Destructed (dev 1)) (answers.Freed (Some (handle 0)))) ∷
    at 50 0 (acts.Reg (events.Close (handle 0)) (answers.Closed (Some (dev 0)))) ∷
    at 51 0 (acts.Took 0 6 (tokens.Gone (handle 0))) ∷
    at 52 0 (acts.Reg (events.BeginRemove (codes "EE_N")) (answers.Refused errnos.NoDev)) ∷
    at 53 0 (acts.Put 0 7 (tokens.Device (dev 0))) ∷
    at 54 0 (acts.Took 0 7 (tokens.Device (dev 0))) ∷
    at 55 0 (acts.Destruct (dev 0) None) ∷
    at 56 0 (acts.Reg (events.Destructed (dev 0)) (answers.Freed None)) ∷
    []

pub drain_timed_runs : refusal_in drain_timed_setup (start drain_timed_setup []) 0 drain_timed ≡ None
unfolding after
drain_timed_runs = refl

pub drain_timed_is_complete : is_finished drain_timed_setup (after_all drain_timed_setup (start drain_timed_setup []) drain_timed) ≡ true
unfolding after
drain_timed_is_complete = refl
