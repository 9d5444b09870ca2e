-- Resizes: a trace.
use Rattle.std.proofs.Common.{◌≡◌, true, List, [], ◌∷◌, Some, None, refl, codes}
use Rattle.bd_base.specs.declared.act.Act.TheVariants as acts
use Rattle.bd_base.specs.declared.act.ApplyEnd.TheVariants as ends
use Rattle.bd_base.specs.declared.act.Entry.{Entry}
use Rattle.bd_base.specs.declared.act.Outcome.TheVariants as outcomes
use Rattle.bd_base.specs.declared.act.Token.TheVariants as tokens
use Rattle.bd_base.specs.declared.device.ErrKind.TheVariants as errors
use Rattle.bd_base.specs.declared.device.Kind.TheVariants as devices
use Rattle.bd_base.specs.declared.event.Answer.TheVariants as answers
use Rattle.bd_base.specs.declared.event.Dropped.TheVariants as dropped
use Rattle.bd_base.specs.declared.event.RegEvent.TheVariants as events
use Rattle.bd_base.specs.declared.job.Job.TheVariants as jobs
use Rattle.bd_base.specs.declared.request.Status.TheVariants as statuses
use Rattle.bd_base.specs.declared.setup.Setup.{Setup}
use Rattle.bd_machine.specs.Run.{after_all, is_finished}
use Rattle.bd_machine.specs.Start.{start}
use Rattle.bd_machine.specs.Step.{after}
use Rattle.bd_machine.proofs.Words.{at, line, script, dev, handle, thread, threads, req, write, refusal_in}

-- ---- a null device grows, and a write goes to a block that it didn't have

abbrev pub device_grown_setup : Setup
device_grown_setup = record {
  threads = 1;
  devices =
      record { name = codes "N"; kind = devices.Null; base = None; blocks = 8; size = 512; boundary = 0; depth = 128; file = None; group = 0 } ∷
      [];
  rates =
      [];
  injections =
      record { read = record { kind = errors.Failure; left = 0 }; write = record { kind = errors.Failure; left = 0 }; zeroes = record { kind = errors.Failure; left = 0 }; unmap = record { kind = errors.Failure; left = 0 }; flush = record { kind = errors.Failure; left = 0 } } ∷
      [];
  waiting = [];
  scripts =
      script 0 (
      line 1 (jobs.Open (codes "h") (codes "N") true) ∷
      line 2 (jobs.Resize (codes "N") 12) ∷
      line 3 (jobs.Sized (codes "h") 12) ∷
      line 4 (jobs.Submit (codes "h") (write 5) 9 1) ∷
      line 5 jobs.Wait ∷
      line 6 (jobs.Close (codes "h")) ∷
      []) ∷
      [];
}

abbrev pub device_grown : List Entry
device_grown =
    at 1 0 (acts.Reg (events.Open (codes "N") true) (answers.Opened (handle 0) (dev 0) 8)) ∷
    at 2 0 (acts.Reg (events.GetChannel (dev 0)) (answers.Got true [])) ∷
    at 3 0 (acts.Script 1 outcomes.Done) ∷
    at 4 0 (acts.Reg (events.BeginResize (codes "N") 12) (answers.Resizing (dev 0) (thread 0))) ∷
    at 5 0 (acts.Script 2 outcomes.Done) ∷
    at 6 0 (acts.Put 0 0 (tokens.Grow (dev 0) 12)) ∷
    at 7 0 (acts.Took 0 0 (tokens.Grow (dev 0) 12)) ∷
    at 8 0 (acts.Grow (dev 0) 12) ∷
    at 9 0 (acts.Reg (events.EndResize (dev 0)) (answers.Resized (((handle 0), thread 0) ∷ []) 12 None)) ∷
    at 10 0 (acts.Put 0 1 (tokens.Sized (handle 0) 12)) ∷
    at 11 0 (acts.Took 0 1 (tokens.Sized (handle 0) 12)) ∷
    at 12 0 (acts.Script 3 outcomes.Done) ∷
    at 13 0 (acts.Accept (dev 0) 9 (handle 0) (req 0 0) (write 5) 1) ∷
    at 14 0 (acts.Cut (req 0 0) 1) ∷
    at 15 0 (acts.Script 4 (outcomes.Accepted (req 0 0))) ∷
    at 16 0 (acts.Put 0 2 (tokens.Piece (req 0 0) 0)) ∷
    at 17 0 (acts.Took 0 2 (tokens.Piece (req 0 0) 0)) ∷
    at 18 0 (acts.Apply (req 0 0) 0 (dev 0) ends.Done) ∷
    at 19 0 (acts.Put 0 3 (tokens.Piece (req 0 0) 0)) ∷
    at 20 0 (acts.Took 0 3 (tokens.Piece (req 0 0) 0)) ∷
    at 21 0 (acts.Complete (req 0 0) statuses.Success None) ∷
    at 22 0 (acts.Script 5 outcomes.Done) ∷
    at 23 0 (acts.Reg (events.PutChannel (dev 0) true) (answers.PutDown 0)) ∷
    at 24 0 (acts.Reg (events.Close (handle 0)) (answers.Closed None)) ∷
    at 25 0 (acts.Script 6 outcomes.Done) ∷
    at 26 0 (acts.Put 0 4 (tokens.Channel (dev 0))) ∷
    at 27 0 (acts.Took 0 4 (tokens.Channel (dev 0))) ∷
    at 28 0 (acts.Reg (events.DropChannel (dev 0)) (answers.Dropped dropped.Last None None)) ∷
    at 29 0 acts.Shutdown ∷
    at 30 0 (acts.Reg (events.BeginRemove (codes "N")) (answers.Removing (dev 0) (threads 0) [] (Some (dev 0)))) ∷
    at 31 0 (acts.Put 0 5 (tokens.Device (dev 0))) ∷
    at 32 0 (acts.Took 0 5 (tokens.Device (dev 0))) ∷
    at 33 0 (acts.Destruct (dev 0) None) ∷
    at 34 0 (acts.Reg (events.Destructed (dev 0)) (answers.Freed None)) ∷
    []

pub device_grown_runs : refusal_in device_grown_setup (start device_grown_setup []) 0 device_grown ≡ None
unfolding after
device_grown_runs = refl

pub device_grown_is_complete : is_finished device_grown_setup (after_all device_grown_setup (start device_grown_setup []) device_grown) ≡ true
unfolding after
device_grown_is_complete = refl
