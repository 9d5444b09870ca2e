-- A trace of the first path with channels and removals, computed: it is a complete run from its start; and entries that are refused first of all, since they aren't built or out of order.
use Rattle.std.proofs.Common.{◌≡◌, ℕ, true, List, [], ◌∷◌, take, Option, Some, None, refl, codes}
use Rattle.bd_base.specs.declared.act.Act.TheVariants as acts
use Rattle.bd_base.specs.declared.act.ApplyEnd.TheVariants as ends
use Rattle.bd_base.specs.declared.act.Entry.{Entry}
use Rattle.bd_base.specs.declared.act.Outcome.TheVariants as outcomes
use Rattle.bd_base.specs.declared.act.Token.TheVariants as tokens
use Rattle.bd_base.specs.declared.device.ErrKind.TheVariants as errors
use Rattle.bd_base.specs.declared.device.Kind.TheVariants as devices
use Rattle.bd_base.specs.declared.event.Answer.TheVariants as answers
use Rattle.bd_base.specs.declared.event.Dropped.TheVariants as dropped
use Rattle.bd_base.specs.declared.event.RegEvent.TheVariants as events
use Rattle.bd_base.specs.declared.job.Job.TheVariants as jobs
use Rattle.bd_base.specs.declared.request.Op.TheVariants as ops
use Rattle.bd_base.specs.declared.request.Status.TheVariants as statuses
use Rattle.bd_base.specs.declared.setup.Setup.{Setup}
use Rattle.sha2.specs.Sha256.{sha256, digest_bytes, hash_after, compress, rounds, schedule, first_words}
use Rattle.bd_machine.specs.declared.state.State.{State}
use Rattle.bd_machine.specs.Laws.{SomeRunIsComplete}
use Rattle.bd_machine.specs.Run.{IsRunFrom, after_all, is_finished, refused_in, refused_or}
use Rattle.bd_machine.specs.Start.{start}
use Rattle.bd_machine.specs.Step.{after, refusal}
use Rattle.bd_machine.proofs.Words.{at, line, script, dev, handle, threads, req, write}

-- ---- one thread writes a block and reads it back

abbrev pub first_path_setup : Setup
first_path_setup = record {
  threads = 1;
  devices =
      record { name = codes "Malloc0"; kind = devices.Malloc; base = None; blocks = 4; size = 512; boundary = 0; depth = 128; file = None; group = 0 } ∷
      [];
  rates =
      [];
  injections =
      record { read = record { kind = errors.Failure; left = 0 }; write = record { kind = errors.Failure; left = 0 }; zeroes = record { kind = errors.Failure; left = 0 }; unmap = record { kind = errors.Failure; left = 0 }; flush = record { kind = errors.Failure; left = 0 } } ∷
      [];
  waiting = [];
  scripts =
      script 0 (
      line 1 (jobs.Open (codes "h") (codes "Malloc0") true) ∷
      line 2 (jobs.Submit (codes "h") (write 5) 0 1) ∷
      line 3 jobs.Wait ∷
      line 4 (jobs.Submit (codes "h") ops.Read 0 1) ∷
      line 5 jobs.Wait ∷
      line 6 (jobs.Close (codes "h")) ∷
      []) ∷
      [];
}

abbrev pub first_path : List Entry
first_path =
    at 1 0 (acts.Reg (events.Open (codes "Malloc0") true) (answers.Opened (handle 0) (dev 0) 4)) ∷
    at 2 0 (acts.Reg (events.GetChannel (dev 0)) (answers.Got true [])) ∷
    at 3 0 (acts.Script 1 outcomes.Done) ∷
    at 4 0 (acts.Accept (dev 0) 0 (handle 0) (req 0 0) (write 5) 1) ∷
    at 5 0 (acts.Cut (req 0 0) 1) ∷
    at 6 0 (acts.Script 2 (outcomes.Accepted (req 0 0))) ∷
    at 7 0 (acts.Put 0 0 (tokens.Piece (req 0 0) 0)) ∷
    at 8 0 (acts.Took 0 0 (tokens.Piece (req 0 0) 0)) ∷
    at 9 0 (acts.Apply (req 0 0) 0 (dev 0) ends.Done) ∷
    at 10 0 (acts.Put 0 1 (tokens.Piece (req 0 0) 0)) ∷
    at 11 0 (acts.Took 0 1 (tokens.Piece (req 0 0) 0)) ∷
    at 12 0 (acts.Complete (req 0 0) statuses.Success None) ∷
    at 13 0 (acts.Script 3 outcomes.Done) ∷
    at 14 0 (acts.Accept (dev 0) 0 (handle 0) (req 0 1) ops.Read 1) ∷
    at 15 0 (acts.Cut (req 0 1) 1) ∷
    at 16 0 (acts.Script 4 (outcomes.Accepted (req 0 1))) ∷
    at 17 0 (acts.Put 0 2 (tokens.Piece (req 0 1) 0)) ∷
    at 18 0 (acts.Took 0 2 (tokens.Piece (req 0 1) 0)) ∷
    at 19 0 (acts.Apply (req 0 1) 0 (dev 0) ends.Done) ∷
    at 20 0 (acts.Put 0 3 (tokens.Piece (req 0 1) 0)) ∷
    at 21 0 (acts.Took 0 3 (tokens.Piece (req 0 1) 0)) ∷
    at 22 0 (acts.Complete (req 0 1) statuses.Success (Some (record { first = (5 ∷ 12 ∷ 19 ∷ 26 ∷ 33 ∷ 40 ∷ 47 ∷ 54 ∷ []); digest = (195 ∷ 113 ∷ 124 ∷ 245 ∷ 73 ∷ 221 ∷ 243 ∷ 114 ∷ 130 ∷ 104 ∷ 32 ∷ 204 ∷ 100 ∷ 74 ∷ 50 ∷ 144 ∷ 235 ∷ 147 ∷ 78 ∷ 81 ∷ 239 ∷ 239 ∷ 67 ∷ 119 ∷ 100 ∷ 232 ∷ 22 ∷ 130 ∷ 93 ∷ 191 ∷ 215 ∷ 214 ∷ []) }))) ∷
    at 23 0 (acts.Script 5 outcomes.Done) ∷
    at 24 0 (acts.Reg (events.PutChannel (dev 0) true) (answers.PutDown 0)) ∷
    at 25 0 (acts.Reg (events.Close (handle 0)) (answers.Closed None)) ∷
    at 26 0 (acts.Script 6 outcomes.Done) ∷
    at 27 0 (acts.Put 0 4 (tokens.Channel (dev 0))) ∷
    at 28 0 (acts.Took 0 4 (tokens.Channel (dev 0))) ∷
    at 29 0 (acts.Reg (events.DropChannel (dev 0)) (answers.Dropped dropped.Last None None)) ∷
    at 30 0 acts.Shutdown ∷
    at 31 0 (acts.Reg (events.BeginRemove (codes "Malloc0")) (answers.Removing (dev 0) (threads 0) [] (Some (dev 0)))) ∷
    at 32 0 (acts.Put 0 5 (tokens.Device (dev 0))) ∷
    at 33 0 (acts.Took 0 5 (tokens.Device (dev 0))) ∷
    at 34 0 (acts.Destruct (dev 0) (Some (38 ∷ 12 ∷ 148 ∷ 118 ∷ 209 ∷ 66 ∷ 200 ∷ 45 ∷ 247 ∷ 250 ∷ 128 ∷ 105 ∷ 165 ∷ 209 ∷ 10 ∷ 248 ∷ 214 ∷ 72 ∷ 129 ∷ 214 ∷ 117 ∷ 8 ∷ 85 ∷ 217 ∷ 67 ∷ 255 ∷ 240 ∷ 134 ∷ 2 ∷ 88 ∷ 11 ∷ 4 ∷ []))) ∷
    at 35 0 (acts.Reg (events.Destructed (dev 0)) (answers.Freed None)) ∷
    []

first_path_runs : refused_in first_path_setup (start first_path_setup []) first_path ≡ None
unfolding after sha256 digest_bytes hash_after compress rounds schedule first_words
first_path_runs = refl

first_path_is_complete : is_finished first_path_setup (after_all first_path_setup (start first_path_setup []) first_path) ≡ true
unfolding after
first_path_is_complete = refl

run_if : (setup : Setup) (s : State) (es : List Entry) → refused_in setup s es ≡ None → IsRunFrom setup s es
run_if setup s [] h = tt
run_if setup s (e ∷ es) h = go (refusal setup s e) refl h (run_if setup (after setup s e) es)
  where
    go : (o : Option ℕ) → refusal setup s e ≡ o → refused_or o (refused_in setup (after setup s e) es) ≡ None → (refused_in setup (after setup s e) es ≡ None → IsRunFrom setup (after setup s e) es) → IsRunFrom setup s (e ∷ es)
    go None q h rest = (q, rest h)
    go (Some n) q h rest = cc

pub some_run_is_complete : SomeRunIsComplete
some_run_is_complete = (first_path_setup, ([], (first_path, (req 0 0, ((run_if first_path_setup (start first_path_setup []) first_path first_path_runs, first_path_is_complete), refl)))))

-- ---- refused first of all

abbrev after_first : ℕ → State
after_first n = after_all first_path_setup (start first_path_setup []) (take n first_path)

-- a request that isn't there is kept without an answer; a reset that the line doesn't ask for
not_asked : (refusal first_path_setup (after_first 0) (at 100 0 (acts.Pend (req 0 0))) ≡ Some 13)
    × (refusal first_path_setup (after_first 3) (at 100 0 (acts.Accept (dev 0) 0 (handle 0) (req 0 0) (ops.Reset 0) 0)) ≡ Some 8)
unfolding after
not_asked = (refl, refl)

-- an unknown thread, no stamp, a stamp that doesn't rise
out_of_order : (refusal first_path_setup (after_first 0) (at 1 1 acts.Shutdown) ≡ Some 1)
    × (refusal first_path_setup (after_first 0) (at 0 0 acts.Shutdown) ≡ Some 1)
    × (refusal first_path_setup (after_first 2) (at 2 0 acts.Shutdown) ≡ Some 1)
unfolding after
out_of_order = (refl, refl, refl)

-- after the Shutdown: no open handle is closed without its remove event, and no device is destructed that nobody named
too_early : (refusal first_path_setup (after_first 30) (at 100 0 (acts.Destruct (dev 0) None)) ≡ Some 31)
    × (refusal first_path_setup (after_first 31) (at 100 0 (acts.Destruct (dev 0) None)) ≡ Some 31)
unfolding after
too_early = (refl, refl)
