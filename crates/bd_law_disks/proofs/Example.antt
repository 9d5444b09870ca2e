-- A thread over its disk, computed entry by entry: it zeroes a block and reads two, and the piece read what the disk told but for the zeroes.
-- Over nothing told the same entries are let through, and the piece read nothing that is told.
use Rattle.std.proofs.Common.{◌≡◌, ℕ, List, [], ◌∷◌, Option, Some, None, true, refl, codes}
use Rattle.std.specs.Option.{option_and_then}
use Rattle.std.specs.Prelude.{slice_index_or}
use Rattle.bd_base.specs.declared.act.Act.TheVariants as acts
use Rattle.bd_base.specs.declared.act.ApplyEnd.TheVariants as ends
use Rattle.bd_base.specs.declared.act.Entry.{Entry}
use Rattle.bd_base.specs.declared.act.Outcome.TheVariants as outcomes
use Rattle.bd_base.specs.declared.act.Token.TheVariants as tokens
use Rattle.bd_base.specs.declared.device.Kind.TheVariants.{Aio}
use Rattle.bd_base.specs.declared.event.Answer.TheVariants as answers
use Rattle.bd_base.specs.declared.event.RegEvent.TheVariants as events
use Rattle.bd_base.specs.declared.id.DevId.{DevId}
use Rattle.bd_base.specs.declared.job.Job.TheVariants as jobs
use Rattle.bd_base.specs.declared.request.Op.TheVariants as ops
use Rattle.bd_base.specs.declared.request.Status.TheVariants.{Success}
use Rattle.bd_base.specs.declared.setup.Setup.{Setup}
use Rattle.bd_machine.specs.declared.state.Content.{Content}
use Rattle.bd_machine.specs.declared.state.Content.TheVariants.{Blocks, Untold}
use Rattle.bd_machine.specs.declared.state.OpenPiece.{OpenPiece}
use Rattle.bd_machine.specs.Content.{Told, content_told}
use Rattle.bd_machine.specs.Kept.{piece_here}
use Rattle.bd_machine.specs.Run.{refused_or}
use Rattle.bd_machine.proofs.Words.{at, line, script, dev, handle, req}
use Rattle.bd_turns.specs.Laws.{view_at_start, shared_at_start}
use Rattle.bd_turns.specs.Local.{Local, refusal_local}
use Rattle.bd_law_disks.specs.Over.{contents_then, local_over}

abbrev one_disk : Setup
one_disk = record {
  threads = 1;
  devices = record { name = codes "Aio0"; kind = Aio; base = None; blocks = 2; size = 2; boundary = 0; depth = 1; file = None; group = 0 } ∷ [];
  rates = [];
  injections = [];
  waiting = [];
  scripts =
      script 0 (
      line 1 (jobs.Open (codes "h") (codes "Aio0") true) ∷
      line 2 (jobs.Submit (codes "h") ops.Zeroes 0 1) ∷
      line 3 jobs.Wait ∷
      line 4 (jobs.Submit (codes "h") ops.Read 0 2) ∷
      []) ∷
      [];
}

abbrev disk_told : Told
disk_told = Some ((1 ∷ 2 ∷ []) ∷ (3 ∷ 4 ∷ []) ∷ []) ∷ []

abbrev first : Told → DevId → Content
first told d = content_told (slice_index_or told d.0 None)

abbrev entries : List Entry
entries =
    at 1 0 (acts.Reg (events.Open (codes "Aio0") true) (answers.Opened (handle 0) (dev 0) 2)) ∷
    at 2 0 (acts.Reg (events.GetChannel (dev 0)) (answers.Got true [])) ∷
    at 3 0 (acts.Script 1 outcomes.Done) ∷
    at 4 0 (acts.Accept (dev 0) 0 (handle 0) (req 0 0) ops.Zeroes 1) ∷
    at 5 0 (acts.Cut (req 0 0) 1) ∷
    at 6 0 (acts.Script 2 (outcomes.Accepted (req 0 0))) ∷
    at 7 0 (acts.Put 0 0 (tokens.Piece (req 0 0) 0)) ∷
    at 8 0 (acts.Took 0 0 (tokens.Piece (req 0 0) 0)) ∷
    at 9 0 (acts.Apply (req 0 0) 0 (dev 0) ends.Done) ∷
    at 10 0 (acts.Put 0 1 (tokens.Piece (req 0 0) 0)) ∷
    at 11 0 (acts.Took 0 1 (tokens.Piece (req 0 0) 0)) ∷
    at 12 0 (acts.Complete (req 0 0) Success None) ∷
    at 13 0 (acts.Script 3 outcomes.Done) ∷
    at 14 0 (acts.Accept (dev 0) 0 (handle 0) (req 0 1) ops.Read 2) ∷
    at 15 0 (acts.Cut (req 0 1) 1) ∷
    at 16 0 (acts.Script 4 (outcomes.Accepted (req 0 1))) ∷
    at 17 0 (acts.Put 0 2 (tokens.Piece (req 0 1) 0)) ∷
    at 18 0 (acts.Took 0 2 (tokens.Piece (req 0 1) 0)) ∷
    at 19 0 (acts.Apply (req 0 1) 0 (dev 0) ends.Done) ∷ []

-- the guard at which the thread stops over what its disks hold, if it does; else what the disks hold then, and what the piece read
record After : Type 0 where
  refusal : Option ℕ
  holds : Content
  read : Option (List ℕ)

abbrev read_of : OpenPiece → Option (List ℕ)
read_of p = p.read

abbrev after : (DevId → Content) → Local → List Entry → After
after contents l [] = record { refusal = None; holds = contents (dev 0); read = option_and_then read_of (piece_here l.view (req 0 1) 0) }
after contents l (e ∷ es) =
    let rest : After = after (contents_then one_disk contents l e) (local_over one_disk 0 contents l e) es in
    record rest { refusal = refused_or (refusal_local one_disk 0 l e) rest.refusal }

abbrev at_start : Local
at_start = record { view = view_at_start one_disk [] 0; shared = shared_at_start one_disk }

read_as_told : after (first disk_told) at_start entries
    ≡ record { refusal = None; holds = Blocks ((0 ∷ 0 ∷ []) ∷ (3 ∷ 4 ∷ []) ∷ []); read = Some (0 ∷ 0 ∷ 3 ∷ 4 ∷ []) }
unfolding local_over
read_as_told = refl

read_untold : after (first []) at_start entries ≡ record { refusal = None; holds = Untold; read = None }
unfolding local_over
read_untold = refl
