-- The rules of turns let whole turns through, computed entry by entry: a write of one thread to a device of the other; and, where every act is built, a stack that is removed over two threads, resets in turn, a resize, and a reset with a drain time.
use Rattle.std.proofs.Common.{◌≡◌, ℕ, ◌+◌, List, [], ◌∷◌, Option, None, true, nat_lt, refl, codes}
use Rattle.bd_base.specs.declared.act.Act.TheVariants as acts
use Rattle.bd_base.specs.declared.act.ApplyEnd.TheVariants as ends
use Rattle.bd_base.specs.declared.act.Entry.{Entry}
use Rattle.bd_base.specs.declared.act.Outcome.TheVariants as outcomes
use Rattle.bd_base.specs.declared.act.Token.TheVariants as tokens
use Rattle.bd_base.specs.declared.device.Kind.TheVariants.{Null}
use Rattle.bd_base.specs.declared.event.Answer.TheVariants as answers
use Rattle.bd_base.specs.declared.event.RegEvent.TheVariants as events
use Rattle.bd_base.specs.declared.job.Job.TheVariants as jobs
use Rattle.bd_base.specs.declared.request.Status.TheVariants.{Success}
use Rattle.bd_base.specs.declared.setup.Setup.{Setup}
use Rattle.bd_machine.specs.declared.guard.TheConstants.{IN_ORDER}
use Rattle.bd_machine.specs.Guards.{guards}
use Rattle.bd_machine.specs.Run.{refused_or}
use Rattle.bd_machine.specs.Step.{first_failing}
use Rattle.bd_machine.specs.View.{View}
use Rattle.bd_machine.proofs.RemovalTraces.{stack_removed_setup, stack_removed}
use Rattle.bd_machine.proofs.DrainTimeTraces.{drain_timed_setup, drain_timed}
use Rattle.bd_machine.proofs.ResizeTraces.{device_grown_setup, device_grown}
use Rattle.bd_machine.proofs.ResetTraces.{resets_in_turn_setup, resets_in_turn}
use Rattle.bd_machine.proofs.Words.{at, line, script, dev, handle, req, write}
use Rattle.bd_turns.specs.Laws.{view_at_start, shared_at_start, with_view}
use Rattle.bd_turns.specs.Local.{Shared, Local, came_local, refusal_local, local_after}

-- ---- what is built as yet

-- the number of the guard at which the threads' own rules stop, if they do
abbrev refused_by : Setup → (ℕ → View) → Shared → List Entry → Option ℕ
refused_by setup views shared [] = None
refused_by setup views shared (e ∷ es) =
    let l : Local = record { view = views e.thread; shared = shared } in
    let now : Local = local_after setup e.thread l e in
    refused_or (refusal_local setup e.thread l e) (refused_by setup (with_view views e.thread now.view) now.shared es)

abbrev two_threads : Setup
two_threads = record {
  threads = 2;
  devices = record { name = codes "Null0"; kind = Null; base = None; blocks = 4; size = 512; boundary = 0; depth = 128; file = None; group = 0 } ∷ [];
  rates = [];
  injections = [];
  waiting = [];
  scripts = script 1 (line 1 (jobs.Open (codes "h") (codes "Null0") true) ∷ line 2 (jobs.Submit (codes "h") (write 5) 0 1) ∷ line 3 (jobs.Post (codes "x")) ∷ []) ∷ [];
}

abbrev turns : List Entry
turns =
    at 1 1 (acts.Reg (events.Open (codes "Null0") true) (answers.Opened (handle 0) (dev 0) 4)) ∷
    at 2 1 (acts.Reg (events.GetChannel (dev 0)) (answers.Got true [])) ∷
    at 3 1 (acts.Script 1 outcomes.Done) ∷
    at 4 1 (acts.Accept (dev 0) 0 (handle 0) (req 1 0) (write 5) 1) ∷
    at 5 1 (acts.Script 2 (outcomes.Accepted (req 1 0))) ∷
    at 6 1 (acts.Cut (req 1 0) 1) ∷
    at 7 1 (acts.Put 0 0 (tokens.Piece (req 1 0) 0)) ∷
    at 8 1 (acts.Script 3 outcomes.Done) ∷
    at 9 1 (acts.Put 0 1 (tokens.Mark (codes "x"))) ∷
    at 10 0 (acts.Took 1 0 (tokens.Piece (req 1 0) 0)) ∷
    at 11 0 (acts.Apply (req 1 0) 0 (dev 0) ends.Done) ∷
    at 12 0 (acts.Put 1 0 (tokens.Piece (req 1 0) 0)) ∷
    at 13 0 (acts.Took 1 1 (tokens.Mark (codes "x"))) ∷
    at 14 1 (acts.Took 0 0 (tokens.Piece (req 1 0) 0)) ∷
    at 15 1 (acts.Complete (req 1 0) Success None) ∷ []

write_is_let_through : refused_by two_threads (view_at_start two_threads []) (shared_at_start two_threads) turns ≡ None
unfolding local_after
write_is_let_through = refl

-- ---- every act, built or not

-- the first guard that an entry fails in its thread, whether its act is built or not
abbrev rule_broken_local : Setup → ℕ → Local → Entry → Option ℕ
rule_broken_local setup t l e = first_failing ((IN_ORDER, nat_lt l.shared.stamp e.stamp) ∷ guards setup t l.view e.act (came_local setup t l e.act))

-- the same of whole turns, each entry with the next stamp
abbrev rule_broken_by : Setup → (ℕ → View) → Shared → List Entry → Option ℕ
rule_broken_by setup views shared [] = None
rule_broken_by setup views shared (e ∷ es) =
    let l : Local = record { view = views e.thread; shared = shared } in
    let now : Local = local_after setup e.thread l (record e { stamp = shared.stamp + 1 }) in
    refused_or (rule_broken_local setup e.thread l (record e { stamp = shared.stamp + 1 })) (rule_broken_by setup (with_view views e.thread now.view) now.shared es)

removal_is_let_through : rule_broken_by stack_removed_setup (view_at_start stack_removed_setup []) (shared_at_start stack_removed_setup) stack_removed ≡ None
unfolding local_after
removal_is_let_through = refl

resets_are_let_through : rule_broken_by resets_in_turn_setup (view_at_start resets_in_turn_setup []) (shared_at_start resets_in_turn_setup) resets_in_turn ≡ None
unfolding local_after
resets_are_let_through = refl

resize_is_let_through : rule_broken_by device_grown_setup (view_at_start device_grown_setup []) (shared_at_start device_grown_setup) device_grown ≡ None
unfolding local_after
resize_is_let_through = refl

drain_time_is_let_through : rule_broken_by drain_timed_setup (view_at_start drain_timed_setup []) (shared_at_start drain_timed_setup) drain_timed ≡ None
unfolding local_after
drain_time_is_let_through = refl
