-- The rules of rows let whole logs through, entry by entry, with no machine at hand, whether their acts are built yet or not: each thread's rows of a stack that is removed over two threads, of resets in turn, of a resize and of a reset with a drain time, with walks, notices of each kind and destructions.
use Rattle.std.proofs.Common.{◌≡◌, ℕ, Bool, false, cond, ◌==◌, nat_lt, List, [], ◌∷◌, Option, Some, None, option_and_then, refl}
use Rattle.bd_base.specs.declared.act.Act.{Act}
use Rattle.bd_base.specs.declared.act.Act.TheVariants as acts
use Rattle.bd_base.specs.declared.act.Entry.{Entry}
use Rattle.bd_base.specs.declared.act.Token.{Token}
use Rattle.bd_base.specs.declared.setup.Setup.{Setup}
use Rattle.bd_machine.specs.declared.guard.TheConstants.{IN_ORDER}
use Rattle.bd_machine.specs.declared.state.Kept.{Kept}
use Rattle.bd_machine.specs.declared.state.State.{State}
use Rattle.bd_machine.specs.Guards.{guards}
use Rattle.bd_machine.specs.Run.{refused_or}
use Rattle.bd_machine.specs.Start.{start}
use Rattle.bd_machine.specs.Step.{first_failing, is_shutdown, change_in, after}
use Rattle.bd_machine.specs.View.{View, Move, message_for, asked}
use Rattle.bd_machine.proofs.RemovalTraces.{stack_removed_setup, stack_removed}
use Rattle.bd_machine.proofs.DrainTimeTraces.{drain_timed_setup, drain_timed}
use Rattle.bd_machine.proofs.ResizeTraces.{device_grown_setup, device_grown}
use Rattle.bd_machine.proofs.ResetTraces.{resets_in_turn_setup, resets_in_turn}
use Rattle.bd_turns.specs.Laws.{view_at_start}
use Rattle.bd_turns.specs.declared.queue.Post.{Post}
use Rattle.bd_law_logs.specs.Rows.{Row, came_by, view_after}

abbrev post_of : ℕ → Token → Option Kept → Option Post
post_of sender what None = None
post_of sender what (Some kept) = Some (record { message = record { sender = sender; what = what; kept = kept }; stamp = 0 })

abbrev kept_of : List Move → Option Kept
kept_of [] = None
kept_of (m ∷ ms) = Some m.kept

-- what an entry puts or takes in a state
abbrev post_for : Setup → State → ℕ → Act → Option Post
post_for setup s t (acts.Put to number what) = post_of t what (kept_of (change_in setup s t (acts.Put to number what)).moves)
post_for setup s t (acts.Took source number what) = post_of source what (message_for s t (record { source = source; number = number; what = what }))
post_for setup s t _ = None

abbrev row_for : Setup → State → Entry → Row
row_for setup s e = record { entry = e; post = post_for setup s e.thread e.act; between = option_and_then (λ q. s.registry.between) (asked e.act) }

-- a thread's rows of a run up to the Shutdown
abbrev log_of : Setup → ℕ → State → List Entry → List Row
log_of setup t s [] = []
log_of setup t s (e ∷ es) = cond (is_shutdown e.act) [] (cond (e.thread == t) (row_for setup s e ∷ log_of setup t (after setup s e) es) (log_of setup t (after setup s e) es))

-- the first guard that a row fails in its thread, whether its act is built or not
abbrev rule_broken_by : Setup → Bool → ℕ → View → Row → Option ℕ
rule_broken_by setup shut t v r = first_failing ((IN_ORDER, nat_lt 0 r.entry.stamp) ∷ guards setup t v r.entry.act (came_by shut t r))

-- the first that a thread's rows fail
abbrev broken_in : Setup → Bool → ℕ → View → List Row → Option ℕ
broken_in setup shut t v [] = None
broken_in setup shut t v (r ∷ rs) = refused_or (rule_broken_by setup shut t v r) (broken_in setup shut t (view_after setup shut t v r) rs)

abbrev broken_of : Setup → List Entry → ℕ → Option ℕ
broken_of setup es t = broken_in setup false t (view_at_start setup [] t) (log_of setup t (start setup []) es)

removal_0 : broken_of stack_removed_setup stack_removed 0 ≡ None
unfolding after view_after
removal_0 = refl

removal_1 : broken_of stack_removed_setup stack_removed 1 ≡ None
unfolding after view_after
removal_1 = refl

resets_0 : broken_of resets_in_turn_setup resets_in_turn 0 ≡ None
unfolding after view_after
resets_0 = refl

resets_1 : broken_of resets_in_turn_setup resets_in_turn 1 ≡ None
unfolding after view_after
resets_1 = refl

resize_0 : broken_of device_grown_setup device_grown 0 ≡ None
unfolding after view_after
resize_0 = refl

drain_time_0 : broken_of drain_timed_setup drain_timed 0 ≡ None
unfolding after view_after
drain_time_0 = refl
