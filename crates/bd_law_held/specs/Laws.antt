-- The laws of the requests that are held.
use Rattle.std.specs.Prelude.{◌≡◌, ℕ, ◌<◌, true, false, List, ◌++◌, None}
use Rattle.std.specs.List.{AllByRecursion}
use Rattle.bd_base.specs.declared.act.Entry.{Entry}
use Rattle.bd_base.specs.declared.id.DevId.{DevId}
use Rattle.bd_base.specs.declared.setup.Setup.{Setup}
use Rattle.bd_machine.specs.declared.state.Content.{Content}
use Rattle.bd_machine.specs.Content.{Told}
use Rattle.bd_machine.specs.Run.{IsRun}
use Rattle.bd_machine.specs.Start.{registry_at_start, start}
use Rattle.bd_law_logs.specs.Fits.{IsMergeOf}
use Rattle.bd_law_logs.specs.Laws.{AreShut}
use Rattle.bd_law_logs.specs.Loose.{FitLoosely}
use Rattle.bd_law_logs.specs.Rows.{Row}
use Rattle.bd_law_disks.specs.Over.{LeadsOver}
use Rattle.bd_law_disks.specs.Told.{told_local, IsMemoryApart, IsOnce}
use Rattle.bd_law_held.specs.Held.{held_from, held_led, held_on, held_over, AreHeldInTime, EndInTime}
use Rattle.bd_turns.specs.Laws.{view_at_start}
use Rattle.bd_turns.specs.Local.{Local}

-- ---- a turn

-- what a thread holds over what its disks hold it holds by the local rules where that is told
abbrev pub OverHoldsAsTold : Type 0
OverHoldsAsTold = (setup : Setup) (contents : DevId → Content) (t : ℕ) (l : Local) (es : List Entry) (contents' : DevId → Content) (l' : Local)
    → IsMemoryApart setup → ((on : DevId) → IsOnce on l.view.part.bases) → LeadsOver setup t contents l es contents' l'
    → held_led setup t (told_local setup contents l) es ≡ held_over setup t contents l es

-- ---- a run

-- logs that were shut down at rest, whose threads are done, and that fit: what a thread held in their merge is what its rows say,
-- before the Shutdown and after it
abbrev pub MergeHoldsAsSeen : Type 0
MergeHoldsAsSeen = (setup : Setup) (told : Told) (logs : ℕ → List Row) (journal merged : List Entry) (sh : AreShut setup told logs journal) → FitLoosely setup (registry_at_start setup) logs journal → IsMergeOf logs merged
    → (t : ℕ) → t < setup.threads
    → held_from setup t (start setup told) merged
    ≡ held_on setup false t (view_at_start setup told t) (sh.firsts t) ++ held_on setup true t (sh.marks t) (sh.seconds t)

-- in a run of entries of these threads, of which each holds in time what it holds, as it sees that, each request is held in time as it was accepted
abbrev pub HeldAsAccepted : Type 0
HeldAsAccepted = (setup : Setup) (told : Told) (es : List Entry) (threads moment : ℕ)
    → IsRun setup told es → AllByRecursion (λ e. e.thread < threads) es
    → ((t : ℕ) → t < threads → EndInTime setup moment (held_from setup t (start setup told) es))
    → AreHeldInTime setup moment (λ req. None) es
