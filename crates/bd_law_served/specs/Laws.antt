-- The laws of the pieces that base devices served.
use Rattle.std.specs.Prelude.{◌≡◌, ℕ, ◌<◌, true, false, List, [], ◌++◌}
use Rattle.std.specs.List.{AllByRecursion}
use Rattle.bd_base.specs.declared.act.Entry.{Entry}
use Rattle.bd_base.specs.declared.id.DevId.{DevId}
use Rattle.bd_base.specs.declared.setup.Setup.{Setup}
use Rattle.bd_machine.specs.declared.state.Content.{Content}
use Rattle.bd_machine.specs.BlockMap.{is_aio}
use Rattle.bd_machine.specs.Content.{Told}
use Rattle.bd_machine.specs.Start.{registry_at_start, start}
use Rattle.bd_law_logs.specs.Fits.{IsMergeOf}
use Rattle.bd_law_logs.specs.Laws.{AreShut}
use Rattle.bd_law_logs.specs.Loose.{FitLoosely}
use Rattle.bd_law_logs.specs.Rows.{Row}
use Rattle.bd_law_served.specs.Served.{served_from, served_led, served_on, served_over}
use Rattle.bd_law_disks.specs.Over.{LeadsOver}
use Rattle.bd_law_disks.specs.Told.{told_local, is_on_disk, IsMemoryApart, IsOnce}
use Rattle.bd_turns.specs.Laws.{view_at_start}
use Rattle.bd_turns.specs.Local.{Local}

-- ---- a turn

-- what a thread serves over what its disks hold it serves by the local rules where that is told
abbrev pub OverServesAsTold : Type 0
OverServesAsTold = (setup : Setup) (contents : DevId → Content) (t : ℕ) (dev : DevId) (l : Local) (es : List Entry) (contents' : DevId → Content) (l' : Local)
    → IsMemoryApart setup → ((on : DevId) → IsOnce on l.view.part.bases) → LeadsOver setup t contents l es contents' l'
    → served_led setup t dev (told_local setup contents l) es ≡ served_over setup t dev contents l es

-- entries that no disk does serve no piece of an aio device
abbrev pub OwnServesNone : Type 0
OwnServesNone = (setup : Setup) (contents : DevId → Content) (t : ℕ) (dev : DevId) (l : Local) (es : List Entry)
    → is_aio setup dev ≡ true → AllByRecursion (λ e. is_on_disk setup e.act ≡ false) es → served_over setup t dev contents l es ≡ []

-- what is served in two parts is served in one
abbrev pub OverServesOn : Type 0
OverServesOn = (setup : Setup) (t : ℕ) (dev : DevId) (contents contents' : DevId → Content) (l l' : Local) (es fs : List Entry)
    → LeadsOver setup t contents l es contents' l' → served_over setup t dev contents l (es ++ fs) ≡ served_over setup t dev contents l es ++ served_over setup t dev contents' l' fs

-- ---- a run

-- logs that were shut down at rest, whose threads are done, and that fit: what a thread served in their merge is what its rows say,
-- before the Shutdown and after it
abbrev pub MergeServesAsSeen : Type 0
MergeServesAsSeen = (setup : Setup) (told : Told) (logs : ℕ → List Row) (journal merged : List Entry) (sh : AreShut setup told logs journal) → FitLoosely setup (registry_at_start setup) logs journal → IsMergeOf logs merged
    → (t : ℕ) (dev : DevId) → t < setup.threads
    → served_from setup t dev (start setup told) merged
    ≡ served_on setup false t dev (view_at_start setup told t) (sh.firsts t) ++ served_on setup true t dev (sh.marks t) (sh.seconds t)
