-- The laws of told content.
use Rattle.std.specs.Prelude.{◌≡◌, ℕ, true, false, List, [], ◌++◌, None, Some, is_some, slice_index_or}
use Rattle.std.specs.List.{AllByRecursion, count_by}
use Rattle.bd_base.specs.declared.act.Act.{Act}
use Rattle.bd_base.specs.declared.act.Act.TheVariants as acts
use Rattle.bd_base.specs.declared.act.ApplyEnd.{ApplyEnd}
use Rattle.bd_base.specs.declared.act.Entry.{Entry}
use Rattle.bd_base.specs.declared.id.DevId.{DevId}
use Rattle.bd_base.specs.declared.id.ReqId.{ReqId}
use Rattle.bd_base.specs.declared.setup.Setup.{Setup}
use Rattle.bd_machine.specs.declared.state.Content.{Content}
use Rattle.bd_machine.specs.declared.state.OpenPiece.{OpenPiece}
use Rattle.bd_machine.specs.BlockMap.{is_aio}
use Rattle.bd_machine.specs.Content.{Told, content_told}
use Rattle.bd_machine.specs.Guards.{guards, change}
use Rattle.bd_machine.specs.Homes.{base_here, is_base}
use Rattle.bd_machine.specs.Kept.{piece_here}
use Rattle.bd_machine.specs.View.{View, Came}
use Rattle.bd_turns.specs.Laws.{view_at_start}
use Rattle.bd_turns.specs.Local.{Local, Leads}
use Rattle.bd_law_disks.specs.Over.{LeadsOver}
use Rattle.bd_law_disks.specs.Told.{told_view, told_change, told_local, is_on_disk, ended_change, IsOnce, IsMemoryApart, AreBasesLowest}

-- the guards of every act are the same, whatever is told: they read queues, and no content but a malloc device's
abbrev pub GuardsAreSame : Type 0
GuardsAreSame = (setup : Setup) (contents : DevId → Content) (t : ℕ) (v : View) (act : Act) (came : Came)
    → IsMemoryApart setup → guards setup t (told_view setup contents v) act came ≡ guards setup t v act came

-- an act that no disk does changes the same, whatever is told
abbrev pub OwnChangeIsSame : Type 0
OwnChangeIsSame = (setup : Setup) (contents : DevId → Content) (t : ℕ) (v : View) (act : Act) (came : Came)
    → is_on_disk setup act ≡ false → change setup t (told_view setup contents v) act came ≡ told_change setup contents (change setup t v act came)

-- entries that no disk does lead on in the same way, whatever is told
abbrev pub OwnStepsAreSame : Type 0
OwnStepsAreSame = (setup : Setup) (contents : DevId → Content) (t : ℕ) (l : Local) (es : List Entry) (now : Local)
    → IsMemoryApart setup → AllByRecursion (λ e. is_on_disk setup e.act ≡ false) es → Leads setup t l es now
    → Leads setup t (told_local setup contents l) es (told_local setup contents now)

-- where a disk does what a piece asks of a device that has one base here, the change is the thread's, with what is told after the piece;
-- and the piece read what is told
abbrev pub DiskChangeIsTold : Type 0
DiskChangeIsTold = (setup : Setup) (contents : DevId → Content) (t : ℕ) (v : View) (came : Came)
    → (req : ReqId) (k : ℕ) (dev : DevId) (end : ApplyEnd) (p : OpenPiece)
    → is_aio setup dev ≡ true → IsOnce dev v.part.bases → is_some (base_here v dev) ≡ true → piece_here v req k ≡ Some p
    → change setup t (told_view setup contents v) (acts.Apply req k dev end) came
    ≡ ended_change setup contents req k dev end p (change setup t v (acts.Apply req k dev end) came)

-- what leads over what the disks hold leads by the local rules where that is told
abbrev pub OverIsTold : Type 0
OverIsTold = (setup : Setup) (contents : DevId → Content) (t : ℕ) (l : Local) (es : List Entry) (contents' : DevId → Content) (l' : Local)
    → IsMemoryApart setup → ((dev : DevId) → IsOnce dev l.view.part.bases) → LeadsOver setup t contents l es contents' l'
    → Leads setup t (told_local setup contents l) es (told_local setup contents' l')

-- entries that no disk does, and that lead on, lead on over whatever the disks hold, and leave that as it is
abbrev pub OwnIsOver : Type 0
OwnIsOver = (setup : Setup) (contents : DevId → Content) (t : ℕ) (l : Local) (es : List Entry) (l' : Local)
    → AllByRecursion (λ e. is_on_disk setup e.act ≡ false) es → Leads setup t l es l' → LeadsOver setup t contents l es contents l'

-- what leads on in two parts leads on in one
abbrev pub OverGoesOn : Type 0
OverGoesOn = (setup : Setup) (t : ℕ) (first next last : DevId → Content) (l l' l'' : Local) (es fs : List Entry)
    → LeadsOver setup t first l es next l' → LeadsOver setup t next l' fs last l'' → LeadsOver setup t first l (es ++ fs) last l''

-- a thread keeps its bases: it has as many of each device as before
abbrev pub OverKeepsBases : Type 0
OverKeepsBases = (setup : Setup) (contents : DevId → Content) (t : ℕ) (l : Local) (es : List Entry) (contents' : DevId → Content) (l' : Local)
    → LeadsOver setup t contents l es contents' l' → (dev : DevId) → count_by (is_base dev) l'.view.part.bases ≡ count_by (is_base dev) l.view.part.bases

-- at the start no device has two bases
abbrev pub StartIsOnce : Type 0
StartIsOnce = (setup : Setup) (told : Told) (t : ℕ) (dev : DevId) → IsOnce dev (view_at_start setup told t).part.bases

-- base devices that stand on nothing keep memory apart from disks
abbrev pub MemoryIsApart : Type 0
MemoryIsApart = (setup : Setup) → AreBasesLowest setup → IsMemoryApart setup

-- at the start a thread sees what it would see if nothing were told, with that told
abbrev pub StartIsTold : Type 0
StartIsTold = (setup : Setup) (told : Told) (t : ℕ)
    → AreBasesLowest setup → view_at_start setup told t ≡ told_view setup (λ dev. content_told (slice_index_or told dev.0 None)) (view_at_start setup [] t)
