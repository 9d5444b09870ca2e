-- How a thread goes on over what its disks hold: it has none of their content itself, and a piece that a disk serves brings what it read.
use Rattle.std.specs.Prelude.{◌≡◌, ℕ, false, cond, List, [], ◌∷◌, Option, Some, None}
use Rattle.bd_base.specs.declared.act.Act.{Act}
use Rattle.bd_base.specs.declared.act.Act.TheVariants as acts
use Rattle.bd_base.specs.declared.act.Entry.{Entry}
use Rattle.bd_base.specs.declared.id.DevId.{DevId}
use Rattle.bd_base.specs.declared.setup.Setup.{Setup}
use Rattle.bd_machine.specs.declared.state.Content.{Content}
use Rattle.bd_machine.specs.declared.state.OpenPiece.{OpenPiece}
use Rattle.bd_machine.specs.BlockMap.{is_aio, size_of}
use Rattle.bd_machine.specs.Kept.{piece_here}
use Rattle.bd_machine.specs.Step.{is_shutdown}
use Rattle.bd_machine.specs.View.{View, Change}
use Rattle.bd_turns.specs.Local.{Local, refusal_local, change_local, carried_local}
use Rattle.bd_law_disks.specs.Told.{contents_after, ended_moves}

-- the piece that a disk serves by this act, where it is here
abbrev pub piece_by_disk : Setup → View → Act → Option OpenPiece
piece_by_disk setup v (acts.Apply req k dev end) = cond (is_aio setup dev) (piece_here v req k) None
piece_by_disk setup v _ = None

-- the disks' content after an act that serves this piece, if any
abbrev pub contents_over : Act → Option OpenPiece → (DevId → Content) → DevId → Content
contents_over (acts.Apply req k dev end) (Some p) contents = contents_after dev end p contents
contents_over _ _ contents = contents

-- the thread's change: the piece that a disk serves by it, if any, read what the disk holds
abbrev pub change_over : Setup → (DevId → Content) → Act → Option OpenPiece → Change → Change
change_over setup contents (acts.Apply req k dev end) (Some p) c = record { part = c.part; moves = ended_moves req k dev end (size_of setup dev) p contents }
change_over setup contents _ _ c = c

-- what the disks hold after an entry of the thread
abbrev pub contents_then : Setup → (DevId → Content) → Local → Entry → DevId → Content
contents_then setup contents l e = contents_over e.act (piece_by_disk setup l.view e.act) contents

-- what an entry of the thread changes
abbrev pub change_then : Setup → ℕ → (DevId → Content) → Local → Entry → Change
change_then setup t contents l e = change_over setup contents e.act (piece_by_disk setup l.view e.act) (change_local setup t l e.act)

-- what the thread sees, and what is shared, after an entry of the thread
unfoldable pub local_over : Setup → ℕ → (DevId → Content) → Local → Entry → Local
local_over setup t contents l e = carried_local setup t l e (change_then setup t contents l e)

-- the thread's entries lead from one to the other, and from what its disks hold to what they hold then, with no Shutdown among them
abbrev pub LeadsOver : Setup → ℕ → (DevId → Content) → Local → List Entry → (DevId → Content) → Local → Type 0
LeadsOver setup t contents l [] contents' l' = (contents ≡ contents') × (l ≡ l')
LeadsOver setup t contents l (e ∷ es) contents' l' =
    (e.thread ≡ t) × (is_shutdown e.act ≡ false) × (refusal_local setup t l e ≡ None)
    × LeadsOver setup t (contents_then setup contents l e) (local_over setup t contents l e) es contents' l'
