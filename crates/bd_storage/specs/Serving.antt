-- What the disks of a thread's aio devices can serve, and what they did in a turn.
use Rattle.std.specs.Prelude.{◌≡◌, ℕ, ◌<◌, ◌≤◌, Bool, true, false, List, [], ◌∷◌, length, Option, Some, None, slice_get}
use Rattle.std.specs.Option.{option_map}
use Rattle.bd_base.specs.declared.id.DevId.{DevId}
use Rattle.bd_base.specs.declared.act.ApplyEnd.{ApplyEnd}
use Rattle.bd_disks.specs.Rows.{disk_of, ChangesDisk, Does, IsInsideOne}
use Rattle.bd_machine.specs.declared.state.OpenPiece.{OpenPiece}
use Rattle.bd_outside.specs.Disk.{DiskState}
use Rattle.bd_thread.specs.declared.thread.Thread.{Thread}
use Rattle.bd_thread.specs.declared.turn.Turned.{Turned}
use Rattle.bd_thread.specs.declared.turn.Turned.TheVariants.{Moved, Quiet}
use Rattle.bd_thread.specs.declared.links.Links.{Links}
use Rattle.bd_thread.specs.Acted.{Acted}
use Rattle.bd_thread.specs.Disks.{piece_on_disk}
use Rattle.bd_thread.specs.Given.{ServesAs}
use Rattle.bd_thread.specs.Seen.{block_size}

-- there is no such piece, or it doesn't lie inside its disk
abbrev pub NoServiceOf : {D : Type 0} → (D → DiskState) → List (DevId × D) → ℕ → Option OpenPiece → Type 0
NoServiceOf state disks size None = Unit {0}
NoServiceOf state disks size (Some p) = ¬ IsInsideOne (option_map state (disk_of p.base disks)) size p

-- the disk of a device can't serve the piece that is next there, or none is
abbrev pub NoServiceOn : {D : Type 0} → (D → DiskState) → List (DevId × D) → DevId → Thread → Type 0
NoServiceOn state disks dev t = NoServiceOf state disks (block_size t dev) (piece_on_disk t dev)

-- nor can any of the first n disks
abbrev pub NoServiceBelow : {D : Type 0} → ℕ → (D → DiskState) → List (DevId × D) → Thread → Type 0
NoServiceBelow {D = D} n state disks t = (i : ℕ) (row : DevId × D) → i < n → slice_get disks i ≡ Some row → NoServiceOn state disks row.0 t

-- nor can any disk
abbrev pub NoService : {D : Type 0} → (D → DiskState) → List (DevId × D) → Thread → Type 0
NoService {D = D} state disks t = (i : ℕ) (row : DevId × D) → slice_get disks i ≡ Some row → NoServiceOn state disks row.0 t

-- after a quiet turn no disk can serve a piece
abbrev pub RestsOnDisks : {D : Type 0} → (D → DiskState) → List (DevId × D) → Thread → Turned → Type 0
RestsOnDisks state disks t Quiet = NoService state disks t
RestsOnDisks state disks t (Moved n) = Unit {0}

-- ---- what disks did

-- the disks, the thread and its links at a moment of a turn
pub record Moment (D : Type 0) : Type 0 where
  pub disks : List (DevId × D)
  pub thread : Thread
  pub links : Links

abbrev pub moment : {D : Type 0} → List (DevId × D) → Thread → Links → Moment D
moment disks thread links = record { disks = disks; thread = thread; links = links }

-- where no entry was added the disks are as they were
abbrev pub Still : {D : Type 0} → Links → Links → List (DevId × D) → List (DevId × D) → Type 0
Still before after old new = length after.entries ≤ length before.entries → new ≡ old

-- the disk of a device did what the piece asks that was next there, and one Apply says so, with the end that the disk gave; what the piece read
-- of the disk is kept of it
pub record ServesOne {D : Type 0} (state : D → DiskState) (before after : Moment D) : Type 0 where
  pub dev : DevId
  pub piece : OpenPiece
  pub end : ApplyEnd
  pub read : Option (List ℕ)
  pub next : piece_on_disk before.thread dev ≡ Some piece
  pub did : ChangesDisk piece.base (λ old new. Does (block_size before.thread dev) piece end read (state old) (state new)) before.disks after.disks
  pub says : ServesAs dev end read before.thread before.links after.thread after.links true

-- a piece was served, or nothing changed
abbrev pub ServesIf : {D : Type 0} → (D → DiskState) → Moment D → Moment D → Bool → Type 0
ServesIf state before after true = ServesOne state before after
ServesIf state before after false = after ≡ before

-- one piece after the other was served, over these moments
abbrev pub AreServed : {D : Type 0} → (D → DiskState) → List (Moment D) → Moment D → Moment D → Type 0
AreServed state [] before after = after ≡ before
AreServed state (next ∷ more) before after = ServesOne state before next × AreServed state more next after

pub record Serves {D : Type 0} (state : D → DiskState) (before after : Moment D) : Type 0 where
  pub moments : List (Moment D)
  pub are : AreServed state moments before after

-- first disks served, and then the thread went on by itself
pub record TurnsWith {D : Type 0} (state : D → DiskState) (before after : Moment D) : Type 0 where
  pub middle : Moment D
  pub served : Serves state before middle
  pub disks : after.disks ≡ middle.disks
  pub acted : Acted middle.thread middle.links after.thread after.links
