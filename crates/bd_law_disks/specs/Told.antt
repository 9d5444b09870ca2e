-- What a thread sees, with content told of its aio devices, which it leaves to their disks.
use Rattle.std.specs.Prelude.{◌≡◌, ℕ, ◌≤◌, Bool, true, false, cond, List, ◌∷◌, [], map, None}
use Rattle.std.specs.List.{count_by}
use Rattle.bd_base.specs.declared.act.Act.{Act}
use Rattle.bd_base.specs.declared.act.Act.TheVariants as acts
use Rattle.bd_base.specs.declared.act.ApplyEnd.{ApplyEnd}
use Rattle.bd_base.specs.declared.id.DevId.{DevId}
use Rattle.bd_base.specs.declared.id.ReqId.{ReqId}
use Rattle.bd_base.specs.declared.setup.Setup.{Setup}
use Rattle.bd_machine.specs.declared.state.Base.{Base}
use Rattle.bd_machine.specs.declared.state.Content.{Content}
use Rattle.bd_machine.specs.declared.state.Id.TheVariants as ids
use Rattle.bd_machine.specs.declared.state.Kept.TheVariants as keeps
use Rattle.bd_machine.specs.declared.state.OpenPiece.{OpenPiece}
use Rattle.bd_machine.specs.declared.state.Part.{Part}
use Rattle.bd_machine.specs.BlockMap.{has_kind, is_aio, is_base_kind, is_malloc, row_of, size_of, stands_on}
use Rattle.bd_machine.specs.Homes.{content_by, is_base, served}
use Rattle.bd_machine.specs.Same.{same_dev}
use Rattle.bd_machine.specs.View.{View, Change, Move, Here}
use Rattle.bd_turns.specs.Local.{Local}

-- ---- told content

-- the base with the content told of its device, if that is an aio device; else as it is
abbrev pub told_base : Setup → (DevId → Content) → Base → Base
told_base setup contents b = record b { content = cond (is_aio setup b.dev) (contents b.dev) b.content }

abbrev pub told_part : Setup → (DevId → Content) → Part → Part
told_part setup contents part = record part { bases = map (told_base setup contents) part.bases }

abbrev pub told_view : Setup → (DevId → Content) → View → View
told_view setup contents v = record v { part = told_part setup contents v.part }

abbrev pub told_change : Setup → (DevId → Content) → Change → Change
told_change setup contents c = record { part = told_part setup contents c.part; moves = c.moves }

abbrev pub told_local : Setup → (DevId → Content) → Local → Local
told_local setup contents l = record { view = told_view setup contents l.view; shared = l.shared }

-- ---- what a disk does

-- an Apply of an aio device: a disk does what its piece asks
abbrev pub is_on_disk : Setup → Act → Bool
is_on_disk setup (acts.Apply req k dev end) = is_aio setup dev
is_on_disk setup _ = false

-- what is told after a piece of a device came to this end
abbrev pub contents_after : DevId → ApplyEnd → OpenPiece → (DevId → Content) → DevId → Content
contents_after dev end p contents d = cond (same_dev d dev) (content_by end (contents d) p) (contents d)

-- a base of the device with what is told of it
abbrev pub base_over : (DevId → Content) → DevId → Base
base_over contents dev = record { dev = dev; content = contents dev; queue = [] }

-- the piece stays here, served to this end over what is told
abbrev pub ended_moves : ReqId → ℕ → DevId → ApplyEnd → ℕ → OpenPiece → (DevId → Content) → List Move
ended_moves req k dev end size p contents = record { id = ids.Piece req k; kept = keeps.Piece (served end size p (base_over contents dev)); going = Here } ∷ []

-- the change with what is told after the piece, which read what is told
abbrev pub ended_change : Setup → (DevId → Content) → ReqId → ℕ → DevId → ApplyEnd → OpenPiece → Change → Change
ended_change setup contents req k dev end p c = record {
  part = told_part setup (contents_after dev end p contents) c.part;
  moves = ended_moves req k dev end (size_of setup dev) p contents;
}

-- the device has one base at most
abbrev pub IsOnce : DevId → List Base → Type 0
IsOnce dev bases = count_by (is_base dev) bases ≤ 1

-- ---- setups

-- no malloc device has an aio device for its base
abbrev pub IsMemoryApart : Setup → Type 0
IsMemoryApart setup = (dev : DevId) → is_malloc setup dev ≡ true → is_aio setup dev ≡ false

-- malloc, null and aio devices stand on nothing
abbrev pub AreBasesLowest : Setup → Type 0
AreBasesLowest setup = (dev : DevId) → has_kind is_base_kind (row_of setup dev) ≡ true → stands_on setup dev ≡ None
