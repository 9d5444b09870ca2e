-- What is left once a disk served the piece that is next there, and how the thread went on by that.
use Rattle.std.specs.Prelude.{◌≡◌, ℕ, true, false, cond, Bool, List, [], ◌∷◌, ◌++◌, Option, Some, None}
use Rattle.bd_base.specs.declared.act.Act.TheVariants as acts
use Rattle.bd_base.specs.declared.act.ApplyEnd.{ApplyEnd}
use Rattle.bd_base.specs.declared.act.Token.TheVariants as tokens
use Rattle.bd_base.specs.declared.id.DevId.{DevId}
use Rattle.bd_base.specs.declared.id.ReqId.{ReqId}
use Rattle.bd_home.specs.Serving.{served_as}
use Rattle.bd_machine.specs.declared.state.Content.{Content}
use Rattle.bd_machine.specs.declared.state.Id.{Id}
use Rattle.bd_machine.specs.declared.state.Id.TheVariants as ids
use Rattle.bd_machine.specs.declared.state.Kept.{Kept}
use Rattle.bd_machine.specs.declared.state.Kept.TheVariants as keeps
use Rattle.bd_machine.specs.declared.state.OpenPiece.{OpenPiece}
use Rattle.bd_machine.specs.Homes.{applied, is_base, read_by}
use Rattle.bd_machine.specs.Kept.{as_piece}
use Rattle.bd_machine.specs.Same.{same_id}
use Rattle.bd_machine.specs.Table.{change_first}
use Rattle.bd_links.specs.Entries.{longer}
use Rattle.bd_law_disks.specs.Told.{contents_after}
use Rattle.bd_tokens.specs.Tokens.{here_in}
use Rattle.bd_thread.specs.declared.links.Links.{Links}
use Rattle.bd_thread.specs.declared.thread.Thread.{Thread}
use Rattle.bd_thread.specs.Disks.{disk_due, piece_on_disk}
use Rattle.bd_thread.specs.Over.{WentOver}
use Rattle.bd_thread.specs.Seen.{block_size, untaken}

-- what is kept where this piece was served so
abbrev pub held_as : ReqId → ℕ → ApplyEnd → Option (List ℕ) → OpenPiece → (Id → Option Kept) → Id → Option Kept
held_as req k end read p here = λ j. cond (same_id (ids.Piece req k) j) (Some (keeps.Piece (served_as end read p))) (here j)

-- one Apply: the piece is served, with this end and having read this, and is to be put to its own thread, once, after all else
pub record IsServedAs (req : ReqId) (k : ℕ) (dev : DevId) (end : ApplyEnd) (read : Option (List ℕ)) (old : Thread) (before : Links) (new : Thread) (after : Links) : Type 0 where
  pub piece : OpenPiece
  pub here : as_piece (here_in old.held.items (ids.Piece req k)) ≡ Some piece
  pub thread : new ≡ record old { part = untaken (record old.part { bases = change_first (is_base dev) (applied end piece) old.part.bases }); held = new.held; outbox = new.outbox; touched = new.touched }
  pub held : here_in new.held.items ≡ held_as req k end read piece (here_in old.held.items)
  pub outbox : new.outbox.items ≡ old.outbox.items ++ (req.thread, tokens.Piece req k) ∷ []
  pub links : after ≡ record before { entries = longer old.me before.entries (acts.Apply req k dev end) }

abbrev pub ServesAsBy : DevId → ApplyEnd → Option (List ℕ) → Thread → Links → Thread → Links → Bool → Option Id → Type 0
ServesAsBy dev end read old before new after done None = (done ≡ false) × (new ≡ old) × (after ≡ before)
ServesAsBy dev end read old before new after done (Some (ids.Piece req k)) = (done ≡ true) × IsServedAs req k dev end read old before new after
ServesAsBy dev end read old before new after done (Some _) = ⊥

-- the piece that is next on the device's disk is served, with this end, and read this; where there is none nothing changes
abbrev pub ServesAs : DevId → ApplyEnd → Option (List ℕ) → Thread → Links → Thread → Links → Bool → Type 0
ServesAs dev end read old before new after done = ServesAsBy dev end read old before new after done (disk_due old dev)

-- ---- over what the disks hold

-- a piece, if there is one, that came to this end read just this of such content
abbrev pub IsReadBy : ApplyEnd → Option (List ℕ) → ℕ → Content → Option OpenPiece → Type 0
IsReadBy end read size content None = Unit {0}
IsReadBy end read size content (Some p) = read ≡ read_by end size content p

-- what the disks hold once such a piece of a device, if there is one, came to this end
abbrev pub contents_once : DevId → ApplyEnd → Option OpenPiece → (DevId → Content) → DevId → Content
contents_once dev end None contents = contents
contents_once dev end (Some p) contents = contents_after dev end p contents

-- whatever the disks hold: where the piece that is next on the device's disk read this of it, the thread went on over that, and they hold then
-- what the piece leaves
abbrev pub ServesOver : DevId → ApplyEnd → Option (List ℕ) → Thread → Links → Thread → Links → Type 0
ServesOver dev end read old before new after =
    (contents : DevId → Content) → IsReadBy end read (block_size old dev) (contents dev) (piece_on_disk old dev)
    → WentOver contents (contents_once dev end (piece_on_disk old dev) contents) old before new after
