-- What disks did: no piece, and pieces after others.
use Rattle.std.proofs.Common.{◌≡◌, ℕ, List, [], ◌∷◌, ◌++◌, Option, Some, None, refl, ◌∙◌, ap₂, subst}
use Rattle.std.specs.Option.{option_map}
use Rattle.bd_base.specs.declared.id.DevId.{DevId}
use Rattle.bd_base.specs.declared.setup.Setup.{Setup}
use Rattle.bd_disks.specs.Done.{AreDoneBy, DidPieces, DidPiecesIf}
use Rattle.bd_disks.specs.Rows.{disk_of}
use Rattle.bd_machine.specs.BlockMap.{size_of}
use Rattle.bd_outside.specs.Disk.{DiskState}
use Rattle.bd_law_served.specs.Served.{ServedPiece}

did_then : (size : ℕ) (xs ys : List ServedPiece) (a b c : DiskState) → DidPieces size xs a b → DidPieces size ys b c → DidPieces size (xs ++ ys) a c
did_then size [] ys a b c f s = subst (λ (d : DiskState). DidPieces size ys d c) f s
did_then size (x ∷ xs) ys a b c f s = (f.0, f.1, f.2, did_then size xs ys f.0 b c f.3 s)

no_disk : {X : Type 0} {Q : Type 0} {x : X} → Some x ≡ None → Q
no_disk e = cc

did_then_if : (size : ℕ) (xs ys : List ServedPiece) (a b c : Option DiskState) → DidPiecesIf size xs a b → DidPiecesIf size ys b c → DidPiecesIf size (xs ++ ys) a c
did_then_if size xs ys None None c f s = (s.0, ap₂ (λ (us vs : List ServedPiece). us ++ vs) f.1 s.1)
did_then_if size xs ys None (Some b) c f s = no_disk f.0
did_then_if size xs ys (Some a) None c f s = absurd f
did_then_if size xs ys (Some a) (Some b) None f s = absurd s
did_then_if size xs ys (Some a) (Some b) (Some c) f s = did_then size xs ys a b c f s

pub did_none : (size : ℕ) (a : Option DiskState) → DidPiecesIf size [] a a
did_none size None = (refl, refl)
did_none size (Some a) = refl

module _ {D : Type 0} (state : D → DiskState) (setup : Setup) where
  pub done_none : (disks : List (DevId × D)) → AreDoneBy state setup (λ dev. []) disks disks
  done_none disks = record { devices = refl; pieces_are = λ dev aio. did_none (size_of setup dev) (option_map state (disk_of dev disks)) }

  pub done_then : (p q : DevId → List ServedPiece) (a b c : List (DevId × D)) → AreDoneBy state setup p a b → AreDoneBy state setup q b c → AreDoneBy state setup (λ dev. p dev ++ q dev) a c
  done_then p q a b c f s = record {
    devices = s.devices ∙ f.devices;
    pieces_are = λ dev aio.
        did_then_if (size_of setup dev) (p dev) (q dev) (option_map state (disk_of dev a)) (option_map state (disk_of dev b)) (option_map state (disk_of dev c)) (f.pieces_are dev aio) (s.pieces_are dev aio);
  }

  -- the same pieces, said otherwise
  pub done_same : (p q : DevId → List ServedPiece) (a b : List (DevId × D)) → ((dev : DevId) → p dev ≡ q dev) → AreDoneBy state setup p a b → AreDoneBy state setup q a b
  done_same p q a b same done = record {
    devices = done.devices;
    pieces_are = λ dev aio.
        subst (λ (pieces : List ServedPiece). DidPiecesIf (size_of setup dev) pieces (option_map state (disk_of dev a)) (option_map state (disk_of dev b))) (same dev) (done.pieces_are dev aio);
  }
