-- The disks of seats, in order.
use Rattle.std.proofs.Common.{◌≡◌, List, [], ◌∷◌, ◌++◌, length, refl, sym, ◌∙◌, ap, append-nil, arith}
use Rattle.bd_base.specs.declared.id.DevId.{DevId}
use Rattle.bd_worker.specs.declared.seat.Seat.{Seat}
use Rattle.bd_node.specs.Disks.{disks_of}

pub disks_more : {D : Type 0} (seats : List (Seat D)) (s : Seat D) (rest : List (List (DevId × D))) → disks_of (seats ++ s ∷ []) ++ rest ≡ disks_of seats ++ s.disks ∷ rest
disks_more [] s rest = refl
disks_more {D = D} (x ∷ xs) s rest = ap (λ (ds : List (List (DevId × D))). x.disks ∷ ds) (disks_more xs s rest)

pub no_more : {X : Type 0} (xs : List X) → length xs ≡ 0 → xs ≡ []
no_more [] e = refl
no_more (x ∷ xs) e = absurd (omega (arith, e))

pub no_more_disks : {X : Type 0} (xs rest : List X) → rest ≡ [] → xs ≡ xs ++ rest
no_more_disks {X = X} xs rest none = sym (ap (λ (ys : List X). xs ++ ys) none ∙ append-nil xs)
