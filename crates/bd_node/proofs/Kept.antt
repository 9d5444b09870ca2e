-- No disk comes or goes: those of a seat, of the seats of a round, and of a node.
use Rattle.std.proofs.Common.{◌≡◌, ℕ, suc, List, [], ◌∷◌, ◌++◌, length, map, set, IsPermutation, refl, sym, ◌∙◌, ap, ap₂, subst, append_assoc, Option, Some, arith}
use Rattle.std.specs.List.{slice_get}
use Rattle.std.proofs.lemmas.List.{map-append}
use Rattle.std.proofs.lemmas.List.Sorted.{IsPermutation-append_comm, IsPermutation-append_left, IsPermutation-append_right, IsPermutation-map, IsPermutation-refl, IsPermutation-sym, IsPermutation-to_front, IsPermutation-trans}
use Rattle.bd_base.specs.declared.id.DevId.{DevId}
use Rattle.bd_disks.specs.Rows.{places}
use Rattle.bd_disks.specs.Shelf.{places_of, AreAllThere}
use Rattle.bd_outside.specs.Clock.{Moments}
use Rattle.bd_outside.specs.Disk.{DiskState}
use Rattle.bd_wires.specs.declared.wires.Wires.{Wires}
use Rattle.bd_wires.proofs.Lists.{map-set_same}
use Rattle.bd_node.specs.declared.node.Node.{Node}
use Rattle.bd_worker.specs.declared.seat.Seat.{Seat}
use Rattle.bd_node.specs.Disks.{disks_of}
use Rattle.bd_node.specs.Gathering.{Gathers}
use Rattle.bd_worker.specs.Seats.{AllWentOn, HasSameDisks}
use Rattle.bd_node.specs.Shutting.{IsUnchanged}
use Rattle.bd_node.specs.Whole.{disks_in, HasAllDisks}

-- ---- seats that give their disks back

-- the last of some seats gave its disks to the shelf, after the others
pub one_given : {D : Type 0} (start shelf : List (List (DevId × D))) (left all : List (Seat D)) (s : Seat D) → all ≡ left ++ s ∷ []
    → IsPermutation start (shelf ++ disks_of all) → IsPermutation start ((shelf ++ s.disks ∷ []) ++ disks_of left)
one_given {D = D} start shelf left all s are h = IsPermutation-trans start (shelf ++ disks_of all) ((shelf ++ s.disks ∷ []) ++ disks_of left) h moved
  where
    own : List (List (DevId × D))
    own = s.disks ∷ []

    disks-are : disks_of all ≡ disks_of left ++ own
    disks-are = ap (λ (seats : List (Seat D)). disks_of seats) are ∙ map-append (λ (x : Seat D). x.disks) left (s ∷ [])

    moved : IsPermutation (shelf ++ disks_of all) ((shelf ++ own) ++ disks_of left)
    moved =
        subst (λ (ds : List (List (DevId × D))). IsPermutation (shelf ++ ds) ((shelf ++ own) ++ disks_of left)) (sym disks-are)
        (subst (λ (ds : List (List (DevId × D))). IsPermutation (shelf ++ (disks_of left ++ own)) ds) (sym (append_assoc shelf own (disks_of left)))
        (IsPermutation-append_right shelf (disks_of left ++ own) (own ++ disks_of left) (IsPermutation-append_comm (disks_of left) own)))

-- where some seats have the first disks, and the shelf has the others
pub all_back : {X : Type 0} (start seated shelf final : List X) → seated ++ shelf ≡ start → IsPermutation (shelf ++ seated) final → IsPermutation start final
all_back {X = X} start seated shelf final are h =
    IsPermutation-trans start (shelf ++ seated) final (subst (λ (xs : List X). IsPermutation xs (shelf ++ seated)) are (IsPermutation-append_comm seated shelf)) h

-- and those that come next are the shelf's last again
pub next_back : {X : Type 0} (start seated rest shelf final : List X) (x : X) → seated ++ shelf ≡ start → shelf ≡ x ∷ rest → IsPermutation ((rest ++ x ∷ []) ++ seated) final → IsPermutation start final
next_back {X = X} start seated rest shelf final x are is h =
    all_back start seated shelf final are
    (subst (λ (xs : List X). IsPermutation (xs ++ seated) final) (sym is)
    (IsPermutation-trans ((x ∷ rest) ++ seated) ((rest ++ x ∷ []) ++ seated) final
    (IsPermutation-append_left seated (x ∷ rest) (rest ++ x ∷ []) (IsPermutation-sym (rest ++ x ∷ []) (x ∷ rest) (IsPermutation-to_front rest x))) h))

-- seats whose disks nothing was done to
pub seats_unmoved : {D : Type 0} (old new : List (Seat D)) → length new ≡ length old → ((i : ℕ) (a b : Seat D) → slice_get old i ≡ Some a → slice_get new i ≡ Some b → b.disks ≡ a.disks) → disks_of new ≡ disks_of old
seats_unmoved [] [] len each = refl
seats_unmoved [] (y ∷ ys) len each = absurd (omega (arith, len))
seats_unmoved (x ∷ xs) [] len each = absurd (omega (arith, len))
seats_unmoved {D = D} (x ∷ xs) (y ∷ ys) len each =
    ap₂ (λ (d : List (DevId × D)) (ds : List (List (DevId × D))). d ∷ ds) (each 0 x y refl refl) (seats_unmoved xs ys (omega (arith, len)) (λ i a b at at'. each (suc i) a b at at'))

-- a node of which only logs were gathered
pub gathers_disks : {D : Type 0} (old new : Node D) → Gathers old new → disks_in new ≡ disks_in old
gathers_disks {D = D} old new k =
    ap₂ (λ (shelf ds : List (List (DevId × D))). shelf ++ ds) k.shelf
    (seats_unmoved old.seats.items new.seats.items k.len (λ i a b at at'. ap (λ (s : Seat D). s.disks) (k.each i a b at at').is))

pub unchanged_disks : {D : Type 0} (old new : Node D) → IsUnchanged old new → disks_in new ≡ disks_in old
unchanged_disks {D = D} old new k = ap₂ (λ (shelf : List (List (DevId × D))) (ss : List (Seat D)). shelf ++ disks_of ss) k.shelf k.seats

-- ---- the same disks

module _ {D : Type 0} (state : D → DiskState) where
  pub all_same : (a b : List (List (DevId × D))) → places_of state b ≡ places_of state a → AreAllThere state a b
  all_same a b same = subst (λ (ps : List (List (DevId × Option ℕ))). IsPermutation (places_of state a) ps) (sym same) (IsPermutation-refl (places_of state a))

  -- the disks themselves, in some order
  pub all_given : (a b : List (List (DevId × D))) → IsPermutation a b → AreAllThere state a b
  all_given a b h = IsPermutation-map (places state) a b h

  pub all_then : (a b c : List (List (DevId × D))) → AreAllThere state a b → AreAllThere state b c → AreAllThere state a c
  all_then a b c f g = IsPermutation-trans (places_of state a) (places_of state b) (places_of state c) f g

  -- with the same before them
  pub all_after : (shelf a b : List (List (DevId × D))) → AreAllThere state a b → AreAllThere state (shelf ++ a) (shelf ++ b)
  all_after shelf a b h =
      subst (λ (ps : List (List (DevId × Option ℕ))). IsPermutation ps (places_of state (shelf ++ b))) (sym (map-append (places state) shelf a))
      (subst (λ (ps : List (List (DevId × Option ℕ))). IsPermutation (places_of state shelf ++ places_of state a) ps) (sym (map-append (places state) shelf b))
      (IsPermutation-append_right (places_of state shelf) (places_of state a) (places_of state b) h))

  -- ---- seats

  pub seats_reordered : (a b : List (Seat D)) → IsPermutation a b → AreAllThere state (disks_of a) (disks_of b)
  seats_reordered a b h = all_given (disks_of a) (disks_of b) (IsPermutation-map (λ (s : Seat D). s.disks) a b h)

  -- a seat went on with its disks
  pub seat_kept : (seats : List (Seat D)) (i : ℕ) (old new : Seat D) → slice_get seats i ≡ Some old → HasSameDisks state old new → places_of state (disks_of (set seats i new)) ≡ places_of state (disks_of seats)
  seat_kept seats i old new at same =
      sym (map_twice (set seats i new)) ∙ map-set_same (λ (x : Seat D). places state x.disks) seats i old new at same ∙ map_twice seats
    where
      map_twice : (xs : List (Seat D)) → map (λ (x : Seat D). places state x.disks) xs ≡ places_of state (disks_of xs)
      map_twice [] = refl
      map_twice (x ∷ xs) = ap (λ (ps : List (List (DevId × Option ℕ))). places state x.disks ∷ ps) (map_twice xs)

  -- all went on, or had to halt
  pub seats_kept : (w : Wires) (range : Option Moments) (old new : List (Seat D)) → length new ≡ length old → AllWentOn state w range old new → places_of state (disks_of new) ≡ places_of state (disks_of old)
  seats_kept w range [] [] len on = refl
  seats_kept w range [] (y ∷ ys) len on = absurd (omega (arith, len))
  seats_kept w range (x ∷ xs) [] len on = absurd (omega (arith, len))
  seats_kept w range (x ∷ xs) (y ∷ ys) len on =
      ap₂ (λ (p : List (DevId × Option ℕ)) (ps : List (List (DevId × Option ℕ))). p ∷ ps) (on 0 x (omega arith)).kept
      (seats_kept w range xs ys (omega (arith, len)) (λ i d lt. on (suc i) d (omega arith)))

  -- ---- a node

  -- its seats have the same disks, and so has its shelf
  pub node_seats : (n : Node D) (seats : List (Seat D)) → AreAllThere state (disks_of n.seats.items) (disks_of seats) → AreAllThere state (disks_in n) (n.shelf.items ++ disks_of seats)
  node_seats n seats h = all_after n.shelf.items (disks_of n.seats.items) (disks_of seats) h

  pub node_still : (n : Node D) → HasAllDisks state n n
  node_still n = all_same (disks_in n) (disks_in n) refl

  pub node_same : (a b : Node D) → disks_in b ≡ disks_in a → HasAllDisks state a b
  node_same a b same = all_same (disks_in a) (disks_in b) (ap (places_of state) same)

  pub node_then : (a b c : Node D) → HasAllDisks state a b → HasAllDisks state b c → HasAllDisks state a c
  node_then a b c f g = all_then (disks_in a) (disks_in b) (disks_in c) f g

  -- a node that was built with these disks went on, and gave them back
  pub played_back : (disks : List (List (DevId × D))) (built went : Node D) (final : List (List (DevId × D))) → built.shelf.items ≡ [] → disks_of built.seats.items ≡ disks → HasAllDisks state built went → IsPermutation (disks_in went) final
      → AreAllThere state disks final
  played_back disks built went final empty are on back =
      all_then disks (disks_in went) final
      (subst (λ (ds : List (List (DevId × D))). AreAllThere state ds (disks_in went)) (ap (λ (ds : List (List (DevId × D))). ds ++ disks_of built.seats.items) empty ∙ are) on)
      (all_given (disks_in went) final back)
