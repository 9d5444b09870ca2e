-- Seats that were dealt to reactors, had their turns, and were put in the order of their numbers, are at their places again.
use Rattle.std.proofs.Common.{◌≡◌, ℕ, zero, suc, ◌+◌, ◌<◌, ◌≤◌, Bool, true, false, cond, nat_lt, List, [], ◌∷◌, length, sum_by, All, IsPermutation, ◌⊎◌, inl, inr, Option, None, refl, sym, ◌∙◌, ap, subst, lt-ltb, ltb-true, arith}
use Rattle.std.specs.List.{list_all}
use Rattle.std.specs.List.Sorted.{IsNonDecreasingBy}
use Rattle.std.specs.Prelude.{slice_index_or}
use Rattle.std.proofs.lemmas.Bool.{cases_lt}
use Rattle.std.proofs.lemmas.List.Sorted.{length_permutation, sum_by-IsPermutation, All-permutation, IsPermutation-sym}
use Rattle.std.proofs.lemmas.List.Sums.{sum_by-cons}
use Rattle.std.proofs.lemmas.Option.{get_or_from_slice_get, slice_get-get_or, slice_get_within}
use Rattle.bd_base.specs.declared.id.DevId.{DevId}
use Rattle.bd_base.specs.declared.setup.Setup.{Setup}
use Rattle.bd_law_threads.specs.Course.{Phase}
use Rattle.bd_wires.specs.declared.wires.Wires.{Wires}
use Rattle.bd_worker.specs.declared.seat.Seat.{Seat}
use Rattle.bd_outside.specs.Clock.{Moments}
use Rattle.bd_outside.specs.Disk.{DiskState}
use Rattle.bd_node.specs.Disks.{disks_at}
use Rattle.bd_worker.specs.Seats.{AllWentOn, Continues, HasTimesWithin, Past, number_in}
use Rattle.bd_node.specs.Times.{HaveTimesWithin}
use Rattle.bd_node.specs.Whole.{seat_goes, AreSeated, IsIn}
use Rattle.bd_worker.proofs.Places.{all_at}
use Rattle.bd_node.proofs.Rounds.{no_halt}

-- ---- numbers in order

-- one for a number below v
abbrev one_below : ℕ → ℕ → ℕ
one_below v k = cond (nat_lt k v) 1 0

one_if : (v k : ℕ) → k < v → one_below v k ≡ 1
one_if v k lt = ap (λ b. cond b 1 0) (lt-ltb k v lt)

zero_if : (v k : ℕ) → v ≤ k → one_below v k ≡ 0
zero_if v k le = go (nat_lt k v) refl
  where
    go : (b : Bool) → nat_lt k v ≡ b → one_below v k ≡ 0
    go true e = let lt : k < v = ltb-true k v e in absurd (omega arith)
    go false e = ap (λ b. cond b 1 0) e

at_most_one : (v k : ℕ) → one_below v k ≤ 1
at_most_one v k = go (cases_lt k v)
  where
    go : (k < v) ⊎ (v ≤ k) → one_below v k ≤ 1
    go (inl lt) = let e : one_below v k ≡ 1 = one_if v k lt in omega arith
    go (inr le) = let e : one_below v k ≡ 0 = zero_if v k le in omega arith

module _ {X : Type 0} (n : X → ℕ) where
  -- how many have a number below v
  abbrev count_below : ℕ → List X → ℕ
  count_below v xs = sum_by (λ x. one_below v (n x)) xs

  count_next : (v : ℕ) (x : X) (xs : List X) → count_below v (x ∷ xs) ≡ one_below v (n x) + count_below v xs
  count_next v x xs = sum_by-cons (λ y. one_below v (n y)) x xs

  -- where no number is below v, none is counted
  count_none : (v : ℕ) (xs : List X) → ((i : ℕ) (d : X) → i < length xs → v ≤ n (slice_index_or xs i d)) → count_below v xs ≡ 0
  count_none v [] h = refl
  count_none v (x ∷ xs) h =
      let first : one_below v (n x) ≡ 0 = zero_if v (n x) (h 0 x (omega arith)) in
      let rest : count_below v xs ≡ 0 = count_none v xs (λ i d lt. h (suc i) d (omega arith)) in
      let both : count_below v (x ∷ xs) ≡ one_below v (n x) + count_below v xs = count_next v x xs in
      omega arith

  -- where the numbers are a, a + 1, and so on, there are v - a below v
  count_of : (a v : ℕ) (xs : List X) → ((i : ℕ) (d : X) → i < length xs → n (slice_index_or xs i d) ≡ a + i) → a ≤ v → v ≤ a + length xs → count_below v xs + a ≡ v
  count_of a v [] h low high = let e : count_below v [] ≡ 0 = refl in omega arith
  count_of a v (x ∷ xs) h low high = go (cases_lt a v) (λ lt. count_of (suc a) v xs rest (omega arith) (omega arith))
    where
      both : count_below v (x ∷ xs) ≡ one_below v (n x) + count_below v xs
      both = count_next v x xs

      here : n x ≡ a
      here = let e : n x ≡ a + 0 = h 0 x (omega arith) in omega arith

      rest : (i : ℕ) (d : X) → i < length xs → n (slice_index_or xs i d) ≡ suc a + i
      rest i d lt = let e : n (slice_index_or xs i d) ≡ a + suc i = h (suc i) d (omega arith) in omega arith

      go : (a < v) ⊎ (v ≤ a) → (a < v → count_below v xs + suc a ≡ v) → count_below v (x ∷ xs) + a ≡ v
      go (inl lt) others =
          let first : one_below v (n x) ≡ 1 = one_if v (n x) (let e : n x ≡ a = here in omega arith) in
          let more : count_below v xs + suc a ≡ v = others lt in
          let sum : count_below v (x ∷ xs) ≡ one_below v (n x) + count_below v xs = both in
          omega arith
      go (inr le) others =
          let none : count_below v (x ∷ xs) ≡ 0 = count_none v (x ∷ xs) (λ i d lt. let e : n (slice_index_or (x ∷ xs) i d) ≡ a + i = h i d lt in omega arith) in
          omega arith

  tail_rises : (x : X) (xs : List X) → IsNonDecreasingBy n (x ∷ xs) → IsNonDecreasingBy n xs
  tail_rises x xs up i j d le lt = up (suc i) (suc j) d (omega arith) (omega arith)

  -- where the numbers don't fall, no more are below one at place i than stand before it
  count_high : (v : ℕ) (xs : List X) (i : ℕ) (d : X) → IsNonDecreasingBy n xs → i < length xs → v ≤ n (slice_index_or xs i d) → count_below v xs ≤ i
  count_high v [] i d up lt le = absurd (omega arith)
  count_high v (x ∷ xs) zero d up lt le =
      let none : count_below v (x ∷ xs) ≡ 0 = count_none v (x ∷ xs) (λ j e within. let more : n x ≤ n (slice_index_or (x ∷ xs) j e) = up 0 j e (omega arith) within in omega arith) in
      omega arith
  count_high v (x ∷ xs) (suc i) d up lt le =
      let first : one_below v (n x) ≤ 1 = at_most_one v (n x) in
      let rest : count_below v xs ≤ i = count_high v xs i d (tail_rises x xs up) (omega arith) le in
      let both : count_below v (x ∷ xs) ≡ one_below v (n x) + count_below v xs = count_next v x xs in
      omega arith

  -- and all up to one that is below are
  count_low : (v : ℕ) (xs : List X) (i : ℕ) (d : X) → IsNonDecreasingBy n xs → i < length xs → n (slice_index_or xs i d) < v → i < count_below v xs
  count_low v [] i d up lt low = absurd (omega arith)
  count_low v (x ∷ xs) zero d up lt low =
      let first : one_below v (n x) ≡ 1 = one_if v (n x) low in
      let both : count_below v (x ∷ xs) ≡ one_below v (n x) + count_below v xs = count_next v x xs in
      omega arith
  count_low v (x ∷ xs) (suc i) d up lt low =
      let less : n x ≤ n (slice_index_or (x ∷ xs) (suc i) d) = up 0 (suc i) d (omega arith) lt in
      let first : one_below v (n x) ≡ 1 = one_if v (n x) (omega arith) in
      let rest : i < count_below v xs = count_low v xs i d (tail_rises x xs up) (omega arith) low in
      let both : count_below v (x ∷ xs) ≡ one_below v (n x) + count_below v xs = count_next v x xs in
      omega arith

  -- numbers that don't fall, of which v are below each v, are 0, 1, and so on
  numbered_by_count : (xs : List X) → IsNonDecreasingBy n xs → ((v : ℕ) → v ≤ length xs → count_below v xs ≡ v) → (i : ℕ) (d : X) → i < length xs → n (slice_index_or xs i d) ≡ i
  numbered_by_count xs up counts i d lt = go (cases_lt (n (slice_index_or xs i d)) i) (cases_lt i (n (slice_index_or xs i d)))
    where
      go : (n (slice_index_or xs i d) < i) ⊎ (i ≤ n (slice_index_or xs i d)) → (i < n (slice_index_or xs i d)) ⊎ (n (slice_index_or xs i d) ≤ i) → n (slice_index_or xs i d) ≡ i
      go (inl low) q =
          let many : i < count_below i xs = count_low i xs i d up lt low in
          let are : count_below i xs ≡ i = counts i (omega arith) in
          absurd (omega arith)
      go (inr le) (inl high) =
          let few : count_below (suc i) xs ≤ i = count_high (suc i) xs i d up lt (omega arith) in
          let are : count_below (suc i) xs ≡ suc i = counts (suc i) (omega arith) in
          absurd (omega arith)
      go (inr le) (inr ge) = omega arith

  -- the same numbers, place by place, are counted alike
  count_alike : (v : ℕ) (xs ys : List X) → length ys ≡ length xs → ((i : ℕ) (d : X) → i < length xs → n (slice_index_or ys i d) ≡ n (slice_index_or xs i d)) → count_below v ys ≡ count_below v xs
  count_alike v [] [] len h = refl
  count_alike v [] (y ∷ ys) len h = absurd (omega arith)
  count_alike v (x ∷ xs) [] len h = absurd (omega arith)
  count_alike v (x ∷ xs) (y ∷ ys) len h =
      let first : one_below v (n y) ≡ one_below v (n x) = ap (one_below v) (h 0 y (omega arith)) in
      let rest : count_below v ys ≡ count_below v xs = count_alike v xs ys (omega arith) (λ i d lt. h (suc i) d (omega arith)) in
      let old : count_below v (x ∷ xs) ≡ one_below v (n x) + count_below v xs = count_next v x xs in
      let new : count_below v (y ∷ ys) ≡ one_below v (n y) + count_below v ys = count_next v y ys in
      omega arith

-- ---- seats

module _ {D : Type 0} {state : D → DiskState} (w : Wires) (range : Option Moments) (old dealt turned new : List (Seat D)) (as-dealt : IsPermutation old dealt) (len : length turned ≡ length dealt) (on : AllWentOn state w range dealt turned) (gathered : IsPermutation turned new)
    (sorted : IsNonDecreasingBy number_in new) (go : list_all seat_goes new ≡ true) (setup : Setup) (starts : List (List (DevId × D))) (pasts : ℕ → Past) (shut : Bool) (phases : ℕ → Phase) (a : AreSeated state setup w starts pasts old shut phases) where
  -- a thread sits as that which it says it is
  abbrev IsOwn : Seat D → Type 0
  IsOwn s = IsIn state setup w starts pasts shut phases s.worker.me s

  own_at : (i : ℕ) (s : Seat D) → IsIn state setup w starts pasts shut phases i s → IsOwn s
  own_at i s h = subst (λ (k : ℕ). IsIn state setup w starts pasts shut phases k s) (sym h.sits.seat.worker.me) h

  all_own : All IsOwn dealt
  all_own = All-permutation IsOwn old dealt as-dealt (λ i d lt. own_at i (slice_index_or old i d) (a.each i (slice_index_or old i d) (slice_get-get_or old i d lt)))

  all_go : All (λ s. s.halted ≡ None) turned
  all_go = All-permutation (λ s. s.halted ≡ None) new turned (IsPermutation-sym turned new gathered) (λ i d lt. no_halt (slice_index_or new i d).halted (all_at seat_goes new i (slice_index_or new i d) go (slice_get-get_or new i d lt)))

  -- a turn leaves it so
  went : (i : ℕ) (d : Seat D) → i < length dealt → IsIn state setup w starts pasts shut phases (slice_index_or dealt i d).worker.me (slice_index_or turned i d)
  went i d lt =
      let goes : (slice_index_or turned i d).halted ≡ None = all_go i d (subst (λ (n : ℕ). i < n) (sym len) lt) in
      let own : IsOwn (slice_index_or dealt i d) = all_own i d lt in
      let c : Continues state w (slice_index_or dealt i d) (slice_index_or turned i d) = (on i d lt).on goes in
      let me = (slice_index_or dealt i d).worker.me in
      record { sits = c.sits setup me (phases me) (pasts me) (disks_at starts me) own.sits; flag = c.flag ∙ own.flag; goes = goes }

  turned_own : All IsOwn turned
  turned_own i d lt =
      let within : i < length dealt = subst (λ (n : ℕ). i < n) len lt in
      own_at (slice_index_or dealt i d).worker.me (slice_index_or turned i d) (went i d within)

  new_own : All IsOwn new
  new_own = All-permutation IsOwn turned new gathered turned_own

  -- of the new seats' numbers as many are below each number as of the old seats'
  as_many : (v : ℕ) → count_below number_in v new ≡ count_below number_in v old
  as_many v =
      sum_by-IsPermutation (λ s. one_below v (number_in s)) turned new gathered
      ∙ count_alike number_in v dealt turned len (λ i d lt. (went i d lt).sits.seat.worker.me)
      ∙ sum_by-IsPermutation (λ s. one_below v (number_in s)) old dealt as-dealt

  same_length : length new ≡ length old
  same_length = length_permutation turned new gathered ∙ len ∙ length_permutation old dealt as-dealt

  old_numbers : (i : ℕ) (d : Seat D) → i < length old → number_in (slice_index_or old i d) ≡ 0 + i
  old_numbers i d lt = let e : number_in (slice_index_or old i d) ≡ i = (a.each i (slice_index_or old i d) (slice_get-get_or old i d lt)).sits.seat.worker.me in omega arith

  counts : (v : ℕ) → v ≤ length new → count_below number_in v new ≡ v
  counts v le =
      let e : count_below number_in v old + 0 ≡ v = count_of number_in 0 v old old_numbers (omega arith) (let same : length new ≡ length old = same_length in omega arith) in
      let f : count_below number_in v new ≡ count_below number_in v old = as_many v in
      omega arith

  pub still_seated : AreSeated state setup w starts pasts new shut phases
  still_seated = record {
    some = a.some;
    len = same_length ∙ a.len;
    each = λ i s h.
        let lt : i < length new = slice_get_within new i s h in
        let is : slice_index_or new i s ≡ s = get_or_from_slice_get new i s s h in
        let own : IsOwn s = subst IsOwn is (new_own i s lt) in
        let me : s.worker.me ≡ i = ap number_in (sym is) ∙ numbered_by_count number_in new sorted counts i s lt in
        subst (λ (k : ℕ). IsIn state setup w starts pasts shut phases k s) me own;
  }

-- ---- the moments of their threads

pub still_within : {D : Type 0} {state : D → DiskState} (w : Wires) (range : Option Moments) (old dealt turned new : List (Seat D))
    → IsPermutation old dealt
    → length turned ≡ length dealt
    → AllWentOn state w range dealt turned
    → IsPermutation turned new
    → list_all seat_goes new ≡ true
    → HaveTimesWithin range old
    → HaveTimesWithin range new
still_within {D} {state} w range old dealt turned new as-dealt len on gathered go within =
    λ i s k. subst (λ (x : Seat D). HasTimesWithin range x) (get_or_from_slice_get new i s s k) (new_within i s (slice_get_within new i s k))
  where
    all_go : All (λ s. s.halted ≡ None) turned
    all_go = All-permutation (λ s. s.halted ≡ None) new turned (IsPermutation-sym turned new gathered) (λ i d lt. no_halt (slice_index_or new i d).halted (all_at seat_goes new i (slice_index_or new i d) go (slice_get-get_or new i d lt)))

    dealt_within : All (HasTimesWithin range) dealt
    dealt_within = All-permutation (HasTimesWithin range) old dealt as-dealt (λ i d lt. within i (slice_index_or old i d) (slice_get-get_or old i d lt))

    turned_within : All (HasTimesWithin range) turned
    turned_within i d lt =
        let below : i < length dealt = subst (λ (n : ℕ). i < n) len lt in
        (on i d below).times (all_go i d lt) (dealt_within i d below)

    new_within : All (HasTimesWithin range) new
    new_within = All-permutation (HasTimesWithin range) turned new gathered turned_within
