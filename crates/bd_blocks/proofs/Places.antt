-- The first item of a list that passes a test, by its place: found, changed, and taken out.
use Rattle.std.proofs.Common.{◌≡◌, ℕ, suc, ◌+◌, ◌<◌, ◌≤◌, Bool, true, false, cond, not, List, [], ◌∷◌, ◌++◌, length, get_or, set, take, drop, nat_lt, ltb-true, ltb-false, Some, None, refl, sym, ◌∙◌, ap, subst, arith}
use Rattle.std.specs.List.{find, position, position_or_len}
use Rattle.bd_machine.specs.Table.{change_first, without_first}

module _ {X : Type 0} (is : X → Bool) where
  -- how many items stand before the first that passes
  abbrev pub before : List X → ℕ
  before [] = 0
  before (x ∷ xs) = cond (not (is x)) (suc (before xs)) 0

  before_is : (xs : List X) → before xs ≡ position_or_len is xs
  before_is [] = refl
  before_is (x ∷ xs) = go (not (is x)) (before_is xs)
    where
      more : (a b : ℕ) → a ≡ b → suc a ≡ 1 + b
      more a b e = omega arith

      go : (b : Bool) → before xs ≡ position_or_len is xs → cond b (suc (before xs)) 0 ≡ cond b (1 + position_or_len is xs) 0
      go true ih = more (before xs) (position_or_len is xs) ih
      go false ih = refl

  low : (a b : ℕ) → suc a < suc b → a < b
  low a b p = omega arith

  low_le : (a b : ℕ) → suc a ≤ suc b → a ≤ b
  low_le a b p = omega arith

  none : (a : ℕ) → suc a ≤ 0 → ⊥
  none a p = omega arith

  -- a place that is given is that of the first that passes
  placed : (xs : List X) (i : ℕ) → position is xs ≡ Some i → (before xs ≡ i) × (before xs < length xs)
  placed xs i e = go (nat_lt (position_or_len is xs) (length xs)) refl e
    where
      some_same : Some (position_or_len is xs) ≡ Some i → position_or_len is xs ≡ i
      some_same e = cc

      go : (b : Bool) → nat_lt (position_or_len is xs) (length xs) ≡ b → cond b (Some (position_or_len is xs)) None ≡ Some i → (before xs ≡ i) × (before xs < length xs)
      go true q e = (before_is xs ∙ some_same e, subst (λ (n : ℕ). n < length xs) (sym (before_is xs)) (ltb-true (position_or_len is xs) (length xs) q))
      go false q e = cc

  found_before : (xs : List X) (x : X) → before xs < length xs → x ≡ get_or xs (before xs) x → find is xs ≡ Some x
  found_before [] x h q = absurd (omega arith)
  found_before (y ∷ ys) x h q = go (is y) h q (found_before ys x)
    where
      go : (b : Bool) → cond (not b) (suc (before ys)) 0 < suc (length ys) → x ≡ get_or (y ∷ ys) (cond (not b) (suc (before ys)) 0) x
          → (before ys < length ys → x ≡ get_or ys (before ys) x → find is ys ≡ Some x)
          → cond b (Some y) (find is ys) ≡ Some x
      go true h q ih = ap Some (sym q)
      go false h q ih = ih (low (before ys) (length ys) h) q

  pub found_place : (xs : List X) (i : ℕ) → position is xs ≡ Some i → before xs ≡ i
  found_place xs i e = (placed xs i e).0

  pub is_before : (xs : List X) (i : ℕ) → position is xs ≡ Some i → before xs < length xs
  is_before xs i e = (placed xs i e).1

  -- what stands at the place is the first that passes
  pub found_at : (xs : List X) (i : ℕ) (x : X) → position is xs ≡ Some i → x ≡ get_or xs i x → find is xs ≡ Some x
  found_at xs i x e q =
      let p = placed xs i e in
      found_before xs x p.1 (q ∙ ap (λ (n : ℕ). get_or xs n x) (sym p.0))

  missed_before : (xs : List X) → length xs ≤ before xs → find is xs ≡ None
  missed_before [] h = refl
  missed_before (y ∷ ys) h = go (is y) h (missed_before ys)
    where
      go : (b : Bool) → suc (length ys) ≤ cond (not b) (suc (before ys)) 0 → (length ys ≤ before ys → find is ys ≡ None) → cond b (Some y) (find is ys) ≡ None
      go true l ih = absurd (none (length ys) l)
      go false l ih = ih (low_le (length ys) (before ys) l)

  pub is_past : (xs : List X) → position is xs ≡ None → length xs ≤ before xs
  is_past xs e = go (nat_lt (position_or_len is xs) (length xs)) refl e
    where
      go : (b : Bool) → nat_lt (position_or_len is xs) (length xs) ≡ b → cond b (Some (position_or_len is xs)) None ≡ None → length xs ≤ before xs
      go true q e = cc
      go false q e = subst (λ (n : ℕ). length xs ≤ n) (sym (before_is xs)) (ltb-false (position_or_len is xs) (length xs) q)

  -- where there is no place none passes
  pub missed : (xs : List X) → position is xs ≡ None → find is xs ≡ None
  missed xs e = missed_before xs (is_past xs e)

  set_before : (f : X → X) (xs : List X) (y d : X) → before xs < length xs → y ≡ f (get_or xs (before xs) d) → set xs (before xs) y ≡ change_first is f xs
  set_before f [] y d h q = absurd (omega arith)
  set_before f (x ∷ xs) y d h q = go (is x) h q (set_before f xs y d)
    where
      go : (b : Bool) → cond (not b) (suc (before xs)) 0 < suc (length xs) → y ≡ f (get_or (x ∷ xs) (cond (not b) (suc (before xs)) 0) d)
          → (before xs < length xs → y ≡ f (get_or xs (before xs) d) → set xs (before xs) y ≡ change_first is f xs)
          → set (x ∷ xs) (cond (not b) (suc (before xs)) 0) y ≡ cond b (f x ∷ xs) (x ∷ change_first is f xs)
      go true h q ih = ap (λ (z : X). let w : List X = z ∷ xs in w) q
      go false h q ih = ap (λ zs. x ∷ zs) (ih (low (before xs) (length xs) h) q)

  -- a change at the place is a change of the first that passes
  pub set_found : (f : X → X) (xs : List X) (i : ℕ) (y d : X) → position is xs ≡ Some i → y ≡ f (get_or xs i d) → set xs i y ≡ change_first is f xs
  set_found f xs i y d e q =
      let p = placed xs i e in
      ap (λ (n : ℕ). set xs n y) (sym p.0) ∙ set_before f xs y d p.1 (q ∙ ap (λ (n : ℕ). f (get_or xs n d)) (sym p.0))

  kept_before : (f : X → X) (xs : List X) → length xs ≤ before xs → xs ≡ change_first is f xs
  kept_before f [] h = refl
  kept_before f (x ∷ xs) h = go (is x) h (kept_before f xs)
    where
      go : (b : Bool) → suc (length xs) ≤ cond (not b) (suc (before xs)) 0 → (length xs ≤ before xs → xs ≡ change_first is f xs) → x ∷ xs ≡ cond b (f x ∷ xs) (x ∷ change_first is f xs)
      go true l ih = absurd (none (length xs) l)
      go false l ih = ap (λ zs. x ∷ zs) (ih (low_le (length xs) (before xs) l))

  -- where there is no place none is changed
  pub not_found : (f : X → X) (xs : List X) → position is xs ≡ None → xs ≡ change_first is f xs
  not_found f xs e = kept_before f xs (is_past xs e)

  removed_before : (xs : List X) → before xs < length xs → take (before xs) xs ++ drop (suc (before xs)) xs ≡ without_first is xs
  removed_before [] h = absurd (omega arith)
  removed_before (x ∷ xs) h = go (is x) h (removed_before xs)
    where
      go : (b : Bool) → cond (not b) (suc (before xs)) 0 < suc (length xs)
          → (before xs < length xs → take (before xs) xs ++ drop (suc (before xs)) xs ≡ without_first is xs)
          → take (cond (not b) (suc (before xs)) 0) (x ∷ xs) ++ drop (suc (cond (not b) (suc (before xs)) 0)) (x ∷ xs) ≡ cond b xs (x ∷ without_first is xs)
      go true l ih = refl
      go false l ih = ap (λ zs. x ∷ zs) (ih (low (before xs) (length xs) l))

  -- what stands at the place is taken out: the first that passes is
  pub remove_found : (xs : List X) (i : ℕ) → position is xs ≡ Some i → take i xs ++ drop (suc i) xs ≡ without_first is xs
  remove_found xs i e =
      let p = placed xs i e in
      subst (λ (n : ℕ). take n xs ++ drop (suc n) xs ≡ without_first is xs) p.0 (removed_before xs p.1)

  all_left_before : (xs : List X) → length xs ≤ before xs → xs ≡ without_first is xs
  all_left_before [] h = refl
  all_left_before (x ∷ xs) h = go (is x) h (all_left_before xs)
    where
      go : (b : Bool) → suc (length xs) ≤ cond (not b) (suc (before xs)) 0 → (length xs ≤ before xs → xs ≡ without_first is xs) → x ∷ xs ≡ cond b xs (x ∷ without_first is xs)
      go true l ih = absurd (none (length xs) l)
      go false l ih = ap (λ zs. x ∷ zs) (ih (low_le (length xs) (before xs) l))

  -- where there is no place none is taken out
  pub none_to_remove : (xs : List X) → position is xs ≡ None → xs ≡ without_first is xs
  none_to_remove xs e = all_left_before xs (is_past xs e)

  -- the place is one of the list's
  pub found_below : (xs : List X) (i : ℕ) → position is xs ≡ Some i → i < length xs
  found_below xs i e = let p = placed xs i e in subst (λ (n : ℕ). n < length xs) p.0 p.1
