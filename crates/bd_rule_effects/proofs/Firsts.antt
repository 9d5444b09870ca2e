-- The first item of a list that passes a test: changed, or taken out.
use Rattle.std.proofs.Common.{◌≡◌, ℕ, suc, ◌+◌, ◌<◌, ◌≤◌, Bool, true, false, cond, not, List, [], ◌∷◌, ◌++◌, length, get_or, set, take, drop, nat_lt, ltb-true, ltb-false, Some, None, refl, sym, ◌∙◌, ap, subst, arith}
use Rattle.std.specs.List.{position, position_or_len}
use Rattle.bd_machine.specs.Table.{change_first, without_first}

module _ {X : Type 0} (is : X → Bool) where
  -- how many items stand before the first that passes
  abbrev pub before : List X → ℕ
  before [] = 0
  before (x ∷ xs) = cond (not (is x)) (suc (before xs)) 0

  before_is : (xs : List X) → before xs ≡ position_or_len is xs
  before_is [] = refl
  before_is (x ∷ xs) = go (not (is x)) (before_is xs)
    where
      more : (a b : ℕ) → a ≡ b → suc a ≡ 1 + b
      more a b e = omega arith

      go : (b : Bool) → before xs ≡ position_or_len is xs → cond b (suc (before xs)) 0 ≡ cond b (1 + position_or_len is xs) 0
      go true ih = more (before xs) (position_or_len is xs) ih
      go false ih = refl

  low : (a b : ℕ) → suc a < suc b → a < b
  low a b p = omega arith

  low_le : (a b : ℕ) → suc a ≤ suc b → a ≤ b
  low_le a b p = omega arith

  none : (a : ℕ) → suc a ≤ 0 → ⊥
  none a p = omega arith

  set_at : (f : X → X) (xs : List X) (i : ℕ) (y d : X) → i ≡ before xs → i < length xs → y ≡ f (get_or xs i d) → set xs i y ≡ change_first is f xs
  set_at f [] i y d e h q = absurd (omega arith)
  set_at f (x ∷ xs) i y d e h q =
      subst (λ (n : ℕ). set (x ∷ xs) n y ≡ change_first is f (x ∷ xs)) (sym e)
      (go (is x) refl (λ (l : before xs < length xs) (k : y ≡ f (get_or xs (before xs) d)). set_at f xs (before xs) y d refl l k)
      (subst (λ (n : ℕ). n < length (x ∷ xs)) e h) (subst (λ (n : ℕ). y ≡ f (get_or (x ∷ xs) n d)) e q))
    where
      go : (b : Bool) → is x ≡ b
          → (before xs < length xs → y ≡ f (get_or xs (before xs) d) → set xs (before xs) y ≡ change_first is f xs)
          → cond (not b) (suc (before xs)) 0 < suc (length xs)
          → y ≡ f (get_or (x ∷ xs) (cond (not b) (suc (before xs)) 0) d)
          → set (x ∷ xs) (cond (not b) (suc (before xs)) 0) y ≡ cond b (f x ∷ xs) (x ∷ change_first is f xs)
      go true p ih l k = ap (λ (z : X). let w : List X = z ∷ xs in w) k
      go false p ih l k = ap (λ zs. x ∷ zs) (ih (low (before xs) (length xs) l) k)

  none_at : (f : X → X) (xs : List X) → length xs ≤ before xs → xs ≡ change_first is f xs
  none_at f [] h = refl
  none_at f (x ∷ xs) h = go (is x) h (none_at f xs)
    where
      go : (b : Bool) → suc (length xs) ≤ cond (not b) (suc (before xs)) 0 → (length xs ≤ before xs → xs ≡ change_first is f xs) → x ∷ xs ≡ cond b (f x ∷ xs) (x ∷ change_first is f xs)
      go true l ih = absurd (none (length xs) l)
      go false l ih = ap (λ zs. x ∷ zs) (ih (low_le (length xs) (before xs) l))

  remove_at : (xs : List X) (i : ℕ) → i ≡ before xs → i < length xs → take i xs ++ drop (suc i) xs ≡ without_first is xs
  remove_at [] i e h = absurd (omega arith)
  remove_at (x ∷ xs) i e h =
      subst (λ (n : ℕ). take n (x ∷ xs) ++ drop (suc n) (x ∷ xs) ≡ without_first is (x ∷ xs)) (sym e)
      (go (is x) (λ (l : before xs < length xs). remove_at xs (before xs) refl l) (subst (λ (n : ℕ). n < length (x ∷ xs)) e h))
    where
      go : (b : Bool) → (before xs < length xs → take (before xs) xs ++ drop (suc (before xs)) xs ≡ without_first is xs)
          → cond (not b) (suc (before xs)) 0 < suc (length xs)
          → take (cond (not b) (suc (before xs)) 0) (x ∷ xs) ++ drop (suc (cond (not b) (suc (before xs)) 0)) (x ∷ xs) ≡ cond b xs (x ∷ without_first is xs)
      go true ih l = refl
      go false ih l = ap (λ zs. x ∷ zs) (ih (low (before xs) (length xs) l))

  keep_at : (xs : List X) → length xs ≤ before xs → xs ≡ without_first is xs
  keep_at [] h = refl
  keep_at (x ∷ xs) h = go (is x) h (keep_at xs)
    where
      go : (b : Bool) → suc (length xs) ≤ cond (not b) (suc (before xs)) 0 → (length xs ≤ before xs → xs ≡ without_first is xs) → x ∷ xs ≡ cond b xs (x ∷ without_first is xs)
      go true l ih = absurd (none (length xs) l)
      go false l ih = ap (λ zs. x ∷ zs) (ih (low_le (length xs) (before xs) l))

  found : (i : ℕ) (xs : List X) (b : Bool) → nat_lt (position_or_len is xs) (length xs) ≡ b → cond b (Some (position_or_len is xs)) None ≡ Some i → (i ≡ position_or_len is xs) × (i < length xs)
  found i xs true q e = let same : i ≡ position_or_len is xs = sym (some_same e) in (same, subst (λ (n : ℕ). n < length xs) (sym same) (ltb-true (position_or_len is xs) (length xs) q))
    where
      some_same : Some (position_or_len is xs) ≡ Some i → position_or_len is xs ≡ i
      some_same e = cc
  found i xs false q e = cc

  missed : (xs : List X) (b : Bool) → nat_lt (position_or_len is xs) (length xs) ≡ b → cond b (Some (position_or_len is xs)) None ≡ None → length xs ≤ position_or_len is xs
  missed xs true q e = cc
  missed xs false q e = ltb-false (position_or_len is xs) (length xs) q

  pub found_before : (xs : List X) (i : ℕ) → position is xs ≡ Some i → before xs < length xs
  found_before xs i e = let p = found i xs (nat_lt (position_or_len is xs) (length xs)) refl e in subst (λ (n : ℕ). n < length xs) (p.0 ∙ sym (before_is xs)) p.1

  pub found_at : (xs : List X) (i : ℕ) → position is xs ≡ Some i → i ≡ before xs
  found_at xs i e = let p = found i xs (nat_lt (position_or_len is xs) (length xs)) refl e in p.0 ∙ sym (before_is xs)

  pub missed_before : (xs : List X) → position is xs ≡ None → length xs ≤ before xs
  missed_before xs e = subst (λ (n : ℕ). length xs ≤ n) (sym (before_is xs)) (missed xs (nat_lt (position_or_len is xs) (length xs)) refl e)

  pub found_below : (xs : List X) (i : ℕ) → position is xs ≡ Some i → i < length xs
  found_below xs i e = (found i xs (nat_lt (position_or_len is xs) (length xs)) refl e).1

  pub set_found : (f : X → X) (xs : List X) (i : ℕ) (y d : X) → position is xs ≡ Some i → y ≡ f (get_or xs i d) → set xs i y ≡ change_first is f xs
  set_found f xs i y d e q = let p = found i xs (nat_lt (position_or_len is xs) (length xs)) refl e in set_at f xs i y d (p.0 ∙ sym (before_is xs)) p.1 q

  pub not_found : (f : X → X) (xs : List X) → position is xs ≡ None → xs ≡ change_first is f xs
  not_found f xs e = none_at f xs (missed_before xs e)

  pub remove_found : (xs : List X) (i : ℕ) → position is xs ≡ Some i → take i xs ++ drop (suc i) xs ≡ without_first is xs
  remove_found xs i e = let p = found i xs (nat_lt (position_or_len is xs) (length xs)) refl e in remove_at xs i (p.0 ∙ sym (before_is xs)) p.1

  pub none_to_remove : (xs : List X) → position is xs ≡ None → xs ≡ without_first is xs
  none_to_remove xs e = keep_at xs (missed_before xs e)
