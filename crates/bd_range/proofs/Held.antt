-- The first item that passes a test, taken out by its place.
use Rattle.std.proofs.Common.{◌≡◌, ℕ, suc, ◌+◌, ◌<◌, ◌≤◌, Bool, true, false, cond, not, nat_lt, ltb-true, ltb-false, List, [], ◌∷◌, length, Some, None, refl, ◌∙◌, ap, arith}
use Rattle.std.specs.List.{position, position_or_len, remove}
use Rattle.bd_range.specs.Locks.{without_first}

module _ {X : Type 0} (is : X → Bool) where
  taken : (xs : List X) → position_or_len is xs < length xs → remove xs (position_or_len is xs) ≡ without_first is xs
  taken [] h = absurd (omega (arith, h))
  taken (x ∷ xs) h = go (is x) h (taken xs)
    where
      go : (b : Bool) → cond (not b) (1 + position_or_len is xs) 0 < suc (length xs)
          → (position_or_len is xs < length xs → remove xs (position_or_len is xs) ≡ without_first is xs)
          → remove (x ∷ xs) (cond (not b) (1 + position_or_len is xs) 0) ≡ cond b xs (x ∷ without_first is xs)
      go true h rest = refl
      go false h rest =
          let n : 1 + position_or_len is xs ≡ suc (position_or_len is xs) = omega arith in
          ap (remove (x ∷ xs)) n ∙ ap (λ ys. x ∷ ys) (rest (omega (arith, h)))

  left : (xs : List X) → length xs ≤ position_or_len is xs → xs ≡ without_first is xs
  left [] h = refl
  left (x ∷ xs) h = go (is x) h (left xs)
    where
      go : (b : Bool) → suc (length xs) ≤ cond (not b) (1 + position_or_len is xs) 0 → (length xs ≤ position_or_len is xs → xs ≡ without_first is xs) → x ∷ xs ≡ cond b xs (x ∷ without_first is xs)
      go true h rest = absurd (omega (arith, h))
      go false h rest = ap (λ ys. x ∷ ys) (rest (omega (arith, h)))

  -- it is at the place that was found
  pub taken_at : (xs : List X) (i : ℕ) → position is xs ≡ Some i → remove xs i ≡ without_first is xs
  taken_at xs i e = go (nat_lt (position_or_len is xs) (length xs)) refl e
    where
      go : (b : Bool) → nat_lt (position_or_len is xs) (length xs) ≡ b → cond b (Some (position_or_len is xs)) None ≡ Some i → remove xs i ≡ without_first is xs
      go true q e = let same : i ≡ position_or_len is xs = cc in ap (remove xs) same ∙ taken xs (ltb-true (position_or_len is xs) (length xs) q)
      go false q e = absurd (cc)

  -- there is none
  pub none_taken : (xs : List X) → position is xs ≡ None → xs ≡ without_first is xs
  none_taken xs e = go (nat_lt (position_or_len is xs) (length xs)) refl e
    where
      go : (b : Bool) → nat_lt (position_or_len is xs) (length xs) ≡ b → cond b (Some (position_or_len is xs)) None ≡ None → xs ≡ without_first is xs
      go true q e = absurd (cc)
      go false q e = left xs (ltb-false (position_or_len is xs) (length xs) q)
