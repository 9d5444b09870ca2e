-- The first of the parts, which a scan finds.
use Rattle.std.proofs.Common.{◌≡◌, ℕ, ◌+◌, ◌<◌, false, ◌⊎◌, inl, inr, List, [], ◌∷◌, length, get_or, set, All, refl, sym, subst, get_or-set_same, get_or-set_other, arith}
use Rattle.std.proofs.lemmas.Bool.{cases_eq}
use Rattle.std.proofs.lemmas.Grind.{common_steps}
use Rattle.std.proofs.lemmas.List.{length-set}
use Rattle.bd_base.specs.declared.act.Entry.{Entry}
use Rattle.bd_log.specs.Firsts.{IsNotBefore}
use Rattle.bd_log.specs.Merge.{Part, IsPart, head_before}

not_before_trans : (xs ys zs : List Entry) → head_before xs ys ≡ false → head_before ys zs ≡ false → head_before xs zs ≡ false
not_before_trans [] ys zs h k = refl
not_before_trans (x ∷ xs) [] zs h k = cc
not_before_trans (x ∷ xs) (y ∷ ys) [] h k = cc
not_before_trans (x ∷ xs) (y ∷ ys) (z ∷ zs) h k = grind (arith, common_steps)

through : (parts : List Part) (i j k : ℕ) → IsNotBefore parts i j → IsNotBefore parts j k → IsNotBefore parts i k
through parts i j k h h' d = not_before_trans (get_or parts i d).entries (get_or parts j d).entries (get_or parts k d).entries (h d) (h' d)

-- what holds of both holds of the one that was chosen
chosen : (P : ℕ → Type 0) (one other new : ℕ) → (new ≡ one) ⊎ (new ≡ other) → P one → P other → P new
chosen P one other new (inl e) h k = subst P (sym e) h
chosen P one other new (inr e) h k = subst P (sym e) k

-- the first among the parts up to a place
pub record FirstUpTo (parts : List Part) (first place : ℕ) : Type 0 where
  pub within : first < length parts
  pub are : (j : ℕ) (d : Part) → j < place → IsPart (get_or parts j d)
  pub least : (j : ℕ) → j < place → IsNotBefore parts j first

-- one place more, of which the sooner is the first now
pub first_more : (parts : List Part) (first place new : ℕ) → FirstUpTo parts first place → place < length parts → (new ≡ first) ⊎ (new ≡ place) → IsNotBefore parts first new → IsNotBefore parts place new → ((d : Part) → IsPart (get_or parts place d)) → FirstUpTo parts new (place + 1)
first_more parts first place new u lt either one other is = record {
  within = chosen (λ (n : ℕ). n < length parts) first place new either u.within lt;
  are = λ j d h. are j d h (cases_eq j place);
  least = λ j h. least j h (cases_eq j place);
}
  where
    are : (j : ℕ) (d : Part) → j < place + 1 → (j ≡ place) ⊎ (j ≡ place → ⊥) → IsPart (get_or parts j d)
    are j d h (inl e) = subst (λ (i : ℕ). IsPart (get_or parts i d)) (sym e) (is d)
    are j d h (inr ne) = u.are j d (omega (arith, h, ne))

    least : (j : ℕ) → j < place + 1 → (j ≡ place) ⊎ (j ≡ place → ⊥) → IsNotBefore parts j new
    least j h (inl e) = subst (λ (i : ℕ). IsNotBefore parts i new) (sym e) other
    least j h (inr ne) = through parts j first new (u.least j (omega (arith, h, ne))) one

-- a part in the place of another
pub parts_kept : (parts : List Part) (place : ℕ) (now : Part) → All IsPart parts → place < length parts → IsPart now → All IsPart (set parts place now)
parts_kept parts place now are lt is k d h = go (cases_eq k place)
  where
    go : (k ≡ place) ⊎ (k ≡ place → ⊥) → IsPart (get_or (set parts place now) k d)
    go (inl e) = subst (λ (i : ℕ). IsPart (get_or (set parts place now) i d)) (sym e) (subst IsPart (sym (get_or-set_same parts place now d lt)) is)
    go (inr ne) = subst IsPart (sym (get_or-set_other parts place k now d ne)) (are k d (omega (arith, h, length-set parts place now)))
