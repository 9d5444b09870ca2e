-- A write in a table, at the place of the first entry with the key, or after the others.
use Rattle.std.proofs.Common.{◌≡◌, ℕ, suc, ◌<◌, ◌≤◌, Bool, true, false, cond, not, List, [], ◌∷◌, ◌++◌, length, get_or, set, Some, None, refl, sym, ◌∙◌, ap, arith}
use Rattle.std.specs.List.{position}
use Rattle.std.proofs.lemmas.List.Quantifiers.{position-Some}
use Rattle.bd_machine.specs.Table.{write, change_first}
use Rattle.bd_machine.proofs.Tables.{IsSame}
use Rattle.bd_rule_effects.proofs.Firsts.{before, set_found, found_before, missed_before}

low : (a b : ℕ) → suc a < suc b → a < b
low a b p = omega arith

low_le : (a b : ℕ) → suc a ≤ suc b → a ≤ b
low_le a b p = omega arith

none : (a : ℕ) → suc a ≤ 0 → ⊥
none a p = omega arith

module _ {K V : Type 0} (same : K → K → Bool) (laws : IsSame same) (k : K) (v : V) where
  abbrev is : K × V → Bool
  is e = same e.0 k

  there : (es : List (K × V)) → before is es < length es → change_first is (λ e. (e.0, v)) es ≡ write same es k v
  there [] h = absurd (omega arith)
  there (x ∷ es) h = go (is x) h (there es)
    where
      go : (b : Bool) → cond (not b) (suc (before is es)) 0 < suc (length es) → (before is es < length es → change_first is (λ e. (e.0, v)) es ≡ write same es k v)
          → cond b ((x.0, v) ∷ es) (x ∷ change_first is (λ e. (e.0, v)) es) ≡ cond b ((x.0, v) ∷ es) (x ∷ write same es k v)
      go true l ih = refl
      go false l ih = ap (λ zs. x ∷ zs) (ih (low (before is es) (length es) l))

  behind : (es : List (K × V)) → length es ≤ before is es → es ++ (k, v) ∷ [] ≡ write same es k v
  behind [] h = refl
  behind (x ∷ es) h = go (is x) h (behind es)
    where
      go : (b : Bool) → suc (length es) ≤ cond (not b) (suc (before is es)) 0 → (length es ≤ before is es → es ++ (k, v) ∷ [] ≡ write same es k v)
          → x ∷ (es ++ (k, v) ∷ []) ≡ cond b ((x.0, v) ∷ es) (x ∷ write same es k v)
      go true l ih = absurd (none (length es) l)
      go false l ih = ap (λ zs. x ∷ zs) (ih (low_le (length es) (before is es) l))

  pub written_at : (es : List (K × V)) (i : ℕ) → position is es ≡ Some i → set es i (k, v) ≡ write same es k v
  written_at es i e =
      let key : k ≡ (get_or es i (k, v)).0 = sym (laws.exact (get_or es i (k, v)).0 k (position-Some is es i (k, v) e).1) in
      set_found is (λ e. (e.0, v)) es i (k, v) (k, v) e (ap (λ (j : K). let w : K × V = (j, v) in w) key)
      ∙ there es (found_before is es i e)

  pub written_behind : (es : List (K × V)) → position is es ≡ None → es ++ (k, v) ∷ [] ≡ write same es k v
  written_behind es e = behind es (missed_before is es e)
