-- A name that was given a place, and a device more.
use Rattle.std.proofs.Common.{◌≡◌, ◌≢◌, ℕ, ◌+◌, ◌<◌, ◌≤◌, Bool, true, false, not, cond, ◌&&◌, ◌⊎◌, inl, inr, List, [], ◌∷◌, ◌++◌, length, Option, Some, None, nat_eq, nat_lt, eqb, get_or, take, lt-ltb, le-ltb, refl, sym, ◌∙◌, ap, ap₂, eq-eqb, ne_eqb, arith}
use Rattle.std.specs.Cmp.Lexicographic.{pointwise}
use Rattle.std.specs.List.{position, position_or_len}
use Rattle.std.specs.Map.{lookup}
use Rattle.std.proofs.lemmas.Bool.{cases_eq}
use Rattle.std.proofs.lemmas.List.{length-append, length-take-le, take_more}
use Rattle.std.proofs.lemmas.List.Folds.{position_or_len_push}
use Rattle.std.proofs.lemmas.List.Sums.{prefix_len-le-length}
use Rattle.bd_base.specs.Name.{same_name}
use Rattle.bd_base.specs.declared.device.DevRow.{DevRow}
use Rattle.indexmap.specs.IndexMap.{insert_entry}
use Rattle.bd_registry.specs.Names.{first_of}

nat_flip : (a b : ℕ) → nat_eq a b ≡ nat_eq b a
nat_flip a b = go (cases_eq a b)
  where
    go : (a ≡ b) ⊎ (a ≢ b) → nat_eq a b ≡ nat_eq b a
    go (inl e) = eq-eqb a b e ∙ sym (eq-eqb b a (sym e))
    go (inr ne) = ne_eqb a b ne ∙ sym (ne_eqb b a (λ e. ne (sym e)))

pub name_flip : (a b : List ℕ) → pointwise nat_eq a b ≡ pointwise nat_eq b a
name_flip [] [] = refl
name_flip [] (y ∷ ys) = refl
name_flip (x ∷ xs) [] = refl
name_flip (x ∷ xs) (y ∷ ys) = ap₂ (λ (b c : Bool). b && c) (nat_flip x y) (name_flip xs ys)

module _ {K : Type 0} (items : K → List ℕ) (key : K) (place : ℕ) (q : List ℕ) where
  abbrev same : K → K → Bool
  same a b = pointwise nat_eq (items a) (items b)

  abbrev at : List ℕ → List (K × ℕ) → Option ℕ
  at name es = lookup (λ k. pointwise nat_eq name (items k)) es

  -- the entries after an insertion of a key that wasn't there
  pub inserted : (es : List (K × ℕ)) → at (items key) es ≡ None → at q (insert_entry same es key place) ≡ first_of (at q es) (cond (pointwise nat_eq (items key) q) (Some place) None)
  inserted [] h = ap (λ b. cond b (Some place) None) (name_flip q (items key))
  inserted (e ∷ es) h = go (pointwise nat_eq (items key) (items e.0)) h (inserted es)
    where
      step : (b : Bool) (o : Option ℕ) (p : Option ℕ) (x : Option ℕ) → o ≡ first_of p x → cond b (Some e.1) o ≡ first_of (cond b (Some e.1) p) x
      step true o p x i = refl
      step false o p x i = i

      go : (b : Bool) → cond b (Some e.1) (at (items key) es) ≡ None → (at (items key) es ≡ None → at q (insert_entry same es key place) ≡ first_of (at q es) (cond (pointwise nat_eq (items key) q) (Some place) None))
          → at q (cond b ((e.0, place) ∷ es) (e ∷ insert_entry same es key place)) ≡ first_of (cond (pointwise nat_eq q (items e.0)) (Some e.1) (at q es)) (cond (pointwise nat_eq (items key) q) (Some place) None)
      go true g ih = cc
      go false g ih = step (pointwise nat_eq q (items e.0)) (at q (insert_entry same es key place)) (at q es) (cond (pointwise nat_eq (items key) q) (Some place) None) (ih g)

pushed : (n len : ℕ) (b : Bool) → n ≤ len
    → cond (nat_lt (cond (eqb n len) (len + cond b 0 1) n) (len + 1)) (Some (cond (eqb n len) (len + cond b 0 1) n)) None ≡ first_of (cond (nat_lt n len) (Some n) None) (cond b (Some len) None)
pushed n len b le = go (cases_eq n len) b
  where
    at : ℕ → Option ℕ
    at m = cond (nat_lt m (len + 1)) (Some m) None

    last : (c : Bool) → at (len + cond c 0 1) ≡ cond c (Some len) None
    last true = ap at (omega arith) ∙ ap (λ (d : Bool). cond d (Some len) None) (lt-ltb len (len + 1) (omega arith))
    last false = ap (λ (d : Bool). cond d (Some (len + 1)) None) (le-ltb (len + 1) (len + 1) (omega arith))

    go : (n ≡ len) ⊎ (n ≢ len) → (c : Bool) → at (cond (eqb n len) (len + cond c 0 1) n) ≡ first_of (cond (nat_lt n len) (Some n) None) (cond c (Some len) None)
    go (inl e) c =
        ap (λ (d : Bool). at (cond d (len + cond c 0 1) n)) (eq-eqb n len e) ∙ last c
        ∙ sym (ap (λ (d : Bool). first_of (cond d (Some n) None) (cond c (Some len) None)) (le-ltb n len (omega (arith, e))))
    go (inr ne) c =
        ap (λ (d : Bool). at (cond d (len + cond c 0 1) n)) (ne_eqb n len ne)
        ∙ ap (λ (d : Bool). cond d (Some n) None) (lt-ltb n (len + 1) (omega (arith, le)))
        ∙ sym (ap (λ (d : Bool). first_of (cond d (Some n) None) (cond c (Some len) None)) (lt-ltb n len (omega (arith, le, ne))))

-- the place of the first that passes, with one element more
pub position_more : {X : Type 0} (p : X → Bool) (xs : List X) (x : X) → position p (xs ++ x ∷ []) ≡ first_of (position p xs) (cond (p x) (Some (length xs)) None)
position_more p xs x =
    ap (λ (m : ℕ). cond (nat_lt m (length (xs ++ x ∷ []))) (Some m) None) (position_or_len_push p xs x)
    ∙ ap (λ (l : ℕ). cond (nat_lt (cond (eqb (position_or_len p xs) (length xs)) (length xs + cond (p x) 0 1) (position_or_len p xs)) l) (Some (cond (eqb (position_or_len p xs) (length xs)) (length xs + cond (p x) 0 1) (position_or_len p xs))) None) (length-append xs (x ∷ []))
    ∙ pushed (position_or_len p xs) (length xs) (p x) (prefix_len-le-length (λ y. not (p y)) xs)

-- the places of the names of the first rows, with one row more
pub named_more : (old new : List ℕ → Option ℕ) (rows : List DevRow) (n : ℕ) (row : DevRow) → n < length rows → row ≡ get_or rows n row
    → ((q : List ℕ) → new q ≡ first_of (old q) (cond (same_name row.name q) (Some n) None))
    → ((q : List ℕ) → old q ≡ position (λ r. same_name r.name q) (take n rows)) → (q : List ℕ) → new q ≡ position (λ r. same_name r.name q) (take (n + 1) rows)
named_more old new rows n row less at gains are q =
    gains q ∙ ap (λ o. first_of o (cond (same_name row.name q) (Some n) None)) (are q)
    ∙ ap (λ (m : ℕ). first_of (position (λ r. same_name r.name q) (take n rows)) (cond (same_name row.name q) (Some m) None)) (sym (length-take-le n rows (omega (arith, less))))
    ∙ sym (position_more (λ r. same_name r.name q) (take n rows) row)
    ∙ ap (position (λ r. same_name r.name q)) (ap (λ (x : DevRow). take n rows ++ x ∷ []) at ∙ sym (take_more rows n row less))
