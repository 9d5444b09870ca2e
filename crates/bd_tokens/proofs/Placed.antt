-- A token is looked up at its place and then among those without one; a change at one place, or among those, is a change of one token.
use Rattle.std.proofs.Common.{◌≡◌, ◌≢◌, ℕ, zero, suc, ◌+◌, ◌<◌, ◌≤◌, ◌==◌, ◌⊎◌, inl, inr, Bool, true, false, cond, List, [], ◌∷◌, ◌++◌, length, slice_index_or, slice_set, Option, Some, None, is_some, option_map, refl, sym, ◌∙◌, ap, ap₂, subst, eqb-true, eq-eqb, arith}
use Rattle.std.proofs.lemmas.List.{get_or-set_same, get_or-set_other, get_or_past, length-set}
use mathlib.Core.Path.{fun_ext}
use Rattle.bd_machine.specs.declared.state.Id.{Id}
use Rattle.bd_machine.specs.declared.state.Kept.{Kept}
use Rattle.bd_machine.specs.Same.{same_id}
use Rattle.bd_machine.proofs.Tables.{id_same}
use Rattle.bd_tokens.specs.Tokens.{here_in, Sets}
use Rattle.bd_tokens.specs.declared.places.Tier.{Tier}
use Rattle.bd_tokens.specs.Places.{items_in, items_with, is_free, is_own, kept_in, kept_of, place_of, AreApart, AreAt, AreKept, IsAt}

-- ---- places

some_same : (a b : ℕ) → Some a ≡ Some b → a ≡ b
some_same a b e = cc

none_some : {A : Type 0} (a : A) → None ≡ Some a → ⊥
none_some a e = cc

clash : true ≡ false → ⊥
clash h = cc

-- tokens with other places are other tokens
differ : (tier : Tier) (id j : Id) → place_of tier id ≢ place_of tier j → same_id id j ≡ false
differ tier id j other = go (same_id id j) refl
  where
    go : (b : Bool) → same_id id j ≡ b → b ≡ false
    go true e = absurd (other (ap (place_of tier) (id_same.exact id j e)))
    go false e = refl

-- a token whose place is none of these isn't at one of them
pub nowhere : (tier : Tier) (place : ℕ) (rows : List (Option (Id × Kept))) (id : Id) → AreAt tier place rows → ((k : ℕ) → place ≤ k → place_of tier id ≢ Some k) → here_in (items_in rows) id ≡ None
nowhere tier place [] id at other = refl
nowhere tier place (None ∷ rows) id at other = nowhere tier (place + 1) rows id at.1 (λ k le. other k (omega arith))
nowhere tier place (Some item ∷ rows) id at other =
    ap (λ (b : Bool). cond b (Some item.1) (here_in (items_in rows) id)) (differ tier item.0 id (λ same. other place (omega arith) (sym same ∙ at.0)))
    ∙ nowhere tier (place + 1) rows id at.1 (λ k le. other k (omega arith))

-- what is here of a token is what its place has of it
at_from : (tier : Tier) (place k n : ℕ) (rows : List (Option (Id × Kept))) (id : Id) → AreAt tier place rows → place_of tier id ≡ Some n → n ≡ place + k → here_in (items_in rows) id ≡ kept_in id (slice_index_or rows k None)
at_from tier place k n [] id at is at-k = refl
at_from tier place zero n (None ∷ rows) id at is at-k = nowhere tier (place + 1) rows id at.1 (λ m le e. let same : n ≡ m = some_same n m (sym is ∙ e) in absurd (omega arith))
at_from tier place zero n (Some item ∷ rows) id at is at-k =
    ap (λ (o : Option Kept). cond (same_id item.0 id) (Some item.1) o) (nowhere tier (place + 1) rows id at.1 (λ m le e. let same : n ≡ m = some_same n m (sym is ∙ e) in absurd (omega arith)))
at_from tier place (suc k) n (None ∷ rows) id at is at-k = at_from tier (place + 1) k n rows id at.1 is (omega arith)
at_from tier place (suc k) n (Some item ∷ rows) id at is at-k =
    ap (λ (b : Bool). cond b (Some item.1) (here_in (items_in rows) id)) (differ tier item.0 id (λ same. let h : place ≡ n = some_same place n (sym at.0 ∙ same ∙ is) in absurd (omega arith)))
    ∙ at_from tier (place + 1) k n rows id at.1 is (omega arith)

pub at_place : (tier : Tier) (rows : List (Option (Id × Kept))) (k : ℕ) (id : Id) → AreAt tier 0 rows → place_of tier id ≡ Some k → here_in (items_in rows) id ≡ kept_in id (slice_index_or rows k None)
at_place tier rows k id at is = at_from tier 0 k k rows id at is (omega arith)

pub placeless : (tier : Tier) (rows : List (Option (Id × Kept))) (id : Id) → AreAt tier 0 rows → place_of tier id ≡ None → here_in (items_in rows) id ≡ None
placeless tier rows id at is = nowhere tier 0 rows id at (λ k le e. none_some k (sym is ∙ e))

-- a token whose place doesn't exist isn't at it
pub past : (tier : Tier) (rows : List (Option (Id × Kept))) (k : ℕ) (id : Id) → AreAt tier 0 rows → place_of tier id ≡ Some k → length rows ≤ k → here_in (items_in rows) id ≡ None
past tier rows k id at is le = at_place tier rows k id at is ∙ ap (kept_in id) (get_or_past rows k None le)

-- nor is one whose place has none, or another one
pub not_own : (tier : Tier) (rows : List (Option (Id × Kept))) (k : ℕ) (row : Option (Id × Kept)) (id : Id) → AreAt tier 0 rows → place_of tier id ≡ Some k → row ≡ slice_index_or rows k None → is_own id row ≡ false → here_in (items_in rows) id ≡ None
not_own tier rows k row id at is same none = at_place tier rows k id at is ∙ ap (kept_in id) (sym same) ∙ of_row row none
  where
    of_row : (r : Option (Id × Kept)) → is_own id r ≡ false → kept_in id r ≡ None
    of_row None e = refl
    of_row (Some item) e = ap (λ (b : Bool). cond b (Some item.1) None) e

pub not_free : (tier : Tier) (rows : List (Option (Id × Kept))) (k : ℕ) (row : Option (Id × Kept)) (id : Id) → AreAt tier 0 rows → place_of tier id ≡ Some k → row ≡ slice_index_or rows k None → is_free id row ≡ false → here_in (items_in rows) id ≡ None
not_free tier rows k row id at is same none = at_place tier rows k id at is ∙ ap (kept_in id) (sym same) ∙ of_row row none
  where
    of_row : (r : Option (Id × Kept)) → is_free id r ≡ false → kept_in id r ≡ None
    of_row None e = absurd (clash e)
    of_row (Some item) e = ap (λ (b : Bool). cond b (Some item.1) None) e

-- one place has something else
set_from : (tier : Tier) (place k : ℕ) (rows : List (Option (Id × Kept))) (row : Option (Id × Kept)) → AreAt tier place rows → IsAt tier (place + k) row → AreAt tier place (slice_set rows k row)
set_from tier place k [] row at is = tt
set_from tier place zero (old ∷ rows) row at is = (subst (λ (n : ℕ). IsAt tier n row) (omega arith) is, at.1)
set_from tier place (suc k) (old ∷ rows) row at is = (at.0, set_from tier (place + 1) k rows row at.1 (subst (λ (n : ℕ). IsAt tier n row) (omega arith) is))

set_at : (tier : Tier) (rows : List (Option (Id × Kept))) (k : ℕ) (row : Option (Id × Kept)) (id : Id) (o : Option Kept)
    → AreAt tier 0 rows
    → AreAt tier 0 (slice_set rows k row)
    → k < length rows
    → place_of tier id ≡ Some k
    → ((j : Id) → kept_in j row ≡ cond (same_id id j) o (kept_in j (slice_index_or rows k None)))
    → (j : Id) → here_in (items_in (slice_set rows k row)) j ≡ cond (same_id id j) o (here_in (items_in rows) j)
set_at tier rows k row id o at at' lt is changed j = go (place_of tier j) refl
  where
    other : place_of tier id ≢ place_of tier j → here_in (items_in (slice_set rows k row)) j ≡ here_in (items_in rows) j → here_in (items_in (slice_set rows k row)) j ≡ cond (same_id id j) o (here_in (items_in rows) j)
    other differs same = same ∙ ap (λ (b : Bool). cond b o (here_in (items_in rows) j)) (sym (differ tier id j differs))

    at-m : (m : ℕ) → place_of tier j ≡ Some m → (b : Bool) → (m == k) ≡ b → here_in (items_in (slice_set rows k row)) j ≡ cond (same_id id j) o (here_in (items_in rows) j)
    at-m m e true same =
        let m-is : m ≡ k = eqb-true m k same in
        let e' : place_of tier j ≡ Some k = e ∙ ap (λ (n : ℕ). Some n) m-is in
        at_place tier (slice_set rows k row) k j at' e' ∙ ap (λ (x : Option (Id × Kept)). kept_in j x) (get_or-set_same rows k row None lt)
        ∙ changed j ∙ ap (λ (x : Option Kept). cond (same_id id j) o x) (sym (at_place tier rows k j at e'))
    at-m m e false same =
        let differs : m ≢ k = (λ h. clash (sym (eq-eqb m k h) ∙ same)) in
        other (λ h. differs (some_same m k (sym e ∙ sym h ∙ is)))
        (at_place tier (slice_set rows k row) m j at' e ∙ ap (λ (x : Option (Id × Kept)). kept_in j x) (get_or-set_other rows k m row None differs) ∙ sym (at_place tier rows m j at e))

    go : (p : Option ℕ) → place_of tier j ≡ p → here_in (items_in (slice_set rows k row)) j ≡ cond (same_id id j) o (here_in (items_in rows) j)
    go None e = other (λ h. none_some k (sym e ∙ sym h ∙ is)) (placeless tier (slice_set rows k row) j at' e ∙ sym (placeless tier rows j at e))
    go (Some m) e = at-m m e (m == k) refl

-- what a row that has this token, or none, has of another one
of_other : (id j : Id) (row : Option (Id × Kept)) → is_free id row ≡ true → same_id id j ≡ false → kept_in j row ≡ None
of_other id j None free differs = refl
of_other id j (Some item) free differs = ap (λ (b : Bool). cond b (Some item.1) None) (ap (λ (i : Id). same_id i j) (id_same.exact item.0 id free) ∙ differs)

own_free : (id : Id) (row : Option (Id × Kept)) → is_own id row ≡ true → is_free id row ≡ true
own_free id None own = refl
own_free id (Some item) own = own

own_kept : (id : Id) (row : Option (Id × Kept)) → is_own id row ≡ true → kept_in id row ≡ option_map kept_of row
own_kept id None own = refl
own_kept id (Some item) own = ap (λ (b : Bool). cond b (Some item.1) None) own

own_some : (id : Id) (row : Option (Id × Kept)) → is_own id row ≡ true → is_some (kept_in id row) ≡ true
own_some id None own = absurd (clash (sym own))
own_some id (Some item) own = ap (λ (b : Bool). is_some (cond b (Some item.1) None)) own

held_row : (id : Id) (kept : Kept) (row : Option (Id × Kept)) → is_free id row ≡ true → (j : Id) → kept_in j (Some (id, kept)) ≡ cond (same_id id j) (Some kept) (kept_in j row)
held_row id kept row free j = go (same_id id j) refl
  where
    go : (b : Bool) → same_id id j ≡ b → cond b (Some kept) None ≡ cond b (Some kept) (kept_in j row)
    go true e = refl
    go false e = sym (of_other id j row free e)

empty_row : (id : Id) (row : Option (Id × Kept)) → is_free id row ≡ true → (j : Id) → kept_in j None ≡ cond (same_id id j) None (kept_in j row)
empty_row id row free j = go (same_id id j) refl
  where
    go : (b : Bool) → same_id id j ≡ b → None ≡ cond b None (kept_in j row)
    go true e = refl
    go false e = sym (of_other id j row free e)

-- ---- places, and tokens that aren't at one

abbrev pub first_of : Option Kept → Option Kept → Option Kept
first_of None o = o
first_of (Some kept) o = Some kept

of_first : (b : Bool) (kept : Kept) (o p q : Option Kept) → o ≡ first_of p q → cond b (Some kept) o ≡ first_of (cond b (Some kept) p) q
of_first true kept o p q is = refl
of_first false kept o p q is = is

pub here_both : (xs ys : List (Id × Kept)) (id : Id) → here_in (xs ++ ys) id ≡ first_of (here_in xs id) (here_in ys id)
here_both [] ys id = refl
here_both (x ∷ xs) ys id = of_first (same_id x.0 id) x.1 (here_in (xs ++ ys) id) (here_in xs id) (here_in ys id) (here_both xs ys id)

-- what is at its place is here
pub here_own : (rows : List (Option (Id × Kept))) (unplaced : List (Id × Kept)) (id : Id) (kept : Kept) → here_in (items_in rows) id ≡ Some kept → here_in (items_with rows unplaced) id ≡ Some kept
here_own rows unplaced id kept is = here_both (items_in rows) unplaced id ∙ ap (λ (o : Option Kept). first_of o (here_in unplaced id)) is

-- of a token that isn't at its place that is here which those without one have
pub here_other : (rows : List (Option (Id × Kept))) (unplaced : List (Id × Kept)) (id : Id) → here_in (items_in rows) id ≡ None → here_in (items_with rows unplaced) id ≡ here_in unplaced id
here_other rows unplaced id is = here_both (items_in rows) unplaced id ∙ ap (λ (o : Option Kept). first_of o (here_in unplaced id)) is

-- places and the others change for one token alone: it is here then as they say, and all else stayed
sets_both : (rows rows' : List (Option (Id × Kept))) (unplaced unplaced' : List (Id × Kept)) (id : Id) (o : Option Kept)
    → ((j : Id) → same_id id j ≡ true → first_of (here_in (items_in rows') j) (here_in unplaced' j) ≡ o)
    → ((j : Id) → same_id id j ≡ false → here_in (items_in rows') j ≡ here_in (items_in rows) j)
    → ((j : Id) → same_id id j ≡ false → here_in unplaced' j ≡ here_in unplaced j)
    → Sets (items_with rows unplaced) (items_with rows' unplaced') id o
sets_both rows rows' unplaced unplaced' id o own places others = fun_ext (λ (j : Id). here_both (items_in rows') unplaced' j ∙ go j (same_id id j) refl)
  where
    go : (j : Id) (b : Bool) → same_id id j ≡ b → first_of (here_in (items_in rows') j) (here_in unplaced' j) ≡ cond b o (here_in (items_with rows unplaced) j)
    go j true e = own j e
    go j false e = ap₂ first_of (places j e) (others j e) ∙ sym (here_both (items_in rows) unplaced j)

apart_both : (rows rows' : List (Option (Id × Kept))) (unplaced unplaced' : List (Id × Kept)) (id : Id)
    → ((j : Id) → same_id id j ≡ true → (here_in (items_in rows') j ≡ None) ⊎ (here_in unplaced' j ≡ None))
    → ((j : Id) → same_id id j ≡ false → here_in (items_in rows') j ≡ here_in (items_in rows) j)
    → ((j : Id) → same_id id j ≡ false → here_in unplaced' j ≡ here_in unplaced j)
    → AreApart rows unplaced → AreApart rows' unplaced'
apart_both rows rows' unplaced unplaced' id own places others apart j = go (same_id id j) refl
  where
    kept : same_id id j ≡ false → (here_in (items_in rows) j ≡ None) ⊎ (here_in unplaced j ≡ None) → (here_in (items_in rows') j ≡ None) ⊎ (here_in unplaced' j ≡ None)
    kept e (inl h) = inl (places j e ∙ h)
    kept e (inr h) = inr (others j e ∙ h)

    go : (b : Bool) → same_id id j ≡ b → (here_in (items_in rows') j ≡ None) ⊎ (here_in unplaced' j ≡ None)
    go true e = own j e
    go false e = kept e (apart j)

at_same : (f : Id → Option Kept) (id j : Id) (o : Option Kept) → same_id id j ≡ true → f id ≡ o → f j ≡ o
at_same f id j o e is = ap f (sym (id_same.exact id j e)) ∙ is

-- one place has another row for its token
module _ (rows : List (Option (Id × Kept))) (k : ℕ) (row : Option (Id × Kept)) (id : Id) (o : Option Kept)
    (set-is : (j : Id) → here_in (items_in (slice_set rows k row)) j ≡ cond (same_id id j) o (here_in (items_in rows) j)) where
  set_own : (j : Id) → same_id id j ≡ true → here_in (items_in (slice_set rows k row)) j ≡ o
  set_own j e = set-is j ∙ ap (λ (b : Bool). cond b o (here_in (items_in rows) j)) e

  set_other : (j : Id) → same_id id j ≡ false → here_in (items_in (slice_set rows k row)) j ≡ here_in (items_in rows) j
  set_other j e = set-is j ∙ ap (λ (b : Bool). cond b o (here_in (items_in rows) j)) e

-- the others have something else of one token
module _ (unplaced unplaced' : List (Id × Kept)) (id : Id) (o : Option Kept) (sets : Sets unplaced unplaced' id o) where
  others_own : (j : Id) → same_id id j ≡ true → here_in unplaced' j ≡ o
  others_own j e = ap (λ (f : Id → Option Kept). f j) sets ∙ ap (λ (b : Bool). cond b o (here_in unplaced j)) e

  others_other : (j : Id) → same_id id j ≡ false → here_in unplaced' j ≡ here_in unplaced j
  others_other j e = ap (λ (f : Id → Option Kept). f j) sets ∙ ap (λ (b : Bool). cond b o (here_in unplaced j)) e

-- a token is held at its place, and isn't among the others
pub record IsHeldAt (tier : Tier) (rows : List (Option (Id × Kept))) (unplaced unplaced' : List (Id × Kept)) (k : ℕ) (id : Id) (it : Kept) : Type 0 where
  pub kept : AreKept tier (slice_set rows k (Some (id, it))) unplaced'
  pub held : Sets (items_with rows unplaced) (items_with (slice_set rows k (Some (id, it))) unplaced') id (Some it)

pub held_at : (tier : Tier) (rows : List (Option (Id × Kept))) (unplaced unplaced' : List (Id × Kept)) (k : ℕ) (id : Id) (kept : Kept)
    → AreKept tier rows unplaced
    → k < length rows
    → place_of tier id ≡ Some k
    → is_free id (slice_index_or rows k None) ≡ true
    → Sets unplaced unplaced' id None
    → IsHeldAt tier rows unplaced unplaced' k id kept
held_at tier rows unplaced unplaced' k id kept before lt is free gone =
    let row : Option (Id × Kept) = Some (id, kept) in
    let at' : AreAt tier 0 (slice_set rows k row) = set_from tier 0 k rows row before.at (is ∙ ap (λ (n : ℕ). Some n) (let h : k ≡ 0 + k = omega arith in h)) in
    let set-is : (j : Id) → here_in (items_in (slice_set rows k row)) j ≡ cond (same_id id j) (Some kept) (here_in (items_in rows) j) =
    set_at tier rows k row id (Some kept) before.at at' lt is (held_row id kept (slice_index_or rows k None) free) in
    record {
      kept = record {
        few = omega (arith, length-set rows k row, before.few);
        at = at';
        apart = apart_both rows (slice_set rows k row) unplaced unplaced' id (λ j e. inr (others_own unplaced unplaced' id None gone j e)) (set_other rows k row id (Some kept) set-is) (others_other unplaced unplaced' id None gone) before.apart;
      };
      held = sets_both rows (slice_set rows k row) unplaced unplaced' id (Some kept)
          (λ j e. ap (λ (x : Option Kept). first_of x (here_in unplaced' j)) (set_own rows k row id (Some kept) set-is j e))
          (set_other rows k row id (Some kept) set-is) (others_other unplaced unplaced' id None gone);
    }

-- a token is held among the others, where it isn't at its place
pub record IsHeldThere (tier : Tier) (rows : List (Option (Id × Kept))) (unplaced unplaced' : List (Id × Kept)) (id : Id) (o : Option Kept) : Type 0 where
  pub kept : AreKept tier rows unplaced'
  pub held : Sets (items_with rows unplaced) (items_with rows unplaced') id o

pub held_there : (tier : Tier) (rows : List (Option (Id × Kept))) (unplaced unplaced' : List (Id × Kept)) (id : Id) (o : Option Kept)
    → AreKept tier rows unplaced → here_in (items_in rows) id ≡ None → Sets unplaced unplaced' id o → IsHeldThere tier rows unplaced unplaced' id o
held_there tier rows unplaced unplaced' id o before none sets =
    let nothing : (j : Id) → same_id id j ≡ true → here_in (items_in rows) j ≡ None = λ j e. at_same (here_in (items_in rows)) id j None e none in
    record {
      kept = record { few = before.few; at = before.at; apart = apart_both rows rows unplaced unplaced' id (λ j e. inl (nothing j e)) (λ j e. refl) (others_other unplaced unplaced' id o sets) before.apart };
      held = sets_both rows rows unplaced unplaced' id o (λ j e. ap₂ first_of (nothing j e) (others_own unplaced unplaced' id o sets j e)) (λ j e. refl) (others_other unplaced unplaced' id o sets);
    }

-- others with the same tokens
pub kept_others : (tier : Tier) (rows : List (Option (Id × Kept))) (unplaced unplaced' : List (Id × Kept)) → AreKept tier rows unplaced → here_in unplaced' ≡ here_in unplaced → AreKept tier rows unplaced'
kept_others tier rows unplaced unplaced' before same = record {
  few = before.few;
  at = before.at;
  apart = λ j. subst (λ (f : Id → Option Kept). (here_in (items_in rows) j ≡ None) ⊎ (f j ≡ None)) (sym same) (before.apart j);
}

-- a token is held now, at its place or among the others
pub record IsHeld (tier : Tier) (rows rows' : List (Option (Id × Kept))) (unplaced unplaced' : List (Id × Kept)) (id : Id) (it : Kept) : Type 0 where
  pub kept : AreKept tier rows' unplaced'
  pub held : Sets (items_with rows unplaced) (items_with rows' unplaced') id (Some it)

-- it was put at its place
pub held_put : (tier : Tier) (rows rows' : List (Option (Id × Kept))) (unplaced unplaced' : List (Id × Kept)) (k : ℕ) (id : Id) (it : Kept)
    → AreKept tier rows unplaced
    → k < length rows
    → place_of tier id ≡ Some k
    → is_free id (slice_index_or rows k None) ≡ true
    → rows' ≡ slice_set rows k (Some (id, it))
    → Sets unplaced unplaced' id None
    → IsHeld tier rows rows' unplaced unplaced' id it
held_put tier rows rows' unplaced unplaced' k id it before lt is free put gone =
    let at = held_at tier rows unplaced unplaced' k id it before lt is free gone in
    record {
      kept = subst (λ (rs : List (Option (Id × Kept))). AreKept tier rs unplaced') (sym put) at.kept;
      held = subst (λ (rs : List (Option (Id × Kept))). Sets (items_with rows unplaced) (items_with rs unplaced') id (Some it)) (sym put) at.held;
    }

-- its place has none, and it is among the others
pub held_beside : (tier : Tier) (rows rows' : List (Option (Id × Kept))) (unplaced unplaced' : List (Id × Kept)) (k : ℕ) (id : Id) (it : Kept)
    → AreKept tier rows unplaced
    → place_of tier id ≡ Some k
    → rows' ≡ rows
    → slice_index_or rows k None ≡ None
    → Sets unplaced unplaced' id (Some it)
    → IsHeld tier rows rows' unplaced unplaced' id it
held_beside tier rows rows' unplaced unplaced' k id it before is same none sets =
    let there = held_there tier rows unplaced unplaced' id (Some it) before (at_place tier rows k id before.at is ∙ ap (kept_in id) none) sets in
    record {
      kept = subst (λ (rs : List (Option (Id × Kept))). AreKept tier rs unplaced') (sym same) there.kept;
      held = subst (λ (rs : List (Option (Id × Kept))). Sets (items_with rows unplaced) (items_with rs unplaced') id (Some it)) (sym same) there.held;
    }

-- nothing changed
pub kept_still : (tier : Tier) (rows rows' : List (Option (Id × Kept))) (unplaced unplaced' : List (Id × Kept)) → AreKept tier rows unplaced → rows' ≡ rows → unplaced' ≡ unplaced → AreKept tier rows' unplaced'
kept_still tier rows rows' unplaced unplaced' before same others =
    subst (λ (rs : List (Option (Id × Kept))). AreKept tier rs unplaced') (sym same) (kept_others tier rows unplaced unplaced' before (ap here_in others))

-- a token is taken from its place, as it was seen there
pub record IsTaken (tier : Tier) (rows rows' : List (Option (Id × Kept))) (unplaced : List (Id × Kept)) (id : Id) (was : Option Kept) : Type 0 where
  pub kept : AreKept tier rows' unplaced
  pub gone : Sets (items_with rows unplaced) (items_with rows' unplaced) id None
  pub is : here_in (items_with rows unplaced) id ≡ was

taken_at : (tier : Tier) (rows : List (Option (Id × Kept))) (unplaced : List (Id × Kept)) (k : ℕ) (id : Id)
    → AreKept tier rows unplaced → k < length rows → place_of tier id ≡ Some k → is_own id (slice_index_or rows k None) ≡ true
    → IsTaken tier rows (slice_set rows k None) unplaced id (option_map kept_of (slice_index_or rows k None))
taken_at tier rows unplaced k id before lt is own =
    let old : Option (Id × Kept) = slice_index_or rows k None in
    let at' : AreAt tier 0 (slice_set rows k None) = set_from tier 0 k rows None before.at tt in
    let set-is : (j : Id) → here_in (items_in (slice_set rows k None)) j ≡ cond (same_id id j) None (here_in (items_in rows) j) =
    set_at tier rows k None id None before.at at' lt is (empty_row id old (own_free id old own)) in
    let here : here_in (items_in rows) id ≡ kept_in id old = at_place tier rows k id before.at is in
    let none : here_in unplaced id ≡ None = not_both (kept_in id old) (own_some id old own) here (before.apart id) in
    record {
      kept = record {
        few = omega (arith, length-set rows k None, before.few);
        at = at';
        apart = apart_both rows (slice_set rows k None) unplaced unplaced id (λ j e. inl (set_own rows k None id None set-is j e)) (set_other rows k None id None set-is) (λ j e. refl) before.apart;
      };
      gone = sets_both rows (slice_set rows k None) unplaced unplaced id None
          (λ j e. ap₂ first_of (set_own rows k None id None set-is j e) (at_same (here_in unplaced) id j None e none))
          (set_other rows k None id None set-is) (λ j e. refl);
      is = was-is (kept_in id old) (own_some id old own) (own_kept id old own) here;
    }
  where
    not_both : (o : Option Kept) → is_some o ≡ true → here_in (items_in rows) id ≡ o → (here_in (items_in rows) id ≡ None) ⊎ (here_in unplaced id ≡ None) → here_in unplaced id ≡ None
    not_both None some e h = absurd (clash (sym some))
    not_both (Some x) some e (inl h) = absurd (none_some x (sym h ∙ e))
    not_both (Some x) some e (inr h) = h

    was-is : (o : Option Kept) → is_some o ≡ true → o ≡ option_map kept_of (slice_index_or rows k None) → here_in (items_in rows) id ≡ o → here_in (items_with rows unplaced) id ≡ option_map kept_of (slice_index_or rows k None)
    was-is None some same e = absurd (clash (sym some))
    was-is (Some x) some same e = here_own rows unplaced id x e ∙ same

pub takes : (tier : Tier) (rows rows' seen : List (Option (Id × Kept))) (unplaced : List (Id × Kept)) (k : ℕ) (id : Id)
    → AreKept tier rows unplaced
    → seen ≡ rows
    → k < length seen
    → place_of tier id ≡ Some k
    → is_own id (slice_index_or seen k None) ≡ true
    → rows' ≡ slice_set rows k None
    → IsTaken tier rows rows' unplaced id (option_map kept_of (slice_index_or rows k None))
takes tier rows rows' seen unplaced k id before same lt is own after =
    subst (λ (xs : List (Option (Id × Kept))). IsTaken tier rows xs unplaced id (option_map kept_of (slice_index_or rows k None))) (sym after)
    (taken_at tier rows unplaced k id before (subst (λ (xs : List (Option (Id × Kept))). k < length xs) same lt) is (subst (λ (xs : List (Option (Id × Kept))). is_own id (slice_index_or xs k None) ≡ true) same own))

-- ---- making the places, and counting what is there

pub none_more : (rows : List (Option (Id × Kept))) → items_in rows ≡ [] → items_in (rows ++ None ∷ []) ≡ []
none_more [] none = refl
none_more (None ∷ rows) none = none_more rows none
none_more (Some item ∷ rows) none = absurd (let h : item ∷ items_in rows ≡ [] = none in cc)

at_more_from : (tier : Tier) (place : ℕ) (rows : List (Option (Id × Kept))) → AreAt tier place rows → AreAt tier place (rows ++ None ∷ [])
at_more_from tier place [] at = (tt, tt)
at_more_from tier place (row ∷ rows) at = (at.0, at_more_from tier (place + 1) rows at.1)

pub at_more : (tier : Tier) (rows : List (Option (Id × Kept))) → AreAt tier 0 rows → AreAt tier 0 (rows ++ None ∷ [])
at_more tier rows at = at_more_from tier 0 rows at

-- places with the same tokens
pub kept_places : (tier : Tier) (rows rows' : List (Option (Id × Kept))) (unplaced : List (Id × Kept)) → AreKept tier rows unplaced → length rows' ≤ 4096 → AreAt tier 0 rows' → items_in rows' ≡ items_in rows → AreKept tier rows' unplaced
kept_places tier rows rows' unplaced before few at same = record {
  few = few;
  at = at;
  apart = λ j. subst (λ (items : List (Id × Kept)). (here_in items j ≡ None) ⊎ (here_in unplaced j ≡ None)) (sym same) (before.apart j);
}

pub here_others : (rows : List (Option (Id × Kept))) (unplaced unplaced' : List (Id × Kept)) → here_in unplaced' ≡ here_in unplaced → here_in (items_with rows unplaced') ≡ here_in (items_with rows unplaced)
here_others rows unplaced unplaced' same = fun_ext (λ (j : Id).
    here_both (items_in rows) unplaced' j ∙ ap (λ (f : Id → Option Kept). first_of (here_in (items_in rows) j) (f j)) same ∙ sym (here_both (items_in rows) unplaced j))
