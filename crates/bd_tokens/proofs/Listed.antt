-- Walks in a list: what it has of each after one was written or taken out, and the walks among all tokens.
use Rattle.std.proofs.Common.{◌≡◌, ◌≢◌, ℕ, zero, suc, ◌+◌, ◌<◌, ◌≤◌, Bool, true, false, cond, not, List, [], ◌∷◌, ◌++◌, length, map, get_or, Option, Some, None, refl, sym, ◌∙◌, ap, ap₂, subst, arith}
use Rattle.std.specs.List.{cons_option, position, slice_get}
use Rattle.std.proofs.lemmas.List.Elements.{filter_map-append}
use mathlib.Core.Path.{fun_ext}
use Rattle.bd_base.specs.declared.id.WalkId.{WalkId}
use Rattle.bd_machine.specs.declared.state.Id.{Id}
use Rattle.bd_machine.specs.declared.state.Id.TheVariants.{Request, Piece, Walk, Notice}
use Rattle.bd_machine.specs.declared.state.Kept.{Kept}
use Rattle.bd_machine.specs.Same.{same_id, same_walk}
use Rattle.bd_machine.specs.Table.{look_up, without_first, write}
use Rattle.bd_machine.proofs.Tables.{id_same, look_up-write, IsSame}
use Rattle.bd_rule_effects.proofs.Firsts.{before, found_at, found_before, missed_before}
use Rattle.bd_tokens.specs.declared.key.Key.{Key}
use Rattle.bd_tokens.specs.Tokens.{here_in, items_of, Sets}
use Rattle.bd_tokens.specs.declared.places.Tier.{Tier}
use Rattle.bd_tokens.specs.declared.places.Tier.TheVariants.{Near, Far}
use Rattle.bd_tokens.specs.Places.{items_in, items_with, place_of, AreAt, AreKept}
use Rattle.bd_tokens.specs.Walks.{items_of_walks, unplaced_with, walk_of, walks_in, AreOnce, AreUnplaced, EachIsAmong, EachIsHere, IsAmong}
use Rattle.bd_tokens.proofs.Placed.{first_of, here_both}

none_some : {A : Type 0} (a : A) → None ≡ Some a → ⊥
none_some a e = cc

clash : true ≡ false → ⊥
clash h = cc

same_ids : (a b : WalkId) → Walk a ≡ Walk b → a ≡ b
same_ids a b e = cc

pub walk_same : IsSame same_walk
walk_same = record { exact = λ a b h. same_ids a b (id_same.exact (Walk a) (Walk b) h); same_self = λ a. id_same.same_self (Walk a) }

-- ---- a list of walks

module _ (id : WalkId) where
  abbrev pub is : WalkId × Kept → Bool
  is walk = same_walk walk.0 id

  low : (a b : ℕ) → suc a < suc b → a < b
  low a b p = omega arith

  low_le : (a b : ℕ) → suc a ≤ suc b → a ≤ b
  low_le a b p = omega arith

  none : (a : ℕ) → suc a ≤ 0 → ⊥
  none a p = omega arith

  seen_there : (walks : List (WalkId × Kept)) (d : WalkId × Kept) → before is walks < length walks → look_up same_walk walks id ≡ Some (get_or walks (before is walks) d).1
  seen_there [] d h = absurd (omega arith)
  seen_there (x ∷ walks) d h = go (is x) h (seen_there walks d)
    where
      go : (b : Bool) → cond (not b) (suc (before is walks)) 0 < suc (length walks) → (before is walks < length walks → look_up same_walk walks id ≡ Some (get_or walks (before is walks) d).1)
          → cond b (Some x.1) (look_up same_walk walks id) ≡ Some (get_or (x ∷ walks) (cond (not b) (suc (before is walks)) 0) d).1
      go true l ih = refl
      go false l ih = ih (low (before is walks) (length walks) l)

  seen_nowhere : (walks : List (WalkId × Kept)) → length walks ≤ before is walks → look_up same_walk walks id ≡ None
  seen_nowhere [] h = refl
  seen_nowhere (x ∷ walks) h = go (is x) h (seen_nowhere walks)
    where
      go : (b : Bool) → suc (length walks) ≤ cond (not b) (suc (before is walks)) 0 → (length walks ≤ before is walks → look_up same_walk walks id ≡ None) → cond b (Some x.1) (look_up same_walk walks id) ≡ None
      go true l ih = absurd (none (length walks) l)
      go false l ih = ih (low_le (length walks) (before is walks) l)

  -- what the list has of the walk, by the walk's place
  pub seen_at : (walks : List (WalkId × Kept)) (i : ℕ) (d : WalkId × Kept) → position is walks ≡ Some i → look_up same_walk walks id ≡ Some (get_or walks i d).1
  seen_at walks i d e = seen_there walks d (found_before is walks i e) ∙ ap (λ (n : ℕ). Some (get_or walks n d).1) (sym (found_at is walks i e))

  pub seen_none : (walks : List (WalkId × Kept)) → position is walks ≡ None → look_up same_walk walks id ≡ None
  seen_none walks e = seen_nowhere walks (missed_before is walks e)

  -- each walk is in the list once after one was written
  pub once_written : (walks : List (WalkId × Kept)) (kept : Kept) → AreOnce walks → AreOnce (write same_walk walks id kept)
  once_written [] kept once = (refl, tt)
  once_written (x ∷ walks) kept once = go (is x) refl (once_written walks kept once.1)
    where
      apart : same_walk x.0 id ≡ false → (b : Bool) → same_walk id x.0 ≡ b → cond b (Some kept) (look_up same_walk walks x.0) ≡ None
      apart p true q = absurd (clash (sym (ap (λ (i : WalkId). same_walk x.0 i) (walk_same.exact id x.0 q) ∙ walk_same.same_self x.0) ∙ p))
      apart p false q = once.0

      go : (b : Bool) → is x ≡ b → AreOnce (write same_walk walks id kept) → AreOnce (cond b ((x.0, kept) ∷ walks) (x ∷ write same_walk walks id kept))
      go true p ih = once
      go false p ih = (look_up-write same_walk walk_same walks id x.0 kept ∙ apart p (same_walk id x.0) refl, ih)

  nothing : (b : Bool) (o : Option Kept) → o ≡ None → None ≡ cond b None o
  nothing true o e = refl
  nothing false o e = sym e

  -- what the list has of each walk after one was taken out
  pub seen_without : (walks : List (WalkId × Kept)) (j : WalkId) → AreOnce walks → look_up same_walk (without_first is walks) j ≡ cond (same_walk id j) None (look_up same_walk walks j)
  seen_without [] j once = nothing (same_walk id j) None refl
  seen_without (x ∷ walks) j once = go (is x) refl (seen_without walks j once.1)
    where
      own : x.0 ≡ id → (b : Bool) → same_walk id j ≡ b → look_up same_walk walks j ≡ cond b None (cond (same_walk x.0 j) (Some x.1) (look_up same_walk walks j))
      own same true q = ap (λ (i : WalkId). look_up same_walk walks i) (sym (walk_same.exact id j q) ∙ sym same) ∙ once.0
      own same false q = sym (ap (λ (b : Bool). cond b (Some x.1) (look_up same_walk walks j)) (ap (λ (i : WalkId). same_walk i j) same ∙ q))

      other : same_walk x.0 id ≡ false → (a b : Bool) → same_walk x.0 j ≡ a → same_walk id j ≡ b
          → cond a (Some x.1) (cond b None (look_up same_walk walks j)) ≡ cond b None (cond a (Some x.1) (look_up same_walk walks j))
      other p true true q r = absurd (clash (sym q ∙ ap (λ (i : WalkId). same_walk x.0 i) (sym (walk_same.exact id j r)) ∙ p))
      other p true false q r = refl
      other p false b q r = refl

      go : (b : Bool) → is x ≡ b → look_up same_walk (without_first is walks) j ≡ cond (same_walk id j) None (look_up same_walk walks j)
          → look_up same_walk (cond b walks (x ∷ without_first is walks)) j ≡ cond (same_walk id j) None (cond (same_walk x.0 j) (Some x.1) (look_up same_walk walks j))
      go true p ih = own (walk_same.exact x.0 id p) (same_walk id j) refl
      go false p ih = ap (λ (o : Option Kept). cond (same_walk x.0 j) (Some x.1) o) ih ∙ other p (same_walk x.0 j) (same_walk id j) refl refl

  pub once_without : (walks : List (WalkId × Kept)) → AreOnce walks → AreOnce (without_first is walks)
  once_without [] once = tt
  once_without (x ∷ walks) once = go (is x) (once_without walks once.1)
    where
      go : (b : Bool) → AreOnce (without_first is walks) → AreOnce (cond b walks (x ∷ without_first is walks))
      go true ih = once.1
      go false ih = (seen_without walks x.0 once.1 ∙ sym (nothing (same_walk id x.0) (look_up same_walk walks x.0) once.0), ih)

-- ---- the list beside the map

-- what the items of the list have of a walk is what the list has
here_walk : (walks : List (WalkId × Kept)) (id : WalkId) → here_in (items_of_walks walks) (Walk id) ≡ look_up same_walk walks id
here_walk [] id = refl
here_walk (x ∷ walks) id = ap (λ (o : Option Kept). cond (same_walk x.0 id) (Some x.1) o) (here_walk walks id)

here_no_walk : (walks : List (WalkId × Kept)) (id : Id) → walk_of id ≡ None → here_in (items_of_walks walks) id ≡ None
here_no_walk [] id e = refl
here_no_walk (x ∷ walks) (Request req) e = here_no_walk walks (Request req) e
here_no_walk (x ∷ walks) (Piece req k) e = here_no_walk walks (Piece req k) e
here_no_walk (x ∷ walks) (Walk walk) e = absurd (none_some walk (sym e))
here_no_walk (x ∷ walks) (Notice sender receiver number) e = here_no_walk walks (Notice sender receiver number) e

of_none : (o p : Option Kept) → p ≡ None → first_of o p ≡ o
of_none None p e = e
of_none (Some kept) p e = refl

-- of a walk that is here which the list has
pub here_listed : (walks : List (WalkId × Kept)) (entries : List (Key × Kept)) (id : WalkId) → here_in (items_of entries) (Walk id) ≡ None → here_in (unplaced_with walks entries) (Walk id) ≡ look_up same_walk walks id
here_listed walks entries id none =
    here_both (items_of_walks walks) (items_of entries) (Walk id)
    ∙ of_none (here_in (items_of_walks walks) (Walk id)) (here_in (items_of entries) (Walk id)) none
    ∙ here_walk walks id

-- of another token that is here which the map has
pub here_mapped : (walks : List (WalkId × Kept)) (entries : List (Key × Kept)) (id : Id) → walk_of id ≡ None → here_in (unplaced_with walks entries) id ≡ here_in (items_of entries) id
here_mapped walks entries id none =
    here_both (items_of_walks walks) (items_of entries) id
    ∙ ap (λ (o : Option Kept). first_of o (here_in (items_of entries) id)) (here_no_walk walks id none)

pub is_walk : (id : Id) (walk : WalkId) → walk_of id ≡ Some walk → id ≡ Walk walk
is_walk (Request req) walk e = absurd (none_some walk e)
is_walk (Piece req k) walk e = absurd (none_some walk e)
is_walk (Walk other) walk e = ap (λ (w : WalkId). Walk w) (let same : other ≡ walk = cc in same)
is_walk (Notice sender receiver number) walk e = absurd (none_some walk e)

-- the list has something else of one walk, and all else stayed
pub sets_listed : (walks walks' : List (WalkId × Kept)) (entries : List (Key × Kept)) (id : WalkId) (o : Option Kept)
    → AreUnplaced walks entries
    → ((j : WalkId) → look_up same_walk walks' j ≡ cond (same_walk id j) o (look_up same_walk walks j))
    → Sets (unplaced_with walks entries) (unplaced_with walks' entries) (Walk id) o
sets_listed walks walks' entries id o before set = fun_ext (λ (j : Id). go j)
  where
    other : (j : Id) → walk_of j ≡ None → here_in (unplaced_with walks' entries) j ≡ here_in (unplaced_with walks entries) j
    other j e = here_mapped walks' entries j e ∙ sym (here_mapped walks entries j e)

    go : (j : Id) → here_in (unplaced_with walks' entries) j ≡ cond (same_id (Walk id) j) o (here_in (unplaced_with walks entries) j)
    go (Request req) = other (Request req) refl
    go (Piece req k) = other (Piece req k) refl
    go (Walk walk) =
        here_listed walks' entries walk (before.none walk) ∙ set walk
        ∙ ap (λ (x : Option Kept). cond (same_walk id walk) o x) (sym (here_listed walks entries walk (before.none walk)))
    go (Notice sender receiver number) = other (Notice sender receiver number) refl

-- a walk was written
pub record IsListed (walks walks' : List (WalkId × Kept)) (entries : List (Key × Kept)) (id : Id) (o : Option Kept) : Type 0 where
  pub unplaced : AreUnplaced walks' entries
  pub sets : Sets (unplaced_with walks entries) (unplaced_with walks' entries) id o

pub walk_written : (walks walks' : List (WalkId × Kept)) (entries : List (Key × Kept)) (id : Id) (walk : WalkId) (kept : Kept)
    → AreUnplaced walks entries → walk_of id ≡ Some walk → walks' ≡ write same_walk walks walk kept → IsListed walks walks' entries id (Some kept)
walk_written walks walks' entries id walk kept before is-walk written =
    subst (λ (i : Id). IsListed walks walks' entries i (Some kept)) (sym (is_walk id walk is-walk))
    (subst (λ (ws : List (WalkId × Kept)). IsListed walks ws entries (Walk walk) (Some kept)) (sym written)
    (record {
      unplaced = record { once = once_written walk walks kept before.once; none = before.none };
      sets = sets_listed walks (write same_walk walks walk kept) entries walk (Some kept) before (λ j. look_up-write same_walk walk_same walks walk j kept);
    }))

-- a walk was taken out
pub walk_taken : (walks walks' : List (WalkId × Kept)) (entries : List (Key × Kept)) (id : Id) (walk : WalkId)
    → AreUnplaced walks entries → walk_of id ≡ Some walk → walks' ≡ without_first (is walk) walks → IsListed walks walks' entries id None
walk_taken walks walks' entries id walk before is-walk taken =
    subst (λ (i : Id). IsListed walks walks' entries i None) (sym (is_walk id walk is-walk))
    (subst (λ (ws : List (WalkId × Kept)). IsListed walks ws entries (Walk walk) None) (sym taken)
    (record {
      unplaced = record { once = once_without walk walks before.once; none = before.none };
      sets = sets_listed walks (without_first (is walk) walks) entries walk None before (λ j. seen_without walk walks j before.once);
    }))

-- what is here of a walk that the list has
pub walk_here : (walks : List (WalkId × Kept)) (entries : List (Key × Kept)) (id : Id) (walk : WalkId)
    → AreUnplaced walks entries → walk_of id ≡ Some walk → here_in (unplaced_with walks entries) id ≡ look_up same_walk walks walk
walk_here walks entries id walk before is-walk =
    ap (λ (i : Id). here_in (unplaced_with walks entries) i) (is_walk id walk is-walk) ∙ here_listed walks entries walk (before.none walk)

-- the map has something else of one token, which isn't a walk
no_walk_same : (id : Id) (walk : WalkId) → walk_of id ≡ None → same_id id (Walk walk) ≡ false
no_walk_same (Request req) walk e = refl
no_walk_same (Piece req k) walk e = refl
no_walk_same (Walk other) walk e = absurd (none_some other (sym e))
no_walk_same (Notice sender receiver number) walk e = refl

pub record IsMapped (walks : List (WalkId × Kept)) (entries entries' : List (Key × Kept)) (id : Id) (o : Option Kept) : Type 0 where
  pub unplaced : AreUnplaced walks entries'
  pub sets : Sets (unplaced_with walks entries) (unplaced_with walks entries') id o

pub mapped : (walks : List (WalkId × Kept)) (entries entries' : List (Key × Kept)) (id : Id) (o : Option Kept)
    → AreUnplaced walks entries → walk_of id ≡ None → Sets (items_of entries) (items_of entries') id o → IsMapped walks entries entries' id o
mapped walks entries entries' id o before no-walk sets = record { unplaced = record { once = before.once; none = none' }; sets = fun_ext (λ (j : Id). go j) }
  where
    at : (j : Id) → here_in (items_of entries') j ≡ cond (same_id id j) o (here_in (items_of entries) j)
    at j = ap (λ (f : Id → Option Kept). f j) sets

    none' : (walk : WalkId) → here_in (items_of entries') (Walk walk) ≡ None
    none' walk = at (Walk walk) ∙ ap (λ (b : Bool). cond b o (here_in (items_of entries) (Walk walk))) (no_walk_same id walk no-walk) ∙ before.none walk

    other : (j : Id) → walk_of j ≡ None → here_in (unplaced_with walks entries') j ≡ cond (same_id id j) o (here_in (unplaced_with walks entries) j)
    other j e = here_mapped walks entries' j e ∙ at j ∙ ap (λ (x : Option Kept). cond (same_id id j) o x) (sym (here_mapped walks entries j e))

    go : (j : Id) → here_in (unplaced_with walks entries') j ≡ cond (same_id id j) o (here_in (unplaced_with walks entries) j)
    go (Request req) = other (Request req) refl
    go (Piece req k) = other (Piece req k) refl
    go (Walk walk) =
        here_listed walks entries' walk (none' walk) ∙ sym (here_listed walks entries walk (before.none walk))
        ∙ sym (ap (λ (b : Bool). cond b o (here_in (unplaced_with walks entries) (Walk walk))) (no_walk_same id walk no-walk))
    go (Notice sender receiver number) = other (Notice sender receiver number) refl

-- a list and a map with the same tokens
pub unplaced_still : (walks walks' : List (WalkId × Kept)) (entries entries' : List (Key × Kept))
    → AreUnplaced walks entries → walks' ≡ walks → here_in (items_of entries') ≡ here_in (items_of entries) → AreUnplaced walks' entries'
unplaced_still walks walks' entries entries' before same others = record {
  once = subst (λ (ws : List (WalkId × Kept)). AreOnce ws) (sym same) before.once;
  none = λ walk. ap (λ (f : Id → Option Kept). f (Walk walk)) others ∙ before.none walk;
}

pub here_still : (walks walks' : List (WalkId × Kept)) (entries entries' : List (Key × Kept))
    → walks' ≡ walks → here_in (items_of entries') ≡ here_in (items_of entries) → here_in (unplaced_with walks' entries') ≡ here_in (unplaced_with walks entries)
here_still walks walks' entries entries' same others = fun_ext (λ (j : Id).
    here_both (items_of_walks walks') (items_of entries') j
    ∙ ap₂ first_of (ap (λ (ws : List (WalkId × Kept)). here_in (items_of_walks ws) j) same) (ap (λ (f : Id → Option Kept). f j) others)
    ∙ sym (here_both (items_of_walks walks) (items_of entries) j))

-- ---- the walks among the tokens

append_none : (xs : List WalkId) → xs ++ [] ≡ xs
append_none [] = refl
append_none (x ∷ xs) = ap (λ (ys : List WalkId). x ∷ ys) (append_none xs)

walks_listed : (walks : List (WalkId × Kept)) → walks_in (items_of_walks walks) ≡ map (λ walk. walk.0) walks
walks_listed [] = refl
walks_listed (x ∷ walks) = ap (λ (ws : List WalkId). x.0 ∷ ws) (walks_listed walks)

-- none among tokens of which none is a walk
no_walks : (items : List (Id × Kept)) → ((id : WalkId) → here_in items (Walk id) ≡ None) → walks_in items ≡ []
no_walks [] none = refl
no_walks (item ∷ items) none = go item.0 (λ id. none id) (no_walks items (λ id. behind (same_id item.0 (Walk id)) (here_in items (Walk id)) (none id)))
  where
    behind : (b : Bool) (o : Option Kept) → cond b (Some item.1) o ≡ None → o ≡ None
    behind true o e = absurd (none_some item.1 (sym e))
    behind false o e = e

    go : (i : Id) → ((id : WalkId) → cond (same_id i (Walk id)) (Some item.1) (here_in items (Walk id)) ≡ None) → walks_in items ≡ [] → cons_option (walk_of i) (walks_in items) ≡ []
    go (Request req) h ih = ih
    go (Piece req k) h ih = ih
    go (Walk walk) h ih = absurd (none_some item.1 (sym (h walk) ∙ ap (λ (b : Bool). cond b (Some item.1) (here_in items (Walk walk))) (walk_same.same_self walk)))
    go (Notice sender receiver number) h ih = ih

-- those that aren't at a place are those of the list
pub walks_unplaced : (walks : List (WalkId × Kept)) (entries : List (Key × Kept)) → AreUnplaced walks entries → walks_in (unplaced_with walks entries) ≡ map (λ walk. walk.0) walks
walks_unplaced walks entries before =
    filter_map-append (λ item. walk_of item.0) (items_of_walks walks) (items_of entries)
    ∙ ap₂ (λ (xs ys : List WalkId). xs ++ ys) (walks_listed walks) (no_walks (items_of entries) before.none)
    ∙ append_none (map (λ walk. walk.0) walks)

-- no walk is at a place
walk_nowhere : (tier : Tier) (walk : WalkId) → place_of tier (Walk walk) ≡ None
walk_nowhere Near walk = refl
walk_nowhere Far walk = refl

none_placed : (tier : Tier) (place : ℕ) (rows : List (Option (Id × Kept))) → AreAt tier place rows → walks_in (items_in rows) ≡ []
none_placed tier place [] at = refl
none_placed tier place (None ∷ rows) at = none_placed tier (place + 1) rows at.1
none_placed tier place (Some item ∷ rows) at = go item.0 at.0 (none_placed tier (place + 1) rows at.1)
  where
    go : (i : Id) → place_of tier i ≡ Some place → walks_in (items_in rows) ≡ [] → cons_option (walk_of i) (walks_in (items_in rows)) ≡ []
    go (Request req) is-at ih = ih
    go (Piece req k) is-at ih = ih
    go (Walk walk) is-at ih = absurd (none_some place (sym (walk_nowhere tier walk) ∙ is-at))
    go (Notice sender receiver number) is-at ih = ih

pub walks_with : (tier : Tier) (rows : List (Option (Id × Kept))) (unplaced : List (Id × Kept)) → AreKept tier rows unplaced → walks_in (items_with rows unplaced) ≡ walks_in unplaced
walks_with tier rows unplaced before =
    filter_map-append (λ item. walk_of item.0) (items_in rows) unplaced
    ∙ ap (λ (ws : List WalkId). ws ++ walks_in unplaced) (none_placed tier 0 rows before.at)

-- ---- laws

-- a place further back
further : (o : Option WalkId) (walks : List WalkId) (id : WalkId) (place : ℕ) → place < length walks → slice_get walks place ≡ Some id
    → (k : ℕ) × (k < length (cons_option o walks)) × (slice_get (cons_option o walks) k ≡ Some id)
further None walks id place within at = (place, within, at)
further (Some walk) walks id place within at = (suc place, omega arith, at)

among : (items : List (Id × Kept)) (id : WalkId) (kept : Kept) → here_in items (Walk id) ≡ Some kept → (k : ℕ) × (k < length (walks_in items)) × (slice_get (walks_in items) k ≡ Some id)
among [] id kept here = absurd (none_some kept here)
among (item ∷ items) id kept here = go (same_id item.0 (Walk id)) refl here (λ h. among items id kept h)
  where
    at_front : (i : Id) → i ≡ Walk id → (k : ℕ) × (k < length (cons_option (walk_of i) (walks_in items))) × (slice_get (cons_option (walk_of i) (walks_in items)) k ≡ Some id)
    at_front i same = subst (λ (j : Id). (k : ℕ) × (k < length (cons_option (walk_of j) (walks_in items))) × (slice_get (cons_option (walk_of j) (walks_in items)) k ≡ Some id)) (sym same) (0, omega arith, refl)

    go : (b : Bool) → same_id item.0 (Walk id) ≡ b → cond b (Some item.1) (here_in items (Walk id)) ≡ Some kept
        → (here_in items (Walk id) ≡ Some kept → (k : ℕ) × (k < length (walks_in items)) × (slice_get (walks_in items) k ≡ Some id))
        → (k : ℕ) × (k < length (cons_option (walk_of item.0) (walks_in items))) × (slice_get (cons_option (walk_of item.0) (walks_in items)) k ≡ Some id)
    go true p h ih = at_front item.0 (id_same.exact item.0 (Walk id) p)
    go false p h ih = let behind = ih h in further (walk_of item.0) (walks_in items) id behind.0 behind.1 behind.2

-- a walk of which this is here is among them
pub here_among : (items : List (Id × Kept)) (id : WalkId) (kept : Kept) → here_in items (Walk id) ≡ Some kept → IsAmong items id
here_among items id kept here = let at = among items id kept here in record { place = at.0; within = at.1; at = at.2 }

pub each_is_among : EachIsAmong
each_is_among items id here = go (here_in items (Walk id)) refl
  where
    go : (o : Option Kept) → here_in items (Walk id) ≡ o → IsAmong items id
    go None e = absurd (here e)
    go (Some kept) e = here_among items id kept e

pub each_is_here : EachIsHere
each_is_here [] id place at none = none_some id at
each_is_here (item ∷ items) id place at none = go (same_id item.0 (Walk id)) refl none (λ k e. each_is_here items id k e)
  where
    behind : (i : Id) (k : ℕ) → same_id i (Walk id) ≡ false → slice_get (cons_option (walk_of i) (walks_in items)) k ≡ Some id
        → ((k : ℕ) → slice_get (walks_in items) k ≡ Some id → here_in items (Walk id) ≢ None) → here_in items (Walk id) ≢ None
    behind (Request req) k p e ih = ih k e
    behind (Piece req n) k p e ih = ih k e
    behind (Notice sender receiver number) k p e ih = ih k e
    behind (Walk walk) zero p e ih = let same : walk ≡ id = cc in absurd (clash (sym (walk_same.same_self walk) ∙ ap (λ (w : WalkId). same_walk walk w) same ∙ p))
    behind (Walk walk) (suc k) p e ih = ih k e

    go : (b : Bool) → same_id item.0 (Walk id) ≡ b → cond b (Some item.1) (here_in items (Walk id)) ≡ None
        → ((k : ℕ) → slice_get (walks_in items) k ≡ Some id → here_in items (Walk id) ≢ None) → ⊥
    go true p h ih = none_some item.1 (sym h)
    go false p h ih = behind item.0 place p at ih h
