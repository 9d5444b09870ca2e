-- What stands in a list, and at its places.
use Rattle.std.proofs.Common.{◌≡◌, ℕ, zero, suc, ◌+◌, ◌<◌, ◌≤◌, Bool, true, false, cond, List, [], ◌∷◌, ◌++◌, length, map, set, All, IsPermutation, Option, Some, None, ◌⊎◌, inl, inr, refl, sym, ◌∙◌, ap, ap₂, subst, zero-add, arith}
use Rattle.std.specs.List.{position, slice_get}
use Rattle.std.specs.Prelude.{slice_index_or}
use Rattle.std.specs.Option.{option_map}
use Rattle.std.proofs.lemmas.Bool.{eq-eqb}
use Rattle.std.proofs.lemmas.List.Sorted.{All-permutation, IsPermutation-sym}
use Rattle.std.proofs.lemmas.Option.{get_or_from_slice_get, slice_get-get_or}
use Rattle.bd_base.specs.declared.id.DevId.{DevId}
use Rattle.bd_disks.specs.Rows.{disk_of, is_row}
use Rattle.bd_disks.proofs.Changing.{disk_at, no_disk}
use Rattle.bd_machine.specs.Same.{same_dev}
use Rattle.bd_machine.proofs.Tables.{dev_exact}
use Rattle.bd_disk_pool.specs.Covering.{AreApart, IsIn}

pub none_some : {X : Type 0} {Q : Type 0} {x : X} → None ≡ Some x → Q
none_some e = cc

pub some_same : {X : Type 0} {x y : X} → Some x ≡ Some y → x ≡ y
some_same e = cc

-- ---- places

-- a place below the length has something
pub has_at : {X : Type 0} (xs : List X) (i : ℕ) → i < length xs → (x : X) × (slice_get xs i ≡ Some x)
has_at [] i h = absurd (omega arith)
has_at (x ∷ xs) zero h = (x, refl)
has_at (x ∷ xs) (suc i) h = has_at xs i (omega arith)

-- a place with something is below the length
pub is_below : {X : Type 0} (xs : List X) (i : ℕ) (x : X) → slice_get xs i ≡ Some x → i < length xs
is_below [] i x e = none_some e
is_below (y ∷ xs) zero x e = omega arith
is_below (y ∷ xs) (suc i) x e = let lt : i < length xs = is_below xs i x e in omega arith

-- what is put at a place stands there, and all else as before
pub set_here : {X : Type 0} (xs : List X) (i : ℕ) (x : X) → i < length xs → slice_get (set xs i x) i ≡ Some x
set_here [] i x h = absurd (omega arith)
set_here (y ∷ xs) zero x h = refl
set_here (y ∷ xs) (suc i) x h = set_here xs i x (omega arith)

pub set_else : {X : Type 0} (xs : List X) (i j : ℕ) (x : X) → (i ≡ j → ⊥) → slice_get (set xs i x) j ≡ slice_get xs j
set_else [] i j x ne = refl
set_else (y ∷ xs) zero zero x ne = absurd (ne refl)
set_else (y ∷ xs) zero (suc j) x ne = refl
set_else (y ∷ xs) (suc i) zero x ne = refl
set_else (y ∷ xs) (suc i) (suc j) x ne = set_else xs i j x (λ e. ne (ap suc e))

-- a place of the first list, and one of the second, in both joined
pub at_first : {X : Type 0} (xs ys : List X) (i : ℕ) → i < length xs → slice_get (xs ++ ys) i ≡ slice_get xs i
at_first [] ys i h = absurd (omega arith)
at_first (x ∷ xs) ys zero h = refl
at_first (x ∷ xs) ys (suc i) h = at_first xs ys i (omega arith)

pub at_second : {X : Type 0} (xs ys : List X) (k n : ℕ) → n ≡ length xs + k → slice_get (xs ++ ys) n ≡ slice_get ys k
at_second {X = X} [] ys k n e = ap (λ (m : ℕ). slice_get ys m) (e ∙ zero-add k)
at_second (x ∷ xs) ys k zero e = absurd (omega (arith, e))
at_second (x ∷ xs) ys k (suc n) e = at_second xs ys k n (omega (arith, e))

-- what stood there stands there with more after it
pub at_before : {X : Type 0} (xs ys : List X) (i : ℕ) (x : X) → slice_get xs i ≡ Some x → slice_get (xs ++ ys) i ≡ Some x
at_before xs ys i x e = at_first xs ys i (is_below xs i x e) ∙ e

-- with one more, a place is that one's, or one of those before
pub at_last : {X : Type 0} (xs : List X) (y : X) (i : ℕ) (x : X) → slice_get (xs ++ y ∷ []) i ≡ Some x → (slice_get xs i ≡ Some x) ⊎ ((i ≡ length xs) × (y ≡ x))
at_last [] y zero x e = inr (refl, some_same e)
at_last [] y (suc i) x e = none_some e
at_last (z ∷ xs) y zero x e = inl e
at_last (z ∷ xs) y (suc i) x e = go (at_last xs y i x e)
  where
    go : (slice_get xs i ≡ Some x) ⊎ ((i ≡ length xs) × (y ≡ x)) → (slice_get xs i ≡ Some x) ⊎ ((suc i ≡ suc (length xs)) × (y ≡ x))
    go (inl e) = inl e
    go (inr e) = inr (ap suc e.0, e.1)

pub map_at : {X Y : Type 0} (f : X → Y) (xs : List X) (i : ℕ) (y : Y) → slice_get (map f xs) i ≡ Some y → (x : X) × (slice_get xs i ≡ Some x) × (f x ≡ y)
map_at f [] i y e = none_some e
map_at f (x ∷ xs) zero y e = (x, refl, some_same e)
map_at f (x ∷ xs) (suc i) y e = map_at f xs i y e

-- lists of which the second begins with the first
pub begins : {X : Type 0} (xs ys : List X) → length xs ≤ length ys → ((p : ℕ) → p < length xs → slice_get ys p ≡ slice_get xs p) → (more : List X) × (ys ≡ xs ++ more)
begins [] ys len same = (ys, refl)
begins (x ∷ xs) [] len same = absurd (omega arith)
begins {X = X} (x ∷ xs) (y ∷ ys) len same =
    let rest = begins xs ys (omega arith) (λ p h. same (suc p) (omega arith)) in
    let first : y ≡ x = some_same (same 0 (omega arith)) in
    (rest.0, ap₂ (λ (z : X) (zs : List X). z ∷ zs) first rest.1)

-- ---- elements

pub in_at : {X : Type 0} (x : X) (xs : List X) (i : ℕ) → slice_get xs i ≡ Some x → IsIn x xs
in_at x [] i e = none_some e
in_at x (y ∷ xs) zero e = inl (some_same e)
in_at x (y ∷ xs) (suc i) e = inr (in_at x xs i e)

pub at_in : {X : Type 0} (x : X) (xs : List X) → IsIn x xs → (i : ℕ) × (slice_get xs i ≡ Some x)
at_in x [] h = absurd h
at_in x (y ∷ xs) (inl e) = (0, ap Some e)
at_in x (y ∷ xs) (inr h) = let r = at_in x xs h in (suc r.0, r.1)

-- what is in a list is in it in another order
pub in_permutation : {X : Type 0} (x : X) (xs ys : List X) → IsPermutation xs ys → IsIn x xs → IsIn x ys
in_permutation {X = X} x xs ys same h =
    let at = at_in x xs h in
    let in_order : All (λ (z : X). IsIn z ys) xs = All-permutation (λ (z : X). IsIn z ys) ys xs (IsPermutation-sym xs ys same) (λ i d lt. in_at (slice_index_or ys i d) ys i (slice_get-get_or ys i d lt)) in
    subst (λ (z : X). IsIn z ys) (get_or_from_slice_get xs at.0 x x at.1) (in_order at.0 x (is_below xs at.0 x at.1))

pub in_first : {X : Type 0} (x : X) (xs ys : List X) → IsIn x xs → IsIn x (xs ++ ys)
in_first x [] ys h = absurd h
in_first x (y ∷ xs) ys (inl e) = inl e
in_first x (y ∷ xs) ys (inr h) = inr (in_first x xs ys h)

pub in_second : {X : Type 0} (x : X) (xs ys : List X) → IsIn x ys → IsIn x (xs ++ ys)
in_second x [] ys h = h
in_second x (y ∷ xs) ys h = inr (in_second x xs ys h)

pub in_either : {X : Type 0} (x : X) (xs ys : List X) → IsIn x (xs ++ ys) → IsIn x xs ⊎ IsIn x ys
in_either x [] ys h = inr h
in_either x (y ∷ xs) ys (inl e) = inl (inl e)
in_either x (y ∷ xs) ys (inr h) = go (in_either x xs ys h)
  where
    go : IsIn x xs ⊎ IsIn x ys → ((y ≡ x) ⊎ IsIn x xs) ⊎ IsIn x ys
    go (inl h) = inl (inr h)
    go (inr h) = inr h

pub in_map : {X Y : Type 0} (f : X → Y) (x : X) (xs : List X) → IsIn x xs → IsIn (f x) (map f xs)
in_map f x [] h = absurd h
in_map f x (y ∷ xs) (inl e) = inl (ap f e)
in_map f x (y ∷ xs) (inr h) = inr (in_map f x xs h)

pub of_map : {X Y : Type 0} (f : X → Y) (y : Y) (xs : List X) → IsIn y (map f xs) → (x : X) × IsIn x xs × (f x ≡ y)
of_map f y [] h = absurd h
of_map f y (x ∷ xs) (inl e) = (x, inl refl, e)
of_map f y (x ∷ xs) (inr h) = let r = of_map f y xs h in (r.0, inr r.1, r.2)

-- ---- lists of lists

abbrev pub flat : {X : Type 0} → List (List X) → List X
flat [] = []
flat (xs ∷ xss) = xs ++ flat xss

pub in_flat : {X : Type 0} (x : X) (xss : List (List X)) (t : ℕ) (xs : List X) → slice_get xss t ≡ Some xs → IsIn x xs → IsIn x (flat xss)
in_flat x [] t xs e h = none_some e
in_flat x (ys ∷ xss) zero xs e h = in_first x ys (flat xss) (subst (IsIn x) (sym (some_same e)) h)
in_flat x (ys ∷ xss) (suc t) xs e h = in_second x ys (flat xss) (in_flat x xss t xs e h)

pub of_flat : {X : Type 0} (x : X) (xss : List (List X)) → IsIn x (flat xss) → (t : ℕ) × (xs : List X) × (slice_get xss t ≡ Some xs) × IsIn x xs
of_flat x [] h = absurd h
of_flat {X = X} x (ys ∷ xss) h = go (of_flat x xss) (in_either x ys (flat xss) h)
  where
    go : (IsIn x (flat xss) → (t : ℕ) × (xs : List X) × (slice_get xss t ≡ Some xs) × IsIn x xs) → IsIn x ys ⊎ IsIn x (flat xss) → (t : ℕ) × (xs : List X) × (slice_get (ys ∷ xss) t ≡ Some xs) × IsIn x xs
    go rest (inl h) = (0, ys, refl, h)
    go rest (inr h) = let r = rest h in (suc r.0, r.1, r.2, r.3)

-- ---- devices

pub dev_self : (dev : DevId) → same_dev dev dev ≡ true
dev_self dev = eq-eqb dev.0 dev.0 refl

not_both : {Q : Type 0} → false ≡ true → Q
not_both e = cc

-- other numbers, other devices
pub other_dev : (a b : DevId) → a.0 < b.0 → same_dev a b ≡ false
other_dev a b lt = go (same_dev a b) refl
  where
    go : (t : Bool) → same_dev a b ≡ t → same_dev a b ≡ false
    go false e = e
    go true e = let same : a ≡ b = dev_exact a b e in let eq : a.0 ≡ b.0 = ap (λ (d : DevId). d.0) same in absurd (omega (arith, eq, lt))

-- where no device is there twice, each disk is found by its device
pub found : {D : Type 0} (rows : List (DevId × D)) (row : DevId × D) → AreApart (map (λ (r : DevId × D). r.0) rows) → IsIn row rows → disk_of row.0 rows ≡ Some row.1
found [] row apart h = absurd h
found {D = D} (first ∷ rows) row apart (inl e) =
    subst (λ (r : DevId × D). disk_of r.0 (first ∷ rows) ≡ Some r.1) e (ap (λ (b : Bool). cond b (Some first.1) (disk_of first.0 rows)) (dev_self first.0))
found {D = D} (first ∷ rows) row apart (inr h) =
    let no : is_row row.0 first ≡ false = apart.0 row.0 (in_map (λ (r : DevId × D). r.0) row rows h) in
    ap (λ (b : Bool). cond b (Some first.1) (disk_of row.0 rows)) no ∙ found rows row apart.1 h

-- with one more device, another than each before
pub apart_more : (devs : List DevId) (dev : DevId) → AreApart devs → ((other : DevId) → IsIn other devs → same_dev other dev ≡ false) → AreApart (devs ++ dev ∷ [])
apart_more [] dev apart others = (λ other h. absurd h, tt)
apart_more (d ∷ devs) dev apart others = (first, apart_more devs dev apart.1 (λ other h. others other (inr h)))
  where
    go : (other : DevId) → IsIn other devs ⊎ IsIn other (dev ∷ []) → same_dev d other ≡ false
    go other (inl h) = apart.0 other h
    go other (inr (inl e)) = subst (λ (o : DevId). same_dev d o ≡ false) e (others d (inl refl))
    go other (inr (inr h)) = absurd h

    first : (other : DevId) → IsIn other (devs ++ dev ∷ []) → same_dev d other ≡ false
    first other h = go other (in_either other devs (dev ∷ []) h)

-- what a device has it has with more after it
pub of_more : {D : Type 0} (dev : DevId) (rows more : List (DevId × D)) (d : D) → disk_of dev rows ≡ Some d → disk_of dev (rows ++ more) ≡ Some d
of_more dev [] more d e = none_some e
of_more {D = D} dev (row ∷ rows) more d e = go (is_row dev row) (of_more dev rows more d) e
  where
    go : (b : Bool) → (disk_of dev rows ≡ Some d → disk_of dev (rows ++ more) ≡ Some d) → cond b (Some row.1) (disk_of dev rows) ≡ Some d → cond b (Some row.1) (disk_of dev (rows ++ more)) ≡ Some d
    go true rest e = e
    go false rest e = rest e

-- what has none has what comes after
pub of_none : {D : Type 0} (dev : DevId) (rows more : List (DevId × D)) → disk_of dev rows ≡ None → disk_of dev (rows ++ more) ≡ disk_of dev more
of_none dev [] more e = refl
of_none {D = D} dev (row ∷ rows) more e = go (is_row dev row) (of_none dev rows more) e
  where
    go : (b : Bool) → (disk_of dev rows ≡ None → disk_of dev (rows ++ more) ≡ disk_of dev more) → cond b (Some row.1) (disk_of dev rows) ≡ None → cond b (Some row.1) (disk_of dev (rows ++ more)) ≡ disk_of dev more
    go true rest e = none_some (sym e)
    go false rest e = rest e

-- ---- names

mapped : {S : Type 0} (bytes : S → List ℕ) (rows : List (DevId × S)) (dev : DevId) → disk_of dev (map (λ (row : DevId × S). (row.0, bytes row.1)) rows) ≡ option_map bytes (disk_of dev rows)
mapped bytes [] dev = refl
mapped {S = S} bytes (row ∷ rows) dev = go (is_row dev row) (mapped bytes rows dev)
  where
    go : (b : Bool) → disk_of dev (map (λ (r : DevId × S). (r.0, bytes r.1)) rows) ≡ option_map bytes (disk_of dev rows)
        → cond b (Some (bytes row.1)) (disk_of dev (map (λ (r : DevId × S). (r.0, bytes r.1)) rows)) ≡ option_map bytes (cond b (Some row.1) (disk_of dev rows))
    go true rest = refl
    go false rest = rest

-- the name of a device's first row
pub named_at : {S : Type 0} (bytes : S → List ℕ) (rows : List (DevId × S)) (dev : DevId) (i : ℕ) (d : DevId × S) → position (is_row dev) rows ≡ Some i
    → disk_of dev (map (λ (row : DevId × S). (row.0, bytes row.1)) rows) ≡ Some (bytes (slice_index_or rows i d).1)
named_at {S = S} bytes rows dev i d at = mapped bytes rows dev ∙ ap (λ (o : Option S). option_map bytes o) (disk_at dev rows i d at)

pub not_named : {S : Type 0} (bytes : S → List ℕ) (rows : List (DevId × S)) (dev : DevId) → position (is_row dev) rows ≡ None → disk_of dev (map (λ (row : DevId × S). (row.0, bytes row.1)) rows) ≡ None
not_named {S = S} bytes rows dev none = mapped bytes rows dev ∙ ap (λ (o : Option S). option_map bytes o) (no_disk dev rows none)
