-- Elements of lists that were changed, or that are mapped to the same.
use Rattle.std.proofs.Common.{◌≡◌, ◌≢◌, ℕ, zero, suc, ◌+◌, ◌<◌, ◌≤◌, ◌⊎◌, Some, List, [], ◌∷◌, ◌++◌, length, map, get_or, set, sym, refl, ap, ◌∙◌, arith}
use Rattle.std.specs.Prelude.{slice_get}
use Rattle.std.specs.List.{zip}
use Rattle.std.proofs.lemmas.Option.{same_Some}

pub same_or_not : (a b : ℕ) → (a ≡ b) ⊎ (a ≢ b)
same_or_not a b = grind arith

pub below_or_at : (k n : ℕ) → k < n + 1 → (k < n) ⊎ (k ≡ n)
below_or_at k n h = grind arith

pub below_or_past : (k n : ℕ) → (k < n) ⊎ (n ≤ k)
below_or_past k n = grind arith

pub slice_get-set_same : {X : Type 0} (xs : List X) (i : ℕ) (y : X) → i < length xs → slice_get (set xs i y) i ≡ Some y
slice_get-set_same [] i y h = absurd (omega arith)
slice_get-set_same (x ∷ xs) zero y h = refl
slice_get-set_same (x ∷ xs) (suc i) y h = let lt : i < length xs = omega arith in slice_get-set_same xs i y lt

pub slice_get-set_other : {X : Type 0} (xs : List X) (i j : ℕ) (y : X) → j ≢ i → slice_get (set xs i y) j ≡ slice_get xs j
slice_get-set_other [] i j y ne = refl
slice_get-set_other (x ∷ xs) zero zero y ne = absurd (ne refl)
slice_get-set_other (x ∷ xs) zero (suc j) y ne = refl
slice_get-set_other (x ∷ xs) (suc i) zero y ne = refl
slice_get-set_other (x ∷ xs) (suc i) (suc j) y ne = slice_get-set_other xs i j y (λ e. ne (ap (λ k. suc k) e))

pub slice_get-push_before : {X : Type 0} (xs : List X) (y : X) (k : ℕ) → k < length xs → slice_get (xs ++ y ∷ []) k ≡ slice_get xs k
slice_get-push_before [] y k h = absurd (omega arith)
slice_get-push_before (x ∷ xs) y zero h = refl
slice_get-push_before (x ∷ xs) y (suc k) h = let lt : k < length xs = omega arith in slice_get-push_before xs y k lt

pub slice_get-push : {X : Type 0} (xs : List X) (y : X) → slice_get (xs ++ y ∷ []) (length xs) ≡ Some y
slice_get-push [] y = refl
slice_get-push (x ∷ xs) y = slice_get-push xs y

pub map-set_same : {X Y : Type 0} (f : X → Y) (xs : List X) (i : ℕ) (x y : X) → slice_get xs i ≡ Some x → f y ≡ f x → map f (set xs i y) ≡ map f xs
map-set_same f [] i x y at e = refl
map-set_same f (z ∷ xs) zero x y at e = let same : z ≡ x = cc in ap (λ v. v ∷ map f xs) (e ∙ ap f (sym same))
map-set_same f (z ∷ xs) (suc i) x y at e = ap (λ vs. f z ∷ vs) (map-set_same f xs i x y at e)

-- what has the same image stands at the same place of the other list
pub from_map : {X Y : Type 0} (f : X → Y) (xs ys : List X) (t : ℕ) (q : X) → map f ys ≡ map f xs → slice_get ys t ≡ Some q → (p : X) × (slice_get xs t ≡ Some p) × (f q ≡ f p)
from_map f xs [] t q e at = absurd (cc)
from_map f [] (y ∷ ys) t q e at = absurd (cc)
from_map f (x ∷ xs) (y ∷ ys) zero q e at = let same : y ≡ q = cc in let image : f y ≡ f x = cc in (x, refl, ap f (sym same) ∙ image)
from_map f (x ∷ xs) (y ∷ ys) (suc t) q e at = let rest : map f ys ≡ map f xs = cc in from_map f xs ys t q rest at

pub map_at : {X Y : Type 0} (f : X → Y) (xs : List X) (k : ℕ) (x : X) (d : Y) → slice_get xs k ≡ Some x → get_or (map f xs) k d ≡ f x
map_at f [] k x d at = absurd (cc)
map_at f (y ∷ xs) zero x d at = let same : y ≡ x = cc in ap f same
map_at f (y ∷ xs) (suc k) x d at = map_at f xs k x d at

pub map_get : {X Y : Type 0} (f : X → Y) (xs : List X) (k : ℕ) (x : X) → slice_get xs k ≡ Some x → slice_get (map f xs) k ≡ Some (f x)
map_get f [] k x at = absurd (cc)
map_get f (y ∷ xs) zero x at = let same : y ≡ x = cc in ap (λ v. Some (f v)) same
map_get f (y ∷ xs) (suc k) x at = map_get f xs k x at

-- ---- two lists side by side

pub length-zip_same : {X Y : Type 0} (xs : List X) (ys : List Y) → length xs ≡ length ys → length (zip xs ys) ≡ length ys
length-zip_same [] [] e = refl
length-zip_same [] (y ∷ ys) e = absurd (omega arith)
length-zip_same (x ∷ xs) [] e = absurd (omega arith)
length-zip_same (x ∷ xs) (y ∷ ys) e = let same : length xs ≡ length ys = omega arith in ap (λ n. suc n) (length-zip_same xs ys same)

pub map-zip_second : {X Y Z : Type 0} (f : Y → Z) (xs : List X) (ys : List Y) → length xs ≡ length ys → map (λ (p : X × Y). f p.1) (zip xs ys) ≡ map f ys
map-zip_second f [] [] e = refl
map-zip_second f [] (y ∷ ys) e = absurd (omega arith)
map-zip_second f (x ∷ xs) [] e = absurd (omega arith)
map-zip_second f (x ∷ xs) (y ∷ ys) e = let same : length xs ≡ length ys = omega arith in ap (λ zs. f y ∷ zs) (map-zip_second f xs ys same)

-- what stands at a place of both
pub zip_parts : {X Y : Type 0} (xs : List X) (ys : List Y) (k : ℕ) (p : X × Y) → slice_get (zip xs ys) k ≡ Some p → (slice_get xs k ≡ Some p.0) × (slice_get ys k ≡ Some p.1)
zip_parts [] ys k p at = absurd (cc)
zip_parts (x ∷ xs) [] k p at = absurd (cc)
zip_parts (x ∷ xs) (y ∷ ys) zero p at = let same = same_Some (x, y) p at in (ap (λ q. Some q.0) same, ap (λ q. Some q.1) same)
zip_parts (x ∷ xs) (y ∷ ys) (suc k) p at = zip_parts xs ys k p at

pub zip_at : {X Y : Type 0} (xs : List X) (ys : List Y) (k : ℕ) (y : Y) → length xs ≡ length ys → slice_get ys k ≡ Some y → (x : X) × (slice_get (zip xs ys) k ≡ Some (x, y))
zip_at xs [] k y e at = absurd (cc)
zip_at [] (z ∷ ys) k y e at = absurd (omega arith)
zip_at (x ∷ xs) (z ∷ ys) zero y e at = let same : z ≡ y = cc in (x, ap (λ v. Some (x, v)) same)
zip_at (x ∷ xs) (z ∷ ys) (suc k) y e at = let same : length xs ≡ length ys = omega arith in zip_at xs ys k y same at
