-- Lists that are written in place.
use Rattle.std.proofs.Common.{◌≡◌, ℕ, zero, suc, ◌+◌, ◌-◌, ◌<◌, ◌≤◌, List, [], ◌∷◌, ◌++◌, length, take, drop, set, replicate, refl, sym, ◌∙◌, ap, ap₂, arith, append_assoc, length-append}
use Rattle.std.proofs.lemmas.List.{length-take-le, length-drop, length-replicate, take-append-le, drop-append-le, take-replicate, drop-replicate, replicate-append-replicate, take-append-drop}
use Rattle.std.proofs.lemmas.List.Edits.{paste_all, paste-paste, fill_from_more}
use lib.Seq.{paste}
use Rattle.bd_pages.specs.Bytes.{written}

-- zeros written among zeros change nothing
pub zeros_stay : (at n len : ℕ) → at + n ≤ len → written {A = ℕ} at (replicate n 0) (replicate len 0) ≡ replicate len 0
zeros_stay at n len inside =
    let zeros : ℕ → List ℕ = λ m. replicate m 0 in
    let before : at ≤ len = omega (arith, inside) in
    let behind : zeros n ++ drop (at + n) (zeros len) ≡ zeros (n + (len - (at + n))) =
    ap (λ (zs : List ℕ). zeros n ++ zs) (drop-replicate (at + n) len 0) ∙ replicate-append-replicate n (len - (at + n)) 0 in
    let all : at + (n + (len - (at + n))) ≡ len = omega (arith, inside) in
    ap (λ (m : ℕ). take at (zeros len) ++ (zeros n ++ drop (at + m) (zeros len))) (length-replicate n 0)
    ∙ ap₂ (λ (xs ys : List ℕ). xs ++ ys) (take-replicate at len 0 before) behind
    ∙ replicate-append-replicate at (n + (len - (at + n))) 0
    ∙ ap zeros all

-- the second of two lists, from a place behind the first
pub take_past : {A : Type 0} (xs ys : List A) (k m : ℕ) → m ≡ length xs + k → take m (xs ++ ys) ≡ xs ++ take k ys
take_past [] ys k m e = let same : m ≡ k = omega (arith, e) in ap (λ (n : ℕ). take n ys) same
take_past (x ∷ xs) ys k zero e = absurd (omega (arith, e))
take_past {A} (x ∷ xs) ys k (suc m) e = ap (λ (zs : List A). x ∷ zs) (take_past xs ys k m (omega (arith, e)))

pub drop_past : {A : Type 0} (xs ys : List A) (k m : ℕ) → m ≡ length xs + k → drop m (xs ++ ys) ≡ drop k ys
drop_past [] ys k m e = let same : m ≡ k = omega (arith, e) in ap (λ (n : ℕ). drop n ys) same
drop_past (x ∷ xs) ys k zero e = absurd (omega (arith, e))
drop_past (x ∷ xs) ys k (suc m) e = drop_past xs ys k m (omega (arith, e))

-- what is written behind the first of two lists is written in the second
pub written_past : {A : Type 0} (xs ys new : List A) (k m : ℕ) → m ≡ length xs + k → xs ++ written k new ys ≡ written m new (xs ++ ys)
written_past {A} xs ys new k m e =
    let end : m + length new ≡ length xs + (k + length new) = omega (arith, e) in
    sym (append_assoc xs (take k ys) (new ++ drop (k + length new) ys))
    ∙ sym (ap₂ (λ (a b : List A). a ++ (new ++ b)) (take_past xs ys k m e) (drop_past xs ys (k + length new) (m + length new) end))

-- what is written within the first of two lists
pub written_front : {A : Type 0} (xs ys new : List A) (k : ℕ) → k + length new ≤ length xs → written k new xs ++ ys ≡ written k new (xs ++ ys)
written_front {A} xs ys new k inside =
    let before : k ≤ length xs = omega (arith, inside) in
    append_assoc (take k xs) (new ++ drop (k + length new) xs) ys
    ∙ ap (λ (zs : List A). take k xs ++ zs) (append_assoc new (drop (k + length new) xs) ys)
    ∙ sym (ap₂ (λ (a b : List A). a ++ (new ++ b)) (take-append-le k xs ys before) (drop-append-le (k + length new) xs ys inside))

pub length_written : {A : Type 0} (at : ℕ) (new old : List A) → at + length new ≤ length old → length (written at new old) ≡ length old
length_written at new old inside =
    let a = length-append (take at old) (new ++ drop (at + length new) old) in
    let b = length-append new (drop (at + length new) old) in
    let c = length-take-le at old (omega (arith, inside)) in
    let d = length-drop (at + length new) old in
    omega (arith, inside, a, b, c, d)

-- one piece after another is both at once
pub written_twice : {A : Type 0} (at place : ℕ) (xs ys old : List A) → at ≤ length old → place ≡ at + length xs → written place ys (written at xs old) ≡ written at (xs ++ ys) old
written_twice {A} at place xs ys old inside e =
    ap (λ (n : ℕ). written n ys (written at xs old)) e
    ∙ ap (λ (zs : List A). written (at + length xs) ys zs) (sym (paste_all old at xs (length xs) refl))
    ∙ sym (paste_all _ (at + length xs) ys (length ys) refl)
    ∙ paste-paste old at xs ys (length xs) (length ys) refl refl inside
    ∙ paste_all old at (xs ++ ys) (length xs + length ys) (sym (length-append xs ys))
    ∙ ap (λ (n : ℕ). take at old ++ ((xs ++ ys) ++ drop (at + n) old)) (sym (length-append xs ys))

-- nothing is written
pub written_none : {A : Type 0} (at : ℕ) (old : List A) → written at [] old ≡ old
written_none {A} at old = let same : at + 0 ≡ at = omega arith in ap (λ (n : ℕ). take at old ++ drop n old) same ∙ take-append-drop at old

-- one more of the same item
pub written_more : {A : Type 0} (first k : ℕ) (x : A) (old : List A) → first ≤ k → k < length old → set (written first (replicate (k - first) x) old) k x ≡ written first (replicate (k + 1 - first) x) old
written_more {A} first k x old order inside =
    let i : ℕ = k - first in
    let place : first + i ≡ k = omega (arith, order) in
    let more : i + 1 ≡ k + 1 - first = omega (arith, order) in
    ap (λ (ys : List A). set ys k x) (sym (paste_all old first (replicate i x) (length (replicate i x)) refl) ∙ ap (λ (m : ℕ). paste old first (replicate i x) m) (length-replicate i x))
    ∙ ap (λ (m : ℕ). set (paste old first (replicate i x) i) m x) (sym place)
    ∙ fill_from_more old first i x (omega (arith, place, inside))
    ∙ ap (λ (m : ℕ). paste old first (replicate (i + 1) x) m) (sym (length-replicate (i + 1) x))
    ∙ paste_all old first (replicate (i + 1) x) (length (replicate (i + 1) x)) refl
    ∙ ap (λ (m : ℕ). written first (replicate m x) old) more

-- the first items, and those behind them
pub take_more : {A : Type 0} (a m : ℕ) (xs : List A) → take (a + m) xs ≡ take a xs ++ take m (drop a xs)
take_more {A} zero m xs = let same : 0 + m ≡ m = omega arith in ap (λ (n : ℕ). take n xs) same
take_more {A} (suc a) m [] = none (suc a + m) m
  where
    none : (k m : ℕ) → let nil : List A = [] in take k nil ≡ take m nil
    none zero zero = refl
    none zero (suc m) = refl
    none (suc k) zero = refl
    none (suc k) (suc m) = refl
take_more {A} (suc a) m (x ∷ xs) =
    let next : suc a + m ≡ suc (a + m) = omega arith in
    ap (λ (n : ℕ). take n (x ∷ xs)) next ∙ ap (λ (ys : List A). x ∷ ys) (take_more a m xs)
