-- Blocks of zeros, and how many blocks there are after a write.
use Rattle.std.proofs.Common.{◌≡◌, ℕ, zero, suc, ◌+◌, ◌-◌, ◌*◌, ◌≤◌, Bool, true, false, cond, List, [], ◌∷◌, ◌++◌, length, take, drop, replicate, refl, sym, ◌∙◌, ap, ap₂, subst, arith}
use Rattle.std.specs.List.{concat}
use Rattle.std.specs.Prelude.{All}
use Rattle.std.proofs.Math.Nat.{suc-mul}
use Rattle.std.proofs.lemmas.List.{append-nil, drop-replicate, drop_all, take-replicate, take_all, replicate-append-replicate, length-map, length-take, length-drop}
use Rattle.bd_base.specs.declared.request.Fill.{Fill}
use Rattle.bd_pages.specs.Fills.{filled, patterned, turned}
use Rattle.bd_pages.specs.Pages.{zeroed}
use Rattle.bd_pages.proofs.Splices.{length_written}
use Rattle.bd_volume.proofs.Orders.{as_written}

pub concat_zeros : (n size : ℕ) → concat (replicate n (replicate size 0)) ≡ replicate (n * size) 0
concat_zeros zero size = let none : 0 ≡ 0 * size = omega arith in ap (λ (k : ℕ). let zs : List ℕ = replicate k 0 in zs) none
concat_zeros (suc n) size =
    let all : size + n * size ≡ suc n * size = omega (arith, suc-mul n size) in
    ap (λ (b : List ℕ). replicate size 0 ++ b) (concat_zeros n size)
    ∙ replicate-append-replicate size (n * size) 0
    ∙ ap (λ (k : ℕ). let zs : List ℕ = replicate k 0 in zs) all

-- a range of the same block
pub range_same : {A : Type 0} (at n len : ℕ) (x : A) → at + n ≤ len → take n (drop at (replicate len x)) ≡ replicate n x
range_same {A} at n len x inside =
    ap (λ (xs : List A). take n xs) (drop-replicate at len x) ∙ take-replicate n (len - at) x (omega (arith, inside))

pub zeroed_zeros : (n size : ℕ) → zeroed (replicate n (replicate size 0)) ≡ replicate n (replicate size 0)
zeroed_zeros zero size = refl
zeroed_zeros (suc n) size =
    ap₂ (λ (k : ℕ) (bs : List (List ℕ)). let b : List ℕ = replicate k 0 in b ∷ bs) (length-zeros size) (zeroed_zeros n size)
  where
    length-zeros : (k : ℕ) → length (replicate {A = ℕ} k 0) ≡ k
    length-zeros zero = refl
    length-zeros (suc k) = ap suc (length-zeros k)

-- zeros among zeros change nothing
pub zeros_stay : (at n len size : ℕ) → at + n ≤ len
    → replicate len (replicate size 0) ≡ take at (replicate len (replicate size 0)) ++ zeroed (take n (drop at (replicate len (replicate size 0)))) ++ drop (at + n) (replicate len (replicate size 0))
zeros_stay at n len size inside =
    let z : List ℕ = replicate size 0 in
    let zs : ℕ → List (List ℕ) = λ k. replicate k z in
    let middle : zeroed (take n (drop at (zs len))) ≡ zs n = ap zeroed (range_same at n len z inside) ∙ zeroed_zeros n size in
    let first : take at (zs len) ≡ zs at = take-replicate at len z (omega (arith, inside)) in
    let last : drop (at + n) (zs len) ≡ zs (len - (at + n)) = drop-replicate (at + n) len z in
    let all : at + n + (len - (at + n)) ≡ len = omega (arith, inside) in
    sym (ap₂ (λ (a b : List (List ℕ)). a ++ b) (ap₂ (λ (a b : List (List ℕ)). a ++ b) first middle ∙ replicate-append-replicate at n z) last
    ∙ replicate-append-replicate (at + n) (len - (at + n)) z
    ∙ ap zs all)

pub even_zeroed : (size : ℕ) (bs : List (List ℕ)) → All (λ b. length b ≡ size) bs → replicate (length bs) (replicate size 0) ≡ zeroed bs
even_zeroed size [] even = refl
even_zeroed size (b ∷ bs) even =
    let here : size ≡ length b = sym (even 0 [] (omega arith)) in
    ap₂ (λ (k : ℕ) (xs : List (List ℕ)). let z : List ℕ = replicate k 0 in z ∷ xs) here (even_zeroed size bs (λ k d lt. even (suc k) d (omega (arith, lt))))

-- ---- how many blocks there are

pub put_length : (at n : ℕ) (new old : List (List ℕ)) → at + n ≤ length old → length new ≡ n → length (take at old ++ new ++ drop (at + n) old) ≡ length old
put_length at n new old inside e = ap length (as_written at n new old e) ∙ length_written at new old (omega (arith, inside, e))

pub range_length : (at n : ℕ) (bs : List (List ℕ)) → at + n ≤ length bs → length (take n (drop at bs)) ≡ n
range_length at n bs inside =
    let few = length-take n (drop at bs) in
    let left = length-drop at bs in
    omega (arith, inside, few, left)

patterned_length : (seed first : ℕ) (bs : List (List ℕ)) → length (patterned seed first bs) ≡ length bs
patterned_length seed first [] = refl
patterned_length seed first (b ∷ bs) = ap suc (patterned_length seed (first + 1) bs)

turned_length : (bs : List (List ℕ)) → length (turned bs) ≡ length bs
turned_length [] = refl
turned_length (b ∷ bs) = refl

pub filled_count : (fill : Fill) (first : ℕ) (bs : List (List ℕ)) → length (filled fill first bs) ≡ length bs
filled_count fill first bs = go fill.flip
  where
    go : (b : Bool) → length (cond b (turned (patterned fill.seed first bs)) (patterned fill.seed first bs)) ≡ length bs
    go true = turned_length (patterned fill.seed first bs) ∙ patterned_length fill.seed first bs
    go false = patterned_length fill.seed first bs

pub zeroed_count : (bs : List (List ℕ)) → length (zeroed bs) ≡ length bs
zeroed_count bs = length-map bs (λ b. replicate (length b) 0)

-- a whole cluster of zeros
pub whole_zeroed : (at n : ℕ) (bs : List (List ℕ)) → at ≡ 0 → length bs ≡ n → zeroed bs ≡ take at bs ++ zeroed (take n (drop at bs)) ++ drop (at + n) bs
whole_zeroed at n bs e long =
    let first : List (List ℕ) = take 0 bs in
    let all : take n bs ≡ bs = take_all n bs (omega (arith, long)) in
    let none : drop (0 + n) bs ≡ [] = drop_all (0 + n) bs (omega (arith, long)) in
    subst (λ (k : ℕ). zeroed bs ≡ take k bs ++ zeroed (take n (drop k bs)) ++ drop (k + n) bs) (sym e)
    (sym (ap₂ (λ (a b : List (List ℕ)). (first ++ zeroed a) ++ b) all none ∙ append-nil (zeroed bs)))
