-- Bytes as blocks.
use Rattle.std.proofs.Common.{◌≡◌, ℕ, zero, suc, ◌+◌, ◌-◌, ◌*◌, ◌<◌, ◌≤◌, List, [], ◌∷◌, ◌++◌, length, get_or, take, drop, replicate, refl, sym, ◌∙◌, ap, ap₂, append_assoc, arith}
use Rattle.std.specs.List.{concat}
use Rattle.std.proofs.Math.Nat.{suc-mul, add-mul, mul-le-mul_right}
use Rattle.std.proofs.lemmas.List.{length-take-le, length-drop, take-append-le, drop-append-le, drop-drop, take-take, take-replicate, drop-replicate, drop-take}
use Rattle.bd_pages.specs.Bytes.{written}
use Rattle.bd_pages.specs.Pages.{blocks_of, zeroed}
use Rattle.bd_pages.proofs.Splices.{take_more}

pub length_blocks : (size n : ℕ) (bytes : List ℕ) → length (blocks_of size n bytes) ≡ n
length_blocks size zero bytes = refl
length_blocks size (suc n) bytes = ap suc (length_blocks size n (drop size bytes))

pub drop_blocks : (size lba n : ℕ) (bytes : List ℕ) → drop lba (blocks_of size (lba + n) bytes) ≡ blocks_of size n (drop (lba * size) bytes)
drop_blocks size zero n bytes =
    let same : 0 + n ≡ n = omega arith in
    let none : 0 ≡ 0 * size = omega arith in
    ap (λ (m : ℕ). blocks_of size m bytes) same ∙ ap (λ (m : ℕ). blocks_of size n (drop m bytes)) none
drop_blocks size (suc lba) n bytes =
    let next : suc lba + n ≡ suc (lba + n) = omega arith in
    let place : size + lba * size ≡ suc lba * size = omega (arith, suc-mul lba size) in
    ap (λ (m : ℕ). drop (suc lba) (blocks_of size m bytes)) next
    ∙ drop_blocks size lba n (drop size bytes)
    ∙ ap (λ (bs : List ℕ). blocks_of size n bs) (drop-drop (lba * size) size bytes ∙ ap (λ (m : ℕ). drop m bytes) place)

pub take_blocks : (size n rest : ℕ) (bytes : List ℕ) → take n (blocks_of size (n + rest) bytes) ≡ blocks_of size n bytes
take_blocks size zero rest bytes = refl
take_blocks size (suc n) rest bytes =
    let next : suc n + rest ≡ suc (n + rest) = omega arith in
    ap (λ (m : ℕ). take (suc n) (blocks_of size m bytes)) next
    ∙ ap (λ (bs : List (List ℕ)). take size bytes ∷ bs) (take_blocks size n rest (drop size bytes))

pub concat_blocks : (size n : ℕ) (bytes : List ℕ) → concat (blocks_of size n bytes) ≡ take (n * size) bytes
concat_blocks size zero bytes = let none : 0 ≡ 0 * size = omega arith in ap (λ (m : ℕ). take m bytes) none
concat_blocks size (suc n) bytes =
    let place : size + n * size ≡ suc n * size = omega (arith, suc-mul n size) in
    ap (λ (xs : List ℕ). take size bytes ++ xs) (concat_blocks size n (drop size bytes))
    ∙ sym (take_more size (n * size) bytes)
    ∙ ap (λ (m : ℕ). take m bytes) place

-- blocks of two parts, of which the first has whole blocks
pub blocks_append : (size m n : ℕ) (xs ys : List ℕ) → length xs ≡ m * size → blocks_of size (m + n) (xs ++ ys) ≡ blocks_of size m xs ++ blocks_of size n ys
blocks_append size zero n [] ys e = let same : 0 + n ≡ n = omega arith in ap (λ (k : ℕ). blocks_of size k ys) same
blocks_append size zero n (x ∷ xs) ys e = let none : 0 * size ≡ 0 = omega arith in absurd (omega (arith, e, none))
blocks_append size (suc m) n xs ys e =
    let next : suc m + n ≡ suc (m + n) = omega arith in
    let parts = suc-mul m size in
    let first : size ≤ length xs = omega (arith, e, parts) in
    let rest : length (drop size xs) ≡ m * size = omega (arith, e, parts, length-drop size xs) in
    ap (λ (k : ℕ). blocks_of size k (xs ++ ys)) next
    ∙ ap₂ (λ (b r : List ℕ). b ∷ blocks_of size (m + n) r) (take-append-le size xs ys first) (drop-append-le size xs ys first)
    ∙ ap (λ (bs : List (List ℕ)). take size xs ∷ bs) (blocks_append size m n (drop size xs) ys rest)

-- blocks of the bytes that they have
pub blocks_take : (size n : ℕ) (bytes : List ℕ) → blocks_of size n (take (n * size) bytes) ≡ blocks_of size n bytes
blocks_take size zero bytes = refl
blocks_take size (suc n) bytes =
    let place : suc n * size ≡ size + n * size = omega (arith, suc-mul n size) in
    ap (λ (m : ℕ). blocks_of size (suc n) (take m bytes)) place
    ∙ ap₂ (λ (b r : List ℕ). b ∷ blocks_of size n r) (take-take size (size + n * size) bytes (omega arith)) (drop-take size (n * size) bytes)
    ∙ ap (λ (bs : List (List ℕ)). take size bytes ∷ bs) (blocks_take size n (drop size bytes))

-- what is read of blocks
pub blocks_read : (size n lba count : ℕ) (bytes : List ℕ) → lba + count ≤ n → concat (take count (drop lba (blocks_of size n bytes))) ≡ take (count * size) (drop (lba * size) bytes)
blocks_read size n lba count bytes inside =
    let rest : ℕ = n - (lba + count) in
    let all : n ≡ lba + (count + rest) = omega (arith, inside) in
    ap (λ (m : ℕ). concat (take count (drop lba (blocks_of size m bytes)))) all
    ∙ ap (λ (bs : List (List ℕ)). concat (take count bs)) (drop_blocks size lba (count + rest) bytes)
    ∙ ap concat (take_blocks size count rest (drop (lba * size) bytes))
    ∙ concat_blocks size count (drop (lba * size) bytes)

-- what is written in blocks
pub blocks_written : (size n lba count : ℕ) (new bytes : List ℕ) → lba + count ≤ n → length bytes ≡ n * size → length new ≡ count * size
    → blocks_of size n (written (lba * size) new bytes) ≡ take lba (blocks_of size n bytes) ++ blocks_of size count new ++ drop (lba + count) (blocks_of size n bytes)
blocks_written size n lba count new bytes inside long e =
    let rest : ℕ = n - (lba + count) in
    let all : n ≡ lba + (count + rest) = omega (arith, inside) in
    let all' : n ≡ (lba + count) + rest = omega (arith, inside) in
    let parts : lba * size + count * size ≡ (lba + count) * size = sym (add-mul lba count size) in
    let fits : (lba + count) * size ≤ n * size = mul-le-mul_right size inside in
    let front : length (take (lba * size) bytes) ≡ lba * size = length-take-le (lba * size) bytes (omega (arith, parts, fits, long)) in
    let end : lba * size + length new ≡ (lba + count) * size = omega (arith, e, parts) in
    let before : blocks_of size lba (take (lba * size) bytes) ≡ take lba (blocks_of size n bytes) = blocks_take size lba bytes ∙ sym (ap (λ (m : ℕ). take lba (blocks_of size m bytes)) all ∙ take_blocks size lba (count + rest) bytes) in
    let behind : blocks_of size rest (drop (lba * size + length new) bytes) ≡ drop (lba + count) (blocks_of size n bytes) =
    ap (λ (m : ℕ). blocks_of size rest (drop m bytes)) end ∙ sym (ap (λ (m : ℕ). drop (lba + count) (blocks_of size m bytes)) all' ∙ drop_blocks size (lba + count) rest bytes) in
    ap (λ (m : ℕ). blocks_of size m (written (lba * size) new bytes)) all
    ∙ blocks_append size lba (count + rest) (take (lba * size) bytes) (new ++ drop (lba * size + length new) bytes) front
    ∙ ap (λ (bs : List (List ℕ)). blocks_of size lba (take (lba * size) bytes) ++ bs) (blocks_append size count rest new (drop (lba * size + length new) bytes) e)
    ∙ ap₂ (λ (xs ys : List (List ℕ)). xs ++ (blocks_of size count new ++ ys)) before behind
    ∙ sym (append_assoc (take lba (blocks_of size n bytes)) (blocks_of size count new) (drop (lba + count) (blocks_of size n bytes)))

-- zeros as blocks
pub blocks_zeros : (size n len : ℕ) → n * size ≤ len → blocks_of size n (replicate len 0) ≡ replicate n (replicate size 0)
blocks_zeros size zero len inside = refl
blocks_zeros size (suc n) len inside =
    let zeros : ℕ → List ℕ = λ k. replicate k 0 in
    let parts = suc-mul n size in
    ap₂ (λ (b r : List ℕ). b ∷ blocks_of size n r) (take-replicate size len 0 (omega (arith, inside, parts))) (drop-replicate size len 0)
    ∙ ap (λ (bs : List (List ℕ)). zeros size ∷ bs) (blocks_zeros size n (len - size) (omega (arith, inside, parts)))

pub zeroed_blocks : (size n : ℕ) (bytes : List ℕ) → n * size ≤ length bytes → zeroed (blocks_of size n bytes) ≡ replicate n (replicate size 0)
zeroed_blocks size zero bytes inside = refl
zeroed_blocks size (suc n) bytes inside =
    let parts = suc-mul n size in
    let first : length (take size bytes) ≡ size = length-take-le size bytes (omega (arith, inside, parts)) in
    ap₂ (λ (k : ℕ) (bs : List (List ℕ)). let b : List ℕ = replicate k 0 in b ∷ bs) first (zeroed_blocks size n (drop size bytes) (omega (arith, inside, parts, length-drop size bytes)))

-- each block has its size
pub blocks_even : (size n : ℕ) (bytes : List ℕ) → length bytes ≡ n * size → (k : ℕ) (d : List ℕ) → k < length (blocks_of size n bytes) → length (get_or (blocks_of size n bytes) k d) ≡ size
blocks_even size zero bytes e k d lt = absurd (omega (arith, lt))
blocks_even size (suc n) bytes e zero d lt =
    let parts = suc-mul n size in
    length-take-le size bytes (omega (arith, e, parts))
blocks_even size (suc n) bytes e (suc k) d lt =
    let parts = suc-mul n size in
    blocks_even size n (drop size bytes) (omega (arith, e, parts, length-drop size bytes)) k d (omega (arith, lt))
