-- Bytes of blocks of one size: taken and dropped block by block, and written over.
use Rattle.std.proofs.Common.{◌≡◌, ℕ, zero, suc, ◌+◌, ◌*◌, List, [], ◌∷◌, ◌++◌, length, take, drop, refl, sym, ◌∙◌, ap, arith, append_assoc, append-nil}
use Rattle.std.specs.List.{concat}
use Rattle.std.proofs.lemmas.List.{drop-drop, length-append, length-drop, length-take-le, take-append-drop}
use Rattle.std.proofs.lemmas.List.Folds.{concat-append}
use Rattle.std.proofs.Math.Nat.{add-mul, suc-mul, zero-mul}
use Rattle.bd_outside.specs.Disk.{overwritten}
use Rattle.bd_disks.specs.Holding.{AreOfSize, in_blocks}

take_none : {A : Type 0} → (xs : List A) → take 0 xs ≡ []
take_none [] = refl
take_none (x ∷ xs) = refl

take_nil : (n : ℕ) → take {A = ℕ} n [] ≡ []
take_nil zero = refl
take_nil (suc n) = refl

drop_nil : (n : ℕ) → drop {A = ℕ} n [] ≡ []
drop_nil zero = refl
drop_nil (suc n) = refl

take_front : (b xs : List ℕ) (m : ℕ) → take (length b + m) (b ++ xs) ≡ b ++ take m xs
take_front [] xs m = ap (λ (k : ℕ). take k xs) (omega arith)
take_front (x ∷ b) xs m =
    let e : length (x ∷ b) + m ≡ suc (length b + m) = omega arith in
    ap (λ (k : ℕ). take k (x ∷ b ++ xs)) e ∙ ap (λ (ys : List ℕ). x ∷ ys) (take_front b xs m)

drop_front : (b xs : List ℕ) (m : ℕ) → drop (length b + m) (b ++ xs) ≡ drop m xs
drop_front [] xs m = ap (λ (k : ℕ). drop k xs) (omega arith)
drop_front (x ∷ b) xs m =
    let e : length (x ∷ b) + m ≡ suc (length b + m) = omega arith in
    ap (λ (k : ℕ). drop k (x ∷ b ++ xs)) e ∙ drop_front b xs m

pub next_block : (n size : ℕ) (b : List ℕ) → length b ≡ size → suc n * size ≡ length b + n * size
next_block n size b e =
    let s : suc n * size ≡ n * size + size = suc-mul n size in
    omega (arith, s, e)

pub take_blocks : (size n : ℕ) (bs : List (List ℕ)) → AreOfSize size bs → take (n * size) (concat bs) ≡ concat (take n bs)
take_blocks size zero bs h = ap (λ (k : ℕ). take k (concat bs)) (zero-mul size) ∙ take_none (concat bs) ∙ sym (ap concat (take_none bs))
take_blocks size (suc n) [] h = take_nil (suc n * size)
take_blocks size (suc n) (b ∷ bs) h =
    ap (λ (k : ℕ). take k (b ++ concat bs)) (next_block n size b h.0) ∙ take_front b (concat bs) (n * size)
    ∙ ap (λ (xs : List ℕ). b ++ xs) (take_blocks size n bs h.1)

pub drop_blocks : (size n : ℕ) (bs : List (List ℕ)) → AreOfSize size bs → drop (n * size) (concat bs) ≡ concat (drop n bs)
drop_blocks size zero bs h = ap (λ (k : ℕ). drop k (concat bs)) (zero-mul size)
drop_blocks size (suc n) [] h = drop_nil (suc n * size)
drop_blocks size (suc n) (b ∷ bs) h =
    ap (λ (k : ℕ). drop k (b ++ concat bs)) (next_block n size b h.0) ∙ drop_front b (concat bs) (n * size) ∙ drop_blocks size n bs h.1

pub length_blocks : (size : ℕ) (bs : List (List ℕ)) → AreOfSize size bs → length (concat bs) ≡ length bs * size
length_blocks size [] h = sym (zero-mul size)
length_blocks size (b ∷ bs) h =
    length-append b (concat bs) ∙ ap (λ (k : ℕ). length b + k) (length_blocks size bs h.1) ∙ sym (next_block (length bs) size b h.0)

pub sizes_take : (size n : ℕ) (bs : List (List ℕ)) → AreOfSize size bs → AreOfSize size (take n bs)
sizes_take size zero [] h = tt
sizes_take size zero (b ∷ bs) h = tt
sizes_take size (suc n) [] h = tt
sizes_take size (suc n) (b ∷ bs) h = (h.0, sizes_take size n bs h.1)

pub sizes_drop : (size n : ℕ) (bs : List (List ℕ)) → AreOfSize size bs → AreOfSize size (drop n bs)
sizes_drop size zero bs h = h
sizes_drop size (suc n) [] h = tt
sizes_drop size (suc n) (b ∷ bs) h = sizes_drop size n bs h.1

pub sizes_append : (size : ℕ) (xs ys : List (List ℕ)) → AreOfSize size xs → AreOfSize size ys → AreOfSize size (xs ++ ys)
sizes_append size [] ys h k = k
sizes_append size (x ∷ xs) ys h k = (h.0, sizes_append size xs ys h.1 k)

-- blocks written over those of a range
pub written_blocks : (size lba count : ℕ) (bs ns : List (List ℕ)) → AreOfSize size bs → length (concat ns) ≡ count * size
    → overwritten (concat bs) (lba * size) (concat ns) ≡ concat (take lba bs ++ ns ++ drop (lba + count) bs)
written_blocks size lba count bs ns h l =
    let place : lba * size + length (concat ns) ≡ (lba + count) * size = ap (λ (m : ℕ). lba * size + m) l ∙ sym (add-mul lba count size) in
    let front : List ℕ = take (lba * size) (concat bs) in
    let behind : drop (lba * size + length (concat ns)) (concat bs) ≡ concat (drop (lba + count) bs) =
    ap (λ (k : ℕ). drop k (concat bs)) place ∙ drop_blocks size (lba + count) bs h
    in
    ap (λ (ys : List ℕ). front ++ concat ns ++ ys) behind
    ∙ ap (λ (xs : List ℕ). xs ++ concat ns ++ concat (drop (lba + count) bs)) (take_blocks size lba bs h)
    ∙ ap (λ (xs : List ℕ). xs ++ concat (drop (lba + count) bs)) (sym (concat-append (take lba bs) ns))
    ∙ sym (concat-append (take lba bs ++ ns) (drop (lba + count) bs))

-- the blocks before a range, its own and those after are all blocks
pub all_blocks : (lba count : ℕ) (bs : List (List ℕ)) → take lba bs ++ take count (drop lba bs) ++ drop (lba + count) bs ≡ bs
all_blocks lba count bs =
    append_assoc (take lba bs) (take count (drop lba bs)) (drop (lba + count) bs)
    ∙ ap (λ (ys : List (List ℕ)). take lba bs ++ (take count (drop lba bs) ++ ys)) (sym (drop-drop count lba bs))
    ∙ ap (λ (ys : List (List ℕ)). take lba bs ++ ys) (take-append-drop count (drop lba bs))
    ∙ take-append-drop lba bs

-- ---- bytes cut into blocks

no_bytes : (bytes : List ℕ) → length bytes ≡ 0 → [] ≡ bytes
no_bytes [] h = refl
no_bytes (x ∷ xs) h = absurd (omega (arith, h))

length_rest : (size n : ℕ) (bytes : List ℕ) → length bytes ≡ suc n * size → length (drop size bytes) ≡ n * size
length_rest size n bytes h =
    let s : suc n * size ≡ n * size + size = suc-mul n size in
    omega (arith, s, h, length-drop size bytes)

pub concat_in_blocks : (size n : ℕ) (bytes : List ℕ) → length bytes ≡ n * size → concat (in_blocks size n bytes) ≡ bytes
concat_in_blocks size zero bytes h = no_bytes bytes (h ∙ zero-mul size)
concat_in_blocks size (suc n) bytes h =
    ap (λ (xs : List ℕ). take size bytes ++ xs) (concat_in_blocks size n (drop size bytes) (length_rest size n bytes h)) ∙ take-append-drop size bytes

pub length_in_blocks : (size n : ℕ) (bytes : List ℕ) → length (in_blocks size n bytes) ≡ n
length_in_blocks size zero bytes = refl
length_in_blocks size (suc n) bytes = ap suc (length_in_blocks size n (drop size bytes))

pub sizes_in_blocks : (size n : ℕ) (bytes : List ℕ) → length bytes ≡ n * size → AreOfSize size (in_blocks size n bytes)
sizes_in_blocks size zero bytes h = tt
sizes_in_blocks size (suc n) bytes h =
    let s : suc n * size ≡ n * size + size = suc-mul n size in
    (length-take-le size bytes (omega (arith, s, h)), sizes_in_blocks size n (drop size bytes) (length_rest size n bytes h))

pub in_blocks_concat : (size : ℕ) (bs : List (List ℕ)) → AreOfSize size bs → in_blocks size (length bs) (concat bs) ≡ bs
in_blocks_concat size [] h = refl
in_blocks_concat size (b ∷ bs) h =
    let here : size ≡ length b + 0 = omega (arith, h.0) in
    let first : take size (b ++ concat bs) ≡ b =
    ap (λ (k : ℕ). take k (b ++ concat bs)) here ∙ take_front b (concat bs) 0 ∙ ap (λ (xs : List ℕ). b ++ xs) (take_none (concat bs)) ∙ append-nil b
    in
    let rest : drop size (b ++ concat bs) ≡ concat bs = ap (λ (k : ℕ). drop k (b ++ concat bs)) here ∙ drop_front b (concat bs) 0 in
    ap (λ (x : List ℕ). x ∷ in_blocks size (length bs) (drop size (b ++ concat bs))) first
    ∙ ap (λ (xs : List ℕ). b ∷ in_blocks size (length bs) xs) rest
    ∙ ap (λ (ys : List (List ℕ)). b ∷ ys) (in_blocks_concat size bs h.1)
