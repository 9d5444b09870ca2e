-- What a write of a seed puts into blocks, block by block and as bytes.
use Rattle.std.proofs.Common.{◌≡◌, ℕ, zero, suc, ◌+◌, ◌-◌, ◌*◌, ◌%◌, ◌/◌, ◌<◌, ◌≤◌, Bool, true, false, cond, List, [], ◌∷◌, ◌++◌, length, take, drop, replicate, refl, sym, ◌∙◌, ap, ap₂, subst, append_assoc, arith, length-append}
use Rattle.std.specs.List.{concat}
use Rattle.std.proofs.Math.Nat.{suc-mul, mul-le-mul_right}
use Rattle.std.proofs.lemmas.List.{append-nil, length-replicate, length-map, length-take-le, take_at, drop_at}
use Rattle.bd_base.specs.Pattern.{pattern, pattern_byte}
use Rattle.bd_base.specs.declared.request.Fill.{Fill}
use Rattle.bd_pages.specs.Bytes.{written}
use Rattle.bd_pages.specs.Fills.{bytes_filled, filled, patterned, patterns, turned, turned_block}
use Rattle.bd_pages.specs.Pages.{blocks_of, cut_as}
use Rattle.bd_pages.specs.Leaf.{Leaf}
use Rattle.bd_pages.specs.Table.{AreTaken, IsPaged, flat, marks, pages_of, pieces}
use Rattle.bd_pages.proofs.Cuts.{end_inside}
use Rattle.bd_pages.proofs.Steps.{taken_same}
use Rattle.bd_pages.proofs.Even.{Even, even_cut}
use Rattle.bd_pages.proofs.Splices.{drop_past}

-- ---- a block of a pattern

pub pattern_length : (seed n k : ℕ) → length (pattern seed n k) ≡ k
pattern_length seed n zero = refl
pattern_length seed n (suc k) =
    let before = pattern_length seed n k in
    omega (arith, before, length-append (pattern seed n k) (pattern_byte seed n k ∷ []))

byte_shifted : (seed n from i : ℕ) → pattern_byte (seed % 256 + 7 * (from % 256)) n i ≡ pattern_byte seed n (from + i)
byte_shifted seed n from i = omega arith

-- from a byte on it is the pattern of another seed
pub pattern_more : (seed n from k total : ℕ) → total ≡ from + k → pattern seed n from ++ pattern (seed % 256 + 7 * (from % 256)) n k ≡ pattern seed n total
pattern_more seed n from zero total e = let same : from ≡ total = omega (arith, e) in append-nil (pattern seed n from) ∙ ap (λ (m : ℕ). pattern seed n m) same
pattern_more seed n from (suc k) total e =
    let next : total ≡ suc (from + k) = omega (arith, e) in
    let last : ℕ → List ℕ = λ b. b ∷ [] in
    let other : ℕ = seed % 256 + 7 * (from % 256) in
    sym (append_assoc (pattern seed n from) (pattern other n k) (last (pattern_byte other n k)))
    ∙ ap₂ (λ (xs : List ℕ) (b : ℕ). xs ++ last b) (pattern_more seed n from k (from + k) refl) (byte_shifted seed n from k)
    ∙ ap (λ (m : ℕ). pattern seed n m) (sym next)

-- ---- blocks one after another

-- one block more at the end
pub patterns_more : (seed n size k : ℕ) → patterns seed n size k ++ pattern seed (n + k) size ≡ patterns seed n size (suc k)
patterns_more seed n size zero =
    let same : n + 0 ≡ n = omega arith in
    ap₂ (λ (m l : ℕ). pattern seed m l) same (sym (length-replicate size 0)) ∙ sym (append-nil (pattern seed n (length (replicate {A = ℕ} size 0))))
patterns_more seed n size (suc k) =
    let first : List ℕ = pattern seed n (length (replicate {A = ℕ} size 0)) in
    let same : n + suc k ≡ n + 1 + k = omega arith in
    ap (λ (m : ℕ). (first ++ patterns seed (n + 1) size k) ++ pattern seed m size) same
    ∙ append_assoc first (patterns seed (n + 1) size k) (pattern seed (n + 1 + k) size)
    ∙ ap (λ (xs : List ℕ). first ++ xs) (patterns_more seed (n + 1) size k)

-- the blocks of two spans, one after the other
pub patterns_both : (seed n size a b : ℕ) → patterns seed n size a ++ patterns seed (n + a) size b ≡ patterns seed n size (a + b)
patterns_both seed n size zero b =
    let here : n + 0 ≡ n = omega arith in
    let all : b ≡ 0 + b = omega arith in
    ap (λ (m : ℕ). patterns seed m size b) here ∙ ap (λ (m : ℕ). patterns seed n size m) all
patterns_both seed n size (suc a) b =
    let first : List ℕ = pattern seed n (length (replicate {A = ℕ} size 0)) in
    let place : n + suc a ≡ n + 1 + a = omega arith in
    let all : suc (a + b) ≡ suc a + b = omega arith in
    ap (λ (m : ℕ). (first ++ patterns seed (n + 1) size a) ++ patterns seed m size b) place
    ∙ append_assoc first (patterns seed (n + 1) size a) (patterns seed (n + 1 + a) size b)
    ∙ ap (λ (xs : List ℕ). first ++ xs) (patterns_both seed (n + 1) size a b)
    ∙ ap (λ (m : ℕ). patterns seed n size m) all

-- one block alone
pub patterns_one : (seed n size : ℕ) → pattern seed n size ≡ patterns seed n size 1
patterns_one seed n size = let same : n ≡ n + 0 = omega arith in ap (λ (m : ℕ). pattern seed m size) same ∙ patterns_more seed n size 0

pub patterns_length : (seed n size k : ℕ) → length (patterns seed n size k) ≡ k * size
patterns_length seed n size zero = omega arith
patterns_length seed n size (suc k) =
    let zeros : List ℕ = replicate size 0 in
    let here = pattern_length seed n (length zeros) ∙ length-replicate size 0 in
    let others = patterns_length seed (n + 1) size k in
    omega (arith, here, others, suc-mul k size, length-append (pattern seed n (length zeros)) (patterns seed (n + 1) size k))

turned_block_length : (b : List ℕ) → length (turned_block b) ≡ length b
turned_block_length [] = refl
turned_block_length (x ∷ xs) = refl

pub filled_length : (fill : Fill) (n size k : ℕ) → length (bytes_filled fill n size k) ≡ k * size
filled_length fill n size k = go fill.flip
  where
    go : (b : Bool) → length (cond b (turned_block (patterns fill.seed n size k)) (patterns fill.seed n size k)) ≡ k * size
    go true = turned_block_length (patterns fill.seed n size k) ∙ patterns_length fill.seed n size k
    go false = patterns_length fill.seed n size k

-- ---- blocks that are as long as others

-- as many blocks, each as long as that at its place
abbrev pub AreAsLong : List (List ℕ) → List (List ℕ) → Type 0
AreAsLong [] ys = ys ≡ []
AreAsLong (x ∷ xs) [] = ⊥
AreAsLong (x ∷ xs) (y ∷ ys) = (length x ≡ length y) × AreAsLong xs ys

-- bytes that are cut where the blocks ended from which they came are those blocks
cut_concat : (xs ys : List (List ℕ)) → AreAsLong xs ys → cut_as ys (concat xs) ≡ xs
cut_concat [] ys h = ap (λ (zs : List (List ℕ)). cut_as zs []) h
cut_concat (x ∷ xs) [] h = absurd h
cut_concat (x ∷ xs) (y ∷ ys) h =
    ap₂ (λ (b r : List ℕ). b ∷ cut_as ys r) (take_at x (concat xs) (length y) h.0) (drop_at x (concat xs) (length y) h.0)
    ∙ ap (λ (bs : List (List ℕ)). x ∷ bs) (cut_concat xs ys h.1)

patterned_long : (seed n : ℕ) (bs : List (List ℕ)) → AreAsLong (patterned seed n bs) bs
patterned_long seed n [] = refl
patterned_long seed n (b ∷ bs) = (pattern_length seed n (length b), patterned_long seed (n + 1) bs)

turned_long : (xs ys : List (List ℕ)) → AreAsLong xs ys → AreAsLong (turned xs) ys
turned_long [] ys h = h
turned_long (x ∷ xs) [] h = absurd h
turned_long (x ∷ xs) (y ∷ ys) h = (turned_block_length x ∙ h.0, h.1)

-- ---- blocks of one size

patterned_even : (seed n size : ℕ) (bs : List (List ℕ)) → Even size bs → patterned seed n (replicate (length bs) (replicate size 0)) ≡ patterned seed n bs
patterned_even seed n size [] even = refl
patterned_even seed n size (b ∷ bs) even =
    let zeros : List ℕ = replicate size 0 in
    let here : length b ≡ size = even 0 [] (omega arith) in
    let same : length zeros ≡ length b = length-replicate size 0 ∙ sym here in
    let others : Even size bs = λ k d lt. even (suc k) d (omega (arith, lt)) in
    ap₂ (λ (k : ℕ) (ps : List (List ℕ)). pattern seed n k ∷ ps) same (patterned_even seed (n + 1) size bs others)

none : (seed n k : ℕ) → patterns seed n 0 k ≡ []
none seed n zero = refl
none seed n (suc k) = none seed (n + 1) k

turned_front : (b ys : List ℕ) → 0 < length b → turned_block (b ++ ys) ≡ turned_block b ++ ys
turned_front [] ys h = absurd (omega (arith, h))
turned_front (x ∷ xs) ys h = refl

-- byte 0 of all bytes is that of the first block
turned_concat : (seed n size k : ℕ) → turned_block (patterns seed n size k) ≡ concat (turned (patterned seed n (replicate k (replicate size 0))))
turned_concat seed n size zero = refl
turned_concat seed n zero (suc k) = ap turned_block (none seed (n + 1) k) ∙ sym (none seed (n + 1) k)
turned_concat seed n (suc size) (suc k) =
    let zeros : List ℕ = replicate (suc size) 0 in
    let long : length (pattern seed n (length zeros)) ≡ suc size = pattern_length seed n (length zeros) ∙ length-replicate (suc size) 0 in
    turned_front (pattern seed n (length zeros)) (patterns seed (n + 1) (suc size) k) (omega (arith, long))

-- the bytes of a write, cut into blocks, are what it puts in place of blocks of that size
pub filled_blocks : (fill : Fill) (n size : ℕ) (bs : List (List ℕ)) → Even size bs → blocks_of size (length bs) (bytes_filled fill n size (length bs)) ≡ filled fill n bs
filled_blocks fill n size bs even = even_cut size bs (bytes_filled fill n size (length bs)) even ∙ go fill.flip
  where
    same : patterned fill.seed n (replicate (length bs) (replicate size 0)) ≡ patterned fill.seed n bs
    same = patterned_even fill.seed n size bs even

    go : (b : Bool) → cut_as bs (cond b (turned_block (patterns fill.seed n size (length bs))) (patterns fill.seed n size (length bs))) ≡ cond b (turned (patterned fill.seed n bs)) (patterned fill.seed n bs)
    go true =
        ap (λ (xs : List ℕ). cut_as bs xs) (turned_concat fill.seed n size (length bs) ∙ ap (λ (ps : List (List ℕ)). concat (turned ps)) same)
        ∙ cut_concat (turned (patterned fill.seed n bs)) bs (turned_long (patterned fill.seed n bs) bs (patterned_long fill.seed n bs))
    go false = ap (λ (ps : List (List ℕ)). cut_as bs (concat ps)) same ∙ cut_concat (patterned fill.seed n bs) bs (patterned_long fill.seed n bs)

-- ---- byte 0, written after the rest

pattern_first : (seed n k : ℕ) → pattern seed n (suc k) ≡ pattern_byte seed n 0 ∷ pattern (seed % 256 + 7 * (1 % 256)) n k
pattern_first seed n k = sym (pattern_more seed n 1 k (suc k) (omega arith))

pub patterns_first : (seed n size k : ℕ) → 0 < k * size → (rest : List ℕ) × (patterns seed n size k ≡ pattern_byte seed n 0 ∷ rest)
patterns_first seed n size zero some = let nothing : 0 * size ≡ 0 = omega arith in absurd (omega (arith, some, nothing))
patterns_first seed n zero (suc k) some = let nothing : suc k * 0 ≡ 0 = omega arith in absurd (omega (arith, some, nothing))
patterns_first seed n (suc size) (suc k) some =
    let others : List ℕ = patterns seed (n + 1) (suc size) k in
    let long : ℕ = length (replicate {A = ℕ} size 0) in
    (pattern (seed % 256 + 7 * (1 % 256)) n long ++ others, ap (λ (b : List ℕ). b ++ others) (pattern_first seed n long))

turned_front_written : (at x : ℕ) (rest old : List ℕ) → at + length (x ∷ rest) ≤ length old → written at ((255 - x) ∷ []) (written at (x ∷ rest) old) ≡ written at ((255 - x) ∷ rest) old
turned_front_written at x rest old inside =
    let front : length (take at old) ≡ at = length-take-le at old (omega (arith, inside)) in
    let behind : List ℕ = drop (at + length (x ∷ rest)) old in
    ap₂ (λ (a z : List ℕ). a ++ ((255 - x) ∷ z)) (take_at (take at old) ((x ∷ rest) ++ behind) at front) (drop_past (take at old) ((x ∷ rest) ++ behind) 1 (at + 1) (omega (arith, front)))

pub turned_written : (at x : ℕ) (rest b old : List ℕ) → b ≡ x ∷ rest → at + length b ≤ length old → written at ((255 - x) ∷ []) (written at b old) ≡ written at (turned_block b) old
turned_written at x rest b old e inside =
    ap (λ (c : List ℕ). written at ((255 - x) ∷ []) (written at c old)) e
    ∙ turned_front_written at x rest old (subst (λ (c : List ℕ). at + length c ≤ length old) e inside)
    ∙ sym (ap (λ (c : List ℕ). written at (turned_block c) old) e)

pub turned_none : (b : List ℕ) → length b ≡ 0 → turned_block b ≡ b
turned_none [] e = refl
turned_none (x ∷ xs) e = absurd (omega (arith, e))

-- a range within another is on its pages
pub on_pages : (at n place m j : ℕ) → at ≤ place → place + m ≤ at + n → place / 65536 ≤ j → j < place / 65536 + pages_of place m → (at / 65536 ≤ j) × (j < at / 65536 + pages_of at n)
on_pages at n place zero j from to low high = absurd (omega (arith, low, high))
on_pages at zero place (suc m) j from to low high = absurd (omega (arith, from, to))
on_pages at (suc n) place (suc m) j from to low high =
    let first : at / 65536 ≤ place / 65536 = omega (arith, from) in
    let last : (place + m) / 65536 ≤ (at + n) / 65536 = omega (arith, to) in
    let within : place / 65536 ≤ (place + m) / 65536 = omega arith in
    let all : at / 65536 ≤ (at + n) / 65536 = omega arith in
    (omega (arith, low, first), omega (arith, high, last, within, all))

-- one block more of a span
pub next_inside : (k count size : ℕ) → k < count → k * size + size ≤ count * size
next_inside k count size lt =
    let le = mul-le-mul_right {m = suc k} {n = count} size (omega (arith, lt)) in
    omega (arith, le, suc-mul k size)

-- the blocks of a span before a place, and those from there on
pub span_parts : (done count size : ℕ) → done ≤ count → done * size + (count - done) * size ≡ count * size
span_parts zero count size le =
    let same : count - 0 ≡ count = omega arith in
    let left = ap (λ (n : ℕ). n * size) same in
    let none : 0 * size ≡ 0 = omega arith in
    omega (arith, none, left)
span_parts (suc done) zero size le = absurd (omega (arith, le))
span_parts (suc done) (suc count) size le =
    let before = span_parts done count size (omega (arith, le)) in
    let same : suc count - suc done ≡ count - done = omega arith in
    let left = ap (λ (n : ℕ). n * size) same in
    omega (arith, before, left, suc-mul done size, suc-mul count size)

-- its pages are taken where those of the whole range were
pub range_taken : (at n place m : ℕ) (old new : List Leaf) → at ≤ place → place + m ≤ at + n → IsPaged old → at + n ≤ length (flat old) → marks new ≡ marks old
    → AreTaken (at / 65536) (at / 65536 + pages_of at n) old → AreTaken (place / 65536) (place / 65536 + pages_of place m) new
range_taken at n place m old new from to paged inside same ready j d low high =
    let on = on_pages at n place m j from to low high in
    let there = end_inside (length (flat old)) (pieces old) at n paged inside in
    taken_same old new j d same (omega (arith, there, on.1, length-map old (λ (p : Leaf). p.bytes)))
    ∙ ready j d on.0 on.1
