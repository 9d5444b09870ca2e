-- A place among the pieces into which bytes are cut.
use Rattle.std.proofs.Common.{◌≡◌, ℕ, zero, suc, ◌+◌, ◌-◌, ◌*◌, ◌/◌, ◌<◌, ◌≤◌, min, List, [], ◌∷◌, ◌++◌, length, take, drop, get_or, set, refl, sym, ◌∙◌, ap, subst, arith, length-append}
use Rattle.std.specs.List.{concat}
use Rattle.std.proofs.lemmas.List.{take-append-le, drop-append-le, length-drop}
use Rattle.bd_pages.specs.Bytes.{written}
use Rattle.bd_pages.specs.Table.{IsCut, pages_of}
use Rattle.bd_pages.proofs.Splices.{drop_past, written_past, written_front}

-- all pieces have all bytes
pub cut_length : (len : ℕ) (bs : List (List ℕ)) → IsCut len bs → length (concat bs) ≡ len
cut_length len [] c = sym c
cut_length len (b ∷ bs) c =
    let rest = cut_length (len - 65536) bs c.2 in
    let here = c.1 in
    omega (arith, here, rest, length-append b (concat bs))

-- a piece in place of one as long
pub cut_set : (len : ℕ) (bs : List (List ℕ)) (n : ℕ) (b : List ℕ) → IsCut len bs → length b ≡ length (get_or bs n b) → IsCut len (set bs n b)
cut_set len [] n b c e = c
cut_set len (x ∷ bs) zero b c e = (c.0, e ∙ c.1, c.2)
cut_set len (x ∷ bs) (suc n) b c e = (c.0, c.1, cut_set (len - 65536) bs n b c.2 e)

-- a byte that is there has its piece
pub piece_there : (len : ℕ) (bs : List (List ℕ)) (n : ℕ) → IsCut len bs → 65536 * n < len → n < length bs
piece_there len [] n c lt = absurd (omega (arith, c, lt))
piece_there len (b ∷ bs) zero c lt = omega arith
piece_there len (b ∷ bs) (suc n) c lt = let rest = piece_there (len - 65536) bs n c.2 (omega (arith, lt)) in omega (arith, rest)

pub piece_length : (len : ℕ) (bs : List (List ℕ)) (n : ℕ) (d : List ℕ) → IsCut len bs → n < length bs → length (get_or bs n d) ≡ min 65536 (len - 65536 * n)
piece_length len [] n d c lt = absurd (omega (arith, lt))
piece_length len (b ∷ bs) zero d c lt = let here = c.1 in omega (arith, here)
piece_length len (b ∷ bs) (suc n) d c lt = let rest = piece_length (len - 65536) bs n d c.2 (omega (arith, lt)) in omega (arith, rest)

-- a piece before another is full
full : (len : ℕ) (b : List ℕ) (bs : List (List ℕ)) (n : ℕ) → IsCut len (b ∷ bs) → n < length bs → length b ≡ 65536
full len b [] n c lt = absurd (omega (arith, lt))
full len b (x ∷ bs) n c lt = let here = c.1 in let more = c.2.0 in omega (arith, here, more)

-- what is read within one piece
pub read_at : (len : ℕ) (bs : List (List ℕ)) (n a k at : ℕ) (d : List ℕ) → IsCut len bs → n < length bs → a + k ≤ length (get_or bs n d) → at ≡ 65536 * n + a
    → take k (drop at (concat bs)) ≡ take k (drop a (get_or bs n d))
read_at len [] n a k at d c lt inside e = absurd (omega (arith, lt))
read_at len (b ∷ bs) zero a k at d c lt inside e =
    let same : at ≡ a = omega (arith, e) in
    let before : a ≤ length b = omega (arith, inside) in
    let left : k ≤ length (drop a b) = omega (arith, inside, length-drop a b) in
    ap (λ (m : ℕ). take k (drop m (b ++ concat bs))) same
    ∙ ap (λ (xs : List ℕ). take k xs) (drop-append-le a b (concat bs) before)
    ∙ take-append-le k (drop a b) (concat bs) left
read_at len (b ∷ bs) (suc n) a k at d c lt inside e =
    let lt' : n < length bs = omega (arith, lt) in
    let whole = full len b bs n c lt' in
    ap (λ (xs : List ℕ). take k xs) (drop_past b (concat bs) (65536 * n + a) at (omega (arith, e, whole)))
    ∙ read_at (len - 65536) bs n a k (65536 * n + a) d c.2 lt' inside refl

-- what is written within one piece
pub set_at : (len : ℕ) (bs : List (List ℕ)) (n a at : ℕ) (new b : List ℕ) → IsCut len bs → n < length bs → a + length new ≤ length (get_or bs n b) → at ≡ 65536 * n + a
    → b ≡ written a new (get_or bs n b) → concat (set bs n b) ≡ written at new (concat bs)
set_at len [] n a at new b c lt inside e is = absurd (omega (arith, lt))
set_at len (x ∷ bs) zero a at new b c lt inside e is =
    let same : a ≡ at = omega (arith, e) in
    ap (λ (ys : List ℕ). ys ++ concat bs) is
    ∙ written_front x (concat bs) new a inside
    ∙ ap (λ (m : ℕ). written m new (x ++ concat bs)) same
set_at len (x ∷ bs) (suc n) a at new b c lt inside e is =
    let lt' : n < length bs = omega (arith, lt) in
    let whole = full len x bs n c lt' in
    ap (λ (ys : List ℕ). x ++ ys) (set_at (len - 65536) bs n a (65536 * n + a) new b c.2 lt' inside refl is)
    ∙ written_past x (concat bs) new (65536 * n + a) at (omega (arith, e, whole))

-- where a range ends there is a piece, or the end
covers : (len : ℕ) (bs : List (List ℕ)) → IsCut len bs → len ≤ 65536 * length bs
covers len [] c = omega (arith, c)
covers len (b ∷ bs) c = let rest = covers (len - 65536) bs c.2 in omega (arith, rest)

pub end_inside : (len : ℕ) (bs : List (List ℕ)) (at n : ℕ) → IsCut len bs → at + n ≤ len → at / 65536 + pages_of at n ≤ length bs
end_inside len bs at zero c inside = let all = covers len bs c in omega (arith, inside, all)
end_inside len bs at (suc m) c inside =
    let there = piece_there len bs ((at + m) / 65536) c (omega (arith, inside)) in
    let order : at / 65536 ≤ (at + m) / 65536 = omega arith in
    omega (arith, there, order)

-- one page more of zeros
pub pages_step : (left count : ℕ) → 0 < left → count ≡ min left 65536 → pages_of 0 left ≡ suc (pages_of 0 (left - count))
pages_step left count some e = go left (left - count) refl some e
  where
    go : (left rest : ℕ) → rest ≡ left - count → 0 < left → count ≡ min left 65536 → pages_of 0 left ≡ suc (pages_of 0 rest)
    go zero rest is some e = absurd (omega (arith, some))
    go (suc m) zero is some e = omega (arith, is, e)
    go (suc m) (suc j) is some e = omega (arith, is, e)

-- one piece more
pub cut_more : (left count : ℕ) (b : List ℕ) (rest : List (List ℕ)) → 0 < left → count ≡ min left 65536 → length b ≡ count → IsCut (left - count) rest → IsCut left (b ∷ rest)
cut_more left count b rest some e long c =
    let less : left - count ≡ left - 65536 = omega (arith, e) in
    (some, omega (arith, e, long), subst (λ (n : ℕ). IsCut n rest) less c)
