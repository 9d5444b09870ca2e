-- Zeros behind the bytes of pages.
use Rattle.std.proofs.Common.{◌≡◌, ℕ, zero, suc, ◌+◌, ◌-◌, ◌*◌, ◌/◌, ◌%◌, ◌<◌, ◌≤◌, min, Bool, false, List, [], ◌∷◌, ◌++◌, length, get_or, set, replicate, refl, sym, ◌∙◌, ap, ap₂, subst, append_assoc, arith, length-append}
use Rattle.std.proofs.lemmas.List.{append-nil, get_or_append_left, get_or-map, length-map, length-replicate, map-append, replicate-append-replicate}
use Rattle.std.specs.List.{concat}
use Rattle.std.proofs.Math.Nat.{add-mul, mul-le-mul_right}
use Rattle.bd_pages.specs.Leaf.{Leaf}
use Rattle.bd_pages.specs.Pages.{Paged, blocks_of, grown}
use Rattle.bd_pages.specs.Table.{IsCut, IsPaged, flat, marks, pages_of, pieces, untaken}
use Rattle.bd_pages.proofs.Chunks.{blocks_append, blocks_zeros, length_blocks}
use Rattle.bd_pages.proofs.Even.{Even}
use Rattle.bd_pages.proofs.Ranges.{seen, seen_length}
use Rattle.bd_pages.proofs.Cuts.{cut_length, piece_length}
use Rattle.bd_pages.proofs.Steps.{map_set, map_stays}

-- the last piece gets some bytes more, and others stand behind it
pub grown_concat : (bs zs : List (List ℕ)) (k : ℕ) (b d more : List ℕ) → length bs ≡ suc k → b ≡ get_or bs k d ++ more → concat (set (bs ++ zs) k b) ≡ concat bs ++ (more ++ concat zs)
grown_concat [] zs k b d more long is = absurd (omega (arith, long))
grown_concat (x ∷ []) zs zero b d more long is =
    ap (λ (ys : List ℕ). ys ++ concat zs) is ∙ append_assoc x more (concat zs) ∙ sym (append_assoc x [] (more ++ concat zs))
grown_concat (x ∷ []) zs (suc k) b d more long is = absurd (omega (arith, long))
grown_concat (x ∷ y ∷ bs) zs zero b d more long is = absurd (omega (arith, long))
grown_concat (x ∷ y ∷ bs) zs (suc k) b d more long is =
    ap (λ (ys : List ℕ). x ++ ys) (grown_concat (y ∷ bs) zs k b d more (omega (arith, long)) is)
    ∙ sym (append_assoc x (concat (y ∷ bs)) (more ++ concat zs))

pub grown_cut : (len more fit : ℕ) (bs zs : List (List ℕ)) (k : ℕ) (b d : List ℕ) → IsCut len bs → length bs ≡ suc k → length b ≡ length (get_or bs k d) + fit
    → fit ≡ min more ((65536 - len % 65536) % 65536) → IsCut (more - fit) zs → IsCut (len + more) (set (bs ++ zs) k b)
grown_cut len more fit [] zs k b d c long is e behind = absurd (omega (arith, long))
grown_cut len more fit (x ∷ []) zs zero b d c long is e behind =
    let some = c.0 in
    let here = c.1 in
    let last = c.2 in
    let rest : more - fit ≡ len + more - 65536 = omega (arith, e, some, last) in
    (omega (arith, some), omega (arith, some, here, last, is, e), subst (λ (n : ℕ). IsCut n zs) rest behind)
grown_cut len more fit (x ∷ []) zs (suc k) b d c long is e behind = absurd (omega (arith, long))
grown_cut len more fit (x ∷ y ∷ bs) zs zero b d c long is e behind = absurd (omega (arith, long))
grown_cut len more fit (x ∷ y ∷ bs) zs (suc k) b d c long is e behind =
    let some = c.0 in
    let here = c.1 in
    let next = c.2.0 in
    let same : fit ≡ min more ((65536 - (len - 65536) % 65536) % 65536) = omega (arith, e, next) in
    let whole : len - 65536 + more ≡ len + more - 65536 = omega (arith, next) in
    (omega (arith, some), omega (arith, here, next), subst (λ (n : ℕ). IsCut n (set ((y ∷ bs) ++ zs) k b)) whole (grown_cut (len - 65536) more fit (y ∷ bs) zs k b d c.2 (omega (arith, long)) is same behind))

-- how many pieces there are
pub cut_count : (len : ℕ) (bs : List (List ℕ)) → IsCut len bs → length bs ≡ pages_of 0 len
cut_count zero [] c = refl
cut_count (suc n) [] c = absurd (omega (arith, c))
cut_count zero (b ∷ bs) c = absurd (omega (arith, c.0))
cut_count (suc n) (b ∷ bs) c = go (suc n - 65536) refl (cut_count (suc n - 65536) bs c.2)
  where
    go : (rest : ℕ) → rest ≡ suc n - 65536 → length bs ≡ pages_of 0 rest → suc (length bs) ≡ (0 + n) / 65536 + 1 - 0 / 65536
    go zero is e = omega (arith, is, e)
    go (suc m) is e = omega (arith, is, e)

ceil : (n : ℕ) → pages_of 0 n ≡ (n + 65535) / 65536
ceil zero = refl
ceil (suc n) = omega arith

pages_grown : (len more fit : ℕ) → fit ≡ min more ((65536 - len % 65536) % 65536) → pages_of 0 (more - fit) ≡ pages_of 0 (len + more) - pages_of 0 len
pages_grown len more fit e =
    let a = ceil (more - fit) in
    let b = ceil (len + more) in
    let c = ceil len in
    let n : (more - fit + 65535) / 65536 ≡ (len + more + 65535) / 65536 - (len + 65535) / 65536 = omega (arith, e) in
    omega (arith, a, b, c, n)

-- the last page of some is widened, and others stand behind them
module _ (len more fit k : ℕ) (old behind : List Leaf) (q d : Leaf) (cut : IsCut len (pieces old)) (long : length old ≡ suc k) where
  last : get_or (old ++ behind) k d ≡ get_or old k d
  last = get_or_append_left old behind d k (omega (arith, long))

  piece : (b : List ℕ) → get_or (pieces old) k b ≡ (get_or (old ++ behind) k d).bytes
  piece b = get_or-map (λ (p : Leaf). p.bytes) old k d b (omega (arith, long)) ∙ sym (ap (λ (p : Leaf). p.bytes) last)

  many : length (pieces old) ≡ suc k
  many = length-map old (λ (p : Leaf). p.bytes) ∙ long

  pub last_length : length (get_or (old ++ behind) k d).bytes ≤ 65536
  last_length =
      let pages = many in
      let here = piece_length len (pieces old) k [] cut (omega (arith, pages)) in
      let same : length (get_or (pieces old) k []) ≡ length (get_or (old ++ behind) k d).bytes = ap length (piece []) in
      omega (arith, here, same)

  parts : pieces (set (old ++ behind) k q) ≡ set (pieces old ++ pieces behind) k q.bytes
  parts = map_set (λ (p : Leaf). p.bytes) (old ++ behind) k q ∙ ap (λ (bs : List (List ℕ)). set bs k q.bytes) (map-append (λ (p : Leaf). p.bytes) old behind)

  module _ (wider : q.bytes ≡ (get_or (old ++ behind) k d).bytes ++ replicate fit 0) where
    here : q.bytes ≡ get_or (pieces old) k [] ++ replicate fit 0
    here = wider ∙ ap (λ (b : List ℕ). b ++ replicate fit 0) (sym (piece []))

    pub grown_flat : fit ≤ more → flat behind ≡ replicate (more - fit) 0 → flat (set (old ++ behind) k q) ≡ flat old ++ replicate more 0
    grown_flat few zeros =
        let all : fit + (more - fit) ≡ more = omega (arith, few) in
        ap concat parts
        ∙ grown_concat (pieces old) (pieces behind) k q.bytes [] (replicate fit 0) many here
        ∙ ap (λ (b : List ℕ). flat old ++ b) (ap (λ (b : List ℕ). replicate fit 0 ++ b) zeros ∙ replicate-append-replicate fit (more - fit) 0 ∙ ap (λ (n : ℕ). let zs : List ℕ = replicate n 0 in zs) all)

    pub grown_paged : fit ≡ min more ((65536 - len % 65536) % 65536) → flat behind ≡ replicate (more - fit) 0 → IsPaged behind → IsPaged (set (old ++ behind) k q)
    grown_paged e zeros paged =
        let rest : IsCut (more - fit) (pieces behind) = subst (λ (n : ℕ). IsCut n (pieces behind)) (ap length zeros ∙ length-replicate (more - fit) 0) paged in
        let size : length q.bytes ≡ length (get_or (pieces old) k []) + fit = ap length here ∙ length-append (get_or (pieces old) k []) (replicate fit 0) ∙ ap (λ (n : ℕ). length (get_or (pieces old) k []) + n) (length-replicate fit 0) in
        let cut' : IsCut (len + more) (pieces (set (old ++ behind) k q)) = subst (IsCut (len + more)) (sym parts) (grown_cut len more fit (pieces old) (pieces behind) k q.bytes [] cut many size e rest) in
        subst (λ (n : ℕ). IsCut n (pieces (set (old ++ behind) k q))) (sym (cut_length (len + more) (pieces (set (old ++ behind) k q)) cut')) cut'

  pub grown_marks : q.taken ≡ (get_or (old ++ behind) k d).taken → fit ≡ min more ((65536 - len % 65536) % 65536) → marks behind ≡ replicate (pages_of 0 (more - fit)) false
      → marks (set (old ++ behind) k q) ≡ untaken (pages_of 0 (len + more)) (marks old)
  grown_marks same e blank =
      let there : k < length (old ++ behind) = omega (arith, long, length-append old behind) in
      let pages : length (marks old) ≡ pages_of 0 len = length-map old (λ (p : Leaf). p.taken) ∙ sym (length-map old (λ (p : Leaf). p.bytes)) ∙ cut_count len (pieces old) cut in
      map_stays (λ (p : Leaf). p.taken) (old ++ behind) k d q there same
      ∙ map-append (λ (p : Leaf). p.taken) old behind
      ∙ ap (λ (bs : List Bool). marks old ++ bs) (blank ∙ ap (λ (n : ℕ). let bs : List Bool = replicate n false in bs) (pages_grown len more fit e ∙ ap (λ (n : ℕ). pages_of 0 (len + more) - n) (sym pages)))

-- ---- blocks more

module _ (size count n : ℕ) (old new : List Leaf) (now : Paged) (is : seen size count old ≡ now) (whole : length (flat old) ≡ count * size) where
  pub grown_blocks : count ≤ n → flat new ≡ flat old ++ replicate ((n - count) * size) 0 → blocks_of size n (flat new) ≡ now.blocks ++ replicate (n - length now.blocks) (replicate now.size 0)
  grown_blocks few bytes =
      let zeros : List ℕ = replicate size 0 in
      let both : n ≡ count + (n - count) = omega (arith, few) in
      let many : n - count ≡ n - length (blocks_of size count (flat old)) = let long = length_blocks size count (flat old) in omega (arith, long) in
      subst (λ (p : Paged). blocks_of size n (flat new) ≡ p.blocks ++ replicate (n - length p.blocks) (replicate p.size 0)) is
      (ap₂ (λ (k : ℕ) (b : List ℕ). blocks_of size k b) both bytes
      ∙ blocks_append size count (n - count) (flat old) (replicate ((n - count) * size) 0) whole
      ∙ ap (λ (bs : List (List ℕ)). blocks_of size count (flat old) ++ bs) (blocks_zeros size (n - count) ((n - count) * size) (omega arith) ∙ ap (λ (k : ℕ). replicate k zeros) many))

  pub grown_taken : count ≤ n → marks new ≡ untaken (pages_of 0 (count * size + (n - count) * size)) (marks old) → marks new ≡ untaken (pages_of 0 (n * now.size)) now.taken
  grown_taken few taken =
      let both : count * size + (n - count) * size ≡ (count + (n - count)) * size = sym (add-mul count (n - count) size) in
      let all : count + (n - count) ≡ n = omega (arith, few) in
      let bytes : count * size + (n - count) * size ≡ n * size = both ∙ ap (λ (k : ℕ). k * size) all in
      subst (λ (p : Paged). marks new ≡ untaken (pages_of 0 (n * p.size)) p.taken) is (taken ∙ ap (λ (k : ℕ). untaken (pages_of 0 k) (marks old)) bytes)

  pub fewer_blocks : n ≤ count → now.blocks ≡ now.blocks ++ replicate (n - length now.blocks) (replicate now.size 0)
  fewer_blocks few =
      let long = seen_length size count old now is in
      let none : n - length now.blocks ≡ 0 = omega (arith, few, long) in
      sym (ap (λ (k : ℕ). now.blocks ++ replicate k (replicate now.size 0)) none ∙ append-nil now.blocks)

  pub fewer_taken : n ≤ count → IsPaged old → now.taken ≡ untaken (pages_of 0 (n * now.size)) now.taken
  fewer_taken few paged =
      let pages : length (marks old) ≡ pages_of 0 (length (flat old)) = length-map old (λ (p : Leaf). p.taken) ∙ sym (length-map old (λ (p : Leaf). p.bytes)) ∙ cut_count (length (flat old)) (pieces old) paged in
      let le : n * size ≤ count * size = mul-le-mul_right size few in
      let a = ceil (n * size) in
      let b = ceil (length (flat old)) in
      let none : pages_of 0 (n * size) - length (marks old) ≡ 0 = omega (arith, pages, le, a, b, whole) in
      subst (λ (p : Paged). p.taken ≡ untaken (pages_of 0 (n * p.size)) p.taken) is
      (sym (ap (λ (k : ℕ). marks old ++ replicate k false) none ∙ append-nil (marks old)))

-- blocks of one size grow by zeros as long as the first
pub grown_first : (n size : ℕ) (bs : List (List ℕ)) → 0 < length bs → Even size bs → bs ++ replicate (n - length bs) (replicate size 0) ≡ grown n bs
grown_first n size [] some even = absurd (omega (arith, some))
grown_first n size (b ∷ bs) some even =
    let here : size ≡ length b = sym (even 0 [] (omega arith)) in
    ap (λ (k : ℕ). (b ∷ bs) ++ replicate (n - length (b ∷ bs)) (replicate k 0)) here

pub grown_none : (n : ℕ) (bs : List (List ℕ)) → length bs ≡ 0 → replicate n (replicate 0 0) ≡ grown n bs
grown_none n [] none = refl
grown_none n (b ∷ bs) none = absurd (omega (arith, none))
