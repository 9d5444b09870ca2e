-- Pages that are changed one after another.
use Rattle.std.proofs.Common.{◌≡◌, ℕ, zero, suc, ◌+◌, ◌-◌, ◌*◌, ◌/◌, ◌%◌, ◌<◌, ◌≤◌, min, inl, inr, Bool, true, false, List, [], ◌∷◌, ◌++◌, length, map, take, drop, get_or, set, replicate, refl, sym, ◌∙◌, ap, subst, append_assoc, arith}
use Rattle.std.proofs.lemmas.Bool.{cases_eq}
use Rattle.std.proofs.lemmas.List.{append-nil, get_or_default, get_or-set_same, get_or-set_other, length-map, length-replicate, replicate-append-replicate, take_more}
use Rattle.std.specs.List.{concat}
use Rattle.bd_pages.specs.Bytes.{written}
use Rattle.bd_pages.specs.Leaf.{Leaf}
use Rattle.bd_pages.specs.Table.{IsCut, SameContents, flat, marks, pages_of, pieces}
use Rattle.bd_pages.proofs.Splices.{length_written}
use Rattle.bd_pages.proofs.Cuts.{cut_more, cut_set, pages_step, piece_there, piece_length, read_at, set_at}

-- a page in place of one that shows the same
pub map_set_same : {X : Type 0} (f : Leaf → X) (pages : List Leaf) (n : ℕ) (p : Leaf) → f p ≡ f (get_or pages n p) → map f (set pages n p) ≡ map f pages
map_set_same f [] n p e = refl
map_set_same {X} f (q ∷ qs) zero p e = ap (λ (x : X). x ∷ map f qs) e
map_set_same {X} f (q ∷ qs) (suc n) p e = ap (λ (xs : List X). f q ∷ xs) (map_set_same f qs n p e)

pub map_set : {X : Type 0} (f : Leaf → X) (pages : List Leaf) (n : ℕ) (p : Leaf) → map f (set pages n p) ≡ set (map f pages) n (f p)
map_set f [] n p = refl
map_set f (q ∷ qs) zero p = refl
map_set {X} f (q ∷ qs) (suc n) p = ap (λ (xs : List X). f q ∷ xs) (map_set f qs n p)

get_map : {X : Type 0} (f : Leaf → X) (pages : List Leaf) (n : ℕ) (p : Leaf) (x : X) → n < length pages → get_or (map f pages) n x ≡ f (get_or pages n p)
get_map f [] n p x lt = absurd (omega (arith, lt))
get_map f (q ∷ qs) zero p x lt = refl
get_map f (q ∷ qs) (suc n) p x lt = get_map f qs n p x (omega (arith, lt))

-- the page at a place is exchanged for one that shows the same
pub map_stays : {X : Type 0} (f : Leaf → X) (pages : List Leaf) (n : ℕ) (d q : Leaf) → n < length pages → f q ≡ f (get_or pages n d) → map f (set pages n q) ≡ map f pages
map_stays f pages n d q lt e = map_set_same f pages n q (e ∙ ap f (get_or_default pages n d q lt))

pub contents_stay : (old pages : List Leaf) (n : ℕ) (d q : Leaf) → SameContents old pages → n < length pages → q.bytes ≡ (get_or pages n d).bytes → q.taken ≡ (get_or pages n d).taken → SameContents old (set pages n q)
contents_stay old pages n d q same lt bytes taken = record {
  bytes = map_stays (λ (x : Leaf). x.bytes) pages n d q lt bytes ∙ same.bytes;
  taken = map_stays (λ (x : Leaf). x.taken) pages n d q lt taken ∙ same.taken;
}

-- where the same pages are taken
pub taken_same : (old new : List Leaf) (n : ℕ) (d : Leaf) → marks new ≡ marks old → n < length old → (get_or new n d).taken ≡ (get_or old n d).taken
taken_same old new n d e lt =
    let long = ap length e in
    let lt' : n < length new = omega (arith, lt, long, length-map old (λ (x : Leaf). x.taken), length-map new (λ (x : Leaf). x.taken)) in
    sym (get_map (λ (x : Leaf). x.taken) new n d d.taken lt') ∙ ap (λ (bs : List Bool). get_or bs n d.taken) e ∙ get_map (λ (x : Leaf). x.taken) old n d d.taken lt

-- the page of a byte of a range is among the range's pages
pub page_within : (at n k : ℕ) → 0 < n → 65536 * k < at + n → k < at / 65536 + pages_of at n
page_within at zero k some lt = absurd (omega (arith, some))
page_within at (suc m) k some lt =
    let last : k ≤ (at + m) / 65536 = omega (arith, lt) in
    let order : at / 65536 ≤ (at + m) / 65536 = omega arith in
    omega (arith, last, order)

-- what holds of the pages up to a place, and of the page that is put there
pub holds_next : (f : Leaf → Bool) (first k : ℕ) (pages : List Leaf) (q : Leaf) → ((j : ℕ) (d : Leaf) → first ≤ j → j < k → f (get_or pages j d) ≡ true) → k < length pages → f q ≡ true
    → (j : ℕ) (d : Leaf) → first ≤ j → j < k + 1 → f (get_or (set pages k q) j d) ≡ true
holds_next f first k pages q before lt here j d from below = elim (cases_eq j k) [
  | inl same ↦ ap f (ap (λ (i : ℕ). get_or (set pages k q) i d) same ∙ get_or-set_same pages k q d lt) ∙ here
  | inr other ↦ ap f (get_or-set_other pages k j q d other) ∙ before j d from (omega (arith, below, other))
]

-- what holds of pages holds when one more is put among them
pub holds_on : (f : Leaf → Bool) (first end k : ℕ) (pages : List Leaf) (q : Leaf) → ((j : ℕ) (d : Leaf) → first ≤ j → j < end → f (get_or pages j d) ≡ true) → k < length pages → f q ≡ true
    → (j : ℕ) (d : Leaf) → first ≤ j → j < end → f (get_or (set pages k q) j d) ≡ true
holds_on f first end k pages q before lt here j d from below = elim (cases_eq j k) [
  | inl same ↦ ap f (ap (λ (i : ℕ). get_or (set pages k q) i d) same ∙ get_or-set_same pages k q d lt) ∙ here
  | inr other ↦ ap f (get_or-set_other pages k j q d other) ∙ before j d from below
]

-- some bytes from a place on that lie on one page
module _ (len : ℕ) (pages : List Leaf) (place count : ℕ) where
  pub page_there : IsCut len (pieces pages) → place + count ≤ len → 0 < count → place / 65536 < length pages
  page_there cut inside some =
      let there = piece_there len (pieces pages) (place / 65536) cut (omega (arith, inside, some)) in
      omega (arith, there, length-map pages (λ (p : Leaf). p.bytes))

  module _ (cut : IsCut len (pieces pages)) (inside : place + count ≤ len) (some : 0 < count) (near : count ≤ 65536 - place % 65536) (d : Leaf) where
    abbrev page : Leaf
    page = get_or pages (place / 65536) d

    there : place / 65536 < length (pieces pages)
    there = let first = page_there cut inside some in omega (arith, first, length-map pages (λ (p : Leaf). p.bytes))

    -- its bytes, at any other default
    piece : (b : List ℕ) → get_or (pieces pages) (place / 65536) b ≡ page.bytes
    piece b = get_map (λ (x : Leaf). x.bytes) pages (place / 65536) d b (page_there cut inside some)

    pub page_has : place % 65536 + count ≤ length page.bytes
    page_has =
        let long = piece_length len (pieces pages) (place / 65536) page.bytes cut there in
        let same : length (get_or (pieces pages) (place / 65536) page.bytes) ≡ length page.bytes = ap length (piece page.bytes) in
        omega (arith, inside, some, near, long, same)

    pub page_reads : take count (drop place (flat pages)) ≡ take count (drop (place % 65536) page.bytes)
    page_reads =
        let fits : place % 65536 + count ≤ length (get_or (pieces pages) (place / 65536) page.bytes) = subst (λ (b : List ℕ). place % 65536 + count ≤ length b) (sym (piece page.bytes)) page_has in
        read_at len (pieces pages) (place / 65536) (place % 65536) count place page.bytes cut there fits (omega arith)
        ∙ ap (λ (b : List ℕ). take count (drop (place % 65536) b)) (piece page.bytes)

    -- bytes are written on that page
    module _ (q : Leaf) (new : List ℕ) (e : length new ≡ count) (wrote : q.bytes ≡ written (place % 65536) new page.bytes) where
      has : place % 65536 + length new ≤ length page.bytes
      has = let whole = page_has in omega (arith, whole, e)

      pub page_put : flat (set pages (place / 65536) q) ≡ written place new (flat pages)
      page_put =
          let n : ℕ = place / 65536 in
          let fits : place % 65536 + length new ≤ length (get_or (pieces pages) n q.bytes) = subst (λ (b : List ℕ). place % 65536 + length new ≤ length b) (sym (piece q.bytes)) has in
          ap concat (map_set (λ (x : Leaf). x.bytes) pages n q)
          ∙ set_at len (pieces pages) n (place % 65536) place new q.bytes cut there fits (omega arith) (wrote ∙ ap (λ (b : List ℕ). written (place % 65536) new b) (sym (piece q.bytes)))

      pub page_cut : IsCut len (pieces (set pages (place / 65536) q))
      page_cut =
          subst (IsCut len) (sym (map_set (λ (x : Leaf). x.bytes) pages (place / 65536) q))
          (cut_set len (pieces pages) (place / 65536) q.bytes cut (ap length wrote ∙ length_written (place % 65536) new page.bytes has ∙ ap length (sym (piece q.bytes))))

-- one page more
pub map_more : {X : Type 0} (f : Leaf → X) (pages : List Leaf) (p : Leaf) (rest : List X) → map f (pages ++ p ∷ []) ++ rest ≡ map f pages ++ (f p ∷ rest)
map_more f [] p rest = refl
map_more {X} f (q ∷ qs) p rest = ap (λ (xs : List X). f q ∷ xs) (map_more f qs p rest)

pub flat_more : (pages : List Leaf) (p : Leaf) → flat (pages ++ p ∷ []) ≡ flat pages ++ p.bytes
flat_more [] p = append-nil p.bytes
flat_more (q ∷ qs) p = ap (λ (xs : List ℕ). q.bytes ++ xs) (flat_more qs p) ∙ sym (append_assoc q.bytes (flat qs) p.bytes)

pub flat_next : (pages : List Leaf) (i : ℕ) (p : Leaf) → i < length pages → p ≡ get_or pages i p → flat (take (i + 1) pages) ≡ flat (take i pages) ++ p.bytes
flat_next pages i p lt is =
    ap flat (take_more pages i p lt ∙ ap (λ (q : Leaf). take i pages ++ q ∷ []) (sym is)) ∙ flat_more (take i pages) p

-- a blank page more
module _ (pages now : List Leaf) (p : Leaf) (left count : ℕ) (grown : now ≡ pages ++ p ∷ []) (blank : p ≡ record { bytes = replicate count 0; ready = false; taken = false }) where
  pub blank_bytes : (all : List ℕ) → count ≤ left → flat pages ++ replicate left 0 ≡ all → flat now ++ replicate (left - count) 0 ≡ all
  blank_bytes all few is =
      let zeros : ℕ → List ℕ = λ n. replicate n 0 in
      let whole : count + (left - count) ≡ left = omega (arith, few) in
      ap (λ (xs : List ℕ). xs ++ zeros (left - count)) (ap flat grown ∙ flat_more pages p)
      ∙ append_assoc (flat pages) p.bytes (zeros (left - count))
      ∙ ap (λ (xs : List ℕ). flat pages ++ xs) (ap (λ (q : Leaf). q.bytes ++ zeros (left - count)) blank ∙ replicate-append-replicate count (left - count) 0 ∙ ap zeros whole)
      ∙ is

  pub blank_cut : (len : ℕ) → 0 < left → count ≡ min left 65536 → ((rest : List (List ℕ)) → IsCut left rest → IsCut len (pieces pages ++ rest)) → (rest : List (List ℕ)) → IsCut (left - count) rest → IsCut len (pieces now ++ rest)
  blank_cut len some e before rest c =
      let long : length p.bytes ≡ count = ap (λ (q : Leaf). length q.bytes) blank ∙ length-replicate count 0 in
      subst (IsCut len) (sym (ap (λ (ps : List Leaf). pieces ps ++ rest) grown ∙ map_more (λ (q : Leaf). q.bytes) pages p rest))
      (before (p.bytes ∷ rest) (cut_more left count p.bytes rest some e long c))

  pub blank_marks : (all : List Bool) → 0 < left → count ≡ min left 65536 → marks pages ++ replicate (pages_of 0 left) false ≡ all → marks now ++ replicate (pages_of 0 (left - count)) false ≡ all
  blank_marks all some e is =
      let unmarked : ℕ → List Bool = λ n. replicate n false in
      ap (λ (ps : List Leaf). marks ps ++ unmarked (pages_of 0 (left - count))) grown
      ∙ map_more (λ (q : Leaf). q.taken) pages p (unmarked (pages_of 0 (left - count)))
      ∙ ap (λ (q : Leaf). marks pages ++ (q.taken ∷ unmarked (pages_of 0 (left - count)))) blank
      ∙ ap (λ (n : ℕ). marks pages ++ unmarked n) (sym (pages_step left count some e))
      ∙ is
