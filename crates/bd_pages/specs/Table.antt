-- The pages of a device in order.
use Rattle.std.specs.Prelude.{◌≡◌, ℕ, zero, suc, ◌+◌, ◌-◌, ◌/◌, ◌<◌, ◌≤◌, min, Bool, true, false, List, [], ◌∷◌, ◌++◌, length, map, replicate, slice_index_or}
use Rattle.std.specs.List.{concat}
use Rattle.bd_pages.specs.Bytes.{written}
use Rattle.bd_pages.specs.Leaf.{Leaf}

-- the bytes of each page
abbrev pub pieces : List Leaf → List (List ℕ)
pieces pages = map (λ p. p.bytes) pages

-- all bytes, page after page
abbrev pub flat : List Leaf → List ℕ
flat pages = concat (pieces pages)

-- whether a write touched it, for each page
abbrev pub marks : List Leaf → List Bool
marks pages = map (λ p. p.taken) pages

-- this number of bytes is cut into these pieces: each but the last has 65,536
abbrev pub IsCut : ℕ → List (List ℕ) → Type 0
IsCut len [] = len ≡ 0
IsCut len (b ∷ bs) = (0 < len) × (length b ≡ min 65536 len) × IsCut (len - 65536) bs

-- each page but the last has 65,536 bytes
abbrev pub IsPaged : List Leaf → Type 0
IsPaged pages = IsCut (length (flat pages)) (pieces pages)

-- how many pages have a byte of a range
abbrev pub pages_of : ℕ → ℕ → ℕ
pages_of at zero = 0
pages_of at (suc n) = (at + n) / 65536 + 1 - at / 65536

-- from the page of the first byte of a range to that of its last, all are taken
abbrev pub touched : ℕ → ℕ → List Bool → List Bool
touched at n taken = written (at / 65536) (replicate (pages_of at n) true) taken

-- up to this number of pages, those after the marks that are there are not taken
abbrev pub untaken : ℕ → List Bool → List Bool
untaken n taken = taken ++ replicate (n - length taken) false

-- the same bytes, and the same pages are taken
pub record SameContents (old new : List Leaf) : Type 0 where
  pub bytes : pieces new ≡ pieces old
  pub taken : marks new ≡ marks old

-- there is memory for the pages from one place up to another
abbrev pub AreReady : ℕ → ℕ → List Leaf → Type 0
AreReady first end pages = (k : ℕ) (p : Leaf) → first ≤ k → k < end → (slice_index_or pages k p).ready ≡ true

-- the pages from one place up to another are taken
abbrev pub AreTaken : ℕ → ℕ → List Leaf → Type 0
AreTaken first end pages = (k : ℕ) (p : Leaf) → first ≤ k → k < end → (slice_index_or pages k p).taken ≡ true
