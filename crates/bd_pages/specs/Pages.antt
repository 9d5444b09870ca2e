-- The blocks of a device, and the pages that its writes took.
use Rattle.std.specs.Prelude.{◌≡◌, ℕ, zero, suc, ◌-◌, ◌*◌, ◌<◌, ◌^◌, Bool, List, [], ◌∷◌, ◌++◌, take, drop, map, length, replicate}
use Rattle.bd_pages.specs.Leaf.{Leaf}
use Rattle.bd_pages.specs.Table.{IsPaged, flat}

-- the bytes of a block, its blocks, and for each page whether a write touched it: page n has the device's bytes from 65,536 * n on
pub record Paged : Type 0 where
  pub size : ℕ
  pub blocks : List (List ℕ)
  pub taken : List Bool

-- bytes as n blocks of that size
abbrev pub blocks_of : ℕ → ℕ → List ℕ → List (List ℕ)
blocks_of size zero bytes = []
blocks_of size (suc n) bytes = take size bytes ∷ blocks_of size n (drop size bytes)

-- bytes as blocks, as long as these
abbrev pub cut_as : List (List ℕ) → List ℕ → List (List ℕ)
cut_as [] bytes = []
cut_as (b ∷ bs) bytes = take (length b) bytes ∷ cut_as bs (drop (length b) bytes)

-- blocks as long, of zeros
abbrev pub zeroed : List (List ℕ) → List (List ℕ)
zeroed blocks = map (λ b. replicate (length b) 0) blocks

-- this number of blocks: those that are there, and after them zeros as long as the first; where there is none, blocks of no byte
abbrev pub grown : ℕ → List (List ℕ) → List (List ℕ)
grown n [] = replicate n []
grown n (b ∷ bs) = (b ∷ bs) ++ replicate (n - length (b ∷ bs)) (replicate (length b) 0)

-- the pages have just the bytes of that many blocks
pub record IsWhole (size count : ℕ) (pages : List Leaf) : Type 0 where
  pub paged : IsPaged pages
  pub all : length (flat pages) ≡ count * size
  pub small : count * size < 2 ^ 64
