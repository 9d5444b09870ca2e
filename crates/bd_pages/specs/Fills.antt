-- What a write of a seed puts into blocks.
use Rattle.std.specs.Prelude.{ℕ, ◌+◌, ◌-◌, cond, List, [], ◌∷◌, length, replicate}
use Rattle.std.specs.List.{concat}
use Rattle.bd_base.specs.Pattern.{pattern}
use Rattle.bd_base.specs.declared.request.Fill.{Fill}

-- byte 0 becomes 255 minus it
abbrev pub turned_block : List ℕ → List ℕ
turned_block [] = []
turned_block (x ∷ xs) = (255 - x) ∷ xs

-- byte 0 of the first block does
abbrev pub turned : List (List ℕ) → List (List ℕ)
turned [] = []
turned (b ∷ bs) = turned_block b ∷ bs

-- the pattern of a seed in these blocks, of which the first has this number
abbrev pub patterned : ℕ → ℕ → List (List ℕ) → List (List ℕ)
patterned seed first [] = []
patterned seed first (b ∷ bs) = pattern seed first (length b) ∷ patterned seed (first + 1) bs

-- what a write puts in place of these blocks
abbrev pub filled : Fill → ℕ → List (List ℕ) → List (List ℕ)
filled fill first blocks = cond fill.flip (turned (patterned fill.seed first blocks)) (patterned fill.seed first blocks)

-- the bytes of a seed's pattern in n blocks of that size
abbrev pub patterns : ℕ → ℕ → ℕ → ℕ → List ℕ
patterns seed first size n = concat (patterned seed first (replicate n (replicate size 0)))

-- the bytes that a write puts into n blocks of that size
abbrev pub bytes_filled : Fill → ℕ → ℕ → ℕ → List ℕ
bytes_filled fill first size n = cond fill.flip (turned_block (patterns fill.seed first size n)) (patterns fill.seed first size n)
