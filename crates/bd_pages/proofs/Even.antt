-- Blocks that are all as long.
use Rattle.std.proofs.Common.{◌≡◌, ℕ, suc, ◌+◌, ◌*◌, ◌≤◌, List, [], ◌∷◌, length, take, drop, refl, sym, ◌∙◌, ap, length-append, arith}
use Rattle.std.specs.List.{concat}
use Rattle.std.specs.Prelude.{All}
use Rattle.std.proofs.Math.Nat.{suc-mul}
use Rattle.std.proofs.lemmas.List.{get_or-take, get_or-drop, length-take, length-drop}
use Rattle.bd_pages.specs.Pages.{blocks_of, cut_as}

abbrev pub Even : ℕ → List (List ℕ) → Type 0
Even size blocks = All (λ block. length block ≡ size) blocks

-- a range of them
pub even_range : (size lba count : ℕ) (blocks : List (List ℕ)) → Even size blocks → Even size (take count (drop lba blocks))
even_range size lba count blocks even k d lt =
    let few = length-take count (drop lba blocks) in
    let left = length-drop lba blocks in
    ap length (get_or-take count (drop lba blocks) k d (omega (arith, lt, few)) ∙ get_or-drop lba blocks k d)
    ∙ even (lba + k) d (omega (arith, lt, few, left))

rest : (size : ℕ) (b : List ℕ) (bs : List (List ℕ)) → Even size (b ∷ bs) → Even size bs
rest size b bs even k d lt = even (suc k) d (omega (arith, lt))

pub even_concat : (size : ℕ) (blocks : List (List ℕ)) → Even size blocks → length (concat blocks) ≡ length blocks * size
even_concat size [] even = omega arith
even_concat size (b ∷ bs) even =
    let here : length b ≡ size = even 0 [] (omega arith) in
    let others = even_concat size bs (rest size b bs even) in
    omega (arith, here, others, length-append b (concat bs), suc-mul (length bs) size)

pub even_cut : (size : ℕ) (blocks : List (List ℕ)) (bytes : List ℕ) → Even size blocks → blocks_of size (length blocks) bytes ≡ cut_as blocks bytes
even_cut size [] bytes even = refl
even_cut size (b ∷ bs) bytes even =
    let here : size ≡ length b = sym (even 0 [] (omega arith)) in
    ap (λ (x : List (List ℕ)). take size bytes ∷ x) (even_cut size bs (drop size bytes) (rest size b bs even))
    ∙ ap (λ (n : ℕ). take n bytes ∷ cut_as bs (drop n bytes)) here

-- how many blocks a range has
pub range_length : (lba count : ℕ) (blocks : List (List ℕ)) → lba + count ≤ length blocks → length (take count (drop lba blocks)) ≡ count
range_length lba count blocks inside =
    let few = length-take count (drop lba blocks) in
    let left = length-drop lba blocks in
    omega (arith, inside, few, left)
