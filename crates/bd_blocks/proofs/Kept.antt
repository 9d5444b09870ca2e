-- Blocks that stay.
use Rattle.std.proofs.Common.{◌≡◌, ℕ, ◌+◌, List, ◌++◌, take, drop, sym, ◌∙◌, ap}
use Rattle.std.proofs.Math.Seq.{take-add}
use Rattle.std.proofs.lemmas.List.{take-append-drop}

-- those before a range, in it and behind it
pub kept : (first count : ℕ) (blocks : List (List ℕ)) → blocks ≡ take first blocks ++ take count (drop first blocks) ++ drop (first + count) blocks
kept first count blocks =
    sym (take-append-drop (first + count) blocks)
    ∙ ap (λ (bs : List (List ℕ)). bs ++ drop (first + count) blocks) (take-add first count blocks)
