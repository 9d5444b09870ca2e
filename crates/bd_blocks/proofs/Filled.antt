-- What a write puts into the blocks of pages is what the machine says.
use Rattle.std.proofs.Common.{◌≡◌, ℕ, ◌+◌, Bool, true, false, cond, List, [], ◌∷◌, length, refl, ◌∙◌, ap}
use Rattle.bd_base.specs.Pattern.{pattern}
use Rattle.bd_base.specs.declared.request.Fill.{Fill}
use Rattle.bd_base.specs.declared.request.Op.TheVariants as ops
use Rattle.bd_machine.specs.Effect as machine
use Rattle.bd_pages.specs.Fills.{filled, patterned, turned, turned_block}

patterned_same : (seed n : ℕ) (bs : List (List ℕ)) → patterned seed n bs ≡ machine.patterned seed n bs
patterned_same seed n [] = refl
patterned_same seed n (b ∷ bs) = ap (λ (ps : List (List ℕ)). pattern seed n (length b) ∷ ps) (patterned_same seed (n + 1) bs)

turned_block_same : (b : List ℕ) → turned_block b ≡ machine.turned_block b
turned_block_same [] = refl
turned_block_same (x ∷ xs) = refl

turned_same : (bs : List (List ℕ)) → turned bs ≡ machine.turned bs
turned_same [] = refl
turned_same (b ∷ bs) = ap (λ (t : List ℕ). t ∷ bs) (turned_block_same b)

pub filled_same : (fill : Fill) (n : ℕ) (bs : List (List ℕ)) → filled fill n bs ≡ machine.rewritten (ops.Write fill) n bs
filled_same fill n bs = go fill.flip
  where
    go : (b : Bool) → cond b (turned (patterned fill.seed n bs)) (patterned fill.seed n bs) ≡ cond b (machine.turned (machine.patterned fill.seed n bs)) (machine.patterned fill.seed n bs)
    go true = turned_same (patterned fill.seed n bs) ∙ ap machine.turned (patterned_same fill.seed n bs)
    go false = patterned_same fill.seed n bs
