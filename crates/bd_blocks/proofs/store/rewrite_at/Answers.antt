use Rattle.std.proofs.Common.{◌≡◌, ℕ, List, ◌++◌, take, drop, ◌+◌, ◌⊎◌, inl, inr, ◌∙◌, ap, sym}
use Rattle.bd_base.specs.declared.request.Op.{Op}
use Rattle.bd_base.specs.declared.request.Op.TheVariants as ops
use Rattle.bd_machine.specs.Effect.{rewritten}
use Rattle.bd_blocks.proofs.Kept.{kept}
use Rattle.bd_blocks.proofs.store.rewrite_at.Goals as goal

kept_by : (blocks : List (List ℕ)) (op : Op) (first n count : ℕ)
    → (op ≡ ops.Read) ⊎ ((op ≡ ops.Flush) ⊎ (((x : ℕ) × (op ≡ ops.Reset x)) ⊎ ((x : ℕ) × (op ≡ ops.Abort x))))
    → blocks ≡ take first blocks ++ rewritten op n (take count (drop first blocks)) ++ drop (first + count) blocks
kept_by blocks op first n count (inl e) = kept first count blocks ∙ ap (λ (o : Op). take first blocks ++ rewritten o n (take count (drop first blocks)) ++ drop (first + count) blocks) (sym e)
kept_by blocks op first n count (inr (inl e)) = kept first count blocks ∙ ap (λ (o : Op). take first blocks ++ rewritten o n (take count (drop first blocks)) ++ drop (first + count) blocks) (sym e)
kept_by blocks op first n count (inr (inr (inl e))) = kept first count blocks ∙ ap (λ (o : Op). take first blocks ++ rewritten o n (take count (drop first blocks)) ++ drop (first + count) blocks) (sym e.1)
kept_by blocks op first n count (inr (inr (inr e))) = kept first count blocks ∙ ap (λ (o : Op). take first blocks ++ rewritten o n (take count (drop first blocks)) ++ drop (first + count) blocks) (sym e.1)

pub returns-in-Read-clause-ok : goal.returns-in-Read-clause-ok
returns-in-Read-clause-ok c = kept_by c.args.blocks.now c.args.op c.args.first c.args.number c.args.count c.in-Read.is
