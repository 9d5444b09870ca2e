use Rattle.std.proofs.Common.{◌≡◌, ◌+◌, ◌-◌, ◌∙◌, ap, subst, sym, arith, ℕ}
use Rattle.std.specs.Prelude.{Option, IfSome}
use Rattle.std.specs.Option.{option_map}
use Rattle.bd_base.specs.declared.id.DevId.{DevId}
use Rattle.bd_machine.specs.BlockMap.{row_of, shift_of_row}
use Rattle.bd_blocks.specs.Cuts.{IsClear, is_multiple}
use Rattle.bd_blocks.proofs.Cutting.{clear_lower}
use Rattle.bd_blocks.proofs.pieces.+clear_within.Goals as goal

pub returns-in_ok-clear-in-Some : goal.returns-in_ok-clear-in-Some
returns-in_ok-clear-in-Some t c =
    clear_lower c.args.setup.now c.args.left (c.args.left - 1) c.args.dev c.in-Some.base c.args.block c.in-Some.lower c.args.most c.clear_of-run.result _
    (sym c.in_ok-under.ensures.base ∙ ap (option_map (λ (p : DevId × ℕ). p.0)) c.in-Some.is)
    (subst (λ (o : Option (DevId × ℕ)). IfSome o (λ p. p.1 ≡ shift_of_row (row_of c.args.setup.now c.args.dev) + c.args.block)) c.in-Some.is c.in_ok-under.ensures.number)
    (omega (arith, c.if-left-eq0.false))
    (subst (λ (b : ℕ). IsClear (λ k. is_multiple b (c.args.block + k)) c.args.most c.clear_of-run.result) c.boundary_of.ensures c.clear_of-run.ensures)
    c.in_ok-clear-in-Some.ensures
