use Rattle.std.proofs.Common.{◌≡◌, ◌+◌, ◌-◌, ◌∙◌, ap, subst, sym, arith, ℕ}
use Rattle.std.specs.Prelude.{Option, IfSome}
use Rattle.std.specs.Option.{option_map}
use Rattle.bd_base.specs.declared.id.DevId.{DevId}
use Rattle.bd_machine.specs.BlockMap.{row_of, shift_of_row}
use Rattle.bd_stack.proofs.Downwards.{last_lower}
use Rattle.bd_stack.proofs.path.+at_within.Goals as goal

pub returns-in_ok-lowest-in-Some : goal.returns-in_ok-lowest-in-Some
returns-in_ok-lowest-in-Some t c =
    last_lower c.args.setup.now c.args.left (c.args.left - 1) c.args.dev c.in-Some.base c.args.block c.in-Some.lower _
    (sym c.in_ok-under.ensures.base ∙ ap (option_map (λ (p : DevId × ℕ). p.0)) c.in-Some.is)
    (subst (λ (o : Option (DevId × ℕ)). IfSome o (λ p. p.1 ≡ shift_of_row (row_of c.args.setup.now c.args.dev) + c.args.block)) c.in-Some.is c.in_ok-under.ensures.number)
    (omega (arith, c.if-left-eq0.false))
    c.in_ok-lowest-in-Some.ensures
