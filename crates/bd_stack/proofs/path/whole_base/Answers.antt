use Rattle.std.proofs.Common.{◌≡◌, ◌∙◌, Some, ap, arith, option_copied, sym}
use Rattle.std.specs.List.{list_all}
use Rattle.bd_machine.specs.BlockMap.{base_of, base_of_row, is_whole_or, row_of, stands_on}
use Rattle.bd_stack.proofs.Downwards.{below_is, bottom_lower, bottom_starts, whole_lower}
use Rattle.bd_stack.proofs.path.whole_base.Goals as goal

pub loop-step-init : goal.loop-step-init
loop-step-init c =
    let setup = c.args.setup.now in
    record {
      lies = bottom_starts setup _ c.args.dev (omega arith);
      whole = ap (list_all (is_whole_or setup (base_of setup c.args.dev))) (below_is setup _ c.args.dev (omega arith));
    }

pub loop-step-preserved : goal.loop-step-preserved
loop-step-preserved c =
    let setup = c.args.setup.now in
    let base = c.loop-step.base in
    let here : row_of setup base ≡ Some c.in-Some.row.now = sym c.row_of.ensures ∙ ap option_copied c.in-Some.is in
    let stands : stands_on setup base ≡ Some c.in-Some-base.lower = ap base_of_row here ∙ c.in-Some-base.is in
    record {
      lies = sym (bottom_lower setup _ _ base c.in-Some-base.lower stands (omega (arith, c.loop-step-test.true, c.len-step-end.ensures))) ∙ c.loop-step.invariant.lies;
      whole =
          whole_lower setup (base_of setup c.args.dev) base c.in-Some-base.lower c.in-Some.row.now _ _ here (sym c.is_whole_kind.ensures ∙ c.if-not-is_whole_kind.false) c.in-Some-base.is
          (omega (arith, c.loop-step-test.true, c.len-step-end.ensures))
          ∙ c.loop-step.invariant.whole;
    }
