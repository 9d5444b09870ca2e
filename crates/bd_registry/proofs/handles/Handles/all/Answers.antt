use Rattle.std.proofs.Common.{ℕ, ◌++◌, List, option_to_list, sym, ◌∙◌, ap, arith}
use Rattle.bd_machine.specs.declared.state.Handle.{Handle}
use Rattle.bd_registry.proofs.Keeping.{all_below, below_next, below_number, none_below}
use Rattle.bd_registry.proofs.handles.Handles.all.Goals as goal

pub loop-number-init : goal.loop-number-init
loop-number-init c = λ hs keeps. c.new-all.ensures ∙ sym (none_below 0 0 hs (omega arith) keeps.rising)

pub loop-number-preserved : goal.loop-number-preserved
loop-number-preserved c = λ hs keeps.
    c.in_ok-push_found.ensures
    ∙ ap (λ (zs : List Handle). zs ++ option_to_list c.find.result) (c.loop-number.invariant hs keeps)
    ∙ ap (λ found. below_number c.loop-number.number hs ++ option_to_list found) (c.find.ensures hs keeps)
    ∙ sym (below_next c.loop-number.number 0 hs keeps.rising)

pub returns : goal.returns
returns c = λ hs keeps.
    c.loop-number.invariant hs keeps
    ∙ ap (λ (n : ℕ). below_number n hs) (omega (arith, c.loop-number.auto, c.loop-number-test.false, c.next-number-end.ensures))
    ∙ all_below c.args.self.now.devices hs keeps.numbered
