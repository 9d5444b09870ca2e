use Rattle.std.proofs.Common.{◌≡◌, false, sym, ◌∙◌, ap}
use Rattle.std.specs.List.{list_any}
use Rattle.bd_machine.specs.BlockMap.{below}
use Rattle.bd_rule_requests.specs.Marks.{carries_mark}
use Rattle.bd_rule_requests.proofs.Unmarked.{none_marked}
use Rattle.bd_rule_requests.proofs.marks.has_any_mark.Goals as goal

pub returns-then-not-any_carries : goal.returns-then-not-any_carries
returns-then-not-any_carries c =
    let clear : list_any carries_mark c.args.part.now.marked ≡ false =
    ap (list_any carries_mark) (sym c.as_slice.ensures) ∙ sym c.any_carries.ensures ∙ c.if-not-any_carries.true in
    sym (none_marked c.args.part.now (below c.args.setup.now c.args.dev) clear)
