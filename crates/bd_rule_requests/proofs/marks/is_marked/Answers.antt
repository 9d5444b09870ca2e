use Rattle.std.proofs.Common.{◌≡◌, false, sym, ◌∙◌, ap}
use Rattle.std.specs.List.{list_any}
use Rattle.bd_machine.specs.BlockMap.{below}
use Rattle.bd_rule_requests.specs.Marks.{carries_mark}
use Rattle.bd_rule_requests.proofs.Unmarked.{none_stopped}
use Rattle.bd_rule_requests.proofs.marks.is_marked.Goals as goal

pub returns-then-not-any_carries : goal.returns-then-not-any_carries
returns-then-not-any_carries c =
    let clear : list_any carries_mark c.args.part.now.marked ≡ false =
    ap (list_any carries_mark) (sym c.as_slice.ensures) ∙ sym c.any_carries.ensures ∙ c.if-not-any_carries.true in
    sym (none_stopped c.args.part.now c.args.r.now.late (below c.args.setup.now c.args.r.now.dev) clear)
