use Rattle.std.proofs.Common.{sym, ◌∙◌, ap}
use Rattle.std.specs.List.{position}
use Rattle.bd_base.specs.declared.id.ReqId.{ReqId}
use Rattle.bd_machine.specs.Same.{same_request}
use Rattle.bd_blocks.proofs.Places.{none_to_remove}
use Rattle.bd_rule_faults.proofs.limits.remove_waiting.Goals as goal

pub returns-in_default : goal.returns-in_default
returns-in_default c =
    let is = λ (r : ReqId). same_request r c.args.req in
    none_to_remove is c.args.waiting.now (ap (position is) (sym c.as_slice.ensures) ∙ sym c.place_in_line.ensures ∙ c.in_default.is)
