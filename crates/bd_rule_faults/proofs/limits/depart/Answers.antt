use Rattle.std.proofs.Common.{◌≡◌, Some, None, sym, ◌∙◌, ap}
use Rattle.std.specs.List.{position}
use Rattle.bd_machine.specs.Limits.{is_limit, left_by}
use Rattle.bd_blocks.proofs.Places.{not_found, set_found}
use Rattle.bd_rule_faults.proofs.limits.depart.Goals as goal

pub returns-in-Some : goal.returns-in-Some
returns-in-Some c =
    let is = is_limit c.args.dev in
    let rows = c.args.limited.now in
    let place : position is rows ≡ Some c.in-Some.place = ap (position is) (sym c.as_slice.ensures) ∙ sym c.limited_place.ensures ∙ c.in-Some.is in
    set_found is (left_by c.args.req) rows c.in-Some.place c.leave.new.l c.at_mut.result.now place (c.leave.ensures ∙ ap (left_by c.args.req) c.at_mut.ensures.value)

pub returns-in_default : goal.returns-in_default
returns-in_default c =
    let is = is_limit c.args.dev in
    let rows = c.args.limited.now in
    let place : position is rows ≡ None = ap (position is) (sym c.as_slice.ensures) ∙ sym c.limited_place.ensures ∙ c.in_default.is in
    not_found is (left_by c.args.req) rows place
