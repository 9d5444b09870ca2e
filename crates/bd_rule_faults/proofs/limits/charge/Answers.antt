use Rattle.std.proofs.Common.{◌≡◌, Some, None, sym, ◌∙◌, ap}
use Rattle.std.specs.List.{position}
use Rattle.bd_machine.specs.declared.state.Limited.{Limited}
use Rattle.bd_machine.specs.Limits.{bytes_if_any, charged_by_way, is_limit, left_by, way_if_any}
use Rattle.bd_blocks.proofs.Places.{not_found, set_found}
use Rattle.bd_rule_faults.proofs.limits.charge.Goals as goal

pub returns-in_ok-let_one-in-Some : goal.returns-in_ok-let_one-in-Some
returns-in_ok-let_one-in-Some c =
    let is = is_limit c.args.dev in
    let rows = c.args.limited.now in
    let one : Limited → Limited = λ l. left_by c.args.req (charged_by_way c.args.setup.now c.args.dev (bytes_if_any c.args.setup.now c.args.here) (way_if_any c.args.here) l) in
    let place : position is rows ≡ Some c.in-Some.place = ap (position is) (sym c.as_slice.ensures) ∙ sym c.limited_place.ensures ∙ c.in-Some.is in
    set_found is one rows c.in-Some.place c.let_one.new.l c.at_mut.result.now place (c.in_ok-let_one-in-Some.ensures ∙ ap one c.at_mut.ensures.value)

pub returns-in-None : goal.returns-in-None
returns-in-None c =
    let is = is_limit c.args.dev in
    let rows = c.args.limited.now in
    let one : Limited → Limited = λ l. left_by c.args.req (charged_by_way c.args.setup.now c.args.dev (bytes_if_any c.args.setup.now c.args.here) (way_if_any c.args.here) l) in
    let place : position is rows ≡ None = ap (position is) (sym c.as_slice.ensures) ∙ sym c.limited_place.ensures ∙ c.in-None.is in
    not_found is one rows place
