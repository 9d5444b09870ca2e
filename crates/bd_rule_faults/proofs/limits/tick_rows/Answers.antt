use Rattle.std.proofs.Common.{◌≡◌, Some, None, sym, ◌∙◌, ap}
use Rattle.std.specs.List.{position}
use Rattle.bd_machine.specs.declared.state.Limited.{Limited}
use Rattle.bd_machine.specs.Limits.{is_limit, ticked}
use Rattle.bd_blocks.proofs.Places.{not_found, set_found}
use Rattle.bd_rule_faults.proofs.limits.tick_rows.Goals as goal

pub returns-in_ok-tick_one-in-Some : goal.returns-in_ok-tick_one-in-Some
returns-in_ok-tick_one-in-Some c =
    let is = is_limit c.args.dev in
    let rows = c.args.limited.now in
    let one : Limited → Limited = ticked c.args.setup.now c.args.moments c.args.by.now c.args.by.slices in
    let place : position is rows ≡ Some c.in-Some.place = ap (position is) (sym c.as_slice.ensures) ∙ sym c.limited_place.ensures ∙ c.in-Some.is in
    set_found is one rows c.in-Some.place c.tick_one.new.l c.at_mut.result.now place (c.in_ok-tick_one-in-Some.ensures ∙ ap one c.at_mut.ensures.value)

pub returns-in-None : goal.returns-in-None
returns-in-None c =
    let is = is_limit c.args.dev in
    let rows = c.args.limited.now in
    let place : position is rows ≡ None = ap (position is) (sym c.as_slice.ensures) ∙ sym c.limited_place.ensures ∙ c.in-None.is in
    not_found is (ticked c.args.setup.now c.args.moments c.args.by.now c.args.by.slices) rows place
