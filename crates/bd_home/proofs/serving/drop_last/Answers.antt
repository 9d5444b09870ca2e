use Rattle.std.proofs.Common.{◌≡◌, Some, None, sym, ◌∙◌, ap}
use Rattle.std.specs.List.{position}
use Rattle.bd_machine.specs.Homes.{is_base, without_last}
use Rattle.bd_blocks.proofs.Places.{not_found, set_found}
use Rattle.bd_home.proofs.serving.drop_last.Goals as goal

pub returns-in-Some : goal.returns-in-Some
returns-in-Some c =
    let is = is_base c.args.dev in
    let rows = c.args.bases.now in
    let place : position is rows ≡ Some c.in-Some.place = ap (position is) (sym c.as_slice.ensures) ∙ sym c.base_place.ensures ∙ c.in-Some.is in
    set_found is without_last rows c.in-Some.place c.drop_last_of.new.base c.at_mut.result.now place (c.drop_last_of.ensures ∙ ap without_last c.at_mut.ensures.value)

pub returns-in_default : goal.returns-in_default
returns-in_default c =
    let is = is_base c.args.dev in
    let rows = c.args.bases.now in
    let place : position is rows ≡ None = ap (position is) (sym c.as_slice.ensures) ∙ sym c.base_place.ensures ∙ c.in_default.is in
    not_found is without_last rows place
