use Rattle.std.proofs.Common.{◌≡◌, Some, None, sym, ◌∙◌, ap}
use Rattle.std.specs.List.{position}
use Rattle.bd_blocks.proofs.Places.{not_found, set_found}
use Rattle.bd_retries.specs.Channels.{is_of, landed, Channel}
use Rattle.bd_retries.proofs.retries.land.Goals as goal

pub returns-in-Some : goal.returns-in-Some
returns-in-Some c =
    let is = is_of c.args.base in
    let rows = c.args.channels.now in
    let change : Channel → Channel = landed in
    let place : position is rows ≡ Some c.in-Some.place = ap (position is) (sym c.as_slice.ensures) ∙ sym c.place_of.ensures ∙ c.in-Some.is in
    set_found is change rows c.in-Some.place c.landed.new.self c.at_mut.result.now place (c.landed.ensures ∙ ap change c.at_mut.ensures.value)

pub returns-in_default : goal.returns-in_default
returns-in_default c =
    let is = is_of c.args.base in
    let rows = c.args.channels.now in
    let change : Channel → Channel = landed in
    let place : position is rows ≡ None = ap (position is) (sym c.as_slice.ensures) ∙ sym c.place_of.ensures ∙ c.in_default.is in
    not_found is change rows place
