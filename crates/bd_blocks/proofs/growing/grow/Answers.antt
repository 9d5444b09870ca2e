use Rattle.std.proofs.Common.{◌≡◌, Some, None, sym, ◌∙◌, ap}
use Rattle.std.specs.List.{position}
use Rattle.std.proofs.lemmas.Result.{on_ok_weaker}
use Rattle.bd_machine.specs.Homes.{base_grown, is_base}
use Rattle.bd_blocks.proofs.Places.{not_found, set_found}
use Rattle.bd_blocks.proofs.growing.grow.Goals as goal

pub returns-in-Some-clause-ok : goal.returns-in-Some-clause-ok
returns-in-Some-clause-ok c =
    let is = is_base c.args.dev in
    let bases = c.args.bases.now in
    let place : position is bases ≡ Some c.in-Some.place = ap (position is) (sym c.as_slice.ensures) ∙ sym c.base_place.ensures ∙ c.in-Some.is in
    on_ok_weaker c.grow_base.result
    (λ done. set_found is (base_grown c.args.blocks) bases c.in-Some.place c.grow_base.new.base c.at_mut.result.now place (done ∙ ap (base_grown c.args.blocks) c.at_mut.ensures.value))
    c.grow_base.ensures.ok

pub returns-in-None-clause-ok : goal.returns-in-None-clause-ok
returns-in-None-clause-ok c =
    let is = is_base c.args.dev in
    let bases = c.args.bases.now in
    let place : position is bases ≡ None = ap (position is) (sym c.as_slice.ensures) ∙ sym c.base_place.ensures ∙ c.in-None.is in
    not_found is (base_grown c.args.blocks) bases place
