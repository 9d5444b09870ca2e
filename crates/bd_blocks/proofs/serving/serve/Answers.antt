use Rattle.std.proofs.Common.{◌≡◌, Option, Some, None, sym, ◌∙◌, ap}
use Rattle.std.specs.List.{find, position}
use Rattle.std.specs.Option.{option_map}
use Rattle.bd_machine.specs.declared.state.Base.{Base}
use Rattle.bd_machine.specs.Homes.{applied, is_base, served}
use Rattle.bd_blocks.proofs.Places.{found_at, missed, not_found, set_found}
use Rattle.bd_blocks.proofs.serving.serve.Goals as goal

pub returns-in_default-clause-bases : goal.returns-in_default-clause-bases
returns-in_default-clause-bases c =
    let dev = c.args.dev in
    let bases = c.args.bases.now in
    let place : position (is_base dev) bases ≡ None = ap (position (is_base dev)) (sym c.as_slice.ensures) ∙ sym c.base_place.ensures ∙ c.in_default.is in
    not_found (is_base dev) (applied c.args.end c.args.p.now) bases place

pub returns-in_default-clause-piece : goal.returns-in_default-clause-piece
returns-in_default-clause-piece c =
    let dev = c.args.dev in
    let bases = c.args.bases.now in
    let place : position (is_base dev) bases ≡ None = ap (position (is_base dev)) (sym c.as_slice.ensures) ∙ sym c.base_place.ensures ∙ c.in_default.is in
    ap (λ (o : Option Base). option_map (served c.args.end c.args.size c.args.p.now) o) (sym (missed (is_base dev) bases place))

pub returns-clause-bases : goal.returns-clause-bases
returns-clause-bases c =
    let dev = c.args.dev in
    let bases = c.args.bases.now in
    let place : position (is_base dev) bases ≡ Some c.in-Some.place = ap (position (is_base dev)) (sym c.as_slice.ensures) ∙ sym c.base_place.ensures ∙ c.in-Some.is in
    set_found (is_base dev) (applied c.args.end c.args.p.now) bases c.in-Some.place c.serve_first.new.base c.at_mut.result.now place
    (c.in_ok-piece.ensures.base ∙ ap (applied c.args.end c.args.p.now) c.at_mut.ensures.value)

pub returns-clause-piece : goal.returns-clause-piece
returns-clause-piece c =
    let dev = c.args.dev in
    let bases = c.args.bases.now in
    let place : position (is_base dev) bases ≡ Some c.in-Some.place = ap (position (is_base dev)) (sym c.as_slice.ensures) ∙ sym c.base_place.ensures ∙ c.in-Some.is in
    let found : find (is_base dev) bases ≡ Some c.at_mut.result.now = found_at (is_base dev) bases c.in-Some.place c.at_mut.result.now place c.at_mut.ensures.value in
    ap Some c.in_ok-piece.ensures.piece ∙ sym (ap (λ (o : Option Base). option_map (served c.args.end c.args.size c.args.p.now) o) found)
