use Rattle.std.proofs.Common.{ap, sym, ◌∙◌, List, Option, ℕ, position}
use Rattle.bd_base.specs.declared.id.ReqId.{ReqId}
use Rattle.bd_msg.specs.Purse.{same_request}
use Rattle.bd_msg.proofs.Without.{position-first, position-later, position-nowhere}
use Rattle.bd_msg.proofs.purse.place_from_first.Goals as goal

abbrev at : ReqId → List ReqId → Option ℕ
at id xs = position (λ x. same_request x id) xs

pub returns-in_err-place-in-None : goal.returns-in_err-place-in-None
returns-in_err-place-in-None c =
    c.from_residual.ensures
    ∙ sym (position-nowhere c.args.id c.as_slices.result.0.now c.as_slices.result.1.now (sym c.in-None.ensures) (sym c.in_err-place-in-None.ensures))
    ∙ ap (at c.args.id) c.as_slices.ensures.items

pub returns-in-Some : goal.returns-in-Some
returns-in-Some c =
    sym (position-first c.args.id c.as_slices.result.0.now c.as_slices.result.1.now c.in-Some.place (sym c.in-Some.ensures))
    ∙ ap (at c.args.id) c.as_slices.ensures.items

pub returns-in_ok-place-in-None : goal.returns-in_ok-place-in-None
returns-in_ok-place-in-None c =
    sym (position-later c.args.id c.as_slices.result.0.now c.as_slices.result.1.now c.in_ok-place-in-None.place (sym c.in-None.ensures) (sym c.in_ok-place-in-None.ensures))
    ∙ ap (at c.args.id) c.as_slices.ensures.items
