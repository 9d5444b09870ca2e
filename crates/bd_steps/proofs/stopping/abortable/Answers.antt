use Rattle.std.proofs.Common.{None, sym, ◌∙◌, ap, cond, is_none}
use Rattle.bd_machine.specs.Kept.{request_here}
use Rattle.bd_steps.proofs.Refused.{none_by}
use Rattle.bd_steps.proofs.stopping.abortable.Goals as goal

pub returns-then-is_none : goal.returns-then-is_none
returns-then-is_none g c =
    let v = g.S.Sees.view_of c.args.seen.now in
    let may = none_by c.is_none.result c.refused_abort.result (sym c.is_none.ensures) ∙ ap is_none c.refused_abort.ensures in
    c.request_here.ensures ∙ sym (ap (λ b. cond b (request_here v c.args.req) None) (sym may ∙ c.if-is_none.true))

pub returns-else-is_none : goal.returns-else-is_none
returns-else-is_none g c =
    let v = g.S.Sees.view_of c.args.seen.now in
    let may = none_by c.is_none.result c.refused_abort.result (sym c.is_none.ensures) ∙ ap is_none c.refused_abort.ensures in
    sym (ap (λ b. cond b (request_here v c.args.req) None) (sym may ∙ c.if-is_none.false))
