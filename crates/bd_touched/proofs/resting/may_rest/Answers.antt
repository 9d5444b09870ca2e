use Rattle.std.proofs.Common.{sym, ◌∙◌, ap}
use Rattle.bd_flight.specs.Next.{is_wait}
use Rattle.bd_touched.proofs.Rested.{may_rest_so}
use Rattle.bd_touched.proofs.resting.may_rest.Goals as goal

pub returns : goal.returns
returns g c = λ waits keys held.
    may_rest_so c.args.setup.now c.args.me (g.S.Sees.view_of c.args.seen.now) keys c.args.req c.args.r c.requires
    (sym c.has_range.ensures ∙ c.if-not-has_range.false)
    held
    (sym c.is_still.ensures ∙ c.if-not-is_still.false)
    (sym (ap is_wait c.next_step.ensures.step) ∙ sym c.is_wait.ensures ∙ waits)
