use Rattle.std.proofs.Common.{sym, ◌∙◌, ap}
use Rattle.bd_flight.specs.Next.{is_abort, may_take}
use Rattle.bd_flight.proofs.Laws.{cut_comes, end_comes, is_let, stop_comes, waits}
use Rattle.bd_flight.proofs.next.next_step.Goals as goal

pub returns-clause-allowed : goal.returns-clause-allowed
returns-clause-allowed g c =
    let v = g.S.Sees.view_of c.args.seen.now in
    ap (may_take c.args.setup.now c.args.me v c.args.req) c.step_now.ensures ∙ is_let c.args.setup.now c.args.me v c.args.req

pub returns-clause-abort : goal.returns-clause-abort
returns-clause-abort g c = λ cause may.
    ap is_abort c.step_now.ensures ∙ stop_comes c.args.setup.now c.args.me (g.S.Sees.view_of c.args.seen.now) c.args.req cause may

pub returns-clause-complete : goal.returns-clause-complete
returns-clause-complete g c = λ status may.
    c.step_now.ensures ∙ end_comes c.args.setup.now c.args.me (g.S.Sees.view_of c.args.seen.now) c.args.req status may

pub returns-clause-cut : goal.returns-clause-cut
returns-clause-cut g c = λ may.
    c.step_now.ensures ∙ cut_comes c.args.setup.now c.args.me (g.S.Sees.view_of c.args.seen.now) c.args.req may

pub returns-clause-wait : goal.returns-clause-wait
returns-clause-wait g c = λ wait step may.
    waits c.args.setup.now c.args.me (g.S.Sees.view_of c.args.seen.now) c.args.req (sym c.step_now.ensures ∙ wait) step may
