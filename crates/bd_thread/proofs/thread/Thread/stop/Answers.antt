use Rattle.std.proofs.Common.{subst}
use Rattle.bd_thread.specs.Aborts.{Aborts}
use Rattle.bd_thread.proofs.Aborting.{stops_none, stops_so}
use Rattle.bd_thread.proofs.Going.{acted_then}
use Rattle.bd_thread.proofs.thread.Thread.stop.Goals as goal

pub returns-then-not-stopped-clause-stops : goal.returns-then-not-stopped-clause-stops
returns-then-not-stopped-clause-stops c =
    let old = c.args.self.now in
    let links = c.args.links.now in
    stops_none old links c.abort.new.self c.abort.new.links c.args.req c.args.cause
    (subst (Aborts c.args.req c.args.cause old links c.abort.new.self c.abort.new.links) c.if-not-stopped.true c.in_ok-stopped.ensures.aborts)

pub returns-clause-acted : goal.returns-clause-acted
returns-clause-acted c = acted_then _ _ _ _ _ _ c.in_ok-stopped.ensures.acted c.in_ok-_completed.ensures.acted

pub returns-clause-stops : goal.returns-clause-stops
returns-clause-stops c =
    let old = c.args.self.now in
    let links = c.args.links.now in
    stops_so old links c.abort.new.self c.abort.new.links c.complete.new.self c.complete.new.links c.args.req c.args.cause
    (subst (Aborts c.args.req c.args.cause old links c.abort.new.self c.abort.new.links) c.if-not-stopped.false c.in_ok-stopped.ensures.aborts)
    (record { done = c.in_ok-_completed._completed; completes = c.in_ok-_completed.ensures.completes })
