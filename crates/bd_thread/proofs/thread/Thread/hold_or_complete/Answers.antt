use Rattle.std.proofs.Common.{subst}
use Rattle.bd_thread.specs.Delays.{Holds}
use Rattle.bd_thread.proofs.Delaying.{carried_held, carried_on}
use Rattle.bd_thread.proofs.Going.{acted_then}
use Rattle.bd_thread.proofs.thread.Thread.hold_or_complete.Goals as goal

pub returns-then-is_held-clause-carried : goal.returns-then-is_held-clause-carried
returns-then-is_held-clause-carried c =
    let old = c.args.self.now in
    let links = c.args.links.now in
    carried_held old links c.hold.new.self c.hold.new.links c.args.req (subst (Holds c.args.req old links c.hold.new.self c.hold.new.links) c.if-is_held.true c.in_ok-is_held.ensures.holds)

pub returns-clause-acted : goal.returns-clause-acted
returns-clause-acted c = acted_then _ _ _ _ _ _ c.in_ok-is_held.ensures.acted c.in_ok-_completed.ensures.acted

pub returns-clause-carried : goal.returns-clause-carried
returns-clause-carried c =
    let old = c.args.self.now in
    let links = c.args.links.now in
    carried_on old links c.hold.new.self c.hold.new.links c.complete.new.self c.complete.new.links c.args.req
    (subst (Holds c.args.req old links c.hold.new.self c.hold.new.links) c.if-is_held.false c.in_ok-is_held.ensures.holds)
    (record { done = c.in_ok-_completed._completed; completes = c.in_ok-_completed.ensures.completes })
