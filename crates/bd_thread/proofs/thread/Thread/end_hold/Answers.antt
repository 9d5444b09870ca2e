use Rattle.std.proofs.Common.{subst}
use Rattle.bd_thread.specs.Delays.{Releases}
use Rattle.bd_thread.proofs.Delaying.{ends_none, ends_so}
use Rattle.bd_thread.proofs.Going.{acted_then}
use Rattle.bd_thread.proofs.thread.Thread.end_hold.Goals as goal

pub returns-then-not-is_released-clause-ends : goal.returns-then-not-is_released-clause-ends
returns-then-not-is_released-clause-ends c =
    let old = c.args.self.now in
    let links = c.args.links.now in
    ends_none old links c.release.new.self c.release.new.links c.args.req
    (subst (Releases c.args.req old links c.release.new.self c.release.new.links) c.if-not-is_released.true c.in_ok-is_released.ensures.releases)

pub returns-clause-acted : goal.returns-clause-acted
returns-clause-acted c = acted_then _ _ _ _ _ _ c.in_ok-is_released.ensures.acted c.in_ok-_completed.ensures.acted

pub returns-clause-ends : goal.returns-clause-ends
returns-clause-ends c =
    let old = c.args.self.now in
    let links = c.args.links.now in
    ends_so old links c.release.new.self c.release.new.links c.complete.new.self c.complete.new.links c.args.req
    (subst (Releases c.args.req old links c.release.new.self c.release.new.links) c.if-not-is_released.false c.in_ok-is_released.ensures.releases)
    (record { done = c.in_ok-_completed._completed; completes = c.in_ok-_completed.ensures.completes })
