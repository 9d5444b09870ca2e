use Rattle.std.proofs.Common.{Some, subst, sym}
use Rattle.crossbeam_queue.specs.Passes.{view}
use Rattle.bd_turns.specs.declared.queue.Post.{Post}
use Rattle.bd_ring.specs.Rings.{HandsOut}
use Rattle.bd_ring.proofs.RingSteps.{takes_rest, delivers}
use Rattle.bd_ring.proofs.Accounts.{account, next_returns}
use Rattle.bd_ring.proofs.ring.Settled.next.Goals as goal

pub pop_as-requires-clause-rule : goal.pop_as-requires-clause-rule
pop_as-requires-clause-rule g c = (takes_rest _ _ c.self.invariant.1, delivers _ _ c.self.invariant.1)

pub returns-clause-next : goal.returns-clause-next
returns-clause-next g c =
    subst (λ (p : Post). HandsOut c.args.self.now p (account (view c.pop_as.new.pass))) (sym c.open.ensures.post)
    (next_returns _ _ _ (Some c.in_ok-letter.letter) c.self.invariant.2 c.self.view_is c.in_ok-letter.ensures.rule)
