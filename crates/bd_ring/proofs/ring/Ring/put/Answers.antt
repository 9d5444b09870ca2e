use Rattle.std.proofs.Common.{ap, ◌∙◌, sym}
use Rattle.crossbeam_queue.specs.Passes.{view}
use Rattle.bd_turns.specs.declared.queue.Post.{Post}
use Rattle.bd_ring.specs.Rings.{Place}
use Rattle.bd_ring.proofs.Causes.{refused_alone}
use Rattle.bd_ring.proofs.RingSteps.{puts, holds_last}
use Rattle.bd_ring.proofs.ring.Ring.put.Goals as goal

pub push_as-requires-clause-rule : goal.push_as-requires-clause-rule
push_as-requires-clause-rule g c = (puts _ _ _ _ c.pass.invariant.1 (ap (λ (p : Post). p.message.sender) c.new-letter.ensures ∙ c.requires.sender ∙ ap (λ s. s.number) (sym c.pass.view_is) ∙ sym c.pass.invariant.2), holds_last _ _ c.pass.invariant.1)

pub returns-in-Err-clause-alone : goal.returns-in-Err-clause-alone
returns-in-Err-clause-alone g c =
    refused_alone _ _ _ (view c.pass.inside.pass) c.pass.inside.refused c.args.self.now c.args.pass.now (ap (λ (p : Place). p.capacity) c.self.view_is) c.pass.invariant.2 c.pass.view_is c.in-Err.ensures.rule.2
