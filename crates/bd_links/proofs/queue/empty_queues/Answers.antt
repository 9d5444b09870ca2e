use Rattle.std.proofs.Common.{◌+◌, ◌-◌, ◌<◌, List, [], ◌∷◌, ◌++◌, ◌∙◌, ap, arith}
use Rattle.bd_turns.specs.declared.queue.Message.{Message}
use Rattle.bd_links.specs.Queues.{empty_queues}
use Rattle.bd_machine.proofs.Moving.{moved_on}
use Rattle.bd_links.proofs.Emptied.{zeros_next}
use Rattle.bd_links.proofs.queue.empty_queues.Goals as goal

pub loop-k-preserved : goal.loop-k-preserved
loop-k-preserved c =
    let less : c.loop-k.k < c.args.threads = omega (arith, c.loop-k-test.true, c.loop-k.auto.k-end) in
    moved_on c.loop-k.queues.items c.push.new.self.items [] (empty_queues (c.args.threads - c.loop-k.k)) (empty_queues (c.args.threads - (c.loop-k.k + 1))) (empty_queues c.args.threads)
    (c.in_ok-push.ensures.items ∙ ap (λ (q : List Message). let l : List (List Message) = q ∷ [] in c.loop-k.queues.items ++ l) c.new.ensures)
    (zeros_next c.loop-k.k c.args.threads [] less) c.loop-k.invariant
