use Rattle.std.proofs.Common.{◌+◌, ◌-◌, ◌<◌, List, [], ◌∷◌, ◌++◌, map, ◌∙◌, ap, arith}
use Rattle.std.specs.List.{range_with_len}
use Rattle.bd_machine.specs.declared.state.Due.{Due}
use Rattle.bd_machine.specs.Scripts.{mark_to}
use Rattle.bd_rule_effects.proofs.Left.{left_from}
use Rattle.bd_machine.proofs.Moving.{moved_on}
use Rattle.bd_rule_effects.proofs.lines.post.Goals as goal

pub loop-receiver-preserved : goal.loop-receiver-preserved
loop-receiver-preserved c =
    let less : c.loop-receiver.receiver < c.args.threads = omega (arith, c.loop-receiver-test.true, c.loop-receiver.auto.receiver-end) in
    moved_on c.loop-receiver.due c.push.new.self (mark_to c.args.mark.now c.loop-receiver.receiver) (map (mark_to c.args.mark.now) (range_with_len c.loop-receiver.receiver (c.args.threads - c.loop-receiver.receiver))) (map (mark_to c.args.mark.now) (range_with_len (c.loop-receiver.receiver + 1) (c.args.threads - (c.loop-receiver.receiver + 1)))) (c.args.due.now ++ map (mark_to c.args.mark.now) (range_with_len 0 c.args.threads))
    (c.in_ok-push.ensures.ok ∙ ap (λ (d : Due). let l : List Due = d ∷ [] in c.loop-receiver.due ++ l) c.in_ok-owed.ensures)
    (ap (map (mark_to c.args.mark.now)) (left_from c.loop-receiver.receiver c.args.threads less)) c.loop-receiver.invariant
