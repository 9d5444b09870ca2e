use Rattle.std.proofs.Common.{◌+◌, ◌-◌, ◌<◌, List, [], ◌∷◌, ◌++◌, map, ◌∙◌, ap, arith}
use Rattle.std.specs.List.{range_with_len}
use Rattle.bd_machine.specs.declared.state.Part.{Part}
use Rattle.bd_machine.specs.Start.{part_at_start}
use Rattle.bd_rule_effects.proofs.Left.{left_from}
use Rattle.bd_machine.proofs.Moving.{moved_on}
use Rattle.bd_state.proofs.start.parts_at_start.Goals as goal

pub loop-t-preserved : goal.loop-t-preserved
loop-t-preserved c =
    let less : c.loop-t.t < c.args.setup.now.threads = omega (arith, c.loop-t-test.true, c.loop-t.auto.t-end) in
    moved_on c.loop-t.parts c.push.new.self (part_at_start c.args.setup.now [] c.loop-t.t) (map (part_at_start c.args.setup.now []) (range_with_len c.loop-t.t (c.args.setup.now.threads - c.loop-t.t))) (map (part_at_start c.args.setup.now []) (range_with_len (c.loop-t.t + 1) (c.args.setup.now.threads - (c.loop-t.t + 1)))) (map (part_at_start c.args.setup.now []) (range_with_len 0 c.args.setup.now.threads))
    (c.in_ok-push.ensures.ok ∙ ap (λ (p : Part). let l : List Part = p ∷ [] in c.loop-t.parts ++ l) c.in_ok-part.ensures)
    (ap (map (part_at_start c.args.setup.now [])) (left_from c.loop-t.t c.args.setup.now.threads less)) c.loop-t.invariant
