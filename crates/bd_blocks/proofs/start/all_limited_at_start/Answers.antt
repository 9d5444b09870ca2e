use Rattle.std.proofs.Common.{◌∙◌, ◌&&◌, ◌==◌, ◌∷◌, ◌++◌, [], List, ap, sym, Bool}
use Rattle.bd_base.specs.declared.id.DevId.{DevId}
use Rattle.bd_machine.specs.declared.state.Limited.{Limited}
use Rattle.bd_machine.specs.BlockMap.{home}
use Rattle.bd_machine.specs.Limits.{is_limited}
use Rattle.bd_machine.specs.Start.{limited_at_start}
use Rattle.bd_stack.proofs.Numbered.{made_leaves, made_takes}
use Rattle.bd_blocks.proofs.start.all_limited_at_start.Goals as goal
use Rattle.bd_blocks.proofs.start.all_limited_at_start.Goals.{then-is_limited_here+in_ok-push, else-is_limited_here}

pub loop-n-preserved : goal.loop-n-preserved
loop-n-preserved c =
    let test : DevId → Bool = λ dev. is_limited c.args.setup.now dev && (home c.args.setup.now dev == c.args.thread) in
    let made = limited_at_start c.args.setup.now in
    elim c.if-is_limited_here.branch [
      | then-is_limited_here+in_ok-push w ↦ record {
        count = c.loop-n.invariant.count;
        found = w.found-is ∙ made_takes test made c.loop-n.found _ c.loop-n.n c.loop-n.invariant.found (sym c.is_limited_here.ensures ∙ w.if-is_limited_here.true)
            (w.in_ok-push.ensures.ok ∙ ap (λ (x : Limited). let xs : List Limited = x ∷ [] in c.loop-n.found ++ xs) w.limited_at_start.ensures);
      }
      | else-is_limited_here w ↦ record {
        count = c.loop-n.invariant.count;
        found = w.found-is ∙ made_leaves test made c.loop-n.found c.loop-n.n c.loop-n.invariant.found (sym c.is_limited_here.ensures ∙ w.if-is_limited_here.false);
      }
    ]
