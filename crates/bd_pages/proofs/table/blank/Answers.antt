use Rattle.std.proofs.Common.{ℕ, List, [], replicate, subst, sym, arith}
use Rattle.std.proofs.lemmas.List.{append-nil}
use Rattle.bd_pages.specs.Table.{IsCut, pieces}
use Rattle.bd_pages.proofs.Cuts.{cut_length}
use Rattle.bd_pages.proofs.Steps.{blank_bytes, blank_cut, blank_marks}
use Rattle.bd_pages.proofs.table.blank.Goals as goal

pub loop-left-preserved : goal.loop-left-preserved
loop-left-preserved c =
    let pages = c.loop-left.pages.items in
    let now = c.push.new.self.items in (
      omega arith,
      blank_bytes pages now c.blank.result c.loop-left.left c.reach-count.result c.in_ok-push.ensures.items c.blank.ensures (replicate c.args.len 0) (omega arith) c.loop-left.invariant.1,
      blank_cut pages now c.blank.result c.loop-left.left c.reach-count.result c.in_ok-push.ensures.items c.blank.ensures c.args.len (omega arith) (omega arith) c.loop-left.invariant.2,
      blank_marks pages now c.blank.result c.loop-left.left c.reach-count.result c.in_ok-push.ensures.items c.blank.ensures _ (omega arith) (omega arith) c.loop-left.invariant.3,
    )

pub returns-clause-paged : goal.returns-clause-paged
returns-clause-paged c =
    let bs : List (List ℕ) = pieces c.loop-left.pages.items in
    let cut : IsCut c.args.len bs = subst (IsCut c.args.len) (append-nil bs) (c.loop-left.invariant.2 [] (omega arith)) in
    subst (λ (n : ℕ). IsCut n bs) (sym (cut_length c.args.len bs cut)) cut
