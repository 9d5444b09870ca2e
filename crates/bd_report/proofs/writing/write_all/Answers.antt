use Rattle.std.proofs.Common.{arith}
use Rattle.bd_report.proofs.WritingLemmas.{appends_next}
use Rattle.bd_report.proofs.writing.write_all.Goals as goal

pub loop-at-preserved : goal.loop-at-preserved
loop-at-preserved g c =
    (appends_next _ _ _ c.args.bytes.now c.loop-at.at c.in_ok-at.field-0 c.loop-at.invariant.0 c.in_ok-at.ensures.taken, omega arith, (λ e. c.in_ok-at.ensures.untold (c.loop-at.invariant.2 e)), omega (arith, c.in_ok-at.ensures.within))
