use Rattle.bd_report.specs.Report.{outcome_in}
use Rattle.bd_report.proofs.IndexLemmas.{noted}
use Rattle.bd_report.proofs.outcomes.first_outcomes.Goals as goal

pub loop-entry-preserved : goal.loop-entry-preserved
loop-entry-preserved c thread number =
    noted (outcome_in thread number) c.args.trace.now c.loop-entry.entry-index c.entry-item.result c.loop-entry-test.true c.entry-item.is (c.in_ok-note_outcome.ensures thread number) (c.loop-entry.invariant thread number)
