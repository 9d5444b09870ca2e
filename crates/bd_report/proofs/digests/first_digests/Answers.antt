use Rattle.bd_report.specs.Report.{digest_in}
use Rattle.bd_report.proofs.IndexLemmas.{noted}
use Rattle.bd_report.proofs.digests.first_digests.Goals as goal

pub loop-entry-preserved : goal.loop-entry-preserved
loop-entry-preserved c device =
    noted (digest_in device) c.args.trace.now c.loop-entry.entry-index c.entry-item.result c.loop-entry-test.true c.entry-item.is (c.in_ok-note_digest.ensures device) (c.loop-entry.invariant device)
