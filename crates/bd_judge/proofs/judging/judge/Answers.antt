use Rattle.bd_judge.proofs.Leads.{step_on, stops_at}
use Rattle.bd_judge.proofs.judging.judge.Goals as goal

pub returns-in-Err-Illegal : goal.returns-in-Err-Illegal
returns-in-Err-Illegal c =
    rw c.in-Err-Illegal.field-0-is
    (stops_at c.args.setup.now c.args.trace.now c.loop-entry.entry-index c.entry-item.result c.loop-entry.machine c.in-Err-Illegal.field-0 c.in-Err-Illegal.guard c.in-Err-Illegal.stamp
    c.loop-entry-test.true c.entry-item.is c.loop-entry.invariant c.in-Err-Illegal.ensures.refused c.in-Err-Illegal.field-0-is)

pub loop-entry-preserved : goal.loop-entry-preserved
loop-entry-preserved c =
    step_on c.args.setup.now c.args.trace.now c.loop-entry.entry-index c.entry-item.result c.loop-entry.machine c.step.new.self
    c.loop-entry-test.true c.entry-item.is c.loop-entry.invariant c.in-Ok.ensures.ok c.in-Ok.ensures.setup
