use Rattle.bd_judge.proofs.Leads.{IsAt}
use Rattle.bd_judge.proofs.judging.judge.Given as goal

-- the entries so far are a run that leads to the machine's state
abbrev pub invariant-loop-entry : goal.invariant-loop-entry
invariant-loop-entry l = IsAt l.setup l.trace l.entry-index l.machine
