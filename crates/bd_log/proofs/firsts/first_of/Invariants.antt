use Rattle.bd_log.proofs.Choice.{FirstUpTo}
use Rattle.bd_log.proofs.firsts.first_of.Given as goal

-- no part so far comes before the first
abbrev pub invariant-loop-place : goal.invariant-loop-place
invariant-loop-place l = FirstUpTo l.parts l.first l.place
