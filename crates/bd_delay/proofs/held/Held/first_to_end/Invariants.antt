use Rattle.bd_delay.specs.Holds.{IsFirstOf}
use Rattle.bd_delay.proofs.held.Held.first_to_end.Given as goal

abbrev pub invariant-loop-k : goal.invariant-loop-k
invariant-loop-k l = IsFirstOf l.self.rows l.k l.first
