use Rattle.bd_thread.specs.Looking.{Settles}
use Rattle.bd_thread.proofs.thread.Thread.settle.Given as goal

-- none but those that rest was let go
abbrev pub invariant-loop-round : goal.invariant-loop-round
invariant-loop-round l = Settles l.entries l.self l.links l.fn.touched l.touched
