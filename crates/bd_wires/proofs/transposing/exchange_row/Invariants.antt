use Rattle.bd_wires.specs.Transposing.{RowExchanged}
use Rattle.bd_wires.proofs.transposing.exchange_row.Given as goal

abbrev pub invariant-loop-earlier : goal.invariant-loop-earlier
invariant-loop-earlier l = RowExchanged l.thread l.earlier l.initial.passes l.passes
