use Rattle.bd_tables.specs.Lines.{AreLines}
use Rattle.bd_tables.proofs.board.add.Given as goal

abbrev pub invariant-loop-d : goal.invariant-loop-d
invariant-loop-d l = AreLines l.shelf.rows l.lines l.limit
