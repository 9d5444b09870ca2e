use Rattle.bd_tables.specs.Lines.{with_row}
use Rattle.bd_tables.proofs.Index.{AreSoFar}
use Rattle.bd_tables.proofs.board.come.Given as goal

abbrev pub invariant-loop-d : goal.invariant-loop-d
invariant-loop-d l = AreSoFar (λ dev line. with_row dev l.row line) l.fn.lines l.lines l.d
