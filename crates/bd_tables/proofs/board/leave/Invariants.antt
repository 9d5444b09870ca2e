use Rattle.bd_tables.specs.Lines.{without_row}
use Rattle.bd_tables.proofs.Index.{AreSoFar}
use Rattle.bd_tables.proofs.board.leave.Given as goal

abbrev pub invariant-loop-d : goal.invariant-loop-d
invariant-loop-d l = AreSoFar (λ dev line. without_row dev l.row line) l.fn.lines l.lines l.d
