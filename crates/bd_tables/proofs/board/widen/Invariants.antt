use Rattle.bd_tables.specs.Lines.{AreKept}
use Rattle.bd_tables.proofs.Index.{AreRoomySoFar}
use Rattle.bd_tables.proofs.board.widen.Given as goal

abbrev pub invariant-loop-d : goal.invariant-loop-d
invariant-loop-d l = AreKept l.fn.lines l.lines × AreRoomySoFar l.limit l.lines l.d
