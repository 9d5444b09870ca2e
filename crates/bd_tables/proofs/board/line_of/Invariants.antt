use Rattle.std.proofs.Common.{◌≤◌, take}
use Rattle.bd_tables.specs.Lines.{IsExact}
use Rattle.bd_tables.proofs.board.line_of.Given as goal

abbrev pub invariant-loop-i : goal.invariant-loop-i
invariant-loop-i l = IsExact l.dev (take l.i l.shelf.rows) l.line × (l.limit ≤ l.line.capacity)
