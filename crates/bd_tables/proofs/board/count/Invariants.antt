use Rattle.std.proofs.Common.{◌≡◌, take, count_by}
use Rattle.bd_tables.specs.Rows.{holds_up_of}
use Rattle.bd_tables.proofs.board.count.Given as goal

abbrev pub invariant-loop-i : goal.invariant-loop-i
invariant-loop-i l = l.count ≡ count_by (holds_up_of l.dev l.thread.0) (take l.i l.shelf.rows)
