use Rattle.bd_tables.specs.Firsts.{NonePasses}
use Rattle.bd_tables.specs.Rows.{waits_over}
use Rattle.bd_tables.proofs.board.first_found.Given as goal

abbrev pub invariant-loop-i : goal.invariant-loop-i
invariant-loop-i l = NonePasses (waits_over l.dev) l.shelf.rows l.i
