use Rattle.bd_tables.specs.Rows.{is_in}
use Rattle.bd_tables.specs.Firsts.{NonePasses}
use Rattle.bd_tables.proofs.tables.Tables.first_row_in.Given as goal

abbrev pub invariant-loop-i : goal.invariant-loop-i
invariant-loop-i l = NonePasses (is_in l.place) l.self.rows l.i
