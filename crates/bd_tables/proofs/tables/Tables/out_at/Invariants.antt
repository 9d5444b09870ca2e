use Rattle.bd_tables.specs.Rows.{is_out}
use Rattle.bd_tables.specs.Firsts.{NonePasses}
use Rattle.bd_tables.proofs.tables.Tables.out_at.Given as goal

abbrev pub invariant-loop-i : goal.invariant-loop-i
invariant-loop-i l = NonePasses (is_out l.id) l.self.rows l.i
