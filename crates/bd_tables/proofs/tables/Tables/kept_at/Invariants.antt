use Rattle.bd_tables.specs.Rows.{keeps}
use Rattle.bd_tables.specs.Firsts.{NonePasses}
use Rattle.bd_tables.proofs.tables.Tables.kept_at.Given as goal

abbrev pub invariant-loop-i : goal.invariant-loop-i
invariant-loop-i l = NonePasses (keeps l.id) l.self.rows l.i
