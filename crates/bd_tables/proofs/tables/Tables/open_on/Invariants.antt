use Rattle.std.proofs.Common.{◌≡◌, take, count_by}
use Rattle.bd_tables.specs.Rows.{is_on}
use Rattle.bd_tables.proofs.tables.Tables.open_on.Given as goal

abbrev pub invariant-loop-i : goal.invariant-loop-i
invariant-loop-i l = l.open ≡ count_by (is_on l.handle) (take l.i l.self.rows)
