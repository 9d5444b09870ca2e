use Rattle.std.proofs.Common.{◌∙◌}
use Rattle.bd_tables.specs.Rows.{keeps}
use Rattle.bd_tables.proofs.Found.{found_any}
use Rattle.bd_tables.proofs.tables.Tables.keeps.Goals as goal

pub returns : goal.returns
returns c = c.is_some.ensures ∙ found_any (keeps c.args.id) c.args.self.now.rows c.kept_at.result c.kept_at.ensures
