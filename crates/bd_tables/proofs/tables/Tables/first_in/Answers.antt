use Rattle.std.proofs.Common.{ap, ◌∙◌}
use Rattle.bd_tables.specs.declared.row.Row.{Row}
use Rattle.bd_tables.specs.Firsts.{at}
use Rattle.bd_tables.specs.Rows.{Rows, is_in}
use Rattle.bd_tables.proofs.Found.{none_read, first_read}
use Rattle.bd_tables.proofs.tables.Tables.first_in.Goals as goal

pub returns-in_default : goal.returns-in_default
returns-in_default c = none_read (λ (r : Row). r.request.id) (is_in c.args.place) c.args.self.now.rows c.in_default.ensures

pub returns : goal.returns
returns c =
    first_read (λ (r : Row). r.request.id) (is_in c.args.place) c.args.self.now.rows c.in-Some.i c.at.result c.in-Some.ensures
    (c.at.ensures ∙ ap (λ (t : Rows). at t.rows c.in-Some.i) c.self.view_is)
