use Rattle.std.proofs.Common.{ap, sym, ◌∙◌, remove, ◌≡◌, true, subst}
use Rattle.bd_tables.specs.Firsts.{at, NonePasses}
use Rattle.bd_tables.specs.Rows.{Rows, keeps, is_waiting, row_id}
use Rattle.bd_tables.proofs.Found.{none_any, none_moved, first_moved}
use Rattle.bd_tables.proofs.Index.{kept_first}
use Rattle.bd_tables.proofs.tables.Tables.move_to.Goals as goal

pub returns-in_default-clause-kept : goal.returns-in_default-clause-kept
returns-in_default-clause-kept c = sym (none_any (keeps c.args.id) c.args.self.now.rows c.in_default.ensures)

pub returns-in_default-clause-rows : goal.returns-in_default-clause-rows
returns-in_default-clause-rows c = none_moved c.args.id c.args.place c.args.self.now.rows c.in_default.ensures

pub returns-clause-rows : goal.returns-clause-rows
returns-clause-rows c =
    ap (λ (t : Rows). t.rows) c.join.ensures
    ∙ first_moved c.args.id c.args.place c.args.self.now.rows c.take-row.new.self.rows c.in-Some.i c.take-row.result c.in-Some.ensures
    (ap (λ (t : Rows). t.rows) c.take-row.ensures.rest ∙ ap (λ (t : Rows). remove t.rows c.in-Some.i) c.self.view_is)
    (c.take-row.ensures.row ∙ ap (λ (t : Rows). at t.rows c.in-Some.i) c.self.view_is)

pub take-row-requires-clause-first : goal.take-row-requires-clause-first
take-row-requires-clause-first c =
    subst (λ (t : Rows). is_waiting (at t.rows c.in-Some.i) ≡ true → NonePasses (keeps (row_id (at t.rows c.in-Some.i))) t.rows c.in-Some.i) (sym c.self.view_is)
    (kept_first c.args.id c.args.self.now.rows c.in-Some.i c.in-Some.ensures)
