use Rattle.std.proofs.Common.{ap, sym, ◌∙◌, remove, ◌≡◌, true, subst}
use Rattle.bd_tables.specs.Firsts.{at, NonePasses}
use Rattle.bd_tables.specs.Rows.{Rows, is_out, is_waiting, keeps, row_id}
use Rattle.bd_tables.proofs.Found.{none_any, none_goes, first_goes}
use Rattle.bd_tables.proofs.Index.{out_first}
use Rattle.bd_tables.proofs.tables.Tables.forget.Goals as goal

pub returns-in_default-clause-rows : goal.returns-in_default-clause-rows
returns-in_default-clause-rows c = sym (none_goes (is_out c.args.id) c.args.self.now.rows c.in_default.ensures)

pub returns-in_default-clause-spare : goal.returns-in_default-clause-spare
returns-in_default-clause-spare c = λ spare. spare (none_any (is_out c.args.id) c.args.self.now.rows c.in_default.ensures)

pub returns-clause-rows : goal.returns-clause-rows
returns-clause-rows c =
    ap (λ (t : Rows). t.rows) c.take-copy.ensures.rest ∙ ap (λ (t : Rows). remove t.rows c.in-Some.i) c.self.view_is
    ∙ sym (first_goes (is_out c.args.id) c.args.self.now.rows c.in-Some.i c.in-Some.ensures)

pub take-copy-requires-clause-first : goal.take-copy-requires-clause-first
take-copy-requires-clause-first c =
    subst (λ (t : Rows). is_waiting (at t.rows c.in-Some.i) ≡ true → NonePasses (keeps (row_id (at t.rows c.in-Some.i))) t.rows c.in-Some.i) (sym c.self.view_is)
    (out_first c.args.id c.args.self.now.rows c.in-Some.i c.in-Some.ensures)
