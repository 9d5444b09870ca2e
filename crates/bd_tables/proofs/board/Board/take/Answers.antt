use Rattle.std.proofs.Common.{◌≡◌, ◌<◌, ◌-◌, ◌+◌, true, length, remove, sym, ◌∙◌, ap, subst, arith}
use Rattle.bd_tables.specs.Firsts.{at, NonePasses}
use Rattle.bd_tables.specs.Rows.{Rows, is_waiting, keeps, row_id}
use Rattle.bd_tables.proofs.Index.{indexed_take, length_gone}
use Rattle.bd_tables.proofs.Order.{same_table}
use Rattle.bd_tables.proofs.board.Board.take.Goals as goal

pub leave-requires : goal.leave-requires
leave-requires c = c.self.invariant.all.few

pub invariant_of-self : goal.invariant_of-self
invariant_of-self c =
    let first = subst (λ (t : Rows). is_waiting (at t.rows c.args.i) ≡ true → NonePasses (keeps (row_id (at t.rows c.args.i))) t.rows c.args.i) (sym c.self.view_is) c.requires.first in
    indexed_take c.self.inside.shelf c.take-row.new.self c.self.inside.lines c.leave.new.lines c.self.inside.limit c.args.i c.take-row.result c.self.invariant
    (omega (arith, c.requires.inside, ap (λ (t : Rows). length t.rows) c.self.view_is)) first c.take-row.ensures.row c.take-row.ensures.rest c.leave.ensures

pub returns-clause-row : goal.returns-clause-row
returns-clause-row c = c.take-row.ensures.row ∙ ap (λ (t : Rows). at t.rows c.args.i) c.self.view_is

pub returns-clause-rest : goal.returns-clause-rest
returns-clause-rest c =
    let inside : c.args.i < length c.self.inside.shelf.rows = omega (arith, c.requires.inside, ap (λ (t : Rows). length t.rows) c.self.view_is) in
    let room : c.self.inside.limit - length c.take-row.new.self.rows ≡ c.args.self.now.room + 1 =
    omega (arith, ap (λ (t : Rows). length t.rows) c.take-row.ensures.rest, length_gone c.self.inside.shelf.rows c.args.i inside, ap (λ (t : Rows). t.room) c.self.view_is, c.self.invariant.fits, inside) in
    same_table _ _ _ _ (ap (λ (t : Rows). t.rows) c.take-row.ensures.rest ∙ ap (λ (t : Rows). remove t.rows c.args.i) c.self.view_is) room
