use Rattle.std.proofs.Common.{◌≡◌, ◌-◌, ◌++◌, ◌∷◌, [], length, length-append, ◌∙◌, ap, arith}
use Rattle.bd_tables.specs.Rows.{Rows}
use Rattle.bd_tables.proofs.Index.{indexed_join, lines_fit}
use Rattle.bd_tables.proofs.Order.{same_table}
use Rattle.bd_tables.proofs.board.Board.join.Goals as goal

pub come-requires-clause-few : goal.come-requires-clause-few
come-requires-clause-few c = c.self.invariant.all.few

pub come-requires-clause-fits : goal.come-requires-clause-fits
come-requires-clause-fits c =
    lines_fit c.self.inside.shelf.rows c.self.inside.lines c.self.inside.limit c.self.invariant.all
    (omega (arith, c.requires, ap (λ (t : Rows). t.room) c.self.view_is)) c.self.invariant.small

pub join-requires : goal.join-requires
join-requires c = omega (arith, c.requires, ap (λ (t : Rows). t.room) c.self.view_is, c.self.invariant.room)

pub invariant_of-self : goal.invariant_of-self
invariant_of-self c =
    indexed_join c.self.inside.shelf c.join.new.self c.self.inside.lines c.come.new.lines c.self.inside.limit c.args.row c.self.invariant
    (omega (arith, c.requires, ap (λ (t : Rows). t.room) c.self.view_is)) c.join.ensures c.come.ensures

pub returns : goal.returns
returns c =
    let room : c.self.inside.limit - length c.join.new.self.rows ≡ c.args.self.now.room - 1 =
    omega (arith, ap (λ (t : Rows). length t.rows) c.join.ensures, length-append c.self.inside.shelf.rows (c.args.row ∷ []), ap (λ (t : Rows). t.room) c.self.view_is) in
    same_table _ _ _ _ (ap (λ (t : Rows). t.rows) c.join.ensures ∙ ap (λ (t : Rows). t.rows ++ c.args.row ∷ []) c.self.view_is) room
