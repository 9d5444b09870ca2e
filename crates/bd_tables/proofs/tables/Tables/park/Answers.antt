use Rattle.std.proofs.Common.{◌<◌, ◌++◌, ◌∷◌, [], List, length, arith, ap, ◌∙◌, length-append}
use Rattle.bd_tables.specs.declared.row.Row.{Row}
use Rattle.bd_tables.specs.declared.under.Under.{Under}
use Rattle.bd_tables.specs.Rows.{Rows, is_out, without_first}
use Rattle.bd_tables.proofs.tables.Tables.park.Goals as goal

pub join-requires : goal.join-requires
join-requires c =
    omega (arith, c.forget.ensures.spare c.requires.room, ap (λ (t : Rows). t.room) c.self.view_is)

pub returns-clause-rows : goal.returns-clause-rows
returns-clause-rows c =
    ap (λ (t : Rows). t.rows) c.join.ensures
    ∙ ap (λ (t : Rows). t.rows ++ record { request = c.args.request; place = c.args.place; under = c.of.result } ∷ []) c.self.view_is
    ∙ ap (λ (rs : List Row). rs ++ record { request = c.args.request; place = c.args.place; under = c.of.result } ∷ []) c.forget.ensures.rows
    ∙ ap (λ (u : Under). without_first (is_out c.args.request.id) c.args.self.now.rows ++ record { request = c.args.request; place = c.args.place; under = u } ∷ []) c.of.ensures

pub returns-clause-room : goal.returns-clause-room
returns-clause-room c =
    let spare : 0 < c.forget.new.self.room = c.forget.ensures.spare c.requires.room in
    omega (
      arith,
      c.forget.ensures.room,
      ap (λ (t : Rows). t.room) c.join.ensures,
      ap (λ (t : Rows). length t.rows) c.join.ensures,
      ap (λ (t : Rows). t.room) c.self.view_is,
      ap (λ (t : Rows). length t.rows) c.self.view_is,
      length-append c.self.inside.board.rows (record { request = c.args.request; place = c.args.place; under = c.of.result } ∷ []),
    )
