use Rattle.std.proofs.Common.{◌≡◌, List, Some, slice_get, option_copied, sym, ◌∙◌, ap}
use Rattle.bd_base.specs.declared.id.ReqId.{ReqId}
use Rattle.bd_tables.specs.Lines.{Line}
use Rattle.bd_tables.specs.Rows.{Rows, first_id, waits_under}
use Rattle.bd_tables.proofs.Index.{exact_got}
use Rattle.bd_tables.proofs.Lines.{first_listed}
use Rattle.bd_tables.proofs.board.Board.first_under.Goals as goal

pub returns-in-Some : goal.returns-in-Some
returns-in-Some c =
    let found : slice_get c.self.inside.lines c.args.dev.0 ≡ Some c.in-Some.line.now =
    ap (λ (lines : List Line). slice_get lines c.args.dev.0) (sym c.as_slice.ensures) ∙ sym c.line_under.ensures ∙ ap option_copied c.in-Some.is in
    let exact = exact_got c.self.inside.shelf.rows c.self.inside.lines c.self.inside.limit c.args.dev.0 c.in-Some.line.now c.self.invariant.all found in
    c.first.ensures ∙ ap (λ (ids : List ReqId). slice_get ids 0) exact.waiting ∙ first_listed (waits_under c.args.dev c.self.inside.shelf.rows)
    ∙ ap (λ (t : Rows). first_id (waits_under c.args.dev t.rows)) c.self.view_is

pub returns-in-None : goal.returns-in-None
returns-in-None c = c.first_found.ensures ∙ ap (λ (t : Rows). first_id (waits_under c.args.dev t.rows)) c.self.view_is
