use Rattle.std.proofs.Common.{◌≡◌, List, Some, slice_get, option_copied, length, sym, ◌∙◌, ap, arith}
use Rattle.bd_tables.specs.Lines.{Line}
use Rattle.bd_tables.specs.Rows.{Rows, counted_under}
use Rattle.bd_tables.proofs.Index.{exact_got}
use Rattle.bd_tables.proofs.board.Board.count_under.Goals as goal

pub returns-in-Some : goal.returns-in-Some
returns-in-Some c =
    let found : slice_get c.self.inside.lines c.args.dev.0 ≡ Some c.in-Some.line.now =
    ap (λ (lines : List Line). slice_get lines c.args.dev.0) (sym c.as_slice.ensures) ∙ sym c.line_under.ensures ∙ ap option_copied c.in-Some.is in
    let exact = exact_got c.self.inside.shelf.rows c.self.inside.lines c.self.inside.limit c.args.dev.0 c.in-Some.line.now c.self.invariant.all found in
    c.count-in-Some.ensures ∙ exact.counts c.args.thread.0 (omega arith) ∙ ap (λ (t : Rows). length (counted_under c.args.dev c.args.thread.0 t.rows)) c.self.view_is

pub returns-in-None : goal.returns-in-None
returns-in-None c = c.count-in-None.ensures ∙ ap (λ (t : Rows). length (counted_under c.args.dev c.args.thread.0 t.rows)) c.self.view_is
