use Rattle.std.proofs.Common.{sym, ◌∙◌, ap, Some, arith, below_more}
use Rattle.bd_tables.specs.declared.row.Row.{Row}
use Rattle.bd_tables.specs.Rows.{row_id, waits_over}
use Rattle.bd_tables.proofs.Lines.{found_first, none_first}
use Rattle.bd_tables.proofs.board.first_found.Goals as goal

pub loop-i-preserved : goal.loop-i-preserved
loop-i-preserved c =
    below_more _ _ c.loop-i.invariant
    (ap (waits_over c.args.dev) (sym c.at-row.ensures) ∙ sym c.if-waits_under.ensures)

pub returns-then-waits_under : goal.returns-then-waits_under
returns-then-waits_under c =
    let rows = c.args.shelf.now.rows in
    ap (λ (r : Row). Some (row_id r)) c.at-row.ensures
    ∙ found_first (waits_over c.args.dev) rows c.loop-i.i (omega (arith, c.loop-i-test.true, c.loop-i.auto.i-end, c.len-i-end.ensures))
    (ap (waits_over c.args.dev) (sym c.at-row.ensures) ∙ sym c.if-waits_under.ensures) c.loop-i.invariant

pub returns : goal.returns
returns c =
    let rows = c.args.shelf.now.rows in
    none_first (waits_over c.args.dev) rows (λ j less. c.loop-i.invariant j (omega (arith, less, c.loop-i-test.false, c.loop-i.auto.i-end, c.len-i-end.ensures)))
