use Rattle.std.proofs.Common.{count_by, sym, ◌∙◌, ap, arith}
use Rattle.std.proofs.lemmas.List.{take_all}
use Rattle.std.proofs.lemmas.List.Sums.{length-filter}
use Rattle.bd_tables.specs.Rows.{holds_up_of}
use Rattle.bd_tables.proofs.board.count.Goals as goal

pub returns : goal.returns
returns c =
    let rows = c.args.shelf.now.rows in
    let p = holds_up_of c.args.dev c.args.thread.0 in
    c.loop-i.invariant ∙ ap (count_by p) (take_all c.loop-i.i rows (omega (arith, c.loop-i-test.false, c.loop-i.auto.i-end, c.len-i-end.ensures))) ∙ sym (length-filter p rows)
