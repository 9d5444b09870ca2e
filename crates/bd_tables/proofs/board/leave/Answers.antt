use Rattle.std.proofs.Common.{◌≡◌, ◌<◌, length, ◌∙◌, ap, refl, arith}
use Rattle.bd_tables.specs.Lines.{Line, without_row, numbered, line_at}
use Rattle.bd_tables.proofs.Index.{at_line, begin_so_far, next_so_far, all_so_far}
use Rattle.bd_tables.proofs.board.leave.Goals as goal

pub loop-d-init : goal.loop-d-init
loop-d-init c = begin_so_far (λ dev line. without_row dev c.args.row.now line) c.args.lines.now

pub loop-d-preserved : goal.loop-d-preserved
loop-d-preserved c =
    let inside : c.loop-d.d < length c.loop-d.lines = omega (arith, c.loop-d-test.true, c.loop-d.auto.d-end, c.len-d-end.ensures, c.loop-d.invariant.len) in
    let here : c.at_mut.result.now ≡ line_at c.loop-d.lines c.loop-d.d = at_line c.loop-d.lines c.loop-d.d c.at_mut.result.now inside c.at_mut.ensures.value in
    next_so_far (λ dev line. without_row dev c.args.row.now line) c.args.lines.now c.loop-d.lines _ c.loop-d.d c.leave.new.self c.loop-d.invariant inside refl
    (c.leave.ensures ∙ ap (λ (l : Line). without_row (numbered c.loop-d.d) c.args.row.now l) here)

pub returns : goal.returns
returns c =
    all_so_far (λ dev line. without_row dev c.args.row.now line) c.args.lines.now c.loop-d.lines c.loop-d.d c.loop-d.invariant
    (omega (arith, c.loop-d-test.false, c.loop-d.auto.d-end, c.len-d-end.ensures))
