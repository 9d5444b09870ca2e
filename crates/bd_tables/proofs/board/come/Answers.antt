use Rattle.std.proofs.Common.{◌≡◌, ◌<◌, length, sym, ◌∙◌, ap, subst, refl, arith}
use Rattle.bd_tables.specs.Lines.{Line, Fits, with_row, numbered, line_at}
use Rattle.bd_tables.proofs.Index.{at_line, begin_so_far, next_so_far, all_so_far}
use Rattle.bd_tables.proofs.board.come.Goals as goal

pub loop-d-init : goal.loop-d-init
loop-d-init c = begin_so_far (λ dev line. with_row dev c.args.row.now line) c.args.lines.now

pub come-requires : goal.come-requires
come-requires c =
    let inside : c.loop-d.d < length c.loop-d.lines = omega (arith, c.loop-d-test.true, c.loop-d.auto.d-end, c.len-d-end.ensures, c.loop-d.invariant.len) in
    let here : c.at_mut.result.now ≡ line_at c.loop-d.lines c.loop-d.d = at_line c.loop-d.lines c.loop-d.d c.at_mut.result.now inside c.at_mut.ensures.value in
    subst (λ (l : Line). Fits l) (sym (here ∙ c.loop-d.invariant.after c.loop-d.d (omega arith))) (c.requires.fits c.loop-d.d (omega (arith, inside, c.loop-d.invariant.len)))

pub loop-d-preserved : goal.loop-d-preserved
loop-d-preserved c =
    let inside : c.loop-d.d < length c.loop-d.lines = omega (arith, c.loop-d-test.true, c.loop-d.auto.d-end, c.len-d-end.ensures, c.loop-d.invariant.len) in
    let here : c.at_mut.result.now ≡ line_at c.loop-d.lines c.loop-d.d = at_line c.loop-d.lines c.loop-d.d c.at_mut.result.now inside c.at_mut.ensures.value in
    next_so_far (λ dev line. with_row dev c.args.row.now line) c.args.lines.now c.loop-d.lines _ c.loop-d.d c.come.new.self c.loop-d.invariant inside refl
    (c.come.ensures ∙ ap (λ (l : Line). with_row (numbered c.loop-d.d) c.args.row.now l) here)

pub returns : goal.returns
returns c =
    all_so_far (λ dev line. with_row dev c.args.row.now line) c.args.lines.now c.loop-d.lines c.loop-d.d c.loop-d.invariant
    (omega (arith, c.loop-d-test.false, c.loop-d.auto.d-end, c.len-d-end.ensures))
