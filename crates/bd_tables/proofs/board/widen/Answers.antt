use Rattle.std.proofs.Common.{◌≡◌, ◌<◌, length, ◌∙◌, ap, refl, arith}
use Rattle.bd_tables.specs.Lines.{Line, line_at}
use Rattle.bd_tables.proofs.Index.{at_line, same_kept, put_kept, next_roomy}
use Rattle.bd_tables.proofs.board.widen.Goals as goal

pub loop-d-init : goal.loop-d-init
loop-d-init c = (same_kept c.args.lines.now, λ d less. absurd (omega (arith, less)))

pub loop-d-preserved : goal.loop-d-preserved
loop-d-preserved c =
    let inside : c.loop-d.d < length c.loop-d.lines = omega (arith, c.loop-d-test.true, c.loop-d.auto.d-end, c.len-d-end.ensures, c.loop-d.invariant.0.len) in
    let here : c.at_mut.result.now ≡ line_at c.loop-d.lines c.loop-d.d = at_line c.loop-d.lines c.loop-d.d c.at_mut.result.now inside c.at_mut.ensures.value in
    let wide = c.reserve.new.self in (
      put_kept c.args.lines.now c.loop-d.lines _ c.loop-d.d wide c.loop-d.invariant.0 inside refl
          (c.reserve.ensures.waiting ∙ ap (λ (l : Line). l.waiting) here) (c.reserve.ensures.counts ∙ ap (λ (l : Line). l.counts) here)
          (omega (arith, c.reserve.ensures.grows, ap (λ (l : Line). l.capacity) here)),
      next_roomy c.args.limit c.loop-d.lines _ c.loop-d.d wide c.loop-d.invariant.1 inside refl c.in_ok-reserve.ensures.ok,
    )

pub returns-clause-ok : goal.returns-clause-ok
returns-clause-ok c = λ d inside. c.loop-d.invariant.1 d (omega (arith, inside, c.loop-d-test.false, c.loop-d.auto.d-end, c.len-d-end.ensures, c.loop-d.invariant.0.len))

pub returns-clause-kept : goal.returns-clause-kept
returns-clause-kept c = c.loop-d.invariant.0

pub returns-in_err-reserve-clause-kept : goal.returns-in_err-reserve-clause-kept
returns-in_err-reserve-clause-kept c =
    let inside : c.loop-d.d < length c.loop-d.lines = omega (arith, c.loop-d-test.true, c.loop-d.auto.d-end, c.len-d-end.ensures, c.loop-d.invariant.0.len) in
    let here : c.at_mut.result.now ≡ line_at c.loop-d.lines c.loop-d.d = at_line c.loop-d.lines c.loop-d.d c.at_mut.result.now inside c.at_mut.ensures.value in
    put_kept c.args.lines.now c.loop-d.lines _ c.loop-d.d c.reserve.new.self c.loop-d.invariant.0 inside refl
    (c.reserve.ensures.waiting ∙ ap (λ (l : Line). l.waiting) here) (c.reserve.ensures.counts ∙ ap (λ (l : Line). l.counts) here)
    (omega (arith, c.reserve.ensures.grows, ap (λ (l : Line). l.capacity) here))
