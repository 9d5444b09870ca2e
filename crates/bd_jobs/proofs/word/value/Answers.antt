use Rattle.std.proofs.Common.{◌≡◌, ◌∙◌, ◌+◌, ◌*◌, ◌-◌, ap, sym, arith, drop, get_or}
use Rattle.bd_jobs.specs.Words.{value_from}
use Rattle.bd_jobs.proofs.WordLemmas.{digit_within, too_large, value_from-drop, fits}
use Rattle.bd_jobs.proofs.word.value.Goals as goal

pub returns-in_err-checked_mul : goal.returns-in_err-checked_mul
returns-in_err-checked_mul c =
    let within = digit_within c.loop-b.n c.loop-b.b-index _ c.args.digits.now (omega arith) c.loop-b.invariant.0 in
    c.from_residual.ensures ∙ too_large _ (λ below. c.in_err-checked_mul.ensures (omega arith))

pub returns-in_err-n : goal.returns-in_err-n
returns-in_err-n c =
    let within = digit_within c.loop-b.n c.loop-b.b-index _ c.args.digits.now (omega arith) c.loop-b.invariant.0 in
    c.from_residual-in_err-n.ensures ∙ too_large _ (λ below. c.in_err-n.ensures (omega (arith, c.in_ok-checked_mul.ensures.1, c.from.ensures)))

pub loop-b-preserved : goal.loop-b-preserved
loop-b-preserved c =
    let next : c.in_ok-n.n ≡ c.loop-b.n * 10 + (get_or c.args.digits.now c.loop-b.b-index 0 - 48) = omega (arith, c.in_ok-n.ensures.1, c.in_ok-checked_mul.ensures.1, c.from.ensures) in (
      ap (λ m. value_from m (drop (c.loop-b.b-index + 1) c.args.digits.now)) next
          ∙ sym (value_from-drop c.loop-b.n c.loop-b.b-index c.args.digits.now (omega arith))
          ∙ c.loop-b.invariant.0,
      omega (arith, c.in_ok-n.ensures.0, c.in_ok-n.ensures.1),
    )

pub returns : goal.returns
returns c = fits c.loop-b.n c.loop-b.b-index c.args.digits.now _ (omega arith) (omega arith) c.loop-b.invariant.0
