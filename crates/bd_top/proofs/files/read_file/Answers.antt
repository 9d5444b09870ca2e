use Rattle.std.proofs.Common.{◌≡◌, ◌∙◌, ◌≤◌, ◌+◌, ap, arith, length, length-append}
use Rattle.std.proofs.lemmas.List.{length-take}
use Rattle.bd_top.proofs.FileLemmas.{front_more, front_end, front_over, later_then}
use Rattle.bd_top.proofs.files.read_file.Goals as goal

pub loop-turn-preserved : goal.loop-turn-preserved
loop-turn-preserved g c =
    let le : c.min-wanted.result ≤ c.in-Ok-read_at.n = omega (arith, c.min-wanted.ensures) in
    let given = rw c.len.ensures at c.in-Ok-read_at.ensures.given in
    let more = front_more _ _ c.loop-turn.all _ c.in-Ok-read_at.n c.min-wanted.result (c.loop-turn.invariant.1.told c.args.name.now) c.loop-turn.invariant.0 given le in
    let grown : length c.append.new.self ≡ length c.loop-turn.all + c.min-wanted.result =
    ap length c.in_ok-append.ensures.ok ∙ length-append c.loop-turn.all _ ∙ ap (λ k. length c.loop-turn.all + k) (length-take c.min-wanted.result c.read_at.new.to ∙ omega (arith, c.in-Ok-read_at.ensures.within)) in (
      rw c.in_ok-append.ensures.ok more,
      later_then _ _ _ c.loop-turn.invariant.1 c.in-Ok-read_at.ensures.later,
      omega (arith, grown, c.min-wanted.ensures, c.loop-turn.invariant.2),
      omega (arith, c.len-in-loop-turn-2.ensures),
      c.in-Ok-read_at.ensures.same_openings ∙ c.loop-turn.invariant.4,
    )

pub returns-then-n-eq0-clause-read : goal.returns-then-n-eq0-clause-read
returns-then-n-eq0-clause-read g c =
    let le : c.min-wanted.result ≤ c.in-Ok-read_at.n = omega (arith, c.min-wanted.ensures) in
    let given = rw c.len.ensures at c.in-Ok-read_at.ensures.given in
    rw c.in_ok-append.ensures.ok (front_end _ _ c.loop-turn.all _ c.in-Ok-read_at.n c.min-wanted.result (c.loop-turn.invariant.1.told c.args.name.now) c.loop-turn.invariant.0 given c.if-n-eq0.true le (omega arith) (omega (arith, c.loop-turn.invariant.3)))

pub returns-then-len-gt-MAX_FILE-clause-cause : goal.returns-then-len-gt-MAX_FILE-clause-cause
returns-then-len-gt-MAX_FILE-clause-cause g c =
    let le : c.min-wanted.result ≤ c.in-Ok-read_at.n = omega (arith, c.min-wanted.ensures) in
    let front = front_more _ _ c.loop-turn.all _ c.in-Ok-read_at.n c.min-wanted.result (c.loop-turn.invariant.1.told c.args.name.now) c.loop-turn.invariant.0 (rw c.len.ensures at c.in-Ok-read_at.ensures.given) le in
    let grown : length c.append.new.self ≡ length c.loop-turn.all + c.min-wanted.result =
    ap length c.in_ok-append.ensures.ok ∙ length-append c.loop-turn.all _ ∙ ap (λ k. length c.loop-turn.all + k) (length-take c.min-wanted.result c.read_at.new.to ∙ omega (arith, c.in-Ok-read_at.ensures.within)) in
    front_over _ _ c.append.new.self _ _ c.in-Ok-read_at.n (c.loop-turn.invariant.1.told c.args.name.now) c.in-Ok-read_at.ensures.given (rw c.in_ok-append.ensures.ok front)
    (omega (arith, grown, c.min-wanted.ensures, c.len-in-loop-turn-2.ensures, c.loop-turn.invariant.3))
