use Rattle.std.proofs.Common.{◌≡◌, None, length, sym, ◌∙◌, arith}
use Rattle.bd_thread.specs.Calls.{NoCallOf, StandsAsked}
use Rattle.bd_thread.proofs.Idle.{idle_so}
use Rattle.bd_thread.proofs.Noted.{first_so}
use Rattle.bd_thread.proofs.thread.Thread.call_first.Goals as goal

pub returns-clause-quiet : goal.returns-clause-quiet
returns-clause-quiet c = idle_so {P = NoCallOf c.in-Some.req} {Q = StandsAsked None} _ _ _ _ (λ none. tt) c.in_ok-call.ensures.quiet

pub returns-clause-first : goal.returns-clause-first
returns-clause-first c =
    let same : c.args.entries ≡ length c.args.links.now.entries = omega (arith, c.len.ensures, c.if-entries-len.false) in
    first_so c.args.entries c.in-Some.req c.args.self.now c.args.links.now c.call.new.self c.call.new.links same (sym c.first_of.ensures ∙ c.in-Some.is)
    c.in_ok-call.ensures.acted c.in_ok-call.ensures.quiet c.in_ok-call.ensures.noted
