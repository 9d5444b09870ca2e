use Rattle.std.proofs.Common.{rules}
use Rattle.bd_top.proofs.Wrong.{of_error}
use Rattle.bdevtrace.proofs.traced.trace.Goals as goal

pub returns-in_err-ran-clause-cause : goal.returns-in_err-ran-clause-cause
returns-in_err-ran-clause-cause g c =
    let out = g.K.Sink.state c.args.out.now in
    let cause = c.in_err-ran.ensures.cause out out in
    search rules

pub returns-in_err-ran-clause-complete : goal.returns-in_err-ran-clause-complete
returns-in_err-ran-clause-complete g c form quiet =
    let out = g.K.Sink.state c.args.out.now in
    let memory = c.in_err-ran.ensures.complete out out form quiet in
    search rules

pub returns-in_err-ran-clause-refused : goal.returns-in_err-ran-clause-refused
returns-in_err-ran-clause-refused g c fault wrong quiet =
    let out = g.K.Sink.state c.args.out.now in
    let known = c.in_err-ran.ensures.refused out out fault wrong quiet in
    of_error _ _ _ c.from_residual.ensures.0 (search rules)

pub returns-in-Ok-clause-refused : goal.returns-in-Ok-clause-refused
returns-in-Ok-clause-refused g c fault wrong quiet =
    let out = g.K.Sink.state c.args.out.now in
    c.in_ok-ran.ensures.refused out (g.K.Sink.state c.write_both.new.out) fault wrong quiet
