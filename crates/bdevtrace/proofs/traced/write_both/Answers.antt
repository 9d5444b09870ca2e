use Rattle.std.proofs.lemmas.Result.{on_err_weaker}
use Rattle.bdevtrace.proofs.Writing.{of_second}
use Rattle.bdevtrace.proofs.traced.write_both.Goals as goal

pub returns-clause-prefix : goal.returns-clause-prefix
returns-clause-prefix g c = on_err_weaker _ (of_second _ _ _ c.args.first.now c.args.second.now c.in_ok-write_all.ensures.ok) c.write_all-2.ensures.prefix
