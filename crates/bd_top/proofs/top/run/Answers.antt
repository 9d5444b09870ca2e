use Rattle.std.proofs.Common.{sym, rules, map, string_bytes}
use Rattle.std.proofs.lemmas.Result.{IfErr-weaker}
use Rattle.bd_top.specs.Words.{seen}
use Rattle.bd_top.proofs.InForm.{only_memory}
use Rattle.bd_top.proofs.Wrong.{of_error, only_this, not_done}
use Rattle.bd_top.proofs.top.run.Goals as goal

pub returns-in_err-done-clause-complete : goal.returns-in_err-done-clause-complete
returns-in_err-done-clause-complete g c form quiet = IfErr-weaker _ _ _ (only_memory _ _ _ _ _ form quiet (g.C.Clock.range c.args.clock.now)) (search rules)

pub returns-in_err-done-clause-refused : goal.returns-in_err-done-clause-refused
returns-in_err-done-clause-refused g c fault wrong quiet =
    of_error _ _ _ c.from_residual.ensures.0
    (IfErr-weaker _ _ _ (only_this (map string_bytes c.args.words.now) (g.H.Host.state c.args.host.now) fault wrong (g.H.Host.state c.do_asked.new.host) (g.K.Sink.state c.args.out.now) (g.K.Sink.state c.args.out.now) quiet (g.C.Clock.range c.args.clock.now))
    (search rules))

pub returns-in-Ok-clause-refused : goal.returns-in-Ok-clause-refused
returns-in-Ok-clause-refused g c fault wrong quiet =
    not_done (map string_bytes c.args.words.now) (g.H.Host.state c.args.host.now) fault wrong (g.H.Host.state c.do_asked.new.host) (g.K.Sink.state c.args.out.now) (g.K.Sink.state c.write_all.new.out) quiet (g.C.Clock.range c.args.clock.now)
    (seen c.in-Some.asked) c.in_ok-done.done.trace c.in_ok-done.done.text.items (sym c.in-Some.ensures.meaning) c.in_ok-done.ensures.done
