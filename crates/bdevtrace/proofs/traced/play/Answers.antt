use Rattle.std.proofs.Common.{◌≡◌, ◌⊎◌, map, string_bytes, sym, ◌∙◌, subst, rules}
use Rattle.bd_top.specs.declared.fault.Fault.{Fault}
use Rattle.bd_top.specs.declared.fault.Fault.TheVariants.{OutOfMemory}
use Rattle.bd_top.proofs.Wrong.{not_done}
use Rattle.bdevtrace.proofs.InMemory.{script_not_wrong, only_memory_kept, only_this_kept}
use Rattle.bdevtrace.proofs.traced.play.Goals as goal

pub returns-then-asks_for_script-clause-refused : goal.returns-then-asks_for_script-clause-refused
returns-then-asks_for_script-clause-refused g c before after fault wrong quiet =
    absurd (script_not_wrong (map string_bytes c.args.words.now) (g.H.Host.state c.args.host.now) fault (search rules) wrong)

pub returns-in-Ok-clause-refused : goal.returns-in-Ok-clause-refused
returns-in-Ok-clause-refused g c before after fault wrong quiet =
    let run = c.in-Ok.ensures.run in
    not_done (map string_bytes c.args.words.now) (g.H.Host.state c.args.host.now) fault wrong (g.H.Host.state c.run.new.host) before after quiet (g.C.Clock.range c.args.clock.now) run.asked c.in-Ok.ran.trace run.text run.named run.done

pub returns-in-Err-clause-complete : goal.returns-in-Err-clause-complete
returns-in-Err-clause-complete g c before after form quiet =
    c.kept_fault.ensures
    ∙ only_memory_kept (map string_bytes c.args.words.now) (g.H.Host.state c.args.host.now) (g.H.Host.state c.run.new.host) _ _ before after quiet (g.C.Clock.range c.args.clock.now) form c.in-Err.fault c.in-Err.ensures.cause

pub returns-in-Err-clause-refused : goal.returns-in-Err-clause-refused
returns-in-Err-clause-refused g c before after fault wrong quiet =
    subst (λ (given : Fault). (given ≡ fault) ⊎ (given ≡ OutOfMemory)) (sym c.kept_fault.ensures)
    (only_this_kept (map string_bytes c.args.words.now) (g.H.Host.state c.args.host.now) (g.H.Host.state c.run.new.host) _ _ before after quiet (g.C.Clock.range c.args.clock.now) fault wrong c.in-Err.fault c.in-Err.ensures.cause)
