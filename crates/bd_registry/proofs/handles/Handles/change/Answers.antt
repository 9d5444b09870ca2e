use Rattle.std.proofs.Common.{sym, subst}
use Rattle.bd_base.specs.declared.event.RegEvent.{RegEvent}
use Rattle.bd_machine.specs.Changes.{handles_after}
use Rattle.bd_registry.specs.Handles.{Keeps}
use Rattle.bd_registry.proofs.handles.Handles.change.Goals as goal

pub returns-in_ok-open-in-Open-clause-ok : goal.returns-in_ok-open-in-Open-clause-ok
returns-in_ok-open-in-Open-clause-ok c = λ hs keeps.
    subst (λ (event : RegEvent). Keeps c.open.new.self (handles_after c.args.thread hs event c.args.answer.now)) (sym c.in-Open.is)
    (c.in_ok-open-in-Open.ensures.ok hs c.in-Open.name keeps)
