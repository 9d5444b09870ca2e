use Rattle.std.proofs.Common.{◌∙◌, sym, subst}
use Rattle.bd_machine.specs.Changes.{handles_after}
use Rattle.bd_registry.specs.Handles.{HandleTable, Keeps}
use Rattle.bd_registry.proofs.Keeping.{row_changed, none_changed}
use Rattle.bd_registry.proofs.handles.Handles.change_by.Goals as goal

pub returns-in_ok-change_row-in-Some-clause-ok : goal.returns-in_ok-change_row-in-Some-clause-ok
returns-in_ok-change_row-in-Some-clause-ok c = λ hs keeps.
    subst (λ (table : HandleTable). Keeps table (handles_after c.args.thread hs c.args.event.now c.args.answer.now)) (sym c.in_ok-change_row-in-Some.ensures.ok)
    (row_changed c.args.self.now c.args.thread hs c.args.event.now c.args.answer.now c.args.id c.requires keeps c.in-Some.dev (sym c.device_of.ensures ∙ c.in-Some.is) c.change_row.ensures.some)

pub returns-in-None-clause-ok : goal.returns-in-None-clause-ok
returns-in-None-clause-ok c = λ hs keeps.
    none_changed c.args.self.now c.args.thread hs c.args.event.now c.args.answer.now c.args.id c.requires keeps (sym c.device_of.ensures ∙ c.in-None.is)
