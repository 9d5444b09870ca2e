use Rattle.std.proofs.Common.{sym, subst}
use Rattle.bd_machine.specs.declared.state.Id.{Id}
use Rattle.bd_thread.specs.Moves.{Comes}
use Rattle.bd_thread.proofs.Waiting.{tickets_noted}
use Rattle.bd_thread.proofs.thread.Thread.came.Goals as goal

pub returns-in_ok-note_resets-in-Walk-clause-came : goal.returns-in_ok-note_resets-in-Walk-clause-came
returns-in_ok-note_resets-in-Walk-clause-came c =
    subst (λ (i : Id). Comes i c.args.self.now c.args.links.now c.note_resets.new.self c.visit.new.links) (sym c.in-Walk.is)
    (record { made = c.in_ok-visit-in-Walk.field-0; middle = c.visit.new.self; visits = c.in_ok-visit-in-Walk.ensures.visits; notes = c.in_ok-note_resets-in-Walk.ensures })

pub returns-in_ok-note_resets-in-Notice-clause-tickets : goal.returns-in_ok-note_resets-in-Notice-clause-tickets
returns-in_ok-note_resets-in-Notice-clause-tickets c = λ keeps. tickets_noted c.args.self.now c.note_resets-in-Notice.new.self c.in_ok-note_resets-in-Notice.ensures.thread keeps
