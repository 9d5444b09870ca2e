use Rattle.std.proofs.Common.{Bool, refl, subst, sym, ◌∙◌}
use Rattle.bd_worker.specs.Seats.{made_by, HasMoved}
use Rattle.bd_worker.proofs.Stepping.{is_there, moved_as_told, some_none, step_halted, step_refused, step_turned}
use Rattle.bd_worker.proofs.seat.Seat.step.Goals as goal

pub returns-then-is_some-clause-went : goal.returns-then-is_some-clause-went
returns-then-is_some-clause-went g c = λ range within. step_halted g.D.Disk.state c.args.wires.now range c.args.self.now (sym c.is_some.ensures ∙ c.if-is_some.true)

pub returns-in-Ok-clause-went : goal.returns-in-Ok-clause-went
returns-in-Ok-clause-went g c = λ range within.
    step_turned g.D.Disk.state c.args.wires.now range c.args.now c.args.self.now c.turn.new.self c.in-Ok.turned (sym c.is_some.ensures ∙ c.if-is_some.false) c.turn.ensures.kept c.in-Ok.ensures.goes c.in-Ok.ensures.turned
    c.in-Ok.ensures.time within

pub returns-in-Err-clause-went : goal.returns-in-Err-clause-went
returns-in-Err-clause-went g c = λ range within.
    step_refused g.D.Disk.state c.args.wires.now range c.args.self.now c.turn.new.self c.in-Err.error (sym c.is_some.ensures ∙ c.if-is_some.false) c.turn.ensures.kept c.in-Err.ensures.cause

pub returns-then-is_some-clause-moved : goal.returns-then-is_some-clause-moved
returns-then-is_some-clause-moved g c = λ goes. absurd (is_there c.args.self.now.halted (sym c.is_some.ensures ∙ c.if-is_some.true) goes)

pub returns-in-Ok-clause-moved : goal.returns-in-Ok-clause-moved
returns-in-Ok-clause-moved g c = λ goes.
    subst (λ (b : Bool). HasMoved (made_by c.args.self.now) (made_by c.turn.new.self) b) (sym c.has_moved.ensures) (moved_as_told (made_by c.args.self.now) (made_by c.turn.new.self) c.in-Ok.turned c.in-Ok.ensures.turned)

pub returns-in-Err-clause-moved : goal.returns-in-Err-clause-moved
returns-in-Err-clause-moved g c = λ goes. absurd (some_none _ c.in-Err.error refl goes)
