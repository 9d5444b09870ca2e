use Rattle.std.proofs.Common.{◌≡◌, ◌∙◌, ℕ, Option, ap, inl, inr, subst, rules}
use Rattle.std.proofs.lemmas.Result.{on_ok_weaker, IfOk-weaker}
use Rattle.bd_thread.specs.declared.turn.Turned.{Turned}
use Rattle.bd_worker.specs.Seats.{made_by, Tells, TellsIfAny}
use Rattle.bd_worker.specs.declared.seat.Seat.{Seat}
use Rattle.bd_worker.specs.Waits.{IdlesAlone, IdlesIfLent}
use Rattle.bd_worker.proofs.Borrowing.{works}
use Rattle.bd_worker.proofs.Seats.{continues_then, sitting_then}
use Rattle.bd_worker.proofs.Waiting.{idles_lent, idles_unlent}
use Rattle.bd_worker.proofs.seat.Seat.act.Goals as goal

pub returns-then-not-wants_registry-clause-goes : goal.returns-then-not-wants_registry-clause-goes
returns-then-not-wants_registry-clause-goes g c = on_ok_weaker c.work.result (λ keeps. keeps c.args.wires.now) c.work.ensures.goes

pub work-requires-in-None-clause-works : goal.work-requires-in-None-clause-works
work-requires-in-None-clause-works g c = works c.args.wires.now c.borrow.new.self (sitting_then c.args.wires.now c.args.self.now c.borrow.new.self c.requires.sits c.in_ok-turned.ensures.goes)

pub returns-in-None-clause-goes : goal.returns-in-None-clause-goes
returns-in-None-clause-goes g c =
    on_ok_weaker c.work-in-None.result (λ keeps. continues_then c.args.wires.now c.args.self.now c.borrow.new.self c.work-in-None.new.self c.in_ok-turned.ensures.goes (keeps c.args.wires.now)) c.work-in-None.ensures.goes

pub returns-in-Some-clause-turned : goal.returns-in-Some-clause-turned
returns-in-Some-clause-turned g c = subst (λ (o : Option Turned). TellsIfAny (made_by c.args.self.now) (made_by c.borrow.new.self) o) c.in-Some.is c.in_ok-turned.ensures.turned

pub returns-in-None-clause-turned : goal.returns-in-None-clause-turned
returns-in-None-clause-turned g c =
    let none : made_by c.borrow.new.self ≡ made_by c.args.self.now = subst (λ (o : Option Turned). TellsIfAny (made_by c.args.self.now) (made_by c.borrow.new.self) o) c.in-None.is c.in_ok-turned.ensures.turned in
    IfOk-weaker c.work-in-None.result _ _ (λ turned told. subst (λ (n : ℕ). Tells n (made_by c.work-in-None.new.self) turned) none told) c.work-in-None.ensures.turned

pub returns-then-not-wants_registry-clause-quiet : goal.returns-then-not-wants_registry-clause-quiet
returns-then-not-wants_registry-clause-quiet g c =
    IfOk-weaker c.work.result _ _ (λ turned q. idles_unlent c.args.self.now c.work.new.self turned (inl (search rules, c.work.ensures.passes)) q) c.work.ensures.quiet

pub returns-in-Some-clause-quiet : goal.returns-in-Some-clause-quiet
returns-in-Some-clause-quiet g c =
    let q = subst (λ (o : Option Turned). IdlesIfLent c.args.self.now c.borrow.new.self o) c.in-Some.is c.in_ok-turned.ensures.quiet in
    idles_lent c.args.self.now c.borrow.new.self c.in-Some.turned q.0 q.1

pub returns-in-None-clause-quiet : goal.returns-in-None-clause-quiet
returns-in-None-clause-quiet g c =
    let s = c.args.self.now in
    let none = subst (λ (o : Option Turned). IdlesIfLent s c.borrow.new.self o) c.in-None.is c.in_ok-turned.ensures.quiet in
    IfOk-weaker c.work-in-None.result _ _
    (λ turned q. idles_unlent s c.work-in-None.new.self turned (inr (c.work-in-None.ensures.passes ∙ ap (λ (x : Seat g.row.D.Denot). x.passes) none.0, none.1)) (subst (λ (x : Seat g.row.D.Denot). IdlesAlone x.worker c.work-in-None.new.self.worker turned) none.0 q)) c.work-in-None.ensures.quiet
