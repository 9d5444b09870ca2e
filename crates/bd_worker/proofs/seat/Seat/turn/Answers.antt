use Rattle.std.proofs.Common.{ℕ, List, length, ap, refl, subst, sym, ◌∙◌}
use Rattle.bd_base.specs.declared.act.Entry.{Entry}
use Rattle.bd_thread.specs.declared.thread.Thread.{Thread}
use Rattle.bd_thread.specs.Timely.{HadTurn, HasBegun, HasSameTime}
use Rattle.bd_worker.specs.Seats.{entries_in, made_by, Continues, Tells}
use Rattle.bd_worker.specs.Waits.{Idles}
use Rattle.bd_worker.specs.declared.seat.Seat.{Seat}
use Rattle.bd_worker.proofs.Seats.{begun_continues, continues_then, sitting_then}
use Rattle.bd_worker.proofs.Waiting.{turns_quietly}
use Rattle.bd_worker.proofs.seat.Seat.turn.Goals as goal

pub act-requires-clause-begun : goal.act-requires-clause-begun
act-requires-clause-begun g c = subst (λ (x : Seat g.row.D.Denot). HasBegun x.worker.thread) (sym c.begin.ensures.begun) refl

pub act-requires-clause-sits : goal.act-requires-clause-sits
act-requires-clause-sits g c =
    let w = c.args.wires.now in
    let state = g.D.Disk.state in
    let begins = subst (λ (x : Seat g.row.D.Denot). Continues state w c.receive.new.self x) (sym c.begin.ensures.begun) (begun_continues state w c.args.now c.receive.new.self) in
    sitting_then w c.args.self.now c.begin.new.self c.requires (continues_then w c.args.self.now c.receive.new.self c.begin.new.self c.in_ok-receive.ensures.goes begins)

pub send-requires : goal.send-requires
send-requires g c =
    let w = c.args.wires.now in
    let state = g.D.Disk.state in
    let begins = subst (λ (x : Seat g.row.D.Denot). Continues state w c.receive.new.self x) (sym c.begin.ensures.begun) (begun_continues state w c.args.now c.receive.new.self) in
    let acts = continues_then w c.receive.new.self c.begin.new.self c.act.new.self begins c.in_ok-turned.ensures.goes in
    sitting_then w c.args.self.now c.act.new.self c.requires (continues_then w c.args.self.now c.receive.new.self c.act.new.self c.in_ok-receive.ensures.goes acts)

pub returns-clause-goes : goal.returns-clause-goes
returns-clause-goes g c =
    let w = c.args.wires.now in
    let state = g.D.Disk.state in
    let begins = subst (λ (x : Seat g.row.D.Denot). Continues state w c.receive.new.self x) (sym c.begin.ensures.begun) (begun_continues state w c.args.now c.receive.new.self) in
    let acts = continues_then w c.receive.new.self c.begin.new.self c.act.new.self begins c.in_ok-turned.ensures.goes in
    continues_then w c.args.self.now c.act.new.self c.send.new.self
    (continues_then w c.args.self.now c.receive.new.self c.act.new.self c.in_ok-receive.ensures.goes acts)
    c.in_ok-send.ensures.goes

pub returns-clause-turned : goal.returns-clause-turned
returns-clause-turned g c =
    let s = c.args.self.now in
    let before = ap (λ (x : Seat g.row.D.Denot). entries_in x) c.begin.ensures.begun ∙ c.in_ok-receive.ensures.entries in
    subst (λ (n : ℕ). Tells (made_by s) n c.in_ok-turned.turned) (sym (ap (λ (es : List Entry). length es) c.in_ok-send.ensures.entries))
    (subst (λ (n : ℕ). Tells n (made_by c.act.new.self) c.in_ok-turned.turned) (ap (λ (es : List Entry). length es) before) c.in_ok-turned.ensures.turned)

pub returns-clause-quiet : goal.returns-clause-quiet
returns-clause-quiet g c =
    turns_quietly c.args.now c.args.self.now c.receive.new.self c.act.new.self c.send.new.self c.in_ok-turned.turned c.in_ok-receive.ensures.came
    (subst (λ (x : Seat g.row.D.Denot). Idles x c.act.new.self c.in_ok-turned.turned) c.begin.ensures.begun c.in_ok-turned.ensures.quiet) c.in_ok-send.ensures.went

pub returns-clause-time : goal.returns-clause-time
returns-clause-time g c =
    let s = c.args.self.now in
    let acted = c.act.new.self.worker.thread in
    subst (λ (t : Thread). HadTurn c.args.now s.worker.thread t) (sym c.in_ok-send.ensures.went.thread)
    (subst (λ (t : Thread). HadTurn c.args.now t acted) c.in_ok-receive.ensures.came.thread
    (subst (λ (x : Seat g.row.D.Denot). HasSameTime x.worker.thread acted) c.begin.ensures.begun c.in_ok-turned.ensures.time))
