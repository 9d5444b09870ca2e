use Rattle.std.proofs.Common.{◌≡◌, None, subst}
use Rattle.bd_thread.specs.Limits.{let_due, tick_due, NoLimitOn, NoMarkedHead, Ticks}
use Rattle.bd_thread.specs.Waits.{Idles, Progresses}
use Rattle.bd_thread.proofs.Alone.{alone_then}
use Rattle.bd_thread.proofs.Going.{acted_then}
use Rattle.bd_thread.proofs.Idle.{idle_then}
use Rattle.bd_thread.proofs.Limiting.{lets_alone, lets_idle, progress_idle, progress_more, tick_then, ticks_alone, ticks_idle}
use Rattle.bd_thread.proofs.thread.Thread.limit_once.Goals as goal

pub returns-then-stopped : goal.returns-then-stopped
returns-then-stopped c =
    let stopped = c.in_ok-stopped.ensures in
    record {
      acted = stopped.acted;
      tickets = stopped.tickets;
      quiet = λ few. absurd (progress_more (NoMarkedHead c.args.dev) c.args.self.now c.args.links.now c.stop_head.new.self c.stop_head.new.links (subst (Progresses (NoMarkedHead c.args.dev) c.args.self.now c.args.links.now c.stop_head.new.self c.stop_head.new.links) c.if-stopped.true stopped.progresses) few);
      alone = stopped.alone;
    }

pub returns-then-ticked : goal.returns-then-ticked
returns-then-ticked c =
    let stopped = c.in_ok-stopped.ensures in
    let told = c.in_ok-ticked.ensures in
    let middle = c.stop_head.new.self in
    let shared = c.stop_head.new.links in
    record {
      acted = acted_then _ _ _ _ _ _ stopped.acted told.acted;
      tickets = λ keeps. told.tickets (stopped.tickets keeps);
      quiet = λ few. absurd (tick_then c.args.dev c.args.self.now c.args.links.now middle shared c.tick.new.self c.tick.new.links stopped.acted (subst (Ticks c.args.dev middle shared c.tick.new.self c.tick.new.links) c.if-ticked.true told.ticks) few);
      alone = alone_then _ _ _ stopped.alone (ticks_alone c.args.dev middle shared c.tick.new.self c.tick.new.links _ told.ticks);
    }

pub returns : goal.returns
returns c =
    let stopped = c.in_ok-stopped.ensures in
    let told = c.in_ok-ticked.ensures in
    let passed = c.in_ok-passed.ensures in
    let dev = c.args.dev in
    let o = c.args.self.now in
    let a = c.args.links.now in
    let m = c.stop_head.new.self in
    let b = c.stop_head.new.links in
    let p = c.tick.new.self in
    let d = c.tick.new.links in
    let n = c.let_pass.new.self in
    let e = c.let_pass.new.links in
    let head : Idles (NoMarkedHead dev) o a m b = progress_idle o a m b _ stopped.progresses in
    let ticked : Idles (λ t links. tick_due t links dev ≡ None) m b p d = ticks_idle dev m b p d _ told.ticks in
    let both : Idles (λ t links. NoMarkedHead dev t links × (tick_due t links dev ≡ None)) o a p d = idle_then o a m b p d stopped.acted told.acted (λ first next. (first, next)) head ticked in
    let acted = acted_then o a m b p d stopped.acted told.acted in
    let none : Idles (λ t links. let_due t links dev ≡ None) p d n e = lets_idle dev p d n e _ passed.lets in
    record {
      acted = acted_then o a p d n e acted passed.acted;
      tickets = λ keeps. passed.tickets (told.tickets (stopped.tickets keeps));
      quiet = idle_then {R = NoLimitOn dev} o a p d n e acted passed.acted (λ so next. record { head = so.0; tick = so.1; pass = next }) both none;
      alone = alone_then a d e (alone_then a b d stopped.alone (ticks_alone dev m b p d _ told.ticks)) (lets_alone dev p d n e _ passed.lets);
    }
