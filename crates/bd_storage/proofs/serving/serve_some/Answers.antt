use Rattle.std.proofs.Common.{◌∙◌, arith, refl}
use Rattle.bd_storage.proofs.Turned.{with_none, with_then}
use Rattle.bd_storage.proofs.Turns.{serves_if, serves_more, serves_none, serves_then, still_then}
use Rattle.bd_thread.proofs.Alone.{alone_none, alone_then}
use Rattle.bd_thread.proofs.Idle.{idle_here, idle_so}
use Rattle.bd_storage.proofs.serving.serve_some.Goals as goal

pub loop-round-init : goal.loop-round-init
loop-round-init g c = record {
  over = with_none g.D.Disk.state _ _ _;
  tickets = λ keeps. keeps;
  quiet = idle_here _ _ (λ begun. absurd (omega arith));
  alone = alone_none _;
  same = λ few. refl;
  serves = serves_none _ _;
  kept = refl;
}

pub loop-round-preserved : goal.loop-round-preserved
loop-round-preserved g c = record {
  over = with_then g.D.Disk.state _ _ _ _ _ _ _ _ _ c.loop-round.invariant.over c.in_ok-serve_one.ensures.over;
  tickets = λ keeps. c.in_ok-serve_one.ensures.tickets (c.loop-round.invariant.tickets keeps);
  quiet = idle_so _ _ _ _ (λ now begun. now) (serves_then g.D.Disk.state _ _ _ _ _ _ _ _ _ _ c.loop-round.invariant.over c.in_ok-serve_one.ensures.over c.loop-round.invariant.same c.loop-round.invariant.quiet c.in_ok-serve_one.ensures.quiet);
  alone = alone_then _ _ _ c.loop-round.invariant.alone c.in_ok-serve_one.ensures.alone;
  same = still_then g.D.Disk.state _ _ _ _ _ _ _ _ _ c.loop-round.invariant.over c.in_ok-serve_one.ensures.over c.loop-round.invariant.same c.in_ok-serve_one.ensures.same;
  serves = serves_more g.D.Disk.state _ _ _ c.loop-round.invariant.serves (serves_if g.D.Disk.state _ _ _ c.in_ok-serve_one.ensures.serves);
  kept = c.serve_one.ensures.kept ∙ c.loop-round.invariant.kept;
}

pub returns-then-not-branch : goal.returns-then-not-branch
returns-then-not-branch g c = record {
  over = with_then g.D.Disk.state _ _ _ _ _ _ _ _ _ c.loop-round.invariant.over c.in_ok-serve_one.ensures.over;
  tickets = λ keeps. c.in_ok-serve_one.ensures.tickets (c.loop-round.invariant.tickets keeps);
  quiet = serves_then g.D.Disk.state _ _ _ _ _ _ _ _ _ _ c.loop-round.invariant.over c.in_ok-serve_one.ensures.over c.loop-round.invariant.same c.loop-round.invariant.quiet c.in_ok-serve_one.ensures.quiet;
  alone = alone_then _ _ _ c.loop-round.invariant.alone c.in_ok-serve_one.ensures.alone;
  same = still_then g.D.Disk.state _ _ _ _ _ _ _ _ _ c.loop-round.invariant.over c.in_ok-serve_one.ensures.over c.loop-round.invariant.same c.in_ok-serve_one.ensures.same;
  serves = serves_more g.D.Disk.state _ _ _ c.loop-round.invariant.serves (serves_if g.D.Disk.state _ _ _ c.in_ok-serve_one.ensures.serves);
  kept = c.serve_one.ensures.kept ∙ c.loop-round.invariant.kept;
}

pub returns-after-loop-round : goal.returns-after-loop-round
returns-after-loop-round g c = record {
  over = c.loop-round.invariant.over;
  tickets = c.loop-round.invariant.tickets;
  quiet = idle_so _ _ _ _ (λ so. so (omega arith)) c.loop-round.invariant.quiet;
  alone = c.loop-round.invariant.alone;
  same = c.loop-round.invariant.same;
  serves = c.loop-round.invariant.serves;
  kept = c.loop-round.invariant.kept;
}
