use Rattle.std.proofs.Common.{◌∙◌, arith, refl}
use Rattle.bd_storage.proofs.Turned.{with_none, with_then}
use Rattle.bd_storage.proofs.Turns.{serves_all, serves_at, serves_more, serves_none, serves_there, still_then}
use Rattle.bd_thread.proofs.Alone.{alone_none, alone_then}
use Rattle.bd_thread.proofs.Idle.{idle_here}
use Rattle.bd_storage.proofs.serving.serve_all.Goals as goal

pub loop-place-init : goal.loop-place-init
loop-place-init g c = record {
  over = with_none g.D.Disk.state _ _ _;
  tickets = λ keeps. keeps;
  quiet = idle_here _ _ (λ i row less found. absurd (omega (arith, less)));
  alone = alone_none _;
  same = λ few. refl;
  serves = serves_none _ _;
  kept = refl;
}

pub loop-place-preserved : goal.loop-place-preserved
loop-place-preserved g c = record {
  over = with_then g.D.Disk.state _ _ _ _ _ _ _ _ _ c.loop-place.invariant.over c.in_ok-serve_some.ensures.over;
  tickets = λ keeps. c.in_ok-serve_some.ensures.tickets (c.loop-place.invariant.tickets keeps);
  quiet = serves_at g.D.Disk.state _ _ _ _ _ _ _ _ _ _ _ c.loop-place.invariant.over c.in_ok-serve_some.ensures.over c.loop-place.invariant.same c.in-Some.ensures c.loop-place.invariant.quiet c.in_ok-serve_some.ensures.quiet;
  alone = alone_then _ _ _ c.loop-place.invariant.alone c.in_ok-serve_some.ensures.alone;
  same = still_then g.D.Disk.state _ _ _ _ _ _ _ _ _ c.loop-place.invariant.over c.in_ok-serve_some.ensures.over c.loop-place.invariant.same c.in_ok-serve_some.ensures.same;
  serves = serves_more g.D.Disk.state _ _ _ c.loop-place.invariant.serves c.in_ok-serve_some.ensures.serves;
  kept = c.serve_some.ensures.kept ∙ c.loop-place.invariant.kept;
}

pub returns-clause-quiet : goal.returns-clause-quiet
returns-clause-quiet g c = serves_all g.D.Disk.state c.loop-place.place _ _ _ _ _ (omega (arith, c.loop-place-test.false, c.len-place-end.ensures)) c.loop-place.invariant.quiet

pub returns-in_default-clause-quiet : goal.returns-in_default-clause-quiet
returns-in_default-clause-quiet g c few =
    serves_there c.loop-place.place _ _ c.args.links.now c.loop-place.links (omega (arith, c.loop-place-test.true, c.len-place-end.ensures)) c.in_default.ensures c.loop-place.invariant.same few
