use Rattle.std.proofs.Common.{◌≡◌, Some, sym, ◌∙◌, slice_get, arith}
use Rattle.bd_thread.proofs.Alone.{alone_none, alone_then}
use Rattle.bd_thread.proofs.Going.{acted_none, acted_then}
use Rattle.bd_thread.proofs.Idle.{idle_here}
use Rattle.bd_thread.proofs.Looked.{stands_among, stands_named}
use Rattle.bd_thread.proofs.thread.Thread.carry_named.Goals as goal

pub loop-place-init : goal.loop-place-init
loop-place-init c = record {
  acted = acted_none _ _;
  tickets = λ keeps. keeps;
  quiet = λ same. idle_here _ _ (record { none = λ i req less found. absurd (omega (arith, less)); finds = λ i req less found. absurd (omega (arith, less)) });
  alone = alone_none _;
}

pub loop-place-preserved : goal.loop-place-preserved
loop-place-preserved c =
    let o = c.args.self.now in
    let a = c.args.links.now in
    let m = c.loop-place.self in
    let b = c.loop-place.links in
    let n = c.carry.new.self in
    let d = c.carry.new.links in
    let reqs = c.args.touched.now.reqs in
    let req = c.in-Some.req in
    let asks = c.in_ok-asks.asks in
    let at : slice_get reqs c.loop-place.place ≡ Some req = sym c.get.ensures ∙ c.in-Some.is in
    record {
      acted = acted_then _ _ _ _ _ _ c.loop-place.invariant.acted c.in_ok-asks.ensures.acted;
      tickets = λ keeps. c.in_ok-asks.ensures.tickets (c.loop-place.invariant.tickets keeps);
      quiet = λ same. stands_among reqs c.loop-place.place req asks c.loop-place.found c.next_found-found.result o a m b n d c.loop-place.invariant.acted c.in_ok-asks.ensures.acted at (sym c.next_found-found.ensures) (c.loop-place.invariant.quiet same) c.in_ok-asks.ensures.quiet;
      alone = alone_then _ _ _ c.loop-place.invariant.alone c.in_ok-asks.ensures.alone;
    }

pub returns-after-loop-place-clause-quiet : goal.returns-after-loop-place-clause-quiet
returns-after-loop-place-clause-quiet c = λ same.
    stands_named c.args.touched.now.reqs c.loop-place.place c.loop-place.found c.args.self.now c.args.links.now c.loop-place.self c.loop-place.links (omega (arith, c.loop-place-test.false, c.len-place-end.ensures)) (c.loop-place.invariant.quiet same)
