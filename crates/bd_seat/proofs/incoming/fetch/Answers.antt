use Rattle.std.proofs.Common.{ap, ◌∙◌}
use Rattle.bd_ring.specs.Rings.{Receiver}
use Rattle.bd_seat.proofs.Fetching.{fetched_more}
use Rattle.bd_seat.proofs.incoming.fetch.Goals as goal

pub loop-preserved : goal.loop-preserved
loop-preserved g c =
    let took = c.in-Some-take.ensures.take in
    record {
      fetched = fetched_more _ _ _ _ _ _ _ _ _ _ _ c.loop.invariant.fetched took c.in-Some-take.ensures.brings c.in_ok-receive.ensures.pushed c.in_ok-receive.ensures.met;
      ring = ap (λ (t : Receiver). t.ring) took.0 ∙ c.loop.invariant.ring;
      none = ap (λ (t : Receiver). t.missed) took.0 ∙ c.loop.invariant.none;
      len = c.in_ok-receive.ensures.len ∙ c.loop.invariant.len;
    }
