use Rattle.std.proofs.Common.{ap, sym, ◌∙◌, length}
use Rattle.bd_ring.specs.Rings.{Closing, Sender}
use Rattle.bd_ring.proofs.RingSteps.{merges}
use Rattle.bd_ring.proofs.ring.Settling.absorb.Goals as goal

pub absorb-requires-clause-rule : goal.absorb-requires-clause-rule
absorb-requires-clause-rule c =
    merges _ _ _ _ c.self.invariant.1 c.send.invariant.1
    (c.send.invariant.2 ∙ ap (λ (s : Sender). s.number) c.send.view_is ∙ c.requires.next ∙ ap (λ (k : Closing). length k.puts) (sym c.self.view_is))
