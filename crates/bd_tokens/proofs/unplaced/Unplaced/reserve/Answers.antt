use Rattle.std.proofs.Common.{◌∙◌, ap}
use Rattle.bd_tokens.specs.Tokens.{Held, here_in}
use Rattle.bd_tokens.proofs.Here.{stays_here}
use Rattle.bd_tokens.proofs.Listed.{here_still, unplaced_still}
use Rattle.bd_tokens.proofs.unplaced.Unplaced.reserve.Goals as goal

pub invariant_of-self-2 : goal.invariant_of-self-2
invariant_of-self-2 c =
    unplaced_still c.self.inside.walks.items c.reserve.new.self.items c.self.inside.map.entries c.reserve-2.new.self.entries c.self.invariant c.in_ok-reserve.ensures.items (stays_here c.self.inside.map.entries c.reserve-2.new.self.entries c.in_ok-reserve-2.ensures.entries.2)

pub returns-clause-here : goal.returns-clause-here
returns-clause-here c =
    here_still c.self.inside.walks.items c.reserve.new.self.items c.self.inside.map.entries c.reserve-2.new.self.entries c.in_ok-reserve.ensures.items (stays_here c.self.inside.map.entries c.reserve-2.new.self.entries c.in_ok-reserve-2.ensures.entries.2)
    ∙ ap (λ (h : Held). here_in h.items) c.self.view_is
