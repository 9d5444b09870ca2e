use Rattle.std.proofs.Common.{◌∙◌, ap}
use Rattle.bd_tokens.specs.declared.places.Tier.TheVariants.{Far}
use Rattle.bd_tokens.specs.Tokens.{Held, here_in}
use Rattle.bd_tokens.proofs.Placed.{here_others, kept_others}
use Rattle.bd_tokens.proofs.beyond.Beyond.reserve.Goals as goal

pub invariant_of-self : goal.invariant_of-self
invariant_of-self c = kept_others Far c.self.inside.rows.items c.self.inside.unplaced.items c.reserve.new.self.items c.self.invariant c.in_err-reserve.ensures.here

pub invariant_of-self-2 : goal.invariant_of-self-2
invariant_of-self-2 c = kept_others Far c.self.inside.rows.items c.self.inside.unplaced.items c.reserve.new.self.items c.self.invariant c.in_ok-reserve.ensures.here

pub returns-in_err-reserve-clause-here : goal.returns-in_err-reserve-clause-here
returns-in_err-reserve-clause-here c =
    here_others c.self.inside.rows.items c.self.inside.unplaced.items c.reserve.new.self.items c.in_err-reserve.ensures.here
    ∙ ap (λ (h : Held). here_in h.items) c.self.view_is

pub returns-clause-here : goal.returns-clause-here
returns-clause-here c =
    here_others c.self.inside.rows.items c.self.inside.unplaced.items c.reserve.new.self.items c.in_ok-reserve.ensures.here
    ∙ ap (λ (h : Held). here_in h.items) c.self.view_is
