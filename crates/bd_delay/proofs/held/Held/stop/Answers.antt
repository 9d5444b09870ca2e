use Rattle.std.proofs.Common.{ap, ◌∙◌, rules}
use Rattle.std.proofs.lemmas.Fn.{filter_same}
use Rattle.bd_delay.specs.Holds.{Holds, without}
use Rattle.bd_delay.proofs.held.Held.stop.Goals as goal

pub returns-clause-rest : goal.returns-clause-rest
returns-clause-rest c =
    filter_same _ _ _ (λ x b f' k. search rules) _ _ c.retain.ensures.filtered ∙ ap (λ (h : Holds). without c.args.id h.rows) c.self.view_is
