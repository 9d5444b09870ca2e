use Rattle.std.proofs.Common.{not, filter, ◌∙◌, ap, rules}
use Rattle.std.proofs.lemmas.Fn.{filter_same}
use Rattle.bd_machine.specs.declared.state.Resetting.{Resetting}
use Rattle.bd_machine.specs.Walks.{is_reset_of}
use Rattle.bd_rule_effects.proofs.requests.remove_reset.Goals as goal

pub returns : goal.returns
returns c =
    c.from_vec.ensures
    ∙ filter_same _ (λ (r : Resetting). not (is_reset_of c.args.req r)) _ (λ x b f' t. search rules) _ _ c.retain.ensures.filtered
    ∙ ap (filter (λ (r : Resetting). not (is_reset_of c.args.req r))) (c.into_vec-left.ensures ∙ c.replace.ensures.value)
