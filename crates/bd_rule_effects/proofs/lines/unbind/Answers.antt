use Rattle.std.proofs.Common.{not, filter, ◌∙◌, ap, rules}
use Rattle.std.proofs.lemmas.Fn.{filter_same}
use Rattle.bd_base.specs.Name.{same_name}
use Rattle.bd_machine.specs.declared.state.Binding.{Binding}
use Rattle.bd_rule_effects.proofs.lines.unbind.Goals as goal

pub returns : goal.returns
returns c =
    c.from_vec.ensures
    ∙ filter_same _ (λ (b : Binding). not (same_name b.name c.args.name.now)) _ (λ x b f' t. search rules) _ _ c.retain.ensures.filtered
    ∙ ap (filter (λ (b : Binding). not (same_name b.name c.args.name.now))) (c.into_vec-names.ensures ∙ c.replace.ensures.value)
