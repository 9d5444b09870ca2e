use Rattle.std.proofs.Common.{not, filter, ◌∙◌, ap, rules}
use Rattle.std.proofs.lemmas.Fn.{filter_same}
use Rattle.bd_machine.specs.declared.state.Handle.{Handle}
use Rattle.bd_machine.specs.Registry.{is_own}
use Rattle.bd_rule_effects.proofs.registry.release.Goals as goal

pub returns : goal.returns
returns c =
    let kept : Handle → _ = λ h. not (is_own c.args.thread c.args.id h) in
    c.from_vec.ensures ∙ filter_same _ kept _ (λ x b f' t. search rules) _ _ c.retain.ensures.filtered ∙ ap (filter kept) (c.into_vec-left.ensures ∙ c.replace.ensures.value)
