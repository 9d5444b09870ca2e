use Rattle.std.proofs.Common.{Some, sym, ◌∙◌, ap, rules}
use Rattle.bd_base.specs.declared.id.WalkId.{WalkId}
use Rattle.bd_machine.specs.declared.state.Kept.{Kept}
use Rattle.bd_rule_effects.proofs.Firsts.{remove_found, none_to_remove}
use Rattle.bd_tokens.proofs.Listed.{is, seen_at, seen_none}
use Rattle.bd_tokens.proofs.walks.take_walk.Goals as goal

pub returns-in-Some-clause-kept : goal.returns-in-Some-clause-kept
returns-in-Some-clause-kept c =
    ap (λ (w : WalkId × Kept). Some w.1) c.remove.ensures.value ∙ sym (seen_at c.args.id c.args.walks.now.items c.in-Some.place c.remove.result (search rules))

pub returns-in-Some-clause-rest : goal.returns-in-Some-clause-rest
returns-in-Some-clause-rest c = c.remove.ensures.items ∙ remove_found (is c.args.id) c.args.walks.now.items c.in-Some.place (search rules)

pub returns-in-None-clause-kept : goal.returns-in-None-clause-kept
returns-in-None-clause-kept c = sym (seen_none c.args.id c.args.walks.now.items (search rules))

pub returns-in-None-clause-rest : goal.returns-in-None-clause-rest
returns-in-None-clause-rest c = none_to_remove (is c.args.id) c.args.walks.now.items (search rules)
