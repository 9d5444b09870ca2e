use Rattle.std.proofs.Common.{◌≡◌, ◌-◌, ℕ, length, take, rules, ap, ◌∙◌}
use Rattle.std.specs.Vec.{vec_len}
use Rattle.bd_registry.proofs.Registering.{before_last}
use Rattle.bd_registry.proofs.registry.drop_last.Goals as goal

pub returns : goal.returns
returns c =
    let n : vec_len c.args.journal.now ≡ length c.args.journal.now.items = search rules in
    λ es e h. c.pop.ensures.rest ∙ ap (λ (k : ℕ). take (k - 1) c.args.journal.now.items) n ∙ before_last c.args.journal.now.items es e h
