use Rattle.std.proofs.Common.{◌≡◌, ◌||◌, drop}
use Rattle.std.specs.List.{list_all}
use Rattle.bd_machine.specs.Registry.{is_destructed_standing, is_last_user, standing_of}
use Rattle.bd_machine.specs.Same.{same_dev}
use Rattle.bd_rule_registry.proofs.devices.is_last_user.Given as goal

abbrev pub invariant-loop-user : goal.invariant-loop-user
invariant-loop-user g l = list_all (λ d. same_dev d l.dev || is_destructed_standing (standing_of (g.R.Records.registry_of l.registry) d)) (drop l.user-index l.user-items) ≡ is_last_user l.setup (g.R.Records.registry_of l.registry) l.dev l.fn.handle
