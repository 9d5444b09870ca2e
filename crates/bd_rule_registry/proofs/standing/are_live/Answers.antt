use Rattle.std.proofs.Common.{ap, arith}
use Rattle.std.specs.List.{list_all}
use Rattle.bd_machine.specs.Registry.{is_live}
use Rattle.bd_stack.proofs.Downwards.{below_is}
use Rattle.bd_rule_registry.proofs.standing.are_live.Goals as goal

pub loop-step-init : goal.loop-step-init
loop-step-init g c = ap (list_all (is_live (g.R.Records.registry_of c.args.registry.now))) (below_is c.args.setup.now _ c.args.dev (omega arith))
