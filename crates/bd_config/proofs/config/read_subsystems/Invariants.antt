use Rattle.std.proofs.Common.{◌≡◌}
use Rattle.std.specs.Prelude.{map, drop, All}
use Rattle.serde_json.specs.View.{view}
use Rattle.bd_config.specs.Commands.{IsOpenable}
use Rattle.bd_config.specs.Shape.{calls_of}
use Rattle.bd_config.specs.Config.{commands_from}
use Rattle.bd_config.proofs.config.read_subsystems.Given as goal

abbrev pub invariant-loop-subsystem : goal.invariant-loop-subsystem
invariant-loop-subsystem l = record {
  left : commands_from l.commands.items (calls_of (map view (drop l.subsystem-index l.subsystems))) ≡ commands_from l.fn.commands.items (calls_of (map view l.subsystems));
  openable : All IsOpenable l.fn.commands.items → All IsOpenable l.commands.items;
}
