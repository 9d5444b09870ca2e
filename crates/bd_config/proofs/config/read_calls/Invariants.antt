use Rattle.std.proofs.Common.{◌≡◌}
use Rattle.std.specs.Prelude.{map, drop, All}
use Rattle.serde_json.specs.View.{view}
use Rattle.bd_config.specs.Commands.{IsOpenable}
use Rattle.bd_config.specs.Config.{commands_from}
use Rattle.bd_config.proofs.config.read_calls.Given as goal

abbrev pub invariant-loop-call : goal.invariant-loop-call
invariant-loop-call l = record {
  left : commands_from l.commands.items (map view (drop l.call-index l.calls)) ≡ commands_from l.fn.commands.items (map view l.calls);
  openable : All IsOpenable l.fn.commands.items → All IsOpenable l.commands.items;
}
