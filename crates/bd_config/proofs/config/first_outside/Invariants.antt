use Rattle.std.proofs.Common.{◌≡◌, ◌+◌}
use Rattle.std.specs.Prelude.{map, drop}
use Rattle.serde_json.specs.View.{view}
use Rattle.bd_config.specs.Config.{first_outside}
use Rattle.bd_config.proofs.config.first_outside.Given as goal

abbrev pub invariant-loop-subsystem : goal.invariant-loop-subsystem
invariant-loop-subsystem l = record {
  counted : l.place ≡ l.subsystem-index + 1;
  left : first_outside l.place (map view (drop l.subsystem-index l.subsystems)) ≡ first_outside 1 (map view l.subsystems);
}
