use Rattle.std.proofs.Common.{◌≡◌}
use Rattle.std.specs.Prelude.{map, drop}
use Rattle.std.specs.List.{list_all}
use Rattle.serde_json.specs.View.{view}
use Rattle.bd_config.specs.Shape.{is_call}
use Rattle.bd_config.proofs.shape.are_calls.Given as goal

abbrev pub invariant-loop-item : goal.invariant-loop-item
invariant-loop-item l = list_all is_call (map view (drop l.item-index l.items)) ≡ list_all is_call (map view l.items)
