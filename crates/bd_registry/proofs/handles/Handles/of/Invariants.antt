use Rattle.std.proofs.Common.{◌≡◌, length, take}
use Rattle.bd_registry.specs.Handles.{Keeps}
use Rattle.bd_registry.proofs.handles.Handles.of.Given as goal

abbrev pub invariant-loop-handle : goal.invariant-loop-handle
invariant-loop-handle l = record {
  keeps : Keeps l.table (take l.handle-index l.handles);
  next : length l.table.devices ≡ l.handle-index;
}
