use Rattle.std.proofs.Common.{◌≡◌, ◌++◌, flat_map, take}
use Rattle.bd_trace.specs.Fields.{owned_fields}
use Rattle.bd_trace.proofs.registry.add_handles.Given as goal

abbrev pub invariant-loop-owned : goal.invariant-loop-owned
invariant-loop-owned l = l.text ≡ l.fn.text ++ flat_map owned_fields (take l.owned-index l.handles)
