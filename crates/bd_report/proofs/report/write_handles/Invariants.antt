use Rattle.std.proofs.Common.{◌≡◌, ◌++◌, flat_map, take}
use Rattle.bd_report.specs.Handles.{line_of_opened}
use Rattle.bd_report.proofs.report.write_handles.Given as goal

abbrev pub invariant-loop-handle : goal.invariant-loop-handle
invariant-loop-handle l = l.out.items ≡ l.fn.out.items ++ flat_map line_of_opened (take l.handle-index l.handles)
