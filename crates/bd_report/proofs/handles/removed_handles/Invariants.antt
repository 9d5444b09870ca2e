use Rattle.std.proofs.Common.{◌≡◌, map, filter, filter_map, take}
use Rattle.std.specs.List.{range_with_len}
use Rattle.bd_report.specs.Handles.{as_handle, TellsDone}
use Rattle.bd_report.specs.Report.{opened_at, was_removed}
use Rattle.bd_report.proofs.handles.removed_handles.Given as goal

abbrev pub invariant-loop-entry : goal.invariant-loop-entry
invariant-loop-entry l = record {
  handles : map as_handle l.handles.items ≡ filter (was_removed l.index) (filter_map (opened_at l.scripts l.index) (range_with_len 0 l.entry-index));
  done : TellsDone l.done (take l.entry-index l.index);
}
