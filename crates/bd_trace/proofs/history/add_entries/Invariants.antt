use Rattle.std.proofs.Common.{◌≡◌, ◌++◌, flat_map, take}
use Rattle.bd_trace.specs.History.{entry_line}
use Rattle.bd_trace.proofs.history.add_entries.Given as goal

abbrev pub invariant-loop-entry : goal.invariant-loop-entry
invariant-loop-entry l = l.text ≡ l.fn.text ++ flat_map entry_line (take l.entry-index l.entries)
