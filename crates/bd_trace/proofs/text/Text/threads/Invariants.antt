use Rattle.std.proofs.Common.{◌≡◌, ◌++◌, flat_map}
use Rattle.std.specs.List.{range_with_len}
use Rattle.bd_trace.specs.Fields.{thread_field_if}
use Rattle.bd_trace.proofs.text.Text.threads.Given as goal

abbrev pub invariant-loop-thread : goal.invariant-loop-thread
invariant-loop-thread l = l.self ≡ l.fn.self ++ flat_map (thread_field_if l.threads.0) (range_with_len 0 l.thread)
