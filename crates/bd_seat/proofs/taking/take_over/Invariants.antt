use Rattle.std.proofs.Common.{◌≡◌, ◌+◌, false, List, ◌++◌, length}
use Rattle.std.specs.List.{AllByRecursion}
use Rattle.bd_base.specs.declared.act.Entry.{Entry}
use Rattle.bd_machine.specs.Step.{is_shutdown}
use Rattle.bd_law_logs.specs.Journals.{IsReplay}
use Rattle.bd_law_threads.specs.Course.{acts_of, restamped}
use Rattle.bd_seat.specs.Taking.{TakesOver}
use Rattle.bd_seat.proofs.taking.take_over.Given as goal

-- some entries were taken over, and with those that are left they are all
abbrev pub invariant-loop-entry : goal.invariant-loop-entry
invariant-loop-entry l = record {
  added : List Entry;
  taken : TakesOver l.initial.log l.initial.registry added l.log l.registry;
  all : added ++ restamped l.log.thread l.log.last (acts_of l.left.items) ≡ restamped l.initial.log.thread l.initial.log.last (acts_of l.fn.entries);
  count : l.log.last + length l.left.items ≡ l.initial.log.last + length l.fn.entries;
  threads : AllByRecursion (λ e. e.thread ≡ l.me) l.left.items;
  no_shutdown : AllByRecursion (λ e. is_shutdown e.act ≡ false) l.left.items;
  replay : IsReplay l.registry.setup l.registry.state l.left.items;
}

abbrev pub decreases-loop-entry : goal.decreases-loop-entry
decreases-loop-entry l = length l.left.items
