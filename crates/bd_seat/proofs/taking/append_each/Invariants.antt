use Rattle.std.proofs.Common.{◌≡◌, ◌+◌, List, [], ◌++◌, length}
use Rattle.bd_base.specs.declared.act.Entry.{Entry}
use Rattle.bd_law_logs.specs.Journals.{events}
use Rattle.bd_law_threads.specs.Course.{acts_of, restamped}
use Rattle.bd_seat.specs.Taking.{AppendsAlone}
use Rattle.bd_seat.proofs.taking.append_each.Given as goal

-- some entries were appended, and with those that are left they are all
abbrev pub invariant-loop-entry : goal.invariant-loop-entry
invariant-loop-entry l = record {
  added : List Entry;
  appended : AppendsAlone l.initial.log added l.log;
  all : added ++ restamped l.log.thread l.log.last (acts_of l.left.items) ≡ restamped l.initial.log.thread l.initial.log.last (acts_of l.fn.entries);
  count : l.log.last + length l.left.items ≡ l.initial.log.last + length l.fn.entries;
  none_asks : events l.left.items ≡ [];
}

abbrev pub decreases-loop-entry : goal.decreases-loop-entry
decreases-loop-entry l = length l.left.items
