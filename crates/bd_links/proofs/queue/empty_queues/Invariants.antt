use Rattle.std.proofs.Common.{◌≡◌, ◌-◌, ◌++◌}
use Rattle.bd_links.specs.Queues.{empty_queues}
use Rattle.bd_links.proofs.queue.empty_queues.Given as goal

abbrev pub invariant-loop-k : goal.invariant-loop-k
invariant-loop-k l = l.queues.items ++ empty_queues (l.threads - l.k) ≡ empty_queues l.threads
