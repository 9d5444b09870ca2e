use Rattle.std.proofs.Common.{◌≡◌, map, take}
use Rattle.bd_building.specs.Progress.{waiting_of}
use Rattle.bd_building.proofs.waiter.all_waiting.Given as goal

abbrev pub invariant-loop-waiter : goal.invariant-loop-waiter
invariant-loop-waiter l = l.rows ≡ map waiting_of (take l.waiter-index l.waiters)
