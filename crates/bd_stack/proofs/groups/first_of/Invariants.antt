use Rattle.std.proofs.Common.{◌≡◌, ◌+◌, filter, length}
use Rattle.bd_machine.specs.Users.{devices, is_first}
use Rattle.bd_stack.proofs.groups.first_of.Given as goal

abbrev pub invariant-loop-number : goal.invariant-loop-number
invariant-loop-number l = length (filter (is_first l.setup) (devices l.number)) + l.before ≡ l.fn.handle.0
