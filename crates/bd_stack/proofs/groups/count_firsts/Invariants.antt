use Rattle.std.proofs.Common.{◌≡◌, ◌≤◌, filter, length}
use Rattle.bd_machine.specs.Users.{devices, is_first}
use Rattle.bd_stack.proofs.groups.count_firsts.Given as goal

abbrev pub invariant-loop-number : goal.invariant-loop-number
invariant-loop-number l = record {
  count : l.count ≡ length (filter (is_first l.setup) (devices l.number));
  low : l.count ≤ l.number;
}
