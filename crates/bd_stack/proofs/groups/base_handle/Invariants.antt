use Rattle.std.proofs.Common.{◌≡◌, ◌≤◌, false, filter, length}
use Rattle.std.specs.List.{list_any}
use Rattle.bd_machine.specs.Users.{devices, is_first, shares_handle}
use Rattle.bd_stack.proofs.groups.base_handle.Given as goal

abbrev pub invariant-loop-number : goal.invariant-loop-number
invariant-loop-number l = record {
  handle : l.handle ≡ length (filter (is_first l.setup) (devices l.number));
  low : l.handle ≤ l.number;
  none : list_any (shares_handle l.setup l.fn.dev) (filter (is_first l.setup) (devices l.number)) ≡ false;
}
