use Rattle.std.proofs.Common.{◌≡◌, filter, length}
use Rattle.bd_machine.specs.Users.{dev_of, devices, shares_handle}
use Rattle.bd_stack.proofs.groups.sharing.Given as goal

abbrev pub invariant-loop-number : goal.invariant-loop-number
invariant-loop-number l = record {
  count : l.count ≡ length l.setup.devices;
  found : l.found ≡ filter (shares_handle l.setup (dev_of l.fn.first)) (devices l.number);
}
