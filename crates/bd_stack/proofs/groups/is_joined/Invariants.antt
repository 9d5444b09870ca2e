use Rattle.std.proofs.Common.{◌≡◌, false}
use Rattle.std.specs.List.{list_any}
use Rattle.bd_machine.specs.Users.{dev_of, devices, shares_handle}
use Rattle.bd_stack.proofs.groups.is_joined.Given as goal

abbrev pub invariant-loop-earlier : goal.invariant-loop-earlier
invariant-loop-earlier l = list_any (shares_handle l.setup (dev_of l.fn.number)) (devices l.earlier) ≡ false
