-- The order in which holds end.
use Rattle.std.proofs.Common.{◌≡◌, true, false, ◌≤◌, arith}
use Rattle.std.proofs.lemmas.Bool.Decides.{nat_tests}
use Rattle.bd_delay.specs.declared.held.HeldRequest.{HeldRequest}
use Rattle.bd_delay.specs.Holds.{ends_before}

-- no hold ends before itself
pub ends_irrefl : (a : HeldRequest) → ends_before a a ≡ false
ends_irrefl a = grind (arith, nat_tests)

-- what doesn't end before a hold doesn't end before an earlier one
pub stays_first : (a b c : HeldRequest) → ends_before a b ≡ false → ends_before c b ≡ true → ends_before a c ≡ false
stays_first a b c late early = grind (arith, nat_tests)

-- what doesn't end before a hold has no earlier moment
pub no_earlier : (a b : HeldRequest) → ends_before a b ≡ false → b.until ≤ a.until
no_earlier a b late = grind (arith, nat_tests)
