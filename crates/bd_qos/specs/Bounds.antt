-- Within which bounds limits stay, and which starts of the first timeslice fit.
use Rattle.std.specs.Prelude.{◌≡◌, ℕ, true, ◌≤◌, ◌^◌, ℤ, pos, ◌≤ℤ◌, neg_ℤ}
use Rattle.bd_base.specs.declared.device.Rates.{Rates}
use Rattle.bd_machine.specs.declared.state.Left.{Left}
use Rattle.bd_machine.specs.declared.state.Starts.{Starts}
use Rattle.bd_machine.specs.Budget.{may_have_passed, starts_before}

-- the limits that a device can have: at most 1,000,000,000 requests and 1,000,000 megabytes per second
pub record AreInRange (r : Rates) : Type 0 where
  pub rw_ios : r.rw_ios_per_sec ≤ 1000000000
  pub rw_mbytes : r.rw_mbytes_per_sec ≤ 1000000
  pub r_mbytes : r.r_mbytes_per_sec ≤ 1000000
  pub w_mbytes : r.w_mbytes_per_sec ≤ 1000000

-- what is left of a limit stands between -2^64 and 2^94
pub record IsBounded (left : ℤ) : Type 0 where
  pub above : neg_ℤ (pos (2 ^ 64)) ≤ℤ left
  pub below : left ≤ℤ pos (2 ^ 94)

pub record AreBounded (left : Left) : Type 0 where
  pub rw_requests : IsBounded left.rw_requests
  pub rw_bytes : IsBounded left.rw_bytes
  pub r_bytes : IsBounded left.r_bytes
  pub w_bytes : IsBounded left.w_bytes

-- the moment is one of those at which the first timeslice may have begun
pub record IsOneOf (start : ℕ) (starts : Starts) : Type 0 where
  pub earliest : starts.earliest ≤ start
  pub latest : start ≤ starts.latest

-- the machine lets so many timeslices have passed, and the start is still one of those that are left
pub record MayHavePassed (start now slices : ℕ) (starts : Starts) : Type 0 where
  pub may : may_have_passed now slices starts ≡ true
  pub fits : IsOneOf start (starts_before now slices starts)
