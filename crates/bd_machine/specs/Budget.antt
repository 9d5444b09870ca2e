-- What is left of a device's limits, over timeslices of 1,000 microseconds.
use Rattle.std.specs.Prelude.{ℕ, Bool, false, if◌then◌else◌, ◌&&◌, ◌||◌, ◌==◌, ◌+◌, ◌-◌, ◌*◌, ◌/◌, nat_lt, nat_le, max, min, ℤ, pos, negsuc, ◌+ℤ◌, ◌-ℤ◌}
use Rattle.std.specs.Int.{int_min}
use Rattle.bd_base.specs.declared.device.Rates.{Rates}
use Rattle.bd_base.specs.declared.request.Way.{Way}
use Rattle.bd_base.specs.declared.request.Way.TheVariants.{Read, Write}
use Rattle.bd_machine.specs.declared.state.Left.{Left}
use Rattle.bd_machine.specs.declared.state.Starts.{Starts}

-- the requests that a limit per second lets through in a timeslice, rounded up
abbrev pub requests_in_slice : ℕ → ℕ
requests_in_slice per_second = (per_second + 999) / 1000

-- the bytes that a limit in megabytes per second lets through in a timeslice, rounded down
abbrev pub bytes_in_slice : ℕ → ℕ
bytes_in_slice megabytes = megabytes * 1048576 / 1000

-- what each limit lets through in a timeslice: requests, and bytes; 0 is no limit
pub record Quotas : Type 0 where
  pub rw_requests : ℕ
  pub rw_bytes : ℕ
  pub r_bytes : ℕ
  pub w_bytes : ℕ

abbrev pub quotas_of : Rates → Quotas
quotas_of r = record {
  rw_requests = requests_in_slice r.rw_ios_per_sec;
  rw_bytes = bytes_in_slice r.rw_mbytes_per_sec;
  r_bytes = bytes_in_slice r.r_mbytes_per_sec;
  w_bytes = bytes_in_slice r.w_mbytes_per_sec;
}

-- at first each limit has one quota left
abbrev pub one_quota : Quotas → Left
one_quota q = record {
  rw_requests = pos q.rw_requests;
  rw_bytes = pos q.rw_bytes;
  r_bytes = pos q.r_bytes;
  w_bytes = pos q.w_bytes;
}

abbrev pub is_above_zero : ℤ → Bool
is_above_zero (pos n) = nat_lt 0 n
is_above_zero (negsuc n) = false

-- a limit lets a request through: there is no such limit, or more than 0 is left of it
abbrev pub lets : ℕ → ℤ → Bool
lets quota left = (quota == 0) || is_above_zero left

-- a request may pass: each limit that counts its kind lets it through
abbrev pub may_pass : Quotas → Left → Way → Bool
may_pass q l Read = lets q.rw_requests l.rw_requests && lets q.rw_bytes l.rw_bytes && lets q.r_bytes l.r_bytes
may_pass q l Write = lets q.rw_requests l.rw_requests && lets q.rw_bytes l.rw_bytes && lets q.w_bytes l.w_bytes

-- a limit that counts a request is charged for it
abbrev pub charged_by : ℕ → ℕ → ℤ → ℤ
charged_by quota cost left = if quota == 0 then left else left -ℤ pos cost

-- what is left after a request: one request less, and its bytes less
abbrev pub charged : Quotas → Way → ℕ → Left → Left
charged q Read bytes l = record l {
  rw_requests = charged_by q.rw_requests 1 l.rw_requests;
  rw_bytes = charged_by q.rw_bytes bytes l.rw_bytes;
  r_bytes = charged_by q.r_bytes bytes l.r_bytes;
}
charged q Write bytes l = record l {
  rw_requests = charged_by q.rw_requests 1 l.rw_requests;
  rw_bytes = charged_by q.rw_bytes bytes l.rw_bytes;
  w_bytes = charged_by q.w_bytes bytes l.w_bytes;
}

-- a limit after this number of timeslices: the overrun stays, what was left over goes, and each slice brings a quota
abbrev pub renewed_by : ℕ → ℕ → ℤ → ℤ
renewed_by quota slices left = int_min left (pos 0) +ℤ pos (slices * quota)

-- what is left after this number of timeslices, at least one
abbrev pub renewed : Quotas → ℕ → Left → Left
renewed q slices l = record {
  rw_requests = renewed_by q.rw_requests slices l.rw_requests;
  rw_bytes = renewed_by q.rw_bytes slices l.rw_bytes;
  r_bytes = renewed_by q.r_bytes slices l.r_bytes;
  w_bytes = renewed_by q.w_bytes slices l.w_bytes;
}

-- the timeslices that passed from a start to a moment (microseconds)
abbrev pub slices_passed : ℕ → ℕ → ℕ
slices_passed start now = (now - start) / 1000

-- the starts from which exactly this number of timeslices passed up to a moment
abbrev pub starts_before : ℕ → ℕ → Starts → Starts
starts_before now slices s = record {
  earliest = max s.earliest (now - (slices * 1000 + 999));
  latest = min s.latest (now - slices * 1000);
}

-- this number of timeslices may have passed at a moment: some start is left
abbrev pub may_have_passed : ℕ → ℕ → Starts → Bool
may_have_passed now slices s =
    nat_le (slices * 1000) now && nat_le (starts_before now slices s).earliest (starts_before now slices s).latest
