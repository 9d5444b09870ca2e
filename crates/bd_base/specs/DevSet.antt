-- Sets of devices as bits.
use Rattle.std.specs.Prelude.{ℕ, ◌-◌, ◌^◌, Bool, false, cond, ◌==◌, nat_lt, bit_or}
use Rattle.std.specs.Int.{bit_at}
use Rattle.bd_base.specs.declared.dev_set.DevSet.{DevSet}
use Rattle.bd_base.specs.declared.id.DevId.{DevId}

-- no device is in it
abbrev pub no_devs : DevSet
no_devs = record { low = 0; high = 0 }

-- the device of this number is in the set; one of 256 and on is in none
abbrev pub has_number : DevSet → ℕ → Bool
has_number set n = cond (nat_lt n 128) (bit_at set.low n == 1) (cond (nat_lt n 256) (bit_at set.high (n - 128) == 1) false)

abbrev pub has_dev : DevSet → DevId → Bool
has_dev set dev = has_number set dev.0

-- the set with the device of this number; one of 256 and on comes into none
abbrev pub with_number : ℕ → DevSet → DevSet
with_number n set = cond (nat_lt n 128)
    (record { low = bit_or set.low (2 ^ n); high = set.high })
    (cond (nat_lt n 256) (record { low = set.low; high = bit_or set.high (2 ^ (n - 128)) }) set)

abbrev pub with_dev : DevId → DevSet → DevSet
with_dev dev set = with_number dev.0 set
