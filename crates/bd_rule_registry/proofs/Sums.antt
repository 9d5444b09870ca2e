-- What the first devices have together.
use Rattle.std.proofs.Common.{◌≡◌, ℕ, zero, suc, ◌+◌, ◌-◌, ◌<◌, ◌≤◌, nat_lt, true, false, refl, sym, ◌∙◌, ap, arith, lt-ltb, le-ltb}
use Rattle.std.specs.List.{sum_by}
use Rattle.std.proofs.lemmas.List.FromFn.{sum_by-map-range_with_len_more}
use Rattle.bd_base.specs.declared.id.DevId.{DevId}
use Rattle.bd_machine.specs.Users.{dev_of, devices}

zero_and : (n : ℕ) → 0 + n ≡ n
zero_and n = omega arith

module _ (bytes : DevId → ℕ) where
  -- the bytes of the first n devices
  abbrev pub total : ℕ → ℕ
  total n = sum_by bytes (devices n)

  pub total_next : (n : ℕ) → total (n + 1) ≡ total n + bytes (dev_of n)
  total_next n = sum_by-map-range_with_len_more bytes dev_of 0 n n (zero_and n)

  grows_by : (n k : ℕ) → total n ≤ total (n + k)
  grows_by n zero = let e : n + 0 ≡ n = omega arith in let f : total (n + 0) ≡ total n = ap total e in omega (arith, f)
  grows_by n (suc k) =
      let e : n + suc k ≡ n + k + 1 = omega arith in
      let f : total (n + suc k) ≡ total (n + k) + bytes (dev_of (n + k)) = ap total e ∙ total_next (n + k) in
      let before : total n ≤ total (n + k) = grows_by n k in
      omega (arith, f, before)

  grows : (n m : ℕ) → n ≤ m → total n ≤ total m
  grows n m h =
      let e : n + (m - n) ≡ m = omega arith in
      let f : total (n + (m - n)) ≡ total m = ap total e in
      let by : total n ≤ total (n + (m - n)) = grows_by n (m - n) in
      omega (arith, f, by)

  -- more than is left makes all of them pass what there is
  pub passes : (most left n count : ℕ) → left + total n ≡ most → n < count → left < bytes (dev_of n) → nat_lt most (total count) ≡ true
  passes most left n count is below more =
      let next : total (n + 1) ≡ total n + bytes (dev_of n) = total_next n in
      let all : total (n + 1) ≤ total count = grows (n + 1) count (omega arith) in
      lt-ltb most (total count) (omega (arith, is, more, next, all))

  -- and where something is left of it at the end, they don't
  pub fits : (most left count : ℕ) → left + total count ≡ most → nat_lt most (total count) ≡ false
  fits most left count is = le-ltb most (total count) (omega (arith, is))

  -- what is left of it after one device more
  pub leaves : (most left n : ℕ) → left + total n ≡ most → bytes (dev_of n) ≤ left → (left - bytes (dev_of n)) + total (n + 1) ≡ most
  leaves most left n is enough =
      let next : total (n + 1) ≡ total n + bytes (dev_of n) = total_next n in
      omega (arith, is, enough, next)
