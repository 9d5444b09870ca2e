-- Which threads a set has.
use Rattle.std.proofs.Common.{◌≡◌, ℕ, zero, suc, ◌+◌, ◌-◌, ◌*◌, ◌/◌, ◌%◌, ◌^◌, ◌<◌, ◌≤◌, Bool, true, false, cond, ◌==◌, ◌⊎◌, inl, inr, refl, sym, ◌∙◌, ap, subst, eqb-true, eq-eqb, pow_pos, mod-lt, arith}
use Rattle.std.specs.Int.{bit_at}
use Rattle.std.proofs.lemmas.Bool.{cases_eq, cases_order}
use Rattle.std.proofs.lemmas.Nat.{div-add-mod'}
use Rattle.std.proofs.lemmas.Nat.Bits.{bit_at-zero, bit_at_lowest, bit_at-suc, bit_at_cat_low, bit_at_cat_high}
use Rattle.bd_base.specs.declared.thread_set.ThreadSet.{ThreadSet}
use Rattle.bd_machine.specs.Threads.{has, is_nobody, without, bits_of, those}

-- nobody has no thread
pub nobody_has : (threads : ThreadSet) (t : ℕ) → is_nobody threads ≡ true → has threads t ≡ true → ⊥
nobody_has threads t h k =
    let one : bit_at threads.0 t ≡ 1 = eqb-true (bit_at threads.0 t) 1 k in
    let none : bit_at threads.0 t ≡ 0 = ap (λ (n : ℕ). bit_at n t) (eqb-true threads.0 0 h) ∙ bit_at-zero t in
    absurd (clash (bit_at threads.0 t) one none)
  where
    clash : (n : ℕ) → n ≡ 1 → n ≡ 0 → ⊥
    clash n a b = omega arith

-- ---- the threads that pass a test

bits_below : (is : ℕ → Bool) (n : ℕ) → bits_of is n < 2 ^ n
bits_below is zero = omega arith
bits_below is (suc n) = go (is n) (bits_below is n)
  where
    go : (b : Bool) → bits_of is n < 2 ^ n → cond b (2 ^ n) 0 + bits_of is n < 2 ^ (suc n)
    go true h = omega arith
    go false h = omega arith

pub those_have : (is : ℕ → Bool) (n t : ℕ) → t < n → is t ≡ true → has (those is n) t ≡ true
those_have is n t h k = eq-eqb (bit_at (bits_of is n) t) 1 (bits is n t h k)
  where
    times : (b : Bool) (n : ℕ) → cond b (2 ^ n) 0 ≡ cond b 1 0 * 2 ^ n
    times true n = omega arith
    times false n = omega arith

    top : (n m : ℕ) → m < 2 ^ n → bit_at (1 * 2 ^ n + m) n ≡ 1
    top n m h = bit_at_cat_high 1 n m n h (same n) ∙ ap (bit_at 1) (less n)
      where
        same : (n : ℕ) → n ≤ n
        same n = omega arith

        less : (n : ℕ) → n - n ≡ 0
        less n = omega arith

    none : (t : ℕ) → t < 0 → ⊥
    none t h = omega arith

    lower : (t n : ℕ) → t < suc n → (t ≡ n → ⊥) → t < n
    lower t n h ne = grind arith

    bits : (is : ℕ → Bool) (n t : ℕ) → t < n → is t ≡ true → bit_at (bits_of is n) t ≡ 1
    bits is zero t h k = absurd (none t h)
    bits is (suc n) t h k = go (cases_eq t n) (bits is n t)
      where
        go : (t ≡ n) ⊎ (t ≡ n → ⊥) → (t < n → is t ≡ true → bit_at (bits_of is n) t ≡ 1) → bit_at (cond (is n) (2 ^ n) 0 + bits_of is n) t ≡ 1
        go (inl same) ih =
            ap (λ (i : ℕ). bit_at (cond (is n) (2 ^ n) 0 + bits_of is n) i) same
            ∙ ap (λ (b : Bool). bit_at (cond b (2 ^ n) 0 + bits_of is n) n) (subst (λ (i : ℕ). is i ≡ true) same k)
            ∙ ap (λ (m : ℕ). bit_at (m + bits_of is n) n) (times true n) ∙ top n (bits_of is n) (bits_below is n)
        go (inr ne) ih = ap (λ (m : ℕ). bit_at (m + bits_of is n) t) (times (is n) n) ∙ bit_at_cat_low (cond (is n) 1 0) n (bits_of is n) t (lower t n h ne) ∙ ih (lower t n h ne) k

-- ---- a thread less

-- the number with bit t set, and without it
record Parts (n t : ℕ) : Type 0 where
  high : ℕ
  low : ℕ
  small : low < 2 ^ t
  whole : n ≡ (2 * high + 1) * 2 ^ t + low
  rest : n - 2 ^ t ≡ 2 * high * 2 ^ t + low

parts_of : (n t : ℕ) → bit_at n t ≡ 1 → Parts n t
parts_of n t h =
    let q : ℕ = n / 2 ^ t in
    let odd : q ≡ 2 * (q / 2) + 1 = odd_is q h in
    let sum : n / 2 ^ t * 2 ^ t + n % 2 ^ t ≡ n = div-add-mod' n (2 ^ t) in
    let whole : n ≡ (2 * (q / 2) + 1) * 2 ^ t + n % 2 ^ t = sym sum ∙ ap (λ (x : ℕ). x * 2 ^ t + n % 2 ^ t) odd in
    record { high = q / 2; low = n % 2 ^ t; small = mod-lt n (pow_pos t); whole = whole; rest = less n (2 * (q / 2)) (2 ^ t) (n % 2 ^ t) whole }
  where
    odd_is : (q : ℕ) → q % 2 ≡ 1 → q ≡ 2 * (q / 2) + 1
    odd_is q h = omega arith

    less : (n a p l : ℕ) → n ≡ (a + 1) * p + l → n - p ≡ a * p + l
    less n a p l h = let one : (a + 1) * p ≡ a * p + p = grind arith in omega arith

without_bit : (n t u : ℕ) → (u ≡ t → ⊥) → bit_at n t ≡ 1 → bit_at (n - 2 ^ t) u ≡ bit_at n u
without_bit n t u ne h = go (cases_order u t)
  where
    p : Parts n t
    p = parts_of n t h

    above : (t u : ℕ) → t < u → t ≤ u
    above t u k = omega arith

    step : (t u : ℕ) → t < u → u - t ≡ suc (u - t - 1)
    step t u k = omega arith

    halves : (h : ℕ) → 2 * h / 2 ≡ (2 * h + 1) / 2
    halves h = omega arith

    shifted : (h i : ℕ) → bit_at (2 * h) (suc i) ≡ bit_at (2 * h + 1) (suc i)
    shifted h i = bit_at-suc (2 * h) i ∙ ap (λ (m : ℕ). bit_at m i) (halves h) ∙ sym (bit_at-suc (2 * h + 1) i)

    go : (u ≡ t) ⊎ ((u < t) ⊎ (t < u)) → bit_at (n - 2 ^ t) u ≡ bit_at n u
    go (inr (inl less)) =
        ap (λ (m : ℕ). bit_at m u) (parts_of n t h).rest ∙ bit_at_cat_low (2 * (parts_of n t h).high) t (parts_of n t h).low u less
        ∙ sym (ap (λ (m : ℕ). bit_at m u) (parts_of n t h).whole ∙ bit_at_cat_low (2 * (parts_of n t h).high + 1) t (parts_of n t h).low u less)
    go (inl same) = absurd (ne same)
    go (inr (inr more)) =
        ap (λ (m : ℕ). bit_at m u) (parts_of n t h).rest ∙ bit_at_cat_high (2 * (parts_of n t h).high) t (parts_of n t h).low u (parts_of n t h).small (above t u more)
        ∙ ap (bit_at (2 * (parts_of n t h).high)) (step t u more) ∙ shifted (parts_of n t h).high (u - t - 1) ∙ sym (ap (bit_at (2 * (parts_of n t h).high + 1)) (step t u more))
        ∙ sym (ap (λ (m : ℕ). bit_at m u) (parts_of n t h).whole ∙ bit_at_cat_high (2 * (parts_of n t h).high + 1) t (parts_of n t h).low u (parts_of n t h).small (above t u more))

pub without_has : (threads : ThreadSet) (t u : ℕ) → (u ≡ t → ⊥) → has threads u ≡ true → has (without threads t) u ≡ true
without_has threads t u ne k = go (has threads t) refl
  where
    go : (b : Bool) → has threads t ≡ b → (bit_at (cond b (threads.0 - 2 ^ t) threads.0) u == 1) ≡ true
    go true e = ap (λ (m : ℕ). m == 1) (without_bit threads.0 t u ne (eqb-true (bit_at threads.0 t) 1 e)) ∙ k
    go false e = k

-- nothing comes by a thread less
pub without_less : (threads : ThreadSet) (t u : ℕ) → has (without threads t) u ≡ true → has threads u ≡ true
without_less threads t u k = go (cases_eq u t) (has threads t) refl k
  where
    go : (u ≡ t) ⊎ (u ≡ t → ⊥) → (b : Bool) → has threads t ≡ b → (bit_at (cond b (threads.0 - 2 ^ t) threads.0) u == 1) ≡ true → has threads u ≡ true
    go same false e k = k
    go (inl same) true e k = subst (λ (n : ℕ). has threads n ≡ true) (sym same) e
    go (inr ne) true e k = ap (λ (m : ℕ). m == 1) (sym (without_bit threads.0 t u ne (eqb-true (bit_at threads.0 t) 1 e))) ∙ k

pub without_not : (threads : ThreadSet) (t : ℕ) → has (without threads t) t ≡ true → ⊥
without_not threads t k = go (has threads t) refl k
  where
    same_is : (n : ℕ) → n ≤ n
    same_is n = omega arith

    less_self : (n : ℕ) → n - n ≡ 0
    less_self n = omega arith

    even : (n : ℕ) → 2 * n % 2 ≡ 0
    even n = omega arith

    clash : (n : ℕ) → n ≡ 0 → n ≡ 1 → ⊥
    clash n a b = omega arith

    differ : {b : Bool} → b ≡ true → b ≡ false → ⊥
    differ h k = let e : true ≡ false = sym h ∙ k in cc

    bit : (h : bit_at threads.0 t ≡ 1) → bit_at (threads.0 - 2 ^ t) t ≡ 0
    bit h =
        let p = parts_of threads.0 t h in
        ap (λ (m : ℕ). bit_at m t) p.rest ∙ bit_at_cat_high (2 * p.high) t p.low t p.small (same_is t) ∙ ap (bit_at (2 * p.high)) (less_self t) ∙ bit_at_lowest (2 * p.high) ∙ even p.high

    go : (b : Bool) → has threads t ≡ b → (bit_at (cond b (threads.0 - 2 ^ t) threads.0) t == 1) ≡ true → ⊥
    go false e k = differ k e
    go true e k = clash (bit_at (threads.0 - 2 ^ t) t) (bit (eqb-true (bit_at threads.0 t) 1 e)) (eqb-true (bit_at (threads.0 - 2 ^ t) t) 1 k)
