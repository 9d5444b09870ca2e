-- Striping: the strip of a block, and its place there.
use Rattle.std.proofs.Common.{◌≡◌, ◌≢◌, ℕ, suc, ◌+◌, ◌-◌, ◌*◌, ◌/◌, ◌%◌, ◌<◌, ◌≤◌, ◌∙◌, ap, inl, inr, arith}
use Rattle.std.proofs.Math.Nat.{div-lt_iff_lt-mul, mul-add-mod_self_right, mod-eq_of_lt, mod-lt, mul-le-mul_right}
use Rattle.std.proofs.lemmas.Bool.{cases_lt}
use Rattle.std.proofs.lemmas.Nat.{div-mul-add}
use Rattle.bd_raid.specs.Raid.{block_striped, striped_at}

-- a number of whole strips, and a block of the next one
pub mod_of : (q p r : ℕ) → r < p → (q * p + r) % p ≡ r
mod_of q p r h = mul-add-mod_self_right q p r ∙ mod-eq_of_lt h

-- a block is in its strip
pub parts : (p b : ℕ) → 1 ≤ p → b / p * p + b % p ≡ b
parts p b some = omega (arith, some)

-- no two blocks lie at one place
pub striped_alone : (p n b : ℕ) → 1 ≤ p → 1 ≤ n → block_striped p n (striped_at p n b) ≡ b
striped_alone p n b some members =
    let less : b % p < p = mod-lt b (omega (arith, some)) in
    let strip : (b / p / n * p + b % p) / p ≡ b / p / n = div-mul-add (b / p / n) p (b % p) less in
    let place : (b / p / n * p + b % p) % p ≡ b % p = mod_of (b / p / n) p (b % p) less in
    let number : b / p / n * n + b / p % n ≡ b / p = parts n (b / p) members in
    ap (λ x. (x * n + b / p % n) * p + (b / p / n * p + b % p) % p) strip ∙ ap (λ x. (b / p / n * n + b / p % n) * p + x) place ∙ ap (λ x. x * p + b % p) number ∙ parts p b some

-- the number of its strip is below that of all strips
pub strip_below : (p k b : ℕ) → 1 ≤ p → b < k * p → b / p < k
strip_below p k b some h = (div-lt_iff_lt-mul {k = p} {x = b} {y = k} (omega (arith, some))).1 h

-- a block of a set of n members with k strips each lies on one of those strips
pub striped_inside : (p n k b : ℕ) → 1 ≤ p → 1 ≤ n → b < n * (k * p) → (striped_at p n b).1 < k * p
striped_inside p n k b some members h =
    let q = b / p in
    let low : q < k * n = strip_below p (k * n) b some (omega (arith, h)) in
    let row : q / n < k = strip_below n k q members low in
    let rows : suc (q / n) * p ≤ k * p = mul-le-mul_right p row in
    let less : b % p < p = mod-lt b (omega (arith, some)) in
    omega (arith, rows, less)

-- the blocks up to the end of a strip follow on
pub same_strip : (p b k : ℕ) → 1 ≤ p → k < p - b % p → (b + k) / p ≡ b / p
same_strip p b k some h =
    let less : b % p + k < p = omega (arith, h) in
    let e : b + k ≡ b / p * p + (b % p + k) = omega (arith, parts p b some) in
    ap (λ x. x / p) e ∙ div-mul-add (b / p) p (b % p + k) less

pub same_strip_place : (p b k : ℕ) → 1 ≤ p → k < p - b % p → (b + k) % p ≡ b % p + k
same_strip_place p b k some h =
    let less : b % p + k < p = omega (arith, h) in
    let e : b + k ≡ b / p * p + (b % p + k) = omega (arith, parts p b some) in
    ap (λ x. x % p) e ∙ mod_of (b / p) p (b % p + k) less

pub striped_follow : (p n b k : ℕ) → 1 ≤ p → k < p - b % p → striped_at p n (b + k) ≡ ((striped_at p n b).0, (striped_at p n b).1 + k)
striped_follow p n b k some h =
    let q = same_strip p b k some h in
    let r = same_strip_place p b k some h in
    let more : b / p / n * p + (b % p + k) ≡ b / p / n * p + b % p + k = omega arith in
    ap (λ x. (x % n, x / n * p + (b + k) % p)) q ∙ ap (λ x. (b / p % n, b / p / n * p + x)) r ∙ ap (λ (x : ℕ). (b / p % n, x)) more

-- the strip after the end of a block's strip is the next
pub next_strip : (p b : ℕ) → 1 ≤ p → (b + (p - b % p)) / p ≡ suc (b / p)
next_strip p b some =
    let less : b % p < p = mod-lt b (omega (arith, some)) in
    let e : b + (p - b % p) ≡ suc (b / p) * p + 0 = omega (arith, parts p b some, less) in
    ap (λ x. x / p) e ∙ div-mul-add (suc (b / p)) p 0 (omega (arith, some))

-- one more than some rows isn't fewer rows
more_rows : (n a b : ℕ) → b * n ≡ suc (a * n) → a < b
more_rows n a b e = elim (cases_lt a b) [ inl less ↦ less | inr more ↦ absurd (let le : b * n ≤ a * n = mul-le-mul_right n more in omega (arith, le, e)) ]

-- and among several members another has it
pub next_differs : (n q : ℕ) → 2 ≤ n → suc q % n ≢ q % n
next_differs n q several same =
    let here : q / n * n + q % n ≡ q = parts n q (omega (arith, several)) in
    let next : suc q / n * n + suc q % n ≡ suc q = parts n (suc q) (omega (arith, several)) in
    let rows : suc q / n * n ≡ suc (q / n * n) = omega (arith, here, next, same) in
    let above : q / n < suc q / n = more_rows n (q / n) (suc q / n) rows in
    let more : suc (q / n) * n ≤ suc q / n * n = mul-le-mul_right n above in
    absurd (omega (arith, rows, more, several))
