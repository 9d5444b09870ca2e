-- What holds of a set.
use Rattle.std.proofs.Common.{◌≡◌, ℕ, suc, ◌+◌, ◌-◌, ◌*◌, ◌/◌, ◌%◌, ◌<◌, ◌≤◌, ◌^◌, true, false, cond, List, length, get_or, take, sym, ◌∙◌, ap, subst, arith}
use Rattle.std.proofs.Math.Nat.{mod-lt, mul-le-mul_right}
use Rattle.std.proofs.lemmas.List.Sums.{sum_by_more, sum_by_more_le}
use Rattle.bd_raid.proofs.Joined.{Lies, lies, joined_at_member}
use Rattle.bd_raid.proofs.Least.{least_le, used_fits, used_mono}
use Rattle.bd_raid.proofs.Striped.{parts, strip_below, striped_alone, striped_inside, striped_follow, next_strip, next_differs}
use Rattle.bd_raid.specs.Raid.{at_raid, block_joined, block_of_raid, block_striped, blocks_of_raid, FollowOn, IsPlace, IsRaid, joined_from, least_of, RaidRows, striped_at, used_of, used_of_all}

-- all that a set uses fits 64 bits
pub blocks_fit : (r : RaidRows) → IsRaid r → used_of_all r.strip r.sizes < 2 ^ 64
blocks_fit r is =
    let all = used_fits r.strip 1099511627776 r.sizes (λ i d h. is.sizes_fit i d h) in
    let few : length r.sizes * 1099511627776 ≤ 16 * 1099511627776 = mul-le-mul_right 1099511627776 is.few_members in
    omega (arith, all, few)

-- ---- concatenation

joined_blocks : (r : RaidRows) → r.striped ≡ false → blocks_of_raid r ≡ used_of_all r.strip r.sizes
joined_blocks r e = ap (λ b. cond b (length r.sizes * used_of (least_of r.sizes) r.strip) (used_of_all r.strip r.sizes)) e

joined_place : (r : RaidRows) → r.striped ≡ false → (block : ℕ) → at_raid r block ≡ joined_from r.strip 0 r.sizes block
joined_place r e block = ap (λ b. cond b (striped_at r.strip (length r.sizes) block) (joined_from r.strip 0 r.sizes block)) e

-- where a block below the set's end lies
pub record JoinedPlace (r : RaidRows) (block : ℕ) : Type 0 where
  pub lies : Lies r.strip r.sizes block
  pub is : joined_from r.strip 0 r.sizes block ≡ (lies.member, block - used_of_all r.strip (take lies.member r.sizes))

joined_there : (strip : ℕ) (xs : List ℕ) (block j : ℕ) → j < length xs → used_of_all strip (take j xs) ≤ block
    → block < used_of_all strip (take j xs) + used_of (get_or xs j 0) strip → joined_from strip 0 xs block ≡ (j, block - used_of_all strip (take j xs))
joined_there strip xs block j fits low high =
    let e : 0 + j ≡ j = omega arith in
    joined_at_member strip 0 xs block j fits low high ∙ ap (λ (n : ℕ). (n, block - used_of_all strip (take j xs))) e

pub joined_placed : (r : RaidRows) → r.striped ≡ false → (block : ℕ) → block < blocks_of_raid r → JoinedPlace r block
joined_placed r e block h =
    let it = lies r.strip r.sizes block (omega (arith, h, joined_blocks r e)) in
    record { lies = it; is = joined_there r.strip r.sizes block it.member it.fits it.low it.high }

pub joined_used : (r : RaidRows) → r.striped ≡ false → (block : ℕ) → block < blocks_of_raid r → IsPlace r (joined_from r.strip 0 r.sizes block)
joined_used r e block h =
    let p = joined_placed r e block h in
    subst (IsPlace r) (sym p.is) (record { member = p.lies.fits; block = omega (arith, p.lies.low, p.lies.high) })

pub joined_alone : (r : RaidRows) → r.striped ≡ false → (block : ℕ) → block < blocks_of_raid r → block_of_raid r (joined_from r.strip 0 r.sizes block) ≡ block
joined_alone r e block h =
    let p = joined_placed r e block h in
    let sum = used_of_all r.strip (take p.lies.member r.sizes) in
    let back : sum + (block - sum) ≡ block = omega (arith, p.lies.low) in
    ap (λ b. cond b (block_striped r.strip (length r.sizes) (joined_from r.strip 0 r.sizes block)) (block_joined r.strip r.sizes (joined_from r.strip 0 r.sizes block))) e
    ∙ ap (block_joined r.strip r.sizes) p.is ∙ back

pub joined_follow : (r : RaidRows) → r.striped ≡ false → IsRaid r → (block run : ℕ) → block < blocks_of_raid r
    → run ≡ used_of (get_or r.sizes (at_raid r block).0 0) r.strip - (at_raid r block).1 → FollowOn r block run
joined_follow r e is block run h runs =
    let p = joined_placed r e block h in
    let j = p.lies.member in
    let sum = used_of_all r.strip (take j r.sizes) in
    let mine = used_of (get_or r.sizes j 0) r.strip in
    let at : at_raid r block ≡ (j, block - sum) = joined_place r e block ∙ p.is in
    let length_of : run ≡ mine - (block - sum) = runs ∙ ap (λ (a : ℕ × ℕ). used_of (get_or r.sizes a.0 0) r.strip - a.1) at in
    let all = joined_blocks r e in
    let more = sum_by_more_le (λ size. used_of size r.strip) r.sizes j 0 p.lies.fits in
    let next = sum_by_more (λ size. used_of size r.strip) r.sizes j 0 p.lies.fits in
    record {
      within = omega (arith, p.lies.low, p.lies.high, length_of, all, more);
      follow = λ k less.
          let there = joined_place r e (block + k) ∙ joined_there r.strip r.sizes (block + k) j p.lies.fits (omega (arith, p.lies.low)) (omega (arith, p.lies.low, p.lies.high, length_of, less)) in
          let place : block + k - sum ≡ block - sum + k = omega (arith, p.lies.low) in
          there ∙ ap (λ (n : ℕ). (j, n)) place ∙ ap (λ (a : ℕ × ℕ). (a.0, a.1 + k)) (sym at);
      ends = λ less same.
          let q = joined_placed r e (block + run) less in
          let there = joined_place r e (block + run) ∙ q.is in
          let one : q.lies.member ≡ j = sym (ap (λ (a : ℕ × ℕ). a.0) there) ∙ same ∙ ap (λ (a : ℕ × ℕ). a.0) at in
          let high = ap (λ (n : ℕ). used_of_all r.strip (take n r.sizes) + used_of (get_or r.sizes n 0) r.strip) one in
          absurd (omega (arith, q.lies.high, high, length_of, p.lies.low, p.lies.high));
    }

-- ---- striping

striped_blocks : (r : RaidRows) → r.striped ≡ true → blocks_of_raid r ≡ length r.sizes * used_of (least_of r.sizes) r.strip
striped_blocks r e = ap (λ b. cond b (length r.sizes * used_of (least_of r.sizes) r.strip) (used_of_all r.strip r.sizes)) e

striped_place : (r : RaidRows) → r.striped ≡ true → (block : ℕ) → at_raid r block ≡ striped_at r.strip (length r.sizes) block
striped_place r e block = ap (λ b. cond b (striped_at r.strip (length r.sizes) block) (joined_from r.strip 0 r.sizes block)) e

pub striped_used : (r : RaidRows) → r.striped ≡ true → IsRaid r → (block : ℕ) → block < blocks_of_raid r → IsPlace r (striped_at r.strip (length r.sizes) block)
striped_used r e is block h =
    let p = r.strip in
    let n = length r.sizes in
    let member : block / p % n < n = mod-lt (block / p) (omega (arith, is.some_member)) in
    let inside = striped_inside p n (least_of r.sizes / p) block is.some_strip is.some_member (omega (arith, h, striped_blocks r e)) in
    let least = used_mono (least_of r.sizes) (get_or r.sizes (block / p % n) 0) p is.some_strip (least_le r.sizes (block / p % n) member) in
    record { member = member; block = omega (arith, inside, least) }

pub striped_back : (r : RaidRows) → r.striped ≡ true → IsRaid r → (block : ℕ) → block_of_raid r (striped_at r.strip (length r.sizes) block) ≡ block
striped_back r e is block =
    let at = striped_at r.strip (length r.sizes) block in
    ap (λ b. cond b (block_striped r.strip (length r.sizes) at) (block_joined r.strip r.sizes at)) e ∙ striped_alone r.strip (length r.sizes) block is.some_strip is.some_member

-- several members: up to the end of the strip
pub striped_runs : (r : RaidRows) → r.striped ≡ true → IsRaid r → 1 < length r.sizes → (block run : ℕ) → block < blocks_of_raid r → run ≡ r.strip - block % r.strip → FollowOn r block run
striped_runs r e is several block run h runs =
    let p = r.strip in
    let n = length r.sizes in
    let k = least_of r.sizes / p in
    let all = striped_blocks r e in
    let low : block / p < k * n = strip_below p (k * n) block is.some_strip (omega (arith, h, all)) in
    let rows : suc (block / p) * p ≤ k * n * p = mul-le-mul_right p low in
    let inside : block % p < p = mod-lt block (omega (arith, is.some_strip)) in
    record {
      within = omega (arith, rows, runs, all, inside, parts p block is.some_strip);
      follow = λ j less.
          striped_place r e (block + j) ∙ striped_follow p n block j is.some_strip (omega (arith, less, runs)) ∙ ap (λ (a : ℕ × ℕ). (a.0, a.1 + j)) (sym (striped_place r e block));
      ends = λ _ same.
          let end : (block + run) / p ≡ suc (block / p) = ap (λ x. (block + x) / p) runs ∙ next_strip p block is.some_strip in
          let there : (at_raid r (block + run)).0 ≡ suc (block / p) % n = ap (λ (a : ℕ × ℕ). a.0) (striped_place r e (block + run)) ∙ ap (λ x. x % n) end in
          let here : (at_raid r block).0 ≡ block / p % n = ap (λ (a : ℕ × ℕ). a.0) (striped_place r e block) in
          next_differs n (block / p) several (sym there ∙ same ∙ here);
    }

one_member : (p block : ℕ) → 1 ≤ p → striped_at p 1 block ≡ (0, block)
one_member p block some =
    let number : block / p % 1 ≡ 0 = omega arith in
    let rows : block / p / 1 ≡ block / p = omega arith in
    ap (λ (x : ℕ). (x, block / p / 1 * p + block % p)) number ∙ ap (λ (x : ℕ). (0, x * p + block % p)) rows ∙ ap (λ (x : ℕ). (0, x)) (parts p block some)

-- one member: up to the end of the set
pub striped_alone_runs : (r : RaidRows) → r.striped ≡ true → IsRaid r → length r.sizes ≤ 1 → (block run : ℕ) → block < blocks_of_raid r → run ≡ blocks_of_raid r - block → FollowOn r block run
striped_alone_runs r e is one block run h runs =
    let n : length r.sizes ≡ 1 = omega (arith, one, is.some_member) in
    let at : (b : ℕ) → at_raid r b ≡ (0, b) = λ b. striped_place r e b ∙ ap (λ x. striped_at r.strip x b) n ∙ one_member r.strip b is.some_strip in
    record {
      within = omega (arith, h, runs);
      follow = λ j less. at (block + j) ∙ ap (λ (a : ℕ × ℕ). (a.0, a.1 + j)) (sym (at block));
      ends = λ less same. absurd (omega (arith, less, runs));
    }
