-- The numbers of places that have each cluster, when one device's pairs change.
use Rattle.std.proofs.Common.{◌≡◌, ℕ, ◌+◌, ◌<◌, ◌≤◌, List, [], ◌∷◌, length, map, replicate, slice_index, Option, Some, None, inl, inr, refl, sym, ap, ◌∙◌, arith}
use Rattle.std.proofs.lemmas.Bool.{cases_eq, cases_lt}
use Rattle.std.proofs.lemmas.Bool.Decides.{nat_tests}
use Rattle.std.proofs.lemmas.List.{get_or-replicate, get_or_past, length-replicate}
use Rattle.std.proofs.lemmas.List.Sums.{sum_by-cons}
use Rattle.std.specs.List.{AllByRecursion, position}
use Rattle.bd_base.specs.declared.id.DevId.{DevId}
use Rattle.bd_thin_map.specs.Map.{IsCounted, MapRows, changed, is_of, pairs_of, users_of, with_pairs}
use Rattle.bd_thin_map.specs.Pairs.{Pairs, cluster_at, one, one_if, users_in, with_cluster}
use Rattle.bd_thin_map.specs.declared.row.Row.{Row}
use Rattle.bd_thin_map.proofs.Least.{used_there}
use Rattle.bd_thin_map.proofs.Rows.{changed_length, changed_once, changed_users, few_users, found_has, lost_stays, pairs_once, pairs_users}
use Rattle.bd_thin_map.proofs.Totals.{place_counts}

-- numbers that changed as the places of one device did
pub counted : (users new : List ℕ) (rows : List Row) (dev : DevId) (g : Pairs → Pairs) (i : ℕ) → IsCounted users rows → position (is_of dev) rows ≡ Some i
    → ((c : ℕ) → slice_index new c + users_in c (pairs_of rows dev) ≡ slice_index users c + users_in c (g (pairs_of rows dev)))
    → ((c : ℕ) → users_in c (g (pairs_of rows dev)) ≤ 1)
    → IsCounted new (with_pairs rows dev g)
counted users new rows dev g i is at same few = record {
  counts = λ c. let all = changed_users c dev g rows (found_has dev rows i at) in let was = is.counts c in let now = same c in omega (arith, all, was, now);
  once = λ c. changed_once c dev g rows (is.once c) (few c);
}

pub once_in : (users : List ℕ) (rows : List Row) (dev : DevId) → IsCounted users rows → (c : ℕ) → users_in c (pairs_of rows dev) ≤ 1
once_in users rows dev is c = pairs_once c dev rows (is.once c)

pub counted_in : (users : List ℕ) (rows : List Row) (dev : DevId) → IsCounted users rows → (c : ℕ) → users_in c (pairs_of rows dev) ≤ slice_index users c
counted_in users rows dev is c = let few = pairs_users c dev rows in let all = is.counts c in omega (arith, few, all)

-- a cluster of a device's place is there
pub there_in : (users : List ℕ) (rows : List Row) (dev : DevId) → IsCounted users rows → (c : ℕ) → 0 < users_in c (pairs_of rows dev) → c < length users
there_in users rows dev is c some = let few = counted_in users rows dev is c in used_there users c (omega (arith, few, some))

-- a free cluster stands once among a device's pairs when it is taken
free_once : (users : List ℕ) (rows : List Row) (dev : DevId) (to : ℕ) → IsCounted users rows → slice_index users to ≡ 0 → (c : ℕ) → users_in c (pairs_of rows dev) + one c to ≤ 1
free_once users rows dev to is free c = elim (cases_eq c to) [
  | inl same ↦
      let few = counted_in users rows dev is c in
      let none : slice_index users c ≡ 0 = ap (slice_index users) same ∙ free in
      grind (arith, nat_tests)
  | inr other ↦ let few = once_in users rows dev is c in grind (arith, nat_tests)
]

-- a place takes a free cluster, in place of any that it had
pub took : (users new : List ℕ) (rows : List Row) (dev : DevId) (place to : ℕ) (had : Option ℕ) (i : ℕ) → IsCounted users rows → position (is_of dev) rows ≡ Some i → slice_index users to ≡ 0
    → ((c : ℕ) → users_in c (with_cluster place to (pairs_of rows dev)) + one_if c had ≡ users_in c (pairs_of rows dev) + one c to)
    → ((c : ℕ) → slice_index new c + one_if c had ≡ slice_index users c + one c to)
    → IsCounted new (with_pairs rows dev (with_cluster place to))
took users new rows dev place to had i is at free pairs now =
    counted users new rows dev (with_cluster place to) i is at
    (λ c. let p = pairs c in let n = now c in omega (arith, p, n))
    (λ c. let p = pairs c in let few = free_once users rows dev to is free c in omega (arith, p, few))

-- the cluster that a device's place has is counted
pub had_users : (users : List ℕ) (rows : List Row) (dev : DevId) (place v : ℕ) → IsCounted users rows → cluster_at (pairs_of rows dev) place ≡ Some v → 0 < slice_index users v
had_users users rows dev place v is had =
    let some = place_counts v place (pairs_of rows dev) had in
    let few = counted_in users rows dev is v in
    omega (arith, some, few)

-- another device's pairs are not too many
pub shared_fits : (users : List ℕ) (rows : List Row) (from to : DevId) (i : ℕ) → IsCounted users rows → position (is_of to) rows ≡ Some i
    → (c left : ℕ) → left + users_in c (pairs_of rows to) ≡ slice_index users c → left + users_in c (pairs_of rows from) ≤ length rows
shared_fits users rows from to i is at c left e =
    let shares : Pairs → Pairs = λ _. pairs_of rows from in
    let all = changed_users c to shares rows (found_has to rows i at) in
    let was = is.counts c in
    let few = few_users c (with_pairs rows to shares) (changed_once c to shares rows (is.once c) (once_in users rows from is c)) in
    let long = changed_length to shares rows in
    omega (arith, all, was, few, long, e)

-- ---- what a contract sees

pub seen : (users new : List ℕ) (rows others : List Row) (dev : DevId) (g : Pairs → Pairs) (m : MapRows) → record { clusters = length users; rows = rows } ≡ m
    → length new ≡ length users → others ≡ with_pairs rows dev g → record { clusters = length new; rows = others } ≡ changed m dev g
seen users new rows others dev g m view long is =
    (λ j. record { clusters = long j; rows = is j }) ∙ ap (λ (s : MapRows). changed s dev g) view

-- a device without a row has nothing to be changed
pub unseen : (users : List ℕ) (rows : List Row) (dev : DevId) (g : Pairs → Pairs) (m : MapRows) → record { clusters = length users; rows = rows } ≡ m
    → position (is_of dev) rows ≡ None → m ≡ changed m dev g
unseen users rows dev g m view at =
    let with_rows : List Row → MapRows = λ rs. record { clusters = length users; rows = rs } in
    sym view ∙ ap with_rows (sym (lost_stays dev g rows at)) ∙ ap (λ (s : MapRows). changed s dev g) view

-- ---- no pairs

no_users : (c : ℕ) (devices : List DevId) → users_of (map (λ dev. record { dev = dev; pairs = [] }) devices) c ≡ 0
no_users c [] = refl
no_users c (dev ∷ devices) =
    let rest = no_users c devices in
    let first : Row = record { dev = dev; pairs = [] } in
    let more = sum_by-cons (λ (row : Row). users_in c row.pairs) first (map (λ d. record { dev = d; pairs = [] }) devices) in
    omega (arith, rest, more)

none_once : (c : ℕ) (devices : List DevId) → AllByRecursion (λ (row : Row). users_in c row.pairs ≤ 1) (map (λ dev. record { dev = dev; pairs = [] }) devices)
none_once c [] = tt
none_once c (dev ∷ devices) = (omega arith, none_once c devices)

zero_at : (n c : ℕ) → slice_index (replicate n 0) c ≡ 0
zero_at n c = elim (cases_lt c n) [
  | inl less ↦ get_or-replicate n c 0 0 less
  | inr more ↦ get_or_past (replicate n 0) c 0 (let long = length-replicate {A = ℕ} n 0 in omega (arith, long, more))
]

pub counted_none : (n : ℕ) (devices : List DevId) → IsCounted (replicate n 0) (map (λ dev. record { dev = dev; pairs = [] }) devices)
counted_none n devices = record { counts = λ c. zero_at n c ∙ sym (no_users c devices); once = λ c. none_once c devices }
