-- How many places of a device have a cluster, when its pairs change, and when they are put in order.
use Rattle.std.proofs.Common.{◌≡◌, ℕ, suc, ◌+◌, ◌-◌, ◌<◌, ◌≤◌, Bool, false, cond, nat_eq, List, [], ◌∷◌, length, get_or, set, take, count_by, None, Some, inl, inr, fold, refl, sym, ap, ◌∙◌, arith}
use Rattle.std.proofs.lemmas.Bool.{cases_eq}
use Rattle.std.proofs.lemmas.Bool.Decides.{nat_tests}
use Rattle.std.proofs.lemmas.Cmp.{ranked}
use Rattle.std.proofs.lemmas.List.{get_or-set_other, get_or-set_same}
use Rattle.std.proofs.lemmas.List.Sums.{sum_by-cons, sum_by-take-le, sum_by_more}
use Rattle.std.proofs.lemmas.Map.Entries.{sum_by-remove_entry}
use Rattle.std.proofs.lemmas.Map.Keys.{IsDistinct-head, IsDistinct-tail}
use Rattle.std.specs.List.{AllByRecursion, IsDistinct}
use Rattle.std.specs.Map.{keys_of, values_of}
use Rattle.std.specs.Ordering.{MatchOrdering, match_ordering, nat_cmp}
use Rattle.std.specs.declared.cmp.Ordering.{Ordering}
use Rattle.std.specs.declared.cmp.Ordering.TheVariants.{Less, Equal, Greater}
use Rattle.bd_thin_map.specs.Pairs.{Pairs, cluster_at, in_order, one, one_if, users_in, with_cluster, without_place}
use Rattle.bd_thin_map.proofs.Order.{Rising, first_at, none_before, rest_at, with_at, with_rises}

users_cons : (c : ℕ) (e : ℕ × ℕ) (es : Pairs) → users_in c (e ∷ es) ≡ one c e.1 + users_in c es
users_cons c e es = sum_by-cons (one c) e.1 (values_of es)

pub with_users : (c k v low : ℕ) (es : Pairs) → Rising low es → users_in c (with_cluster k v es) + one_if c (cluster_at es k) ≡ users_in c es + one c v
with_users c k v low [] r = omega (arith, users_cons c (k, v) [])
with_users c k v low (e ∷ es) r = go (nat_cmp k e.0) (ranked k e.0 _ refl) (with_users c k v (suc e.0) es r.1)
  where
    go : (o : Ordering) → MatchOrdering o (k < e.0) (k ≡ e.0) (e.0 < k) → users_in c (with_cluster k v es) + one_if c (cluster_at es k) ≡ users_in c es + one c v
        → users_in c (match_ordering o ((k, v) ∷ e ∷ es) ((e.0, v) ∷ es) (e ∷ with_cluster k v es)) + one_if c (cluster_at (e ∷ es) k) ≡ users_in c (e ∷ es) + one c v
    go Less m rest =
        let none : one_if c (cluster_at (e ∷ es) k) ≡ 0 = ap (one_if c) (none_before e.0 k m (e ∷ es) (omega arith, r.1)) in
        omega (arith, none, users_cons c (k, v) (e ∷ es))
    go Equal m rest =
        let had : one_if c (cluster_at (e ∷ es) k) ≡ one c e.1 = ap (λ (q : ℕ). one_if c (cluster_at (e ∷ es) q)) m ∙ ap (one_if c) (first_at e es) in
        omega (arith, had, users_cons c (e.0, v) es, users_cons c e es)
    go Greater m rest =
        let had : one_if c (cluster_at (e ∷ es) k) ≡ one_if c (cluster_at es k) = ap (one_if c) (rest_at e es k m) in
        omega (arith, had, rest, users_cons c e es, users_cons c e (with_cluster k v es))

pub without_users : (c k : ℕ) (es : Pairs) → users_in c (without_place k es) + one_if c (cluster_at es k) ≡ users_in c es
without_users c k es = sum_by-remove_entry (one c) (nat_eq k) es

-- ---- in order

still_none : (k v : ℕ) (done es : Pairs) → AllByRecursion (λ y. nat_eq k y ≡ false) (keys_of es) → AllByRecursion (λ e. cluster_at done e.0 ≡ None) es
    → AllByRecursion (λ e. cluster_at (with_cluster k v done) e.0 ≡ None) es
still_none k v done [] apart none = tt
still_none k v done (e ∷ es) apart none =
    (with_at k v e.0 done ∙ ap (λ (b : Bool). cond b (Some v) (cluster_at done e.0)) apart.0 ∙ none.0, still_none k v done es apart.1 none.1)

adds_users : (c : ℕ) (done es : Pairs) → Rising 0 done → IsDistinct nat_eq (keys_of es) → AllByRecursion (λ e. cluster_at done e.0 ≡ None) es
    → users_in c (fold (λ done pair. with_cluster pair.0 pair.1 done) done es) ≡ users_in c done + users_in c es
adds_users c done [] r apart none = omega arith
adds_users c done (e ∷ es) r apart none =
    let added = with_users c e.0 e.1 0 done r in
    let before : one_if c (cluster_at done e.0) ≡ 0 = ap (one_if c) none.0 in
    let rest = adds_users c (with_cluster e.0 e.1 done) es (with_rises 0 e.0 e.1 (omega arith) done r) (IsDistinct-tail nat_eq e.0 (keys_of es) apart)
    (still_none e.0 e.1 done es (IsDistinct-head nat_eq e.0 (keys_of es) apart) none.1) in
    omega (arith, added, before, rest, users_cons c e es)

no_places : (es : Pairs) → AllByRecursion (λ e. cluster_at [] e.0 ≡ None) es
no_places [] = tt
no_places (e ∷ es) = (refl, no_places es)

-- as many places have each cluster
pub order_users : (c : ℕ) (es : Pairs) → IsDistinct nat_eq (keys_of es) → users_in c (in_order es) ≡ users_in c es
order_users c es apart = let all = adds_users c [] es tt apart (no_places es) in omega (arith, all)

-- ---- a list of clusters, one after the other

pub count_more : (c v n : ℕ) (vs : List ℕ) → n < length vs → v ≡ get_or vs n v → count_by (nat_eq c) (take (n + 1) vs) ≡ count_by (nat_eq c) (take n vs) + one c v
count_more c v n vs h e = sum_by_more (one c) vs n v h ∙ ap (λ (w : ℕ). count_by (nat_eq c) (take n vs) + one c w) (sym e)

-- with one more of this cluster, there are not more than all
pub count_fits : (v n : ℕ) (vs : List ℕ) → n < length vs → v ≡ get_or vs n v → count_by (nat_eq v) (take n vs) + 1 ≤ count_by (nat_eq v) vs
count_fits v n vs h e =
    let more = count_more v v n vs h e in
    let all = sum_by-take-le (one v) vs (n + 1) in
    let itself : one v v ≡ 1 = grind (arith, nat_tests) in
    omega (arith, more, all, itself)

pub raised_at : (users : List ℕ) (v c : ℕ) → v < length users → get_or (set users v (get_or users v 0 + 1)) c 0 ≡ get_or users c 0 + one c v
raised_at users v c h = elim (cases_eq c v) [
  | inl same ↦ let here = get_or-set_same users v (get_or users v 0 + 1) 0 h in grind (arith, nat_tests)
  | inr other ↦ let there = get_or-set_other users v c (get_or users v 0 + 1) 0 other in grind (arith, nat_tests)
]

pub lowered_at : (users : List ℕ) (v c : ℕ) → 0 < get_or users v 0 → v < length users → get_or (set users v (get_or users v 0 - 1)) c 0 + one c v ≡ get_or users c 0
lowered_at users v c some h = elim (cases_eq c v) [
  | inl same ↦ let here = get_or-set_same users v (get_or users v 0 - 1) 0 h in grind (arith, nat_tests)
  | inr other ↦ let there = get_or-set_other users v c (get_or users v 0 - 1) 0 other in grind (arith, nat_tests)
]

-- a cluster that a place has is counted
pub place_counts : (v k : ℕ) (es : Pairs) → cluster_at es k ≡ Some v → 0 < users_in v es
place_counts v k es at =
    let left = without_users v k es in
    let had : one_if v (cluster_at es k) ≡ one v v = ap (one_if v) at in
    let itself : one v v ≡ 1 = grind (arith, nat_tests) in
    omega (arith, left, had, itself)
