-- Pairs in the order of their places: a list of them is fixed by what each place has.
use Rattle.std.proofs.Common.{◌≡◌, ℕ, suc, ◌<◌, ◌≤◌, Bool, true, false, cond, nat_eq, [], ◌∷◌, Option, None, Some, fold, refl, sym, ap, ◌∙◌, arith}
use Rattle.std.proofs.lemmas.Bool.Decides.{nat_tests}
use Rattle.std.proofs.lemmas.Cmp.{nat_eq_equiv, ranked}
use Rattle.std.proofs.lemmas.Map.Made.{update_all_none}
use Rattle.std.specs.List.{IsDistinct}
use Rattle.std.specs.Map.{keys_of, update, update_all}
use Rattle.std.specs.Ordering.{MatchOrdering, match_ordering, nat_cmp}
use Rattle.std.specs.declared.cmp.Ordering.{Ordering}
use Rattle.std.specs.declared.cmp.Ordering.TheVariants.{Less, Equal, Greater}
use Rattle.bd_thin_map.specs.Pairs.{Pairs, cluster_at, in_order, with_cluster, without_place}

-- the places rise, and the first is not below this one
abbrev pub Rising : ℕ → Pairs → Type 0
Rising low [] = Unit {0}
Rising low (e ∷ es) = (low ≤ e.0) × Rising (suc e.0) es

lower : (low high : ℕ) → low ≤ high → (es : Pairs) → Rising high es → Rising low es
lower low high h [] r = tt
lower low high h (e ∷ es) r = (omega (arith, h, r.0), r.1)

pub with_rises : (low k v : ℕ) → low ≤ k → (es : Pairs) → Rising low es → Rising low (with_cluster k v es)
with_rises low k v h [] r = (h, tt)
with_rises low k v h (e ∷ es) r = go (nat_cmp k e.0) (ranked k e.0 _ refl) (λ m. with_rises (suc e.0) k v (omega (arith, m)) es r.1)
  where
    go : (o : Ordering) → MatchOrdering o (k < e.0) (k ≡ e.0) (e.0 < k) → (e.0 < k → Rising (suc e.0) (with_cluster k v es)) → Rising low (match_ordering o ((k, v) ∷ e ∷ es) ((e.0, v) ∷ es) (e ∷ with_cluster k v es))
    go Less m rest = (h, (omega (arith, m), r.1))
    go Equal m rest = r
    go Greater m rest = (r.0, rest m)

pub without_rises : (low k : ℕ) (es : Pairs) → Rising low es → Rising low (without_place k es)
without_rises low k [] r = tt
without_rises low k (e ∷ es) r = go (nat_eq k e.0) (without_rises (suc e.0) k es r.1)
  where
    go : (b : Bool) → Rising (suc e.0) (without_place k es) → Rising low (cond b es (e ∷ without_place k es))
    go true rest = lower low (suc e.0) (omega (arith, r.0)) es r.1
    go false rest = (r.0, rest)

-- what a place has after a change of one
pub with_at : (k v q : ℕ) (es : Pairs) → cluster_at (with_cluster k v es) q ≡ cond (nat_eq k q) (Some v) (cluster_at es q)
with_at k v q [] = grind (arith, nat_tests)
with_at k v q (e ∷ es) = go (nat_cmp k e.0) (ranked k e.0 _ refl) (with_at k v q es)
  where
    go : (o : Ordering) → MatchOrdering o (k < e.0) (k ≡ e.0) (e.0 < k) → cluster_at (with_cluster k v es) q ≡ cond (nat_eq k q) (Some v) (cluster_at es q)
        → cluster_at (match_ordering o ((k, v) ∷ e ∷ es) ((e.0, v) ∷ es) (e ∷ with_cluster k v es)) q ≡ cond (nat_eq k q) (Some v) (cond (nat_eq q e.0) (Some e.1) (cluster_at es q))
    go Less m rest = grind (arith, nat_tests)
    go Equal m rest = grind (arith, nat_tests)
    go Greater m rest = grind (arith, nat_tests)

-- a place before the first has none
pub none_before : (low q : ℕ) → q < low → (es : Pairs) → Rising low es → cluster_at es q ≡ None
none_before low q h [] r = refl
none_before low q h (e ∷ es) r =
    let rest : cluster_at es q ≡ None = none_before (suc e.0) q (omega (arith, h, r.0)) es r.1 in
    let apart : q < e.0 = omega (arith, h, r.0) in
    grind (arith, nat_tests)

pub without_at : (low k q : ℕ) (es : Pairs) → Rising low es → cluster_at (without_place k es) q ≡ cond (nat_eq k q) None (cluster_at es q)
without_at low k q [] r = grind (arith, nat_tests)
without_at low k q (e ∷ es) r =
    go (nat_eq k e.0) refl (without_at (suc e.0) k q es r.1) (none_before (suc e.0) e.0 (omega arith) es r.1)
  where
    go : (b : Bool) → nat_eq k e.0 ≡ b → cluster_at (without_place k es) q ≡ cond (nat_eq k q) None (cluster_at es q) → cluster_at es e.0 ≡ None
        → cluster_at (cond b es (e ∷ without_place k es)) q ≡ cond (nat_eq k q) None (cond (nat_eq q e.0) (Some e.1) (cluster_at es q))
    go true s rest none = grind (arith, nat_tests)
    go false s rest none = grind (arith, nat_tests)

-- the first place has its own
pub first_at : (e : ℕ × ℕ) (es : Pairs) → cluster_at (e ∷ es) e.0 ≡ Some e.1
first_at e es = grind (arith, nat_tests)

-- a later place has what the others say
pub rest_at : (e : ℕ × ℕ) (es : Pairs) (q : ℕ) → e.0 < q → cluster_at (e ∷ es) q ≡ cluster_at es q
rest_at e es q h = grind (arith, nat_tests)

-- two such lists in which each place has the same are the same
pub same_pairs : (low high : ℕ) (es fs : Pairs) → Rising low es → Rising high fs → ((q : ℕ) → cluster_at es q ≡ cluster_at fs q) → es ≡ fs
same_pairs low high [] [] r s same = refl
same_pairs low high [] (f ∷ fs) r s same = let no : None ≡ Some f.1 = same f.0 ∙ first_at f fs in absurd (cc)
same_pairs low high (e ∷ es) [] r s same = let no : None ≡ Some e.1 = sym (same e.0) ∙ first_at e es in absurd (cc)
same_pairs low high (e ∷ es) (f ∷ fs) r s same = go (nat_cmp e.0 f.0) (ranked e.0 f.0 _ refl) (same_pairs (suc e.0) (suc f.0) es fs r.1 s.1)
  where
    tails : e.0 ≡ f.0 → (q : ℕ) → cluster_at es q ≡ cluster_at fs q
    tails at q = later (nat_cmp e.0 q) (ranked e.0 q _ refl)
      where
        later : (o : Ordering) → MatchOrdering o (e.0 < q) (e.0 ≡ q) (q < e.0) → cluster_at es q ≡ cluster_at fs q
        later Less m = sym (rest_at e es q m) ∙ same q ∙ rest_at f fs q (omega (arith, m, at))
        later Equal m = none_before (suc e.0) q (omega (arith, m)) es r.1 ∙ sym (none_before (suc f.0) q (omega (arith, m, at)) fs s.1)
        later Greater m = none_before (suc e.0) q (omega (arith, m)) es r.1 ∙ sym (none_before (suc f.0) q (omega (arith, m, at)) fs s.1)

    go : (o : Ordering) → MatchOrdering o (e.0 < f.0) (e.0 ≡ f.0) (f.0 < e.0) → (((q : ℕ) → cluster_at es q ≡ cluster_at fs q) → es ≡ fs) → e ∷ es ≡ f ∷ fs
    go Less m more =
        let none : cluster_at (f ∷ fs) e.0 ≡ None = none_before f.0 e.0 m (f ∷ fs) (omega arith, s.1) in
        let some : Some e.1 ≡ None = sym (first_at e es) ∙ same e.0 ∙ none in
        absurd (cc)
    go Equal m more =
        let rest : es ≡ fs = more (tails m) in
        let at : cluster_at (f ∷ fs) e.0 ≡ Some f.1 = ap (cluster_at (f ∷ fs)) m ∙ first_at f fs in
        let some : Some e.1 ≡ Some f.1 = sym (first_at e es) ∙ same e.0 ∙ at in
        let value : e.1 ≡ f.1 = cc in
        λ j. (m j, value j) ∷ rest j
    go Greater m more =
        let none : cluster_at (e ∷ es) f.0 ≡ None = none_before e.0 f.0 m (e ∷ es) (omega arith, r.1) in
        let some : Some f.1 ≡ None = sym (first_at f fs) ∙ sym (same f.0) ∙ none in
        absurd (cc)

-- ---- pairs in any order

adds_rise : (done es : Pairs) → Rising 0 done → Rising 0 (fold (λ done pair. with_cluster pair.0 pair.1 done) done es)
adds_rise done [] r = r
adds_rise done (e ∷ es) r = adds_rise (with_cluster e.0 e.1 done) es (with_rises 0 e.0 e.1 (omega arith) done r)

pub order_rises : (es : Pairs) → Rising 0 (in_order es)
order_rises es = adds_rise [] es tt

adds_at : (f : ℕ → Option ℕ) (done es : Pairs) → ((q : ℕ) → cluster_at done q ≡ f q)
    → (q : ℕ) → cluster_at (fold (λ done pair. with_cluster pair.0 pair.1 done) done es) q ≡ update_all nat_eq f es q
adds_at f done [] same q = same q
adds_at f done (e ∷ es) same q =
    adds_at (update nat_eq f e.0 (Some e.1)) (with_cluster e.0 e.1 done) es
    (λ p. with_at e.0 e.1 p done ∙ ap (λ o. cond (nat_eq e.0 p) (Some e.1) o) (same p)) q

-- each place has what it had
pub order_at : (es : Pairs) → IsDistinct nat_eq (keys_of es) → (q : ℕ) → cluster_at (in_order es) q ≡ cluster_at es q
order_at es apart q = adds_at (λ _. None) [] es (λ _. refl) q ∙ update_all_none nat_eq_equiv nat_eq (λ _ _. refl) es q apart

-- pairs in order in which each place has what it has in others
pub ordered : (es fs : Pairs) → IsDistinct nat_eq (keys_of es) → Rising 0 fs → ((q : ℕ) → cluster_at es q ≡ cluster_at fs q) → in_order es ≡ fs
ordered es fs apart r same = same_pairs 0 0 (in_order es) fs (order_rises es) r (λ q. order_at es apart q ∙ same q)
