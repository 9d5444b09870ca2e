-- Parts of logs: what a push and a take keep, and the entries of a thread.
use Rattle.std.proofs.Common.{◌≡◌, ℕ, ◌+◌, ◌<◌, ◌≤◌, cond, List, [], ◌∷◌, ◌++◌, ap, eq-eqb, ne_eqb, arith}
use Rattle.std.specs.List.{AllByRecursion}
use Rattle.bd_base.specs.declared.act.Entry.{Entry}
use Rattle.bd_log.specs.Merge.{Rises, entries_of}
use Rattle.bd_log.specs.Log.{IsLog}
use Rattle.bd_log.proofs.Order.{all_map, all_append}

rises_push : (xs : List Entry) (x : Entry) → Rises xs → AllByRecursion (λ y. y.stamp < x.stamp) xs → Rises (xs ++ x ∷ [])
rises_push [] x h k = (tt, tt)
rises_push (y ∷ ys) x h k = (all_append (λ z. y.stamp < z.stamp) ys (x ∷ []) h.0 (k.0, tt), rises_push ys x h.1 k.1)

-- an entry of the thread with a greater stamp than the last
pub log_push : (thread last : ℕ) (xs : List Entry) (x : Entry) → IsLog thread last xs → x.thread ≡ thread → x.stamp ≡ last + 1 → IsLog thread (last + 1) (xs ++ x ∷ [])
log_push thread last xs x h t s = (
  (
    all_append (λ y. y.thread ≡ thread) xs (x ∷ []) h.0.0 (t, tt),
    rises_push xs x h.0.1 (all_map (λ y. y.stamp ≤ last) (λ y. y.stamp < x.stamp) xs (λ y le. omega (arith, s, le)) h.1),
  ),
  all_append (λ y. y.stamp ≤ last + 1) xs (x ∷ []) (all_map (λ y. y.stamp ≤ last) (λ y. y.stamp ≤ last + 1) xs (λ y le. omega (arith, le)) h.1) (omega (arith, s), tt),
)

pub log_meet : (thread last last' : ℕ) (xs : List Entry) → IsLog thread last xs → last ≤ last' → IsLog thread last' xs
log_meet thread last last' xs h le = (h.0, all_map (λ y. y.stamp ≤ last) (λ y. y.stamp ≤ last') xs (λ y l. omega (arith, l, le)) h.1)

pub entries_of-same : (t : ℕ) (x : Entry) (xs : List Entry) → x.thread ≡ t → entries_of t (x ∷ xs) ≡ x ∷ entries_of t xs
entries_of-same t x xs e = ap (λ b. cond b (x ∷ entries_of t xs) (entries_of t xs)) (eq-eqb x.thread t e)

pub entries_of-other : (t : ℕ) (x : Entry) (xs : List Entry) → (x.thread ≡ t → ⊥) → entries_of t (x ∷ xs) ≡ entries_of t xs
entries_of-other t x xs ne = ap (λ b. cond b (x ∷ entries_of t xs) (entries_of t xs)) (ne_eqb x.thread t ne)
