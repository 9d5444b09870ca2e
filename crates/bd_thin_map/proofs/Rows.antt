-- The rows of a map: one device's pairs changed, and how many places of all devices have a cluster.
use Rattle.std.proofs.Common.{◌≡◌, ℕ, suc, ◌+◌, ◌<◌, ◌≤◌, Bool, true, false, cond, not, ◌||◌, nat_eq, nat_lt, slice_index, ◌==◌, ltb-true, ltb-false, List, [], ◌∷◌, length, get_or, set, None, Some, find, refl, sym, ap, ◌∙◌, arith}
use Rattle.std.proofs.lemmas.Bool.Decides.{nat_tests}
use Rattle.std.proofs.lemmas.List.Sums.{sum_by-cons}
use Rattle.std.specs.List.{AllByRecursion, list_any, position, position_or_len, range_with_len}
use Rattle.bd_base.specs.declared.id.DevId.{DevId}
use Rattle.bd_thin_map.specs.Map.{is_of, pairs_of, users_of, with_pairs}
use Rattle.bd_thin_map.specs.Pairs.{Pairs, users_in}
use Rattle.bd_thin_map.specs.declared.row.Row.{Row}

users_cons : (c : ℕ) (row : Row) (rows : List Row) → users_of (row ∷ rows) c ≡ users_in c row.pairs + users_of rows c
users_cons c row rows = sum_by-cons (λ (r : Row). users_in c r.pairs) row rows

-- with other pairs for one device
pub changed_users : (c : ℕ) (dev : DevId) (f : Pairs → Pairs) (rows : List Row) → list_any (is_of dev) rows ≡ true
    → users_of (with_pairs rows dev f) c + users_in c (pairs_of rows dev) ≡ users_of rows c + users_in c (f (pairs_of rows dev))
changed_users c dev f [] has = absurd (let no : false ≡ true = has in cc)
changed_users c dev f (row ∷ rows) has = go (is_of dev row) has (changed_users c dev f rows)
  where
    other : Row
    other = record row { pairs = f row.pairs }

    go : (b : Bool) → (b || list_any (is_of dev) rows) ≡ true
        → (list_any (is_of dev) rows ≡ true → users_of (with_pairs rows dev f) c + users_in c (pairs_of rows dev) ≡ users_of rows c + users_in c (f (pairs_of rows dev)))
        → users_of (cond b (other ∷ rows) (row ∷ with_pairs rows dev f)) c + users_in c (cond b row.pairs (pairs_of rows dev)) ≡ users_of (row ∷ rows) c + users_in c (f (cond b row.pairs (pairs_of rows dev)))
    go true h rest = omega (arith, users_cons c other rows, users_cons c row rows)
    go false h rest = omega (arith, rest h, users_cons c row (with_pairs rows dev f), users_cons c row rows)

-- each row stays one in which each cluster stands at most once
pub changed_once : (c : ℕ) (dev : DevId) (f : Pairs → Pairs) (rows : List Row) → AllByRecursion (λ row. users_in c row.pairs ≤ 1) rows
    → users_in c (f (pairs_of rows dev)) ≤ 1 → AllByRecursion (λ row. users_in c row.pairs ≤ 1) (with_pairs rows dev f)
changed_once c dev f [] once few = tt
changed_once c dev f (row ∷ rows) once few = go (is_of dev row) few (changed_once c dev f rows once.1)
  where
    other : Row
    other = record row { pairs = f row.pairs }

    go : (b : Bool) → users_in c (f (cond b row.pairs (pairs_of rows dev))) ≤ 1 → (users_in c (f (pairs_of rows dev)) ≤ 1 → AllByRecursion (λ row. users_in c row.pairs ≤ 1) (with_pairs rows dev f))
        → AllByRecursion (λ row. users_in c row.pairs ≤ 1) (cond b (other ∷ rows) (row ∷ with_pairs rows dev f))
    go true h rest = (h, once.1)
    go false h rest = (once.0, rest h)

-- a cluster stands at most once among a device's pairs
pub pairs_once : (c : ℕ) (dev : DevId) (rows : List Row) → AllByRecursion (λ row. users_in c row.pairs ≤ 1) rows → users_in c (pairs_of rows dev) ≤ 1
pairs_once c dev [] once = omega arith
pairs_once c dev (row ∷ rows) once = go (is_of dev row) (pairs_once c dev rows once.1)
  where
    go : (b : Bool) → users_in c (pairs_of rows dev) ≤ 1 → users_in c (cond b row.pairs (pairs_of rows dev)) ≤ 1
    go true rest = once.0
    go false rest = rest

-- a device's places that have a cluster are among all that have it
pub pairs_users : (c : ℕ) (dev : DevId) (rows : List Row) → users_in c (pairs_of rows dev) ≤ users_of rows c
pairs_users c dev [] = omega arith
pairs_users c dev (row ∷ rows) = go (is_of dev row) (pairs_users c dev rows)
  where
    go : (b : Bool) → users_in c (pairs_of rows dev) ≤ users_of rows c → users_in c (cond b row.pairs (pairs_of rows dev)) ≤ users_of (row ∷ rows) c
    go true rest = omega (arith, users_cons c row rows)
    go false rest = omega (arith, rest, users_cons c row rows)

-- so at most as many places as there are devices have it
pub few_users : (c : ℕ) (rows : List Row) → AllByRecursion (λ row. users_in c row.pairs ≤ 1) rows → users_of rows c ≤ length rows
few_users c [] once = omega arith
few_users c (row ∷ rows) once = let rest = few_users c rows once.1 in omega (arith, rest, once.0, users_cons c row rows)

-- there are as many rows
pub changed_length : (dev : DevId) (f : Pairs → Pairs) (rows : List Row) → length (with_pairs rows dev f) ≡ length rows
changed_length dev f [] = refl
changed_length dev f (row ∷ rows) = go (is_of dev row) (changed_length dev f rows)
  where
    go : (b : Bool) → length (with_pairs rows dev f) ≡ length rows → length (cond b ((record row { pairs = f row.pairs }) ∷ rows) (row ∷ with_pairs rows dev f)) ≡ suc (length rows)
    go true rest = refl
    go false rest = ap suc rest

-- ---- by the place of a row

module _ (dev : DevId) (f : Pairs → Pairs) where
  -- the row at a place, changed
  abbrev pub at_changed : List Row → ℕ → Row → Row
  at_changed rows i d = record (get_or rows i d) { pairs = f (get_or rows i d).pairs }

  set_first : (d : Row) (rows : List Row) → position_or_len (is_of dev) rows < length rows
      → set rows (position_or_len (is_of dev) rows) (at_changed rows (position_or_len (is_of dev) rows) d) ≡ with_pairs rows dev f
  set_first d [] h = absurd (omega (arith, h))
  set_first d (row ∷ rows) h = go (is_of dev row) h (set_first d rows)
    where
      go : (b : Bool) → cond (not b) (1 + position_or_len (is_of dev) rows) 0 < suc (length rows)
          → (position_or_len (is_of dev) rows < length rows → set rows (position_or_len (is_of dev) rows) (at_changed rows (position_or_len (is_of dev) rows) d) ≡ with_pairs rows dev f)
          → set (row ∷ rows) (cond (not b) (1 + position_or_len (is_of dev) rows) 0) (at_changed (row ∷ rows) (cond (not b) (1 + position_or_len (is_of dev) rows) 0) d)
          ≡ cond b ((record row { pairs = f row.pairs }) ∷ rows) (row ∷ with_pairs rows dev f)
      go true h rest = refl
      go false h rest =
          let n : 1 + position_or_len (is_of dev) rows ≡ suc (position_or_len (is_of dev) rows) = omega arith in
          ap (λ (i : ℕ). set (row ∷ rows) i (at_changed (row ∷ rows) i d)) n ∙ ap (λ (rs : List Row). row ∷ rs) (rest (omega (arith, h)))

  left : (rows : List Row) → length rows ≤ position_or_len (is_of dev) rows → with_pairs rows dev f ≡ rows
  left [] h = refl
  left (row ∷ rows) h = go (is_of dev row) h (left rows)
    where
      go : (b : Bool) → suc (length rows) ≤ cond (not b) (1 + position_or_len (is_of dev) rows) 0 → (length rows ≤ position_or_len (is_of dev) rows → with_pairs rows dev f ≡ rows)
          → cond b ((record row { pairs = f row.pairs }) ∷ rows) (row ∷ with_pairs rows dev f) ≡ row ∷ rows
      go true h rest = absurd (omega (arith, h))
      go false h rest = ap (λ (rs : List Row). row ∷ rs) (rest (omega (arith, h)))

module _ (dev : DevId) where
  pairs_first : (d : Row) (rows : List Row) → position_or_len (is_of dev) rows < length rows → (get_or rows (position_or_len (is_of dev) rows) d).pairs ≡ pairs_of rows dev
  pairs_first d [] h = absurd (omega (arith, h))
  pairs_first d (row ∷ rows) h = go (is_of dev row) h (pairs_first d rows)
    where
      go : (b : Bool) → cond (not b) (1 + position_or_len (is_of dev) rows) 0 < suc (length rows)
          → (position_or_len (is_of dev) rows < length rows → (get_or rows (position_or_len (is_of dev) rows) d).pairs ≡ pairs_of rows dev)
          → (get_or (row ∷ rows) (cond (not b) (1 + position_or_len (is_of dev) rows) 0) d).pairs ≡ cond b row.pairs (pairs_of rows dev)
      go true h rest = refl
      go false h rest =
          let n : 1 + position_or_len (is_of dev) rows ≡ suc (position_or_len (is_of dev) rows) = omega arith in
          ap (λ (i : ℕ). (get_or (row ∷ rows) i d).pairs) n ∙ rest (omega (arith, h))

  has_first : (rows : List Row) → position_or_len (is_of dev) rows < length rows → list_any (is_of dev) rows ≡ true
  has_first [] h = absurd (omega (arith, h))
  has_first (row ∷ rows) h = go (is_of dev row) h (has_first rows)
    where
      go : (b : Bool) → cond (not b) (1 + position_or_len (is_of dev) rows) 0 < suc (length rows) → (position_or_len (is_of dev) rows < length rows → list_any (is_of dev) rows ≡ true)
          → (b || list_any (is_of dev) rows) ≡ true
      go true h rest = refl
      go false h rest = rest (omega (arith, h))

  no_pairs_left : (rows : List Row) → length rows ≤ position_or_len (is_of dev) rows → pairs_of rows dev ≡ []
  no_pairs_left [] h = refl
  no_pairs_left (row ∷ rows) h = go (is_of dev row) h (no_pairs_left rows)
    where
      go : (b : Bool) → suc (length rows) ≤ cond (not b) (1 + position_or_len (is_of dev) rows) 0 → (length rows ≤ position_or_len (is_of dev) rows → pairs_of rows dev ≡ [])
          → cond b row.pairs (pairs_of rows dev) ≡ []
      go true h rest = absurd (omega (arith, h))
      go false h rest = rest (omega (arith, h))

-- the place that was found, or that there is none
record Found (dev : DevId) (rows : List Row) (i : ℕ) : Type 0 where
  is : i ≡ position_or_len (is_of dev) rows
  there : position_or_len (is_of dev) rows < length rows

found : (dev : DevId) (rows : List Row) (i : ℕ) → position (is_of dev) rows ≡ Some i → Found dev rows i
found dev rows i e = go (nat_lt (position_or_len (is_of dev) rows) (length rows)) refl e
  where
    go : (b : Bool) → nat_lt (position_or_len (is_of dev) rows) (length rows) ≡ b → cond b (Some (position_or_len (is_of dev) rows)) None ≡ Some i → Found dev rows i
    go true q e = record { is = cc; there = ltb-true _ _ q }
    go false q e = absurd (cc)

lost : (dev : DevId) (rows : List Row) → position (is_of dev) rows ≡ None → length rows ≤ position_or_len (is_of dev) rows
lost dev rows e = go (nat_lt (position_or_len (is_of dev) rows) (length rows)) refl e
  where
    go : (b : Bool) → nat_lt (position_or_len (is_of dev) rows) (length rows) ≡ b → cond b (Some (position_or_len (is_of dev) rows)) None ≡ None → length rows ≤ position_or_len (is_of dev) rows
    go true q e = absurd (cc)
    go false q e = ltb-false _ _ q

pub found_there : (dev : DevId) (rows : List Row) (i : ℕ) → position (is_of dev) rows ≡ Some i → i < length rows
found_there dev rows i e = let f = found dev rows i e in omega (arith, f.is, f.there)

pub found_has : (dev : DevId) (rows : List Row) (i : ℕ) → position (is_of dev) rows ≡ Some i → list_any (is_of dev) rows ≡ true
found_has dev rows i e = has_first dev rows (found dev rows i e).there

pub found_pairs : (dev : DevId) (d : Row) (rows : List Row) (i : ℕ) → position (is_of dev) rows ≡ Some i → (get_or rows i d).pairs ≡ pairs_of rows dev
found_pairs dev d rows i e = let f = found dev rows i e in ap (λ (j : ℕ). (get_or rows j d).pairs) f.is ∙ pairs_first dev d rows f.there

pub found_set : (dev : DevId) (g : Pairs → Pairs) (d : Row) (rows : List Row) (i : ℕ) → position (is_of dev) rows ≡ Some i → set rows i (at_changed dev g rows i d) ≡ with_pairs rows dev g
found_set dev g d rows i e = let f = found dev rows i e in ap (λ (j : ℕ). set rows j (at_changed dev g rows j d)) f.is ∙ set_first dev g d rows f.there

pub lost_stays : (dev : DevId) (g : Pairs → Pairs) (rows : List Row) → position (is_of dev) rows ≡ None → with_pairs rows dev g ≡ rows
lost_stays dev g rows e = left dev g rows (lost dev rows e)

pub lost_pairs : (dev : DevId) (rows : List Row) → position (is_of dev) rows ≡ None → pairs_of rows dev ≡ []
lost_pairs dev rows e = no_pairs_left dev rows (lost dev rows e)

-- a row that was read at a place, put back with other pairs
pub put_back : (dev : DevId) (g : Pairs → Pairs) (rows : List Row) (i : ℕ) (row : Row) (es : Pairs) → position (is_of dev) rows ≡ Some i → row ≡ get_or rows i row → es ≡ g row.pairs
    → set rows i (record { dev = row.dev; pairs = es }) ≡ with_pairs rows dev g
put_back dev g rows i row es at read is =
    let other : Row → Row = λ r. record { dev = r.dev; pairs = g r.pairs } in
    let new : record { dev = row.dev; pairs = es } ≡ other (get_or rows i row) = (λ j. record { dev = row.dev; pairs = is j }) ∙ ap other read in
    ap (set rows i) new ∙ found_set dev g row rows i at

pub read_pairs : (dev : DevId) (rows : List Row) (i : ℕ) (row : Row) → position (is_of dev) rows ≡ Some i → row ≡ get_or rows i row → row.pairs ≡ pairs_of rows dev
read_pairs dev rows i row at read = ap (λ (r : Row). r.pairs) read ∙ found_pairs dev row rows i at

-- ---- the first free cluster

first_from : (f : ℕ → ℕ) (a : ℕ) (xs : List ℕ) → ((k : ℕ) → get_or xs k 0 ≡ f (a + k))
    → find (λ c. f c == 0) (range_with_len a (length xs)) ≡ cond (nat_lt (position_or_len (nat_eq 0) xs) (length xs)) (Some (a + position_or_len (nat_eq 0) xs)) None
first_from f a [] same = refl
first_from f a (x ∷ xs) same =
    go (nat_eq 0 x) (f a == 0) (let here : x ≡ f a = same 0 ∙ ap f (omega arith) in grind (arith, nat_tests))
    (first_from f (a + 1) xs (λ k. next k (same (suc k))))
  where
    next : (k : ℕ) → get_or xs k 0 ≡ f (a + suc k) → get_or xs k 0 ≡ f (a + 1 + k)
    next k e = e ∙ ap f (omega arith)

    go : (b c : Bool) → c ≡ b
        → find (λ c. f c == 0) (range_with_len (a + 1) (length xs)) ≡ cond (nat_lt (position_or_len (nat_eq 0) xs) (length xs)) (Some (a + 1 + position_or_len (nat_eq 0) xs)) None
        → cond c (Some a) (find (λ c. f c == 0) (range_with_len (a + 1) (length xs)))
        ≡ cond (nat_lt (cond (not b) (1 + position_or_len (nat_eq 0) xs) 0) (suc (length xs))) (Some (a + cond (not b) (1 + position_or_len (nat_eq 0) xs) 0)) None
    go true true e rest = grind (arith, nat_tests)
    go true false e rest = absurd (cc)
    go false true e rest = absurd (cc)
    go false false e rest = grind (arith, nat_tests)

-- where the numbers of a list are those of the rows' places
pub first_free_is : (users : List ℕ) (rows : List Row) → ((c : ℕ) → slice_index users c ≡ users_of rows c)
    → position (nat_eq 0) users ≡ find (λ c. users_of rows c == 0) (range_with_len 0 (length users))
first_free_is users rows same =
    let n : ℕ = position_or_len (nat_eq 0) users in
    let zero_more : n ≡ 0 + n = omega arith in
    ap (λ (k : ℕ). cond (nat_lt n (length users)) (Some k) None) zero_more
    ∙ sym (first_from (users_of rows) 0 users (λ k. same k ∙ ap (users_of rows) (omega arith)))
