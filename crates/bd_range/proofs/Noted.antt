-- What the notes of locks tell of the locks.
use Rattle.std.proofs.Common.{◌≡◌, ℕ, suc, ◌+◌, ◌-◌, ◌<◌, ◌≤◌, nat_eq, Bool, true, false, cond, not, ◌&&◌, ◌||◌, ◌==◌, List, [], ◌∷◌, ◌++◌, All, filter, Option, Some, None, refl, sym, ◌∙◌, ap, eqb-true, arith}
use Rattle.std.proofs.lemmas.Bool.Decides.{nat_tests}
use Rattle.std.proofs.lemmas.Cmp.{eq_by_cmp_equiv}
use Rattle.std.proofs.lemmas.List.Folds.{list_any-append}
use Rattle.std.proofs.lemmas.Map.Entries.{lookup_clone}
use Rattle.std.proofs.lemmas.Map.Keys.{IsDistinct-from_sorted}
use Rattle.std.proofs.lemmas.Map.Views.{any-filter_same, lookup-from_Contains}
use Rattle.std.specs.BTreeMap.{is_at}
use Rattle.std.specs.Global.{Vec}
use Rattle.std.specs.HashMap.{get, HashMap}
use Rattle.std.specs.List.{AllZip, Contains, list_any}
use Rattle.std.specs.List.Sorted.{IsStrictlySortedBy}
use Rattle.std.specs.Map.{keys_of, lookup, values_of}
use Rattle.std.specs.Option.{IsSomeAnd, MatchOption}
use Rattle.std.specs.Ordering.{is_eq}
use Rattle.bd_base.specs.declared.id.ReqId.{ReqId}
use Rattle.bd_range.specs.Locks.{is_own, is_rival, key_cmp, LockKey, overlaps}
use Rattle.bd_range.specs.Near.{cluster_of, is_key, is_lock, is_length, is_other, near_at, NotesOf, row_or_none, with_note, without_key}
use Rattle.bd_range.proofs.Between.{begins_before, begins_low, both_true}
use Rattle.bd_range.proofs.Keys.{eq_key, key_total}

pub key_from : (a b : LockKey) → a.0 ≡ b.0 → a.1 ≡ b.1 → a.2 ≡ b.2 → a ≡ b
key_from a b first thread seq = ap (λ (x : ℕ). let k : LockKey = (x, a.1, a.2) in k) first ∙ ap (λ (x : ℕ). let k : LockKey = (b.0, x, a.2) in k) thread ∙ ap (λ (x : ℕ). let k : LockKey = (b.0, b.1, x) in k) seq

key_same : (a b : LockKey) → is_key a b ≡ true → a ≡ b
key_same a b h = key_from a b (eqb-true a.0 b.0 (both_true _ _ (both_true _ _ h).0).0) (eqb-true a.1 b.1 (both_true _ _ (both_true _ _ h).0).1) (eqb-true a.2 b.2 (both_true _ _ h).1)

lock_same : (a b : LockKey × ℕ) → is_lock a b ≡ true → a ≡ b
lock_same a b h =
    let key : a.0 ≡ b.0 = key_same a.0 b.0 (both_true _ _ h).0 in
    let blocks : a.1 ≡ b.1 = eqb-true a.1 b.1 (both_true _ _ h).1 in
    ap (λ (k : LockKey). let l : LockKey × ℕ = (k, a.1) in l) key ∙ ap (λ (n : ℕ). let l : LockKey × ℕ = (b.0, n) in l) blocks

pub itself : (n : ℕ) → (n == n) ≡ true
itself n = grind (arith, nat_tests)

lock_itself : (a : LockKey × ℕ) → is_lock a a ≡ true
lock_itself a = rw (itself a.0.0, itself a.0.1, itself a.0.2, itself a.1) refl

or_true : (b : Bool) → (b || true) ≡ true
or_true true = refl
or_true false = refl

-- a test that a noted lock passes finds one there
any_lock : (f : LockKey × ℕ → Bool) (lock : LockKey × ℕ) (row : List (LockKey × ℕ)) → f lock ≡ true → list_any (is_lock lock) row ≡ true → list_any f row ≡ true
any_lock f lock [] passes h = h
any_lock f lock (x ∷ xs) passes h = go (is_lock lock x) refl h (any_lock f lock xs passes)
  where
    go : (b : Bool) → is_lock lock x ≡ b → (b || list_any (is_lock lock) xs) ≡ true → (list_any (is_lock lock) xs ≡ true → list_any f xs ≡ true) → (f x || list_any f xs) ≡ true
    go true q _ _ = ap (λ b. b || list_any f xs) (ap f (sym (lock_same lock x q)) ∙ passes)
    go false q rest later = ap (λ b. f x || b) (later rest) ∙ or_true (f x)

any_none : (f : LockKey × ℕ → Bool) (es : List (LockKey × ℕ)) → All (λ n. n ≤ 512) (values_of es) → ((e : LockKey × ℕ) → Contains es e → e.1 ≤ 512 → f e ≡ false) → list_any f es ≡ false
any_none f [] short never = refl
any_none f (e ∷ es) short never =
    let here : f e ≡ false = never e (0, omega arith, refl) (short 0 0 (omega arith)) in
    let rest : list_any f es ≡ false = any_none f es (λ k d h. short (suc k) d (omega (arith, h))) (λ x c m. never x (suc c.0, omega (arith, c.1), c.2) m) in
    ap (λ b. b || list_any f es) here ∙ rest

-- a lock that overlaps a short range begins in one of two clusters
two_clusters : (first count a : ℕ) → count ≤ 512 → first - 511 ≤ a → a < first + count → (cluster_of a ≡ cluster_of (first - 511) → ⊥) → cluster_of a ≡ cluster_of (first + count)
two_clusters first count a few low high not_low = omega (arith, few, low, high, not_low)

or_false : (b : Bool) → (b || false) ≡ b
or_false true = refl
or_false false = refl

and_false : (b : Bool) → (b && false) ≡ false
and_false true = refl
and_false false = refl

-- `here`: the cluster is the key's; `named`: the lock has the key; `begins`: the lock begins in the cluster
more_cases : (here named equal old_equal begins found : Bool) → (named ≡ true → begins ≡ here) → found ≡ (begins && old_equal) → cond here ((not named && found) || ((named && equal) || false)) found ≡ (begins && cond named equal old_equal)
more_cases true true equal old_equal begins found same old = or_false equal ∙ ap (λ b. b && equal) (sym (same refl))
more_cases false true equal old_equal begins found same old = old ∙ ap (λ b. b && old_equal) (same refl) ∙ sym (ap (λ b. b && equal) (same refl))
more_cases true false equal old_equal begins found same old = or_false found ∙ old
more_cases false false equal old_equal begins found same old = old

less_cases : (here named old_equal begins found : Bool) → (named ≡ true → begins ≡ here) → found ≡ (begins && old_equal) → cond here (not named && found) found ≡ (begins && cond named false old_equal)
less_cases true true old_equal begins found same old = sym (and_false begins)
less_cases false true old_equal begins found same old = old ∙ ap (λ b. b && old_equal) (same refl) ∙ sym (and_false begins)
less_cases true false old_equal begins found same old = old
less_cases false false old_equal begins found same old = old

any_cond : (f : LockKey × ℕ → Bool) (b : Bool) (xs ys : List (LockKey × ℕ)) → list_any f (cond b xs ys) ≡ cond b (list_any f xs) (list_any f ys)
any_cond f true xs ys = refl
any_cond f false xs ys = refl

length_cond : (b : Bool) (o r : Option ℕ) (n : ℕ) → is_length (cond b o r) n ≡ cond b (is_length o n) (is_length r n)
length_cond true o r n = refl
length_cond false o r n = refl

-- those of another key
any_other : (lock : LockKey × ℕ) (key : LockKey) (row : List (LockKey × ℕ)) → list_any (is_lock lock) (filter (is_other key) row) ≡ (not (is_key lock.0 key) && list_any (is_lock lock) row)
any_other lock key row = any-filter_same (is_lock lock) (is_other key) (not (is_key lock.0 key)) (λ x p. ap (λ (k : LockKey). not (is_key k key)) (sym (key_same lock.0 x.0 (both_true _ _ p).0))) row

begins_here : (lock : LockKey × ℕ) (key : LockKey) (c : ℕ) → is_key lock.0 key ≡ true → (cluster_of lock.0.0 == c) ≡ nat_eq (cluster_of key.0) c
begins_here lock key c h = ap (λ (k : LockKey). nat_eq (cluster_of k.0) c) (key_same lock.0 key h)

pub noted_as : {S : Type 0} (near : HashMap ℕ (Vec (LockKey × ℕ)) S) (f g : LockKey → Option ℕ) → ((k : LockKey) → f k ≡ g k) → NotesOf near f → NotesOf near g
noted_as near f g same notes lock c = notes lock c ∙ ap (λ o. (cluster_of lock.0.0 == c) && is_length o lock.1) (same lock.0)

module _ {S : Type 0} (old new : HashMap ℕ (Vec (LockKey × ℕ)) S) (key : LockKey) (lock_of : LockKey → Option ℕ) (notes : NotesOf old lock_of) where
  -- a lock more
  pub noted_more : (blocks : ℕ) → ((c : ℕ) → near_at new c ≡ with_note old key blocks c) → NotesOf new (λ k. cond (is_at (key_cmp key) k) (Some blocks) (lock_of k))
  noted_more blocks more lock c =
      let f : LockKey × ℕ → Bool = is_lock lock in
      let row : List (LockKey × ℕ) = near_at old c in
      let here : Bool = nat_eq (cluster_of key.0) c in
      let named : Bool = is_key lock.0 key in
      let begins : Bool = cluster_of lock.0.0 == c in
      let in_it : list_any f (filter (is_other key) row ++ (key, blocks) ∷ []) ≡ ((not named && list_any f row) || ((named && (lock.1 == blocks)) || false)) = list_any-append f (filter (is_other key) row) ((key, blocks) ∷ []) ∙ ap (λ b. b || (f (key, blocks) || false)) (any_other lock key row) in
      ap (list_any f) (more c)
      ∙ any_cond f here (filter (is_other key) row ++ (key, blocks) ∷ []) row
      ∙ ap (λ b. cond here b (list_any f row)) in_it
      ∙ more_cases here named (lock.1 == blocks) (is_length (lock_of lock.0) lock.1) begins (list_any f row) (begins_here lock key c) (notes lock c)
      ∙ ap (λ b. begins && b) (sym (length_cond named (Some blocks) (lock_of lock.0) lock.1))
      ∙ ap (λ b. begins && is_length (cond b (Some blocks) (lock_of lock.0)) lock.1) (sym (eq_key key lock.0))

  -- a lock less
  pub noted_less : ((c : ℕ) → near_at new c ≡ without_key old key c) → NotesOf new (λ k. cond (is_at (key_cmp key) k) None (lock_of k))
  noted_less less lock c =
      let f : LockKey × ℕ → Bool = is_lock lock in
      let row : List (LockKey × ℕ) = near_at old c in
      let here : Bool = nat_eq (cluster_of key.0) c in
      let named : Bool = is_key lock.0 key in
      let begins : Bool = cluster_of lock.0.0 == c in
      ap (list_any f) (less c)
      ∙ any_cond f here (filter (is_other key) row) row
      ∙ ap (λ b. cond here b (list_any f row)) (any_other lock key row)
      ∙ less_cases here named (is_length (lock_of lock.0) lock.1) begins (list_any f row) (begins_here lock key c) (notes lock c)
      ∙ ap (λ b. begins && b) (sym (length_cond named None (lock_of lock.0) lock.1))
      ∙ ap (λ b. begins && is_length (cond b None (lock_of lock.0)) lock.1) (sym (eq_key key lock.0))

-- a note that was made and is gone again, where no lock had its key
pub noted_again : {S : Type 0} (old new after : HashMap ℕ (Vec (LockKey × ℕ)) S) (key : LockKey) (lock_of : LockKey → Option ℕ) → NotesOf old lock_of → lock_of key ≡ None → (blocks : ℕ) → ((c : ℕ) → near_at new c ≡ with_note old key blocks c) → ((c : ℕ) → near_at after c ≡ without_key new key c) → NotesOf after lock_of
noted_again old new after key lock_of notes absent blocks more less =
    let between : LockKey → Option ℕ = λ k. cond (is_at (key_cmp key) k) (Some blocks) (lock_of k) in
    noted_as after (λ k. cond (is_at (key_cmp key) k) None (between k)) lock_of (λ k. same k (is_eq (key_cmp key k)) refl) (noted_less new after key between (noted_more old new key lock_of notes blocks more) less)
  where
    same : (k : LockKey) (b : Bool) → is_eq (key_cmp key k) ≡ b → cond b None (cond b (Some blocks) (lock_of k)) ≡ lock_of k
    same k true q = sym (ap lock_of (key_same k key (sym (eq_key key k) ∙ q)) ∙ absent)
    same k false q = refl

-- a cluster that has no notes loses none
pub none_lost : {S : Type 0} (near : HashMap ℕ (Vec (LockKey × ℕ)) S) (p : LockKey × ℕ → Bool) (cluster c : ℕ) → get nat_eq near cluster ≡ None → near_at near c ≡ cond (nat_eq cluster c) (filter p (near_at near c)) (near_at near c)
none_lost near p cluster c none = go (nat_eq cluster c) refl
  where
    go : (b : Bool) → nat_eq cluster c ≡ b → near_at near c ≡ cond b (filter p (near_at near c)) (near_at near c)
    go true q =
        let empty : near_at near c ≡ [] = ap (near_at near) (sym (eqb-true cluster c q)) ∙ ap row_or_none none in
        empty ∙ sym (ap (filter p) empty)
    go false q = refl

-- what a clone notes
module _ (C : ℕ → ℕ → Type 0) (D : Vec (LockKey × ℕ) → Vec (LockKey × ℕ) → Type 0) (keys_same : (x y : ℕ) → C x y → y ≡ x) (rows_same : (v w : Vec (LockKey × ℕ)) → D v w → w.items ≡ v.items) where
  row_copied : (o r : Option (Vec (LockKey × ℕ))) → MatchOption o (r ≡ None) (λ v. IsSomeAnd r (D v)) → row_or_none r ≡ row_or_none o
  row_copied None r h = ap row_or_none h
  row_copied (Some v) (Some w) h = rows_same v w h
  row_copied (Some v) None h = absurd h

  pub copied : {S T : Type 0} (near : HashMap ℕ (Vec (LockKey × ℕ)) S) (new : HashMap ℕ (Vec (LockKey × ℕ)) T) → AllZip (λ p q. C p.0 q.0 × D p.1 q.1) near.entries new.entries → (c : ℕ) → near_at new c ≡ near_at near c
  copied near new all c = row_copied (get nat_eq near c) (get nat_eq new c) (lookup_clone C D (nat_eq c) (λ x y h. ap (nat_eq c) (keys_same x y h)) near.entries new.entries all)

-- a list has a lock that passes a test
found_in : (f : LockKey × ℕ → Bool) (row : List (LockKey × ℕ)) → list_any f row ≡ true → (x : LockKey × ℕ) × (f x ≡ true) × (list_any (is_lock x) row ≡ true)
found_in f [] h = absurd (let wrong : false ≡ true = h in cc)
found_in f (x ∷ xs) h = go (f x) refl h (found_in f xs)
  where
    go : (b : Bool) → f x ≡ b → (b || list_any f xs) ≡ true → (list_any f xs ≡ true → (y : LockKey × ℕ) × (f y ≡ true) × (list_any (is_lock y) xs ≡ true)) → (y : LockKey × ℕ) × (f y ≡ true) × (list_any (is_lock y) (x ∷ xs) ≡ true)
    go true q _ _ = (x, q, ap (λ b. b || list_any (is_lock x) xs) (lock_itself x))
    go false q h later = let found = later h in (found.0, found.1, ap (λ b. is_lock found.0 x || b) found.2 ∙ or_true (is_lock found.0 x))

lookup_found : (f : LockKey × ℕ → Bool) (x : LockKey × ℕ) (es : List (LockKey × ℕ)) → f x ≡ true → lookup (is_at (key_cmp x.0)) es ≡ Some x.1 → list_any f es ≡ true
lookup_found f x [] passes h = absurd (cc)
lookup_found f x (e ∷ es) passes h = go (is_eq (key_cmp x.0 e.0)) refl h (lookup_found f x es passes)
  where
    go : (b : Bool) → is_eq (key_cmp x.0 e.0) ≡ b → cond b (Some e.1) (lookup (is_at (key_cmp x.0)) es) ≡ Some x.1 → (lookup (is_at (key_cmp x.0)) es ≡ Some x.1 → list_any f es ≡ true) → (f e || list_any f es) ≡ true
    go true q h _ =
        let key : e.0 ≡ x.0 = key_same e.0 x.0 (sym (eq_key x.0 e.0) ∙ q) in
        let blocks : e.1 ≡ x.1 = cc in
        let same : e ≡ x = ap (λ (k : LockKey). let l : LockKey × ℕ = (k, e.1) in l) key ∙ ap (λ (n : ℕ). let l : LockKey × ℕ = (x.0, n) in l) blocks in
        ap (λ b. b || list_any f es) (ap f same ∙ passes)
    go false q h later = ap (λ b. f e || b) (later h) ∙ or_true (f e)

length_is : (o : Option ℕ) (n : ℕ) → is_length o n ≡ true → o ≡ Some n
length_is None n h = absurd (let wrong : false ≡ true = h in cc)
length_is (Some b) n h = ap Some (sym (eqb-true n b h))

-- the notes of two clusters have the rivals of a short range, and no other
module _ {S : Type 0} (near : HashMap ℕ (Vec (LockKey × ℕ)) S) (es : List (LockKey × ℕ)) (sorted : IsStrictlySortedBy key_cmp (keys_of es))
    (notes : NotesOf near (λ k. lookup (is_at (key_cmp k)) es)) (short : All (λ n. n ≤ 512) (values_of es)) (req : ReqId) (first count : ℕ) (few : count ≤ 512) where
  is_noted : (e : LockKey × ℕ) → Contains es e → list_any (is_lock e) (near_at near (cluster_of e.0.0)) ≡ true
  is_noted e c =
      let found : lookup (is_at (key_cmp e.0)) es ≡ Some e.1 = lookup-from_Contains (eq_by_cmp_equiv key_total) e.0 e.1 es (IsDistinct-from_sorted key_cmp (keys_of es) sorted) c in
      notes e (cluster_of e.0.0)
      ∙ ap (λ b. b && is_length (lookup (is_at (key_cmp e.0)) es) e.1) (itself (cluster_of e.0.0))
      ∙ ap (λ o. is_length o e.1) found
      ∙ itself e.1

  some_near : (c : ℕ) → list_any (is_rival req first count) (near_at near c) ≡ true → list_any (is_rival req first count) es ≡ true
  some_near c h =
      let found = found_in (is_rival req first count) (near_at near c) h in
      let lock = found.0 in
      let there = sym (notes lock c) ∙ found.2 in
      lookup_found (is_rival req first count) lock es found.1 (length_is (lookup (is_at (key_cmp lock.0)) es) lock.1 (both_true (cluster_of lock.0.0 == c) (is_length (lookup (is_at (key_cmp lock.0)) es) lock.1) there).1)

  none_near : (low high : ℕ) → low ≡ cluster_of (first - 511) → high ≡ cluster_of (first + count) → list_any (is_rival req first count) (near_at near low) ≡ false → list_any (is_rival req first count) (near_at near high) ≡ false → list_any (is_rival req first count) es ≡ false
  none_near low high l u at_low at_high = any_none (is_rival req first count) es short (λ e c m. go e c m (is_rival req first count e) refl)
    where
      go : (e : LockKey × ℕ) → Contains es e → e.1 ≤ 512 → (b : Bool) → is_rival req first count e ≡ b → b ≡ false
      go e c m false r = refl
      go e c m true r = at (nat_eq (cluster_of e.0.0) low) refl
        where
          over : overlaps first count e.0.0 e.1 ≡ true
          over = (both_true (not (is_own req e.0)) (overlaps first count e.0.0 e.1) r).1

          found : list_any (is_rival req first count) (near_at near (cluster_of e.0.0)) ≡ true
          found = any_lock (is_rival req first count) e (near_at near (cluster_of e.0.0)) r (is_noted e c)

          clash : (cluster : ℕ) → cluster_of e.0.0 ≡ cluster → list_any (is_rival req first count) (near_at near cluster) ≡ false → true ≡ false
          clash cluster q at_it = sym (ap (λ x. list_any (is_rival req first count) (near_at near x)) (sym q) ∙ found) ∙ at_it

          at : (b : Bool) → nat_eq (cluster_of e.0.0) low ≡ b → true ≡ false
          at true q = clash low (eqb-true _ _ q) at_low
          at false q = clash high (two_clusters first count e.0.0 few (begins_low first count e.0.0 e.1 m over) (begins_before first count e.0.0 e.1 over) (λ p. let wrong : true ≡ false = sym (itself low) ∙ ap (λ x. nat_eq x low) (l ∙ sym p) ∙ q in cc) ∙ sym u) at_high

  pub near_is : (low high : ℕ) → low ≡ cluster_of (first - 511) → high ≡ cluster_of (first + count) → (list_any (is_rival req first count) (near_at near low) || list_any (is_rival req first count) (near_at near high)) ≡ list_any (is_rival req first count) es
  near_is low high l u = go (list_any (is_rival req first count) (near_at near low)) (list_any (is_rival req first count) (near_at near high)) refl refl
    where
      go : (a b : Bool) → list_any (is_rival req first count) (near_at near low) ≡ a → list_any (is_rival req first count) (near_at near high) ≡ b → (a || b) ≡ list_any (is_rival req first count) es
      go true b p q = sym (some_near low p)
      go false true p q = sym (some_near high q)
      go false false p q = sym (none_near low high l u p q)
