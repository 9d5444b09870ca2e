-- The devices by number: those that a loop has passed, the next, and the rest.
use Rattle.std.proofs.Common.{◌≡◌, ℕ, zero, suc, ◌+◌, ◌-◌, ◌<◌, ◌≤◌, List, [], ◌∷◌, ◌++◌, length, length-append, map, refl, ap, ap₂, sym, ◌∙◌, subst, arith, Bool, true, false, not, ◌||◌, cond, filter, nat_lt, Some, None}
use Rattle.std.specs.Prelude.{slice_get}
use Rattle.std.specs.List.{list_any, position, position_or_len, range_with_len}
use Rattle.std.proofs.lemmas.Bool.{le-ltb, lt-ltb}
use Rattle.std.proofs.lemmas.List.{map-append}
use Rattle.std.proofs.lemmas.List.Elements.{filter-append}
use Rattle.std.proofs.lemmas.List.Folds.{list_any-append}
use Rattle.std.proofs.lemmas.List.FromFn.{map-range_with_len_more, filter_of_map_range_with_len_more}
use Rattle.std.proofs.lemmas.Option.{slice_get_past}
use Rattle.bd_base.specs.declared.id.DevId.{DevId}
use Rattle.bd_machine.specs.Users.{dev_of, devices}

or_parts : (a b : Bool) → (a || b) ≡ false → (a ≡ false) × (b ≡ false)
or_parts false b e = (refl, e)
or_parts true b e = cc

append_nil : {X : Type 0} (xs : List X) → xs ++ [] ≡ xs
append_nil [] = refl
append_nil (x ∷ xs) = ap (λ ys. x ∷ ys) (append_nil xs)

-- ---- some of them

-- none of the first devices, and not the next
pub none_more : (p : DevId → Bool) (n : ℕ) → list_any p (devices n) ≡ false → p (dev_of n) ≡ false → list_any p (devices (n + 1)) ≡ false
none_more p n none here =
    ap (list_any p) (map-range_with_len_more dev_of 0 n n (omega arith))
    ∙ (list_any-append p (devices n) (dev_of n ∷ [])
    ∙ ap₂ (λ (s t : Bool). s || (t || false)) none here)

any_mapped : (p : DevId → Bool) (a n k : ℕ) → k < n → p (dev_of (a + k)) ≡ true → list_any p (map dev_of (range_with_len a n)) ≡ true
any_mapped p a zero k lt is = absurd (omega (arith, lt))
any_mapped p a (suc n) zero lt is =
    let here : a + 0 ≡ a = omega arith in
    ap (λ (b : Bool). b || list_any p (map dev_of (range_with_len (a + 1) n))) (sym (ap (λ (m : ℕ). p (dev_of m)) here) ∙ is)
any_mapped p a (suc n) (suc k) lt is =
    let moved : a + 1 + k ≡ a + suc k = omega arith in
    ap (λ (b : Bool). p (dev_of a) || b) (any_mapped p (a + 1) n k (omega (arith, lt)) (ap (λ (m : ℕ). p (dev_of m)) moved ∙ is)) ∙ or_true (p (dev_of a))
  where
    or_true : (b : Bool) → (b || true) ≡ true
    or_true true = refl
    or_true false = refl

-- one of the first devices is enough
pub any_of : (p : DevId → Bool) (n k : ℕ) → k < n → p (dev_of k) ≡ true → list_any p (devices n) ≡ true
any_of p n k lt is =
    let same : k ≡ 0 + k = omega arith in
    any_mapped p 0 n k lt (sym (ap (λ (m : ℕ). p (dev_of m)) same) ∙ is)

-- ---- those that pass a test, so far

passing : (p : DevId → Bool) (n : ℕ) (b : Bool) → p (dev_of n) ≡ b → filter p (devices (n + 1)) ≡ filter p (devices n) ++ cond b (dev_of n ∷ []) []
passing p n b is = filter_of_map_range_with_len_more p dev_of 0 n n (omega arith) ∙ ap (λ (t : Bool). filter p (devices n) ++ cond t (dev_of n ∷ []) []) is

-- what is made of each of them: one more, and none more
module _ {X : Type 0} (p : DevId → Bool) (f : DevId → X) where
  pub made_takes : (was now : List X) (n : ℕ) → was ≡ map f (filter p (devices n)) → p (dev_of n) ≡ true → now ≡ was ++ f (dev_of n) ∷ [] → now ≡ map f (filter p (devices (n + 1)))
  made_takes was now n e is grown =
      grown
      ∙ ap (λ (xs : List X). xs ++ f (dev_of n) ∷ []) e
      ∙ sym (ap (map f) (passing p n true is) ∙ map-append f (filter p (devices n)) (dev_of n ∷ []))

  pub made_leaves : (was : List X) (n : ℕ) → was ≡ map f (filter p (devices n)) → p (dev_of n) ≡ false → was ≡ map f (filter p (devices (n + 1)))
  made_leaves was n e left = e ∙ sym (ap (map f) (passing p n false left ∙ append_nil (filter p (devices n))))

-- what is made of every device
pub made_more : {X : Type 0} (f : DevId → X) (was now : List X) (n : ℕ) → was ≡ map f (devices n) → now ≡ was ++ f (dev_of n) ∷ [] → now ≡ map f (devices (n + 1))
made_more f was now n e grown =
    grown ∙ ap (λ xs. xs ++ f (dev_of n) ∷ []) e ∙ sym (ap (map f) (map-range_with_len_more dev_of 0 n n (omega arith)) ∙ map-append f (devices n) (dev_of n ∷ []))

module _ (p : DevId → Bool) where
  pub filter_takes : (was now : List DevId) (n : ℕ) → was ≡ filter p (devices n) → p (dev_of n) ≡ true → now ≡ was ++ dev_of n ∷ [] → now ≡ filter p (devices (n + 1))
  filter_takes was now n e is grown = grown ∙ ap (λ (xs : List DevId). xs ++ dev_of n ∷ []) e ∙ sym (passing p n true is)

  pub filter_leaves : (was : List DevId) (n : ℕ) → was ≡ filter p (devices n) → p (dev_of n) ≡ false → was ≡ filter p (devices (n + 1))
  filter_leaves was n e left = e ∙ sym (passing p n false left ∙ append_nil (filter p (devices n)))

  pub count_takes : (n : ℕ) → p (dev_of n) ≡ true → length (filter p (devices (n + 1))) ≡ length (filter p (devices n)) + 1
  count_takes n is = ap length (passing p n true is) ∙ length-append (filter p (devices n)) (dev_of n ∷ [])

  pub count_leaves : (n : ℕ) → p (dev_of n) ≡ false → length (filter p (devices (n + 1))) ≡ length (filter p (devices n))
  count_leaves n left = ap length (passing p n false left ∙ append_nil (filter p (devices n)))

  pub none_takes : (q : DevId → Bool) (n : ℕ) → list_any q (filter p (devices n)) ≡ false → q (dev_of n) ≡ false → p (dev_of n) ≡ true → list_any q (filter p (devices (n + 1))) ≡ false
  none_takes q n none here is =
      ap (list_any q) (passing p n true is)
      ∙ (list_any-append q (filter p (devices n)) (dev_of n ∷ [])
      ∙ ap₂ (λ (s t : Bool). s || (t || false)) none here)

  pub none_leaves : (q : DevId → Bool) (n : ℕ) → list_any q (filter p (devices n)) ≡ false → p (dev_of n) ≡ false → list_any q (filter p (devices (n + 1))) ≡ false
  none_leaves q n none left = ap (list_any q) (passing p n false left ∙ append_nil (filter p (devices n))) ∙ none

  -- ---- one of all, by its place among those that pass

  split : (a n k : ℕ) → k < n → range_with_len a n ≡ range_with_len a k ++ (a + k) ∷ range_with_len (a + k + 1) (n - k - 1)
  split a zero k lt = absurd (omega (arith, lt))
  split a (suc n) zero lt =
      let here : a ≡ a + 0 = omega arith in
      let rest : n ≡ suc n - 0 - 1 = omega arith in
      ap₂ (λ (m j : ℕ). m ∷ range_with_len (m + 1) j) here rest
  split a (suc n) (suc k) lt =
      let moved : a + 1 + k ≡ a + suc k = omega arith in
      let rest : n - k - 1 ≡ suc n - suc k - 1 = omega arith in
      ap (λ (xs : List ℕ). a ∷ xs)
      (split (a + 1) n k (omega (arith, lt))
      ∙ ap₂ (λ (m j : ℕ). range_with_len (a + 1) k ++ m ∷ range_with_len (m + 1) j) moved rest)

  abbrev rest_after : ℕ → ℕ → List DevId
  rest_after n k = filter p (map dev_of (range_with_len (0 + k + 1) (n - k - 1)))

  all_split : (n k : ℕ) → k < n → p (dev_of k) ≡ true → filter p (devices n) ≡ filter p (devices k) ++ dev_of k ∷ rest_after n k
  all_split n k lt is =
      let same : 0 + k ≡ k = omega arith in
      ap (λ (xs : List ℕ). filter p (map dev_of xs)) (split 0 n k lt)
      ∙ ap (filter p) (map-append dev_of (range_with_len 0 k) ((0 + k) ∷ range_with_len (0 + k + 1) (n - k - 1)))
      ∙ filter-append p (devices k) (dev_of (0 + k) ∷ map dev_of (range_with_len (0 + k + 1) (n - k - 1)))
      ∙ ap (λ (m : ℕ). filter p (devices k) ++ cond (p (dev_of m)) (dev_of m ∷ rest_after n k) (rest_after n k)) same
      ∙ ap (λ (b : Bool). filter p (devices k) ++ cond b (dev_of k ∷ rest_after n k) (rest_after n k)) is

  get_seam : (xs ys : List DevId) (y : DevId) → slice_get (xs ++ y ∷ ys) (length xs) ≡ Some y
  get_seam [] ys y = refl
  get_seam (x ∷ xs) ys y = get_seam xs ys y

  -- the one that so many precede
  pub numbered : (n k h before : ℕ) → k < n → p (dev_of k) ≡ true → length (filter p (devices k)) + before ≡ h → before ≡ 0 → Some (dev_of k) ≡ slice_get (filter p (devices n)) h
  numbered n k h before lt is e zero_left =
      let at : length (filter p (devices k)) ≡ h = omega (arith, e, zero_left) in
      sym (ap₂ slice_get (all_split n k lt is) (sym at) ∙ get_seam (filter p (devices k)) (rest_after n k) (dev_of k))

  -- there are fewer
  pub numbered_past : (n m h before : ℕ) → n ≡ m → length (filter p (devices n)) + before ≡ h → None ≡ slice_get (filter p (devices m)) h
  numbered_past n m h before same e =
      let past : length (filter p (devices n)) ≤ h = omega (arith, e) in
      sym (slice_get_past (filter p (devices m)) h (subst (λ (k : ℕ). length (filter p (devices k)) ≤ h) same past))

  first_at : (q : DevId → Bool) (xs ys : List DevId) (y : DevId) → list_any q xs ≡ false → q y ≡ true → position_or_len q (xs ++ y ∷ ys) ≡ length xs
  first_at q [] ys y none is = ap (λ (b : Bool). cond (not b) (1 + position_or_len q ys) 0) is
  first_at q (x ∷ xs) ys y none is =
      let parts = or_parts (q x) (list_any q xs) none in
      ap (λ (b : Bool). cond (not b) (1 + position_or_len q (xs ++ y ∷ ys)) 0) parts.0 ∙ ap (λ (n : ℕ). 1 + n) (first_at q xs ys y parts.1 is) ∙ omega arith

  -- the first of them that passes another test
  pub placed : (q : DevId → Bool) (n k : ℕ) → k < n → p (dev_of k) ≡ true → list_any q (filter p (devices k)) ≡ false → q (dev_of k) ≡ true → position q (filter p (devices n)) ≡ Some (length (filter p (devices k)))
  placed q n k lt is none here =
      let xs : List DevId = filter p (devices k) in
      let ys : List DevId = rest_after n k in
      let at : position_or_len q (xs ++ dev_of k ∷ ys) ≡ length xs = first_at q xs ys (dev_of k) none here in
      let inside : length xs < length (xs ++ dev_of k ∷ ys) = omega (arith, length-append xs (dev_of k ∷ ys)) in
      ap (position q) (all_split n k lt is)
      ∙ ap (λ (m : ℕ). cond (nat_lt m (length (xs ++ dev_of k ∷ ys))) (Some m) None) at
      ∙ ap (λ (b : Bool). cond b (Some (length xs)) None) (lt-ltb (length xs) (length (xs ++ dev_of k ∷ ys)) inside)

  pub not_placed : (q : DevId → Bool) (n m : ℕ) → n ≡ m → list_any q (filter p (devices n)) ≡ false → position q (filter p (devices m)) ≡ None
  not_placed q n m same none = nowhere (filter p (devices m)) (subst (λ (k : ℕ). list_any q (filter p (devices k)) ≡ false) same none)
    where
      at_end : (xs : List DevId) → list_any q xs ≡ false → position_or_len q xs ≡ length xs
      at_end [] none = refl
      at_end (x ∷ xs) none =
          let parts = or_parts (q x) (list_any q xs) none in
          ap (λ (b : Bool). cond (not b) (1 + position_or_len q xs) 0) parts.0 ∙ ap (λ (n : ℕ). 1 + n) (at_end xs parts.1) ∙ omega arith

      nowhere : (xs : List DevId) → list_any q xs ≡ false → position q xs ≡ None
      nowhere xs none =
          ap (λ (m : ℕ). cond (nat_lt m (length xs)) (Some m) None) (at_end xs none)
          ∙ ap (λ (b : Bool). cond b (Some (length xs)) None) (le-ltb (length xs) (length xs) (omega arith))
