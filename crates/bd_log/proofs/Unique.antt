-- Logs have one merge, and merging by parts is merging the whole.
use Rattle.std.proofs.Common.{◌≡◌, ℕ, ◌<◌, Bool, true, false, cond, ◌==◌, ◌⊎◌, inl, inr, List, [], ◌∷◌, ◌++◌, length, get_or, All, Contains, zero, suc, refl, sym, ◌∙◌, ap, ap₂, subst, arith}
use Rattle.std.specs.List.{AllByRecursion}
use Rattle.std.proofs.lemmas.Bool.{cases_eq}
use Rattle.std.proofs.lemmas.List.{length-map, get_or-map}
use Rattle.std.proofs.lemmas.List.Elements.{filter-append}
use Rattle.bd_base.specs.declared.act.Entry.{Entry}
use Rattle.bd_log.specs.Merge.{Part, threads_of, IsBefore, IsOrdered, entries_of, MergeIsUnique, MergingByParts, joined}
use Rattle.bd_log.proofs.Order.{all_map, all_append, never_both, ordered_append}
use Rattle.bd_log.proofs.Parts.{entries_of-same, entries_of-other}

-- x stands in the list
abbrev In : Entry → List Entry → Type 0
In x [] = ⊥
In x (y ∷ ys) = (y ≡ x) ⊎ In x ys

in_all : (P : Entry → Type 0) (xs : List Entry) → AllByRecursion P xs → (x : Entry) → In x xs → P x
in_all P [] a x h = elim h [ ]
in_all P (y ∷ xs) a x (inl e) = subst P e a.0
in_all P (y ∷ xs) a x (inr i) = in_all P xs a.1 x i

of_thread : (t : ℕ) (x : Entry) (xs : List Entry) → In x (entries_of t xs) → In x xs
of_thread t x [] h = elim h [ ]
of_thread t x (y ∷ xs) h = go (y.thread == t) h (of_thread t x xs)
  where
    go : (b : Bool) → In x (cond b (y ∷ entries_of t xs) (entries_of t xs)) → (In x (entries_of t xs) → In x xs) → In x (y ∷ xs)
    go true (inl s) k = inl s
    go true (inr i) k = inr (k i)
    go false i k = inr (k i)

tails : (x : Entry) (xs ys : List Entry) → ((t : ℕ) → entries_of t (x ∷ xs) ≡ entries_of t (x ∷ ys)) → (t : ℕ) → entries_of t xs ≡ entries_of t ys
tails x xs ys h t = go (cases_eq x.thread t)
  where
    drop_one : (as' bs : List Entry) → x ∷ as' ≡ x ∷ bs → as' ≡ bs
    drop_one as' bs e = cc

    go : (x.thread ≡ t) ⊎ (x.thread ≡ t → ⊥) → entries_of t xs ≡ entries_of t ys
    go (inl e) = drop_one (entries_of t xs) (entries_of t ys) (sym (entries_of-same t x xs e) ∙ h t ∙ entries_of-same t x ys e)
    go (inr ne) = sym (entries_of-other t x xs ne) ∙ h t ∙ entries_of-other t x ys ne

head_in : (x y : Entry) (xs ys : List Entry) → entries_of x.thread (x ∷ xs) ≡ entries_of x.thread (y ∷ ys) → (x ≡ y) ⊎ In x ys
head_in x y xs ys e = go (of_thread x.thread x (y ∷ ys) (subst (In x) (sym (entries_of-same x.thread x xs refl) ∙ e) (inl refl)))
  where
    go : In x (y ∷ ys) → (x ≡ y) ⊎ In x ys
    go (inl s) = inl (sym s)
    go (inr i) = inr i

-- ordered lists with the same entries of each thread are the same
ordered_same : (xs ys : List Entry) → IsOrdered xs → IsOrdered ys → ((t : ℕ) → entries_of t xs ≡ entries_of t ys) → xs ≡ ys
ordered_same [] [] a b h = refl
ordered_same [] (y ∷ ys) a b h = let e : [] ≡ y ∷ entries_of y.thread ys = h y.thread ∙ entries_of-same y.thread y ys refl in cc
ordered_same (x ∷ xs) [] a b h = let e : x ∷ entries_of x.thread xs ≡ [] = sym (entries_of-same x.thread x xs refl) ∙ h x.thread in cc
ordered_same (x ∷ xs) (y ∷ ys) a b h =
    let same : x ≡ y = go (head_in x y xs ys (h x.thread)) (head_in y x ys xs (sym (h y.thread))) in
    ap₂ (λ z zs. z ∷ zs) same (ordered_same xs ys a.1 b.1 (tails x xs ys (subst (λ z. (t : ℕ) → entries_of t (x ∷ xs) ≡ entries_of t (z ∷ ys)) (sym same) h)))
  where
    go : (x ≡ y) ⊎ In x ys → (y ≡ x) ⊎ In y xs → x ≡ y
    go (inl e) k = e
    go (inr i) (inl e) = sym e
    go (inr i) (inr j) = absurd (never_both x y (in_all (IsBefore x) xs a.0 y j) (in_all (IsBefore y) ys b.0 x i))

-- a thread is among these, or not
contains_or_not : (ts : List ℕ) (t : ℕ) → Contains ts t ⊎ (Contains ts t → ⊥)
contains_or_not [] t = inr (λ c. omega (arith, c.1))
contains_or_not (u ∷ us) t = go (cases_eq u t) (contains_or_not us t)
  where
    go : (u ≡ t) ⊎ (u ≡ t → ⊥) → Contains us t ⊎ (Contains us t → ⊥) → Contains (u ∷ us) t ⊎ (Contains (u ∷ us) t → ⊥)
    go (inl e) k = inl (0, omega arith, e)
    go (inr ne) (inl c) = inl (suc c.0, omega (arith, c.1), c.2)
    go (inr ne) (inr none) = inr (λ c. at c.0 c.1 c.2)
      where
        at : (k : ℕ) → k < length (u ∷ us) → get_or (u ∷ us) k t ≡ t → ⊥
        at zero lt e = ne e
        at (suc k) lt e = none (k, omega (arith, lt), e)

entries_of-none : (t : ℕ) (xs : List Entry) → AllByRecursion (λ x. x.thread ≡ t → ⊥) xs → entries_of t xs ≡ []
entries_of-none t [] h = refl
entries_of-none t (x ∷ xs) h = entries_of-other t x xs h.0 ∙ entries_of-none t xs h.1

none_known : (ts : List ℕ) (t : ℕ) (xs : List Entry) → (Contains ts t → ⊥) → AllByRecursion (λ x. Contains ts x.thread) xs → entries_of t xs ≡ []
none_known ts t xs none known = entries_of-none t xs (all_map (λ x. Contains ts x.thread) (λ x. x.thread ≡ t → ⊥) xs (λ x c e. none (subst (Contains ts) e c)) known)

pub merge_is_unique : MergeIsUnique
merge_is_unique parts xs ys a b = ordered_same xs ys a.ordered b.ordered (λ t. go t (contains_or_not (threads_of parts) t))
  where
    part_at : (t k : ℕ) → Part
    part_at t k = get_or parts k (record { thread = t; entries = [] })

    go : (t : ℕ) → Contains (threads_of parts) t ⊎ (Contains (threads_of parts) t → ⊥) → entries_of t xs ≡ entries_of t ys
    go t (inl c) =
        let d : Part = record { thread = t; entries = [] } in
        let within : c.0 < length parts = omega (arith, c.1, length-map parts (λ p. p.thread)) in
        let is : (get_or parts c.0 d).thread ≡ t = sym (get_or-map (λ (p : Part). p.thread) parts c.0 d t within) ∙ c.2 in
        subst (λ (u : ℕ). entries_of u xs ≡ entries_of u ys) is (a.own c.0 d within ∙ sym (b.own c.0 d within))
    go t (inr none) = none_known (threads_of parts) t xs none a.known ∙ sym (none_known (threads_of parts) t ys none b.known)

-- ---- by parts

all_recursion : {X : Type 0} (P : X → Type 0) (xs : List X) → All P xs → AllByRecursion P xs
all_recursion P [] h = tt
all_recursion P (x ∷ xs) h = (h 0 x (omega arith), all_recursion P xs (λ k d lt. h (suc k) d (omega (arith, lt))))

all_index : {X : Type 0} (P : X → Type 0) (xs : List X) → AllByRecursion P xs → All P xs
all_index P [] h k d lt = absurd (omega (arith, lt))
all_index P (x ∷ xs) h zero d lt = h.0
all_index P (x ∷ xs) h (suc k) d lt = all_index P xs h.1 k d (omega (arith, lt))

own_joined : (parts later : List Part) (xs ys : List Entry) → threads_of parts ≡ threads_of later → AllByRecursion (λ p. entries_of p.thread xs ≡ p.entries) parts → AllByRecursion (λ p. entries_of p.thread ys ≡ p.entries) later → AllByRecursion (λ p. entries_of p.thread (xs ++ ys) ≡ p.entries) (joined parts later)
own_joined [] later xs ys e h k = tt
own_joined (p ∷ ps) [] xs ys e h k = tt
own_joined (p ∷ ps) (q ∷ qs) xs ys e h k =
    let same : p.thread ≡ q.thread = cc in
    let rest : threads_of ps ≡ threads_of qs = cc in (
      filter-append (λ x. x.thread == p.thread) xs ys
          ∙ ap₂ (λ (as' bs : List Entry). as' ++ bs) h.0 (subst (λ (t : ℕ). entries_of t ys ≡ q.entries) (sym same) k.0),
      own_joined ps qs xs ys rest h.1 k.1,
    )

threads_of-joined : (parts later : List Part) → threads_of parts ≡ threads_of later → threads_of (joined parts later) ≡ threads_of parts
threads_of-joined [] later e = refl
threads_of-joined (p ∷ ps) [] e = cc
threads_of-joined (p ∷ ps) (q ∷ qs) e = let rest : threads_of ps ≡ threads_of qs = cc in ap (λ (ts : List ℕ). p.thread ∷ ts) (threads_of-joined ps qs rest)

pub merging_by_parts : MergingByParts
merging_by_parts parts later xs ys e a b before = record {
  ordered = ordered_append xs ys a.ordered b.ordered before;
  own = all_index (λ p. entries_of p.thread (xs ++ ys) ≡ p.entries) (joined parts later)
      (own_joined parts later xs ys e
      (all_recursion (λ p. entries_of p.thread xs ≡ p.entries) parts a.own)
      (all_recursion (λ p. entries_of p.thread ys ≡ p.entries) later b.own));
  known = subst (λ (ts : List ℕ). AllByRecursion (λ x. Contains ts x.thread) (xs ++ ys)) (sym (threads_of-joined parts later e))
      (all_append (λ x. Contains (threads_of parts) x.thread) xs ys a.known
      (subst (λ (ts : List ℕ). AllByRecursion (λ x. Contains ts x.thread) ys) (sym e) b.known));
}
