-- The parts of a list by threads, and that ordered lists with the same parts are the same.
use Rattle.std.proofs.Common.{◌≡◌, ℕ, ◌<◌, Bool, true, false, cond, ◌==◌, ◌⊎◌, inl, inr, List, [], ◌∷◌, filter, refl, sym, ◌∙◌, ap, ap₂, subst, eqb-true, eq-eqb, ne_eqb, arith}
use Rattle.std.specs.List.{AllByRecursion}
use Rattle.std.proofs.lemmas.Bool.{cases_eq}

-- x is in the list
abbrev pub In : {X : Type 0} → X → List X → Type 0
In x [] = ⊥
In x (y ∷ ys) = (y ≡ x) ⊎ In x ys

pub all_in : {X : Type 0} (P : X → Type 0) (xs : List X) → ((x : X) → In x xs → P x) → AllByRecursion P xs
all_in P [] h = tt
all_in P (x ∷ xs) h = (h x (inl refl), all_in P xs (λ y i. h y (inr i)))

pub in_all : {X : Type 0} (P : X → Type 0) (xs : List X) → AllByRecursion P xs → (x : X) → In x xs → P x
in_all P [] a x h = elim h [ ]
in_all P (y ∷ xs) a x (inl e) = subst P e a.0
in_all P (y ∷ xs) a x (inr i) = in_all P xs a.1 x i

pub all_filter : {X : Type 0} (P : X → Type 0) (test : X → Bool) (xs : List X) → AllByRecursion P xs → AllByRecursion P (filter test xs)
all_filter P test [] h = tt
all_filter P test (x ∷ xs) h = go (test x) (all_filter P test xs h.1)
  where
    go : (b : Bool) → AllByRecursion P (filter test xs) → AllByRecursion P (cond b (x ∷ filter test xs) (filter test xs))
    go true k = (h.0, k)
    go false k = k

module _ {X : Type 0} (thread : X → ℕ) where
  abbrev pub mine : ℕ → List X → List X
  mine t xs = filter (λ x. thread x == t) xs

  pub mine-head : (x : X) (xs : List X) → mine (thread x) (x ∷ xs) ≡ x ∷ mine (thread x) xs
  mine-head x xs = ap (λ b. cond b (x ∷ mine (thread x) xs) (mine (thread x) xs)) (eq-eqb (thread x) (thread x) refl)

  pub mine-other : (t : ℕ) (x : X) (xs : List X) → (thread x ≡ t → ⊥) → mine t (x ∷ xs) ≡ mine t xs
  mine-other t x xs ne = ap (λ b. cond b (x ∷ mine t xs) (mine t xs)) (ne_eqb (thread x) t ne)

  pub in_mine : (x : X) (xs : List X) → In x xs → In x (mine (thread x) xs)
  in_mine x [] h = elim h [ ]
  in_mine x (y ∷ xs) (inl e) = subst (λ z. In x (mine (thread x) (z ∷ xs))) (sym e) (subst (In x) (sym (mine-head x xs)) (inl refl))
  in_mine x (y ∷ xs) (inr i) = go (thread y == thread x) (in_mine x xs i)
    where
      go : (b : Bool) → In x (mine (thread x) xs) → In x (cond b (y ∷ mine (thread x) xs) (mine (thread x) xs))
      go true h = inr h
      go false h = h

  pub mine_in : (t : ℕ) (x : X) (xs : List X) → In x (mine t xs) → In x xs × (thread x ≡ t)
  mine_in t x [] h = elim h [ ]
  mine_in t x (y ∷ xs) h = go (thread y == t) refl h (mine_in t x xs)
    where
      go : (b : Bool) → (thread y == t) ≡ b → In x (cond b (y ∷ mine t xs) (mine t xs)) → (In x (mine t xs) → In x xs × (thread x ≡ t)) → In x (y ∷ xs) × (thread x ≡ t)
      go true e (inl s) k = (inl s, sym (ap thread s) ∙ eqb-true (thread y) t e)
      go true e (inr i) k = (inr (k i).0, (k i).1)
      go false e i k = (inr (k i).0, (k i).1)

  -- what holds of each thread's part holds of all
  pub all_parts : (P : X → Type 0) (xs : List X) → ((t : ℕ) → AllByRecursion P (mine t xs)) → AllByRecursion P xs
  all_parts P xs h = all_in P xs (λ x i. in_all P (mine (thread x) xs) (h (thread x)) x (in_mine x xs i))

  -- in order of stamp and thread
  module _ (stamp : X → ℕ) where
    abbrev pub Before : X → X → Type 0
    Before x y = (stamp x < stamp y) ⊎ ((stamp x ≡ stamp y) × (thread x < thread y))

    abbrev pub Ordered : List X → Type 0
    Ordered [] = Unit {0}
    Ordered (x ∷ xs) = AllByRecursion (Before x) xs × Ordered xs

    never_both : (x y : X) → Before x y → Before y x → ⊥
    never_both x y (inl h) (inl k) = omega arith
    never_both x y (inl h) (inr k) = omega arith
    never_both x y (inr h) (inl k) = omega arith
    never_both x y (inr h) (inr k) = omega arith

    tails : (x : X) (xs ys : List X) → ((t : ℕ) → mine t (x ∷ xs) ≡ mine t (x ∷ ys)) → (t : ℕ) → mine t xs ≡ mine t ys
    tails x xs ys h t = go (cases_eq (thread x) t)
      where
        drop_one : (as' bs : List X) → x ∷ as' ≡ x ∷ bs → as' ≡ bs
        drop_one as' bs e = cc

        go : (thread x ≡ t) ⊎ (thread x ≡ t → ⊥) → mine t xs ≡ mine t ys
        go (inl e) = subst (λ (u : ℕ). mine u xs ≡ mine u ys) e (drop_one (mine (thread x) xs) (mine (thread x) ys) (sym (mine-head x xs) ∙ h (thread x) ∙ mine-head x ys))
        go (inr ne) = sym (mine-other t x xs ne) ∙ h t ∙ mine-other t x ys ne

    head_in : (x y : X) (xs ys : List X) → mine (thread x) (x ∷ xs) ≡ mine (thread x) (y ∷ ys) → (x ≡ y) ⊎ In x ys
    head_in x y xs ys e = go (mine_in (thread x) x (y ∷ ys) (subst (In x) (sym (mine-head x xs) ∙ e) (inl refl))).0
      where
        go : In x (y ∷ ys) → (x ≡ y) ⊎ In x ys
        go (inl s) = inl (sym s)
        go (inr i) = inr i

    -- **There is one merge**: ordered lists of the same parts are the same
    pub one_merge : (xs ys : List X) → Ordered xs → Ordered ys → ((t : ℕ) → mine t xs ≡ mine t ys) → xs ≡ ys
    one_merge [] [] a b h = refl
    one_merge [] (y ∷ ys) a b h = let e : [] ≡ y ∷ mine (thread y) ys = h (thread y) ∙ mine-head y ys in cc
    one_merge (x ∷ xs) [] a b h = let e : x ∷ mine (thread x) xs ≡ [] = sym (mine-head x xs) ∙ h (thread x) in cc
    one_merge (x ∷ xs) (y ∷ ys) a b h =
        let same : x ≡ y = go (head_in x y xs ys (h (thread x))) (head_in y x ys xs (sym (h (thread y)))) in
        ap₂ (λ z zs. z ∷ zs) same (one_merge xs ys a.1 b.1 (tails x xs ys (subst (λ z. (t : ℕ) → mine t (x ∷ xs) ≡ mine t (z ∷ ys)) (sym same) h)))
      where
        go : (x ≡ y) ⊎ In x ys → (y ≡ x) ⊎ In y xs → x ≡ y
        go (inl e) k = e
        go (inr i) (inl e) = sym e
        go (inr i) (inr j) = absurd (never_both x y (in_all (Before x) xs a.0 y j) (in_all (Before y) ys b.0 x i))

    pub filter_ordered : (test : X → Bool) (xs : List X) → Ordered xs → Ordered (filter test xs)
    filter_ordered test [] h = tt
    filter_ordered test (x ∷ xs) h = go (test x) (filter_ordered test xs h.1)
      where
        go : (b : Bool) → Ordered (filter test xs) → Ordered (cond b (x ∷ filter test xs) (filter test xs))
        go true k = (all_filter (Before x) test xs h.0, k)
        go false k = k

-- tests in either order
pub filter_filter : {X : Type 0} (p q : X → Bool) (xs : List X) → filter p (filter q xs) ≡ filter q (filter p xs)
filter_filter p q [] = refl
filter_filter {X = X} p q (x ∷ xs) =
    left (p x) (q x) refl ∙ ap (λ zs. cond (q x) (cond (p x) (x ∷ zs) zs) zs) (filter_filter p q xs) ∙ turn (p x) (q x) (filter q (filter p xs)) ∙ sym (right (p x) (q x) refl)
  where
    left : (a b : Bool) → p x ≡ a → filter p (cond b (x ∷ filter q xs) (filter q xs)) ≡ cond b (cond a (x ∷ filter p (filter q xs)) (filter p (filter q xs))) (filter p (filter q xs))
    left a true e = ap (λ c. cond c (x ∷ filter p (filter q xs)) (filter p (filter q xs))) e
    left a false e = refl

    right : (a b : Bool) → q x ≡ b → filter q (cond a (x ∷ filter p xs) (filter p xs)) ≡ cond a (cond b (x ∷ filter q (filter p xs)) (filter q (filter p xs))) (filter q (filter p xs))
    right true b e = ap (λ c. cond c (x ∷ filter q (filter p xs)) (filter q (filter p xs))) e
    right false b e = refl

    turn : (a b : Bool) (zs : List X) → cond b (cond a (x ∷ zs) zs) zs ≡ cond a (cond b (x ∷ zs) zs) zs
    turn true true zs = refl
    turn true false zs = refl
    turn false true zs = refl
    turn false false zs = refl
