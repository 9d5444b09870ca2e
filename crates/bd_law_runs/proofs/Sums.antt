-- How many pass a test.
use Rattle.std.proofs.Common.{◌≡◌, ℕ, zero, suc, ◌+◌, ◌<◌, ◌≤◌, Bool, true, false, cond, not, ◌&&◌, ◌||◌, ◌⊎◌, inl, inr, List, [], ◌∷◌, ◌++◌, map, refl, sym, ◌∙◌, ap, subst, arith}
use Rattle.std.specs.List.{filter, list_any}
use Rattle.std.proofs.lemmas.Bool.{cases_eq}
use Rattle.bd_machine.specs.Laws.{one_if}

-- ---- of the numbers below n

abbrev pub count_to : (ℕ → Bool) → ℕ → ℕ
count_to is zero = 0
count_to is (suc n) = one_if (is n) + count_to is n

one_more : (a b : Bool) → (a ≡ true → b ≡ true) → one_if a ≤ one_if b
one_more true b h = go b (h refl)
  where
    go : (b : Bool) → b ≡ true → one_if true ≤ one_if b
    go true e = omega arith
    go false e = cc
one_more false b h = omega arith

sum_more : (a b c d : ℕ) → a ≤ b → c ≤ d → a + c ≤ b + d
sum_more a b c d h k = omega arith

last : (n : ℕ) → n < suc n
last n = omega arith

wider : (k n : ℕ) → k < n → k < suc n
wider k n h = omega arith

lower : (c n : ℕ) → c < suc n → (c ≡ n → ⊥) → c < n
lower c n h ne = grind arith

apart : (k n : ℕ) → k < n → k ≡ n → ⊥
apart k n h e = omega arith

pub count_more : (is js : ℕ → Bool) (n : ℕ) → ((k : ℕ) → k < n → is k ≡ true → js k ≡ true) → count_to is n ≤ count_to js n
count_more is js zero h = omega arith
count_more is js (suc n) h = sum_more (one_if (is n)) (one_if (js n)) (count_to is n) (count_to js n) (one_more (is n) (js n) (h n (last n))) (count_more is js n (λ k l. h k (wider k n l)))

-- one less passes
pub count_without : (is js : ℕ → Bool) (c n : ℕ) → c < n → is c ≡ false → js c ≡ true → ((k : ℕ) → is k ≡ true → js k ≡ true) → count_to is n + 1 ≤ count_to js n
count_without is js c zero l miss hit h = absurd (none c l)
  where
    none : (c : ℕ) → c < 0 → ⊥
    none c l = omega arith
count_without is js c (suc n) l miss hit h = go (cases_eq c n) (count_without is js c n)
  where
    here : (a b : Bool) (x y : ℕ) → a ≡ false → b ≡ true → x ≤ y → one_if a + x + 1 ≤ one_if b + y
    here true b x y e f k = cc
    here false true x y e f k = omega arith
    here false false x y e f k = cc

    there : (a b x y : ℕ) → a ≤ b → x + 1 ≤ y → a + x + 1 ≤ b + y
    there a b x y h k = omega arith

    go : (c ≡ n) ⊎ (c ≡ n → ⊥) → (c < n → is c ≡ false → js c ≡ true → ((k : ℕ) → is k ≡ true → js k ≡ true) → count_to is n + 1 ≤ count_to js n) → one_if (is n) + count_to is n + 1 ≤ one_if (js n) + count_to js n
    go (inl same) ih =
        here (is n) (js n) (count_to is n) (count_to js n) (subst (λ (m : ℕ). is m ≡ false) same miss) (subst (λ (m : ℕ). js m ≡ true) same hit) (count_more is js n (λ k _. h k))
    go (inr ne) ih = there (one_if (is n)) (one_if (js n)) (count_to is n) (count_to js n) (one_more (is n) (js n) (h n)) (ih (lower c n l ne) miss hit h)

-- one more passes at most
pub count_with : (is js : ℕ → Bool) (c n : ℕ) → ((k : ℕ) → (k ≡ c → ⊥) → js k ≡ true → is k ≡ true) → count_to js n ≤ count_to is n + 1
count_with is js c zero h = omega arith
count_with is js c (suc n) h = go (cases_eq n c) (count_with is js c n h)
  where
    here : (a b : Bool) (x y : ℕ) → x ≤ y → one_if a + x ≤ one_if b + y + 1
    here true true x y k = omega arith
    here true false x y k = omega arith
    here false true x y k = omega arith
    here false false x y k = omega arith

    there : (a b x y : ℕ) → a ≤ b → x ≤ y + 1 → a + x ≤ b + y + 1
    there a b x y h k = omega arith

    go : (n ≡ c) ⊎ (n ≡ c → ⊥) → count_to js n ≤ count_to is n + 1 → one_if (js n) + count_to js n ≤ one_if (is n) + count_to is n + 1
    go (inl same) ih = here (js n) (is n) (count_to js n) (count_to is n) (count_more js is n (λ k l e. h k (λ f. apart k n l (f ∙ sym same)) e))
    go (inr ne) ih = there (one_if (js n)) (one_if (is n)) (count_to js n) (count_to is n) (one_more (js n) (is n) (h n ne)) ih

pub count_some : (is : ℕ → Bool) (c n : ℕ) → c < n → is c ≡ true → 0 < count_to is n
count_some is c n l h = go (count_to (λ k. false) n) (count_to is n) (count_without (λ k. false) is c n l refl h (λ k e. cc))
  where
    go : (a b : ℕ) → a + 1 ≤ b → 0 < b
    go a b h = omega arith

-- ---- of a list

abbrev pub count_in : {X : Type 0} → (X → Bool) → List X → ℕ
count_in is [] = 0
count_in is (x ∷ xs) = one_if (is x) + count_in is xs

pub in_push : {X : Type 0} (is : X → Bool) (xs : List X) (x : X) → count_in is (xs ++ x ∷ []) ≡ count_in is xs + one_if (is x)
in_push is [] x = plus (one_if (is x))
  where
    plus : (n : ℕ) → n + 0 ≡ 0 + n
    plus n = omega arith
in_push is (y ∷ ys) x = ap (λ (n : ℕ). one_if (is y) + n) (in_push is ys x) ∙ assoc (one_if (is y)) (count_in is ys) (one_if (is x))
  where
    assoc : (a b c : ℕ) → a + (b + c) ≡ a + b + c
    assoc a b c = omega arith

pub in_filter : {X : Type 0} (is keep : X → Bool) (xs : List X) → count_in is (filter keep xs) ≤ count_in is xs
in_filter is keep [] = omega arith
in_filter is keep (x ∷ xs) = go (keep x) (in_filter is keep xs)
  where
    go : (b : Bool) → count_in is (filter keep xs) ≤ count_in is xs → count_in is (cond b (x ∷ filter keep xs) (filter keep xs)) ≤ one_if (is x) + count_in is xs
    go true ih = omega arith
    go false ih = omega arith

-- one that passes is dropped
pub in_filter_less : {X : Type 0} (is keep : X → Bool) (xs : List X) → list_any (λ x. is x && not (keep x)) xs ≡ true → count_in is (filter keep xs) + 1 ≤ count_in is xs
in_filter_less is keep [] h = cc
in_filter_less is keep (x ∷ xs) h = go (is x) (keep x) refl h (in_filter is keep xs) (in_filter_less is keep xs)
  where
    same : (a b c : ℕ) → b + 1 ≤ c → a + b + 1 ≤ a + c
    same a b c h = omega arith

    one : (a b c : ℕ) → 1 ≤ a → b ≤ c → b + 1 ≤ a + c
    one a b c h k = omega arith

    more : (a b c : ℕ) → b + 1 ≤ c → b + 1 ≤ a + c
    more a b c h = omega arith

    is_one : (b : Bool) → b ≡ true → 1 ≤ one_if b
    is_one true e = omega arith
    is_one false e = cc

    go : (a b : Bool) → is x ≡ a → ((a && not b) || list_any (λ x. is x && not (keep x)) xs) ≡ true → count_in is (filter keep xs) ≤ count_in is xs
        → (list_any (λ x. is x && not (keep x)) xs ≡ true → count_in is (filter keep xs) + 1 ≤ count_in is xs)
        → count_in is (cond b (x ∷ filter keep xs) (filter keep xs)) + 1 ≤ one_if (is x) + count_in is xs
    go true true e h k ih = same (one_if (is x)) (count_in is (filter keep xs)) (count_in is xs) (ih h)
    go true false e h k ih = one (one_if (is x)) (count_in is (filter keep xs)) (count_in is xs) (is_one (is x) e) k
    go false true e h k ih = same (one_if (is x)) (count_in is (filter keep xs)) (count_in is xs) (ih h)
    go false false e h k ih = more (one_if (is x)) (count_in is (filter keep xs)) (count_in is xs) (ih h)

pub in_map : {X : Type 0} (is : X → Bool) (f : X → X) → ((x : X) → is (f x) ≡ is x) → (xs : List X) → count_in is (map f xs) ≡ count_in is xs
in_map is f h [] = refl
in_map is f h (x ∷ xs) = ap (λ (b : Bool). one_if b + count_in is (map f xs)) (h x) ∙ ap (λ (n : ℕ). one_if (is x) + n) (in_map is f h xs)

pub in_some : {X : Type 0} (is : X → Bool) (xs : List X) → list_any is xs ≡ true → 0 < count_in is xs
in_some is [] h = cc
in_some is (x ∷ xs) h = go (is x) h (in_some is xs)
  where
    go : (b : Bool) → (b || list_any is xs) ≡ true → (list_any is xs ≡ true → 0 < count_in is xs) → 0 < one_if b + count_in is xs
    go true h ih = omega arith
    go false h ih = let k = ih h in omega arith
