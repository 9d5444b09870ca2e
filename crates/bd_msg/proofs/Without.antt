-- The first place of an id in a list, and the list without it.
use Rattle.std.proofs.Common.{◌≡◌, ℕ, ◌+◌, ◌<◌, ◌≤◌, Bool, true, false, not, cond, ◌==◌, ◌&&◌, ◌⊎◌, inl, inr, List, [], ◌∷◌, ◌++◌, length, get_or, remove, position, Contains, Some, None, refl, sym, ◌∙◌, ap, ap₂, subst, eqb-true, eq-eqb, one-add, arith}
use Rattle.std.proofs.lemmas.Bool.{and_parts, cases_lt}
use Rattle.std.proofs.lemmas.Grind.{common_steps}
use Rattle.std.proofs.lemmas.List.{length-append}
use Rattle.std.proofs.lemmas.List.Sums.{passes_at_first, fails_before_first}
use Rattle.std.specs.List.{position_or_len}
use Rattle.bd_base.specs.declared.id.ReqId.{ReqId}
use Rattle.bd_msg.specs.Purse.{same_request, without}

abbrev is_at : ReqId → ReqId → Bool
is_at id x = same_request x id

same_request-true : (x id : ReqId) → same_request x id ≡ true → x ≡ id
same_request-true x id h =
    let p = and_parts (x.thread == id.thread) (x.seq == id.seq) h in
    let make : ℕ → ℕ → ReqId = λ t s. record { thread = t; seq = s } in
    ap₂ make (eqb-true x.thread id.thread p.0) (eqb-true x.seq id.seq p.1)

same_request-refl : (id : ReqId) → same_request id id ≡ true
same_request-refl id = ap₂ (λ a b. a && b) (eq-eqb id.thread id.thread refl) (eq-eqb id.seq id.seq refl)

-- the first place that has the id, or none where no place has it
pub position-some : (id : ReqId) (xs : List ReqId) (i : ℕ) → position (is_at id) xs ≡ Some i → (i ≡ position_or_len (is_at id) xs) × (position_or_len (is_at id) xs < length xs)
position-some id xs i h = go (cases_lt (position_or_len (is_at id) xs) (length xs)) h
  where
    go : (position_or_len (is_at id) xs < length xs) ⊎ (length xs ≤ position_or_len (is_at id) xs) → position (is_at id) xs ≡ Some i → (i ≡ position_or_len (is_at id) xs) × (position_or_len (is_at id) xs < length xs)
    go a k = grind (arith, common_steps)

pub position-at : (id : ReqId) (xs : List ReqId) (i : ℕ) (d : ReqId) → position (is_at id) xs ≡ Some i → get_or xs i d ≡ id
position-at id xs i d h =
    let p = position-some id xs i h in
    same_request-true (get_or xs i d) id (subst (λ (n : ℕ). same_request (get_or xs n d) id ≡ true) (sym p.0) (passes_at_first (is_at id) xs d p.1))

pub position-contains : (id : ReqId) (xs : List ReqId) (i : ℕ) → position (is_at id) xs ≡ Some i → Contains xs id
position-contains id xs i h =
    let p = position-some id xs i h in
    (i, omega arith, position-at id xs i id h)

pub position-none : (id : ReqId) (xs : List ReqId) → position (is_at id) xs ≡ None → ¬ Contains xs id
position-none id xs h c = go (cases_lt (position_or_len (is_at id) xs) (length xs)) h
  where
    go : (position_or_len (is_at id) xs < length xs) ⊎ (length xs ≤ position_or_len (is_at id) xs) → position (is_at id) xs ≡ None → ⊥
    go (inl a) k = grind (arith, common_steps)
    go (inr a) k =
        let fails : same_request (get_or xs c.0 id) id ≡ false = fails_before_first (is_at id) xs c.0 id (omega (arith, c.1)) in
        let self : same_request id id ≡ false = subst (λ (x : ReqId). same_request x id ≡ false) c.2 fails in
        let true_too = same_request-refl id in
        cc

remove-first : (id : ReqId) (xs : List ReqId) → position_or_len (is_at id) xs < length xs → remove xs (position_or_len (is_at id) xs) ≡ without id xs
remove-first id [] k = absurd (omega arith)
remove-first id (y ∷ ys) k = at (same_request y id) refl k (remove-first id ys)
  where
    at : (b : Bool) → same_request y id ≡ b → cond (not b) (1 + position_or_len (is_at id) ys) 0 < length (y ∷ ys) → (position_or_len (is_at id) ys < length ys → remove ys (position_or_len (is_at id) ys) ≡ without id ys) → remove (y ∷ ys) (cond (not b) (1 + position_or_len (is_at id) ys) 0) ≡ cond b ys (y ∷ without id ys)
    at true e l more = refl
    at false e l more =
        let ih = more (omega (arith, l)) in
        ap (λ n. remove (y ∷ ys) n) (one-add (position_or_len (is_at id) ys)) ∙ ap (λ zs. y ∷ zs) ih

pub remove-position : (id : ReqId) (xs : List ReqId) (i : ℕ) → position (is_at id) xs ≡ Some i → remove xs i ≡ without id xs
remove-position id xs i h =
    let p = position-some id xs i h in
    subst (λ (n : ℕ). remove xs n ≡ without id xs) (sym p.0) (remove-first id xs p.1)

-- the first place in two lists, one after the other
over-first : (p : ReqId → Bool) (xs ys : List ReqId) → position_or_len p xs < length xs → position_or_len p (xs ++ ys) ≡ position_or_len p xs
over-first p [] ys k = absurd (omega arith)
over-first p (x ∷ xs) ys k = at (p x) k (over-first p xs ys)
  where
    at : (b : Bool) → cond (not b) (1 + position_or_len p xs) 0 < length (x ∷ xs) → (position_or_len p xs < length xs → position_or_len p (xs ++ ys) ≡ position_or_len p xs)
        → cond (not b) (1 + position_or_len p (xs ++ ys)) 0 ≡ cond (not b) (1 + position_or_len p xs) 0
    at true l more = refl
    at false l more = ap (λ (n : ℕ). 1 + n) (more (omega (arith, l)))

over-later : (p : ReqId → Bool) (xs ys : List ReqId) → length xs ≤ position_or_len p xs → position_or_len p (xs ++ ys) ≡ length xs + position_or_len p ys
over-later p [] ys k = omega arith
over-later p (x ∷ xs) ys k = at (p x) k (over-later p xs ys)
  where
    at : (b : Bool) → length (x ∷ xs) ≤ cond (not b) (1 + position_or_len p xs) 0 → (length xs ≤ position_or_len p xs → position_or_len p (xs ++ ys) ≡ length xs + position_or_len p ys)
        → cond (not b) (1 + position_or_len p (xs ++ ys)) 0 ≡ length (x ∷ xs) + position_or_len p ys
    at true l more = absurd (omega (arith, l))
    at false l more = let ih = more (omega (arith, l)) in omega (arith, ih)

pub position-first : (id : ReqId) (xs ys : List ReqId) (i : ℕ) → position (is_at id) xs ≡ Some i → position (is_at id) (xs ++ ys) ≡ Some i
position-first id xs ys i h =
    let p = position-some id xs i h in
    let over = over-first (is_at id) xs ys p.1 in
    grind (arith, common_steps)

pub position-later : (id : ReqId) (xs ys : List ReqId) (j : ℕ) → position (is_at id) xs ≡ None → position (is_at id) ys ≡ Some j → position (is_at id) (xs ++ ys) ≡ Some (length xs + j)
position-later id xs ys j n h = go (cases_lt (position_or_len (is_at id) xs) (length xs)) n
  where
    go : (position_or_len (is_at id) xs < length xs) ⊎ (length xs ≤ position_or_len (is_at id) xs) → position (is_at id) xs ≡ None → position (is_at id) (xs ++ ys) ≡ Some (length xs + j)
    go (inl a) k = grind (arith, common_steps)
    go (inr a) k =
        let p = position-some id ys j h in
        let over = over-later (is_at id) xs ys a in
        let long = length-append xs ys in
        grind (arith, common_steps)

pub position-nowhere : (id : ReqId) (xs ys : List ReqId) → position (is_at id) xs ≡ None → position (is_at id) ys ≡ None → position (is_at id) (xs ++ ys) ≡ None
position-nowhere id xs ys n h = go (cases_lt (position_or_len (is_at id) xs) (length xs)) (cases_lt (position_or_len (is_at id) ys) (length ys)) n h
  where
    go : (position_or_len (is_at id) xs < length xs) ⊎ (length xs ≤ position_or_len (is_at id) xs) → (position_or_len (is_at id) ys < length ys) ⊎ (length ys ≤ position_or_len (is_at id) ys)
        → position (is_at id) xs ≡ None → position (is_at id) ys ≡ None → position (is_at id) (xs ++ ys) ≡ None
    go (inl a) b k l = grind (arith, common_steps)
    go (inr a) (inl b) k l = grind (arith, common_steps)
    go (inr a) (inr b) k l =
        let over = over-later (is_at id) xs ys a in
        let long = length-append xs ys in
        grind (arith, common_steps)
