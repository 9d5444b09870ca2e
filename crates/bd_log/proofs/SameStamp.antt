-- The entries of one stamp, taken from the parts in order of their threads.
use Rattle.std.proofs.Common.{◌≡◌, ℕ, ◌+◌, ◌<◌, ◌≤◌, Bool, true, false, ◌⊎◌, inl, inr, List, [], ◌∷◌, length, get_or, set, All, refl, sym, ◌∙◌, ap, subst, get_or-set_same, get_or-set_other, arith}
use Rattle.std.specs.List.{AllByRecursion}
use Rattle.std.proofs.lemmas.Bool.{cases_eq, cases_lt}
use Rattle.std.proofs.lemmas.Grind.{common_steps}
use Rattle.std.proofs.lemmas.List.{length-set, get_or_default}
use Rattle.bd_base.specs.declared.act.Entry.{Entry}
use Rattle.bd_log.specs.Firsts.{AreByThread, IsNotBefore}
use Rattle.bd_log.specs.FirstStamp.{BeginsElsewhere}
use Rattle.bd_log.specs.Merge.{Part, IsPart, Rises, IsBefore, head_before, is_before}
use Rattle.bd_log.proofs.Order.{all_map, all_both, is_before-true}

-- no entry has a lesser stamp, and none of the parts before the place, of those that stand in order, has this one
pub record IsPast (parts : List Part) (stamp place count : ℕ) : Type 0 where
  pub least : (j : ℕ) (d : Part) → j < length parts → AllByRecursion (λ y. stamp ≤ y.stamp) (get_or parts j d).entries
  pub above : (j : ℕ) (d : Part) → j < place → j < count → j < length parts → AllByRecursion (λ y. stamp < y.stamp) (get_or parts j d).entries

no_lesser : (x y : Entry) → IsBefore x y → x.stamp ≤ y.stamp
no_lesser x y (inl h) = omega arith
no_lesser x y (inr h) = omega arith

greater : (x y : Entry) → IsBefore x y → y.thread ≤ x.thread → x.stamp < y.stamp
greater x y (inl h) le = h
greater x y (inr h) le = absurd (omega arith)

-- the first of all was taken, and all that are left come after it
pub past_start : (left : List Part) (first count : ℕ) (d now : Part) (x : Entry) → first < length left → AreByThread count left → IsPart (get_or left first d) → All IsPart (set left first now) → now.thread ≡ (get_or left first d).thread → (get_or left first d).entries ≡ x ∷ now.entries → All (λ p. AllByRecursion (IsBefore x) p.entries) (set left first now) → IsPast (set left first now) x.stamp (first + 1) count
past_start left first count d now x within by_thread is are same e after = record {
  least = λ j d' lt. all_map (IsBefore x) (λ y. x.stamp ≤ y.stamp) (get_or (set left first now) j d').entries (no_lesser x) (after j d' lt);
  above = λ j d' h h' lt. all_both (λ y. y.thread ≡ (get_or (set left first now) j d').thread) (IsBefore x) (λ y. x.stamp < y.stamp) (get_or (set left first now) j d').entries (λ y t b. greater x y b (omega (arith, t, no_later j d' h h' (cases_eq j first)))) (are j d' lt).0 (after j d' lt);
}
  where
    whole : AllByRecursion (λ y. y.thread ≡ (get_or left first d).thread) (x ∷ now.entries)
    whole = subst (λ (zs : List Entry). AllByRecursion (λ y. y.thread ≡ (get_or left first d).thread) zs) e is.0

    x_thread : x.thread ≡ (get_or left first d).thread
    x_thread = whole.0

    no_later : (j : ℕ) (d' : Part) → j < first + 1 → j < count → (j ≡ first) ⊎ (j ≡ first → ⊥) → (get_or (set left first now) j d').thread ≤ x.thread
    no_later j d' h h' (inl at) =
        let here : (get_or (set left first now) first d').thread ≡ now.thread = ap (λ (p : Part). p.thread) (get_or-set_same left first now d' within) in
        subst (λ (i : ℕ). (get_or (set left first now) i d').thread ≤ x.thread) (sym at) (omega (arith, here, same, x_thread))
    no_later j d' h h' (inr ne) =
        let there : (get_or (set left first now) j d').thread ≡ (get_or left j d').thread = ap (λ (p : Part). p.thread) (get_or-set_other left first j now d' ne) in
        let mine : (get_or left first d').thread ≡ (get_or left first d).thread = ap (λ (p : Part). p.thread) (get_or_default left first d' d within) in
        let lt : (get_or left j d').thread < (get_or left first d').thread = by_thread j first d' h' (omega (arith, h, ne)) within in
        omega (arith, there, mine, lt, x_thread)

not_before : (y x : Entry) → (IsBefore y x → ⊥) → is_before y x ≡ false
not_before y x ne = go (is_before y x) refl
  where
    go : (b : Bool) → is_before y x ≡ b → b ≡ false
    go true e = absurd (ne (is_before-true y x e))
    go false e = refl

-- a list of which no entry comes before this one
none_before : (x : Entry) (rest ys : List Entry) → AllByRecursion (λ y. IsBefore y x → ⊥) ys → head_before ys (x ∷ rest) ≡ false
none_before x rest [] h = refl
none_before x rest (y ∷ ys) h = not_before y x h.0

not_before_itself : (xs : List Entry) → head_before xs xs ≡ false
not_before_itself [] = refl
not_before_itself (x ∷ xs) = grind (arith, common_steps)

of_greater : (x y : Entry) → x.stamp < y.stamp → IsBefore y x → ⊥
of_greater x y lt (inl h) = omega arith
of_greater x y lt (inr h) = omega arith

of_later : (x y : Entry) → x.stamp ≤ y.stamp → x.thread < y.thread → IsBefore y x → ⊥
of_later x y le lt (inl h) = omega arith
of_later x y le lt (inr h) = omega arith

-- the part at the place, where its first entry has the stamp, comes first of all
pub first_here : (left : List Part) (stamp place count : ℕ) (d : Part) (x : Entry) (rest : List Entry) → place < count → place < length left → AreByThread count left → All IsPart left → IsPast left stamp place count → x.stamp ≡ stamp → (get_or left place d).entries ≡ x ∷ rest → (j : ℕ) → j < length left → IsNotBefore left j place
first_here left stamp place count d x rest listed within by_thread are past at e j lt d' = go (cases_eq j place) (cases_lt j place)
  where
    here : get_or left place d' ≡ get_or left place d
    here = get_or_default left place d' d within

    whole : AllByRecursion (λ y. y.thread ≡ (get_or left place d').thread) (x ∷ rest)
    whole = subst (λ (zs : List Entry). AllByRecursion (λ y. y.thread ≡ (get_or left place d').thread) zs) (ap (λ (p : Part). p.entries) here ∙ e) (are place d' within).0

    x_thread : x.thread ≡ (get_or left place d').thread
    x_thread = whole.0

    of_x : AllByRecursion (λ y. IsBefore y x → ⊥) (get_or left j d').entries → head_before (get_or left j d').entries (get_or left place d').entries ≡ false
    of_x none = subst (λ (zs : List Entry). head_before (get_or left j d').entries zs ≡ false) (sym (ap (λ (p : Part). p.entries) here ∙ e)) (none_before x rest (get_or left j d').entries none)

    go : (j ≡ place) ⊎ (j ≡ place → ⊥) → (j < place) ⊎ (place ≤ j) → head_before (get_or left j d').entries (get_or left place d').entries ≡ false
    go (inl same) k = subst (λ (i : ℕ). head_before (get_or left i d').entries (get_or left place d').entries ≡ false) (sym same) (not_before_itself (get_or left place d').entries)
    go (inr ne) (inl sooner) = of_x (all_map (λ y. stamp < y.stamp) (λ y. IsBefore y x → ⊥) (get_or left j d').entries (λ y h. of_greater x y (omega (arith, h, at))) (past.above j d' sooner (omega (arith, sooner, listed)) lt))
    go (inr ne) (inr le) =
        let later : (get_or left place d').thread < (get_or left j d').thread = by_thread place j d' listed (omega (arith, le, ne)) lt in
        of_x (all_both (λ y. stamp ≤ y.stamp) (λ y. y.thread ≡ (get_or left j d').thread) (λ y. IsBefore y x → ⊥) (get_or left j d').entries (λ y h t. of_later x y (omega (arith, h, at)) (omega (arith, t, later, x_thread))) (past.least j d' lt) (are j d' lt).0)

-- a list without an entry of the least stamp at its beginning has none
pub all_above : (stamp : ℕ) (ys : List Entry) → Rises ys → AllByRecursion (λ y. stamp ≤ y.stamp) ys → BeginsElsewhere stamp ys → AllByRecursion (λ y. stamp < y.stamp) ys
all_above stamp [] rises least other = tt
all_above stamp (y ∷ ys) rises least other =
    let lt : stamp < y.stamp = omega (arith, least.0, other) in
    (lt, all_map (λ z. y.stamp < z.stamp) (λ z. stamp < z.stamp) ys (λ z h. omega (arith, lt, h)) rises.0)

-- what is left after an entry of the stamp
pub rest_above : (stamp : ℕ) (ys rest : List Entry) (x : Entry) → Rises ys → x.stamp ≡ stamp → ys ≡ x ∷ rest → AllByRecursion (λ y. stamp < y.stamp) rest
rest_above stamp ys rest x rises at e =
    let whole : Rises (x ∷ rest) = subst Rises e rises in
    subst (λ (s : ℕ). AllByRecursion (λ y. s < y.stamp) rest) at whole.0

-- one place more, whose part has no entry of the stamp now
pub past_more : (left : List Part) (stamp place count : ℕ) (now : Part) → place < length left → IsPast left stamp place count → AllByRecursion (λ y. stamp < y.stamp) now.entries → IsPast (set left place now) stamp (place + 1) count
past_more left stamp place count now within past above = record {
  least = λ j d lt. least j d (omega (arith, lt, length-set left place now)) (cases_eq j place);
  above = λ j d h h' lt. greater_at j d h h' (omega (arith, lt, length-set left place now)) (cases_eq j place);
}
  where
    here : (P : Entry → Type 0) (j : ℕ) (d : Part) → j ≡ place → AllByRecursion P now.entries → AllByRecursion P (get_or (set left place now) j d).entries
    here P j d e h = subst (λ (i : ℕ). AllByRecursion P (get_or (set left place now) i d).entries) (sym e) (subst (λ (p : Part). AllByRecursion P p.entries) (sym (get_or-set_same left place now d within)) h)

    there : (P : Entry → Type 0) (j : ℕ) (d : Part) → (j ≡ place → ⊥) → AllByRecursion P (get_or left j d).entries → AllByRecursion P (get_or (set left place now) j d).entries
    there P j d ne h = subst (λ (p : Part). AllByRecursion P p.entries) (sym (get_or-set_other left place j now d ne)) h

    least : (j : ℕ) (d : Part) → j < length left → (j ≡ place) ⊎ (j ≡ place → ⊥) → AllByRecursion (λ y. stamp ≤ y.stamp) (get_or (set left place now) j d).entries
    least j d lt (inl e) = here (λ y. stamp ≤ y.stamp) j d e (all_map (λ y. stamp < y.stamp) (λ y. stamp ≤ y.stamp) now.entries (λ y h. omega (arith, h)) above)
    least j d lt (inr ne) = there (λ y. stamp ≤ y.stamp) j d ne (past.least j d lt)

    greater_at : (j : ℕ) (d : Part) → j < place + 1 → j < count → j < length left → (j ≡ place) ⊎ (j ≡ place → ⊥) → AllByRecursion (λ y. stamp < y.stamp) (get_or (set left place now) j d).entries
    greater_at j d h h' lt (inl e) = here (λ y. stamp < y.stamp) j d e above
    greater_at j d h h' lt (inr ne) = there (λ y. stamp < y.stamp) j d ne (past.above j d (omega (arith, h, ne)) h' lt)
