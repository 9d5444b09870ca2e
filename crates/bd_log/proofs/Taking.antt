-- Taking the first entry of all, again and again, gives the merge.
use Rattle.std.proofs.Common.{◌≡◌, ℕ, ◌+◌, ◌<◌, ◌≤◌, false, ◌==◌, ◌⊎◌, inl, inr, List, [], ◌∷◌, ◌++◌, length, get_or, set, All, Contains, Option, Some, None, MatchOption, add-one, refl, sym, ◌∙◌, ap, ap₂, subst, append-nil, append_assoc, get_or-set_same, get_or-set_other, arith}
use Rattle.std.specs.List.{AllByRecursion, sum_by}
use Rattle.std.proofs.lemmas.Bool.{cases_eq, cases_lt}
use Rattle.std.proofs.lemmas.List.{length-map, length-set, get_or-map, get_or_default}
use Rattle.std.proofs.lemmas.List.Elements.{filter-append}
use Rattle.std.proofs.lemmas.List.Sums.{sum_by-set}
use Rattle.bd_base.specs.declared.act.Entry.{Entry}
use Rattle.bd_log.specs.Firsts.{IsNotBefore}
use Rattle.bd_log.specs.Merge.{Part, threads_of, IsPart, Rises, IsBefore, IsOrdered, entries_of, IsMerge, AreOfDifferentThreads, head_before}
use Rattle.bd_log.proofs.Order.{all_map, all_both, all_append, all_any, before_trans, is_before-false, ordered_append}
use Rattle.bd_log.proofs.Parts.{entries_of-same, entries_of-other}

-- the first entry of all was taken from the part that had it
pub record TakesFirst (old : List Part) (x : Entry) (new : List Part) : Type 0 where
  pub place : ℕ
  pub rest : List Entry
  pub within : place < length old
  pub head : (d : Part) → get_or old place d ≡ record { thread = x.thread; entries = x ∷ rest }
  pub left : new ≡ set old place (record { thread = x.thread; entries = rest })
  pub first : All (λ p. AllByRecursion (IsBefore x) p.entries) new

-- what was taken so far, and what is left of the parts
pub record Merges (given left : List Part) (out : List Entry) : Type 0 where
  pub size : length left ≡ length given
  pub threads : (k : ℕ) (d : Part) → (get_or left k d).thread ≡ (get_or given k d).thread
  pub split : (k : ℕ) (d : Part) → k < length given → entries_of (get_or given k d).thread out ++ (get_or left k d).entries ≡ (get_or given k d).entries
  pub ordered : IsOrdered out
  pub before : (k : ℕ) (d : Part) → k < length left → AllByRecursion (λ y. AllByRecursion (λ x. IsBefore x y) out) (get_or left k d).entries
  pub known : AllByRecursion (λ x. Contains (threads_of given) x.thread) out

pub merges_start : (given : List Part) → Merges given given []
merges_start given = record {
  size = refl;
  threads = λ k d. refl;
  split = λ k d h. refl;
  ordered = tt;
  before = λ k d h. all_any (λ y. AllByRecursion (λ x. IsBefore x y) []) (get_or given k d).entries (λ y. tt);
  known = tt;
}

pub merges_end : (given left : List Part) (out : List Entry) → All (λ p. p.entries ≡ []) left → Merges given left out → IsMerge given out
merges_end given left out none m = record {
  ordered = m.ordered;
  own = λ k d h.
      let there : k < length left = omega (arith, m.size, h) in
      sym (append-nil (entries_of (get_or given k d).thread out))
      ∙ ap (λ (zs : List Entry). entries_of (get_or given k d).thread out ++ zs) (sym (none k d there))
      ∙ m.split k d h;
  known = m.known;
}

-- the threads of the parts that are left are those of the parts given
pub left_different : (given left : List Part) (out : List Entry) → Merges given left out → AreOfDifferentThreads given → AreOfDifferentThreads left
left_different given left out m h i j d lt within e = h i j d lt (omega (arith, m.size, within)) (sym (m.threads i d) ∙ e ∙ m.threads j d)

different : (parts : List Part) (i j : ℕ) (d : Part) → AreOfDifferentThreads parts → (i ≡ j → ⊥) → i < length parts → j < length parts → (get_or parts i d).thread ≡ (get_or parts j d).thread → ⊥
different parts i j d h ne li lj e = go (cases_lt i j)
  where
    go : (i < j) ⊎ (j ≤ i) → ⊥
    go (inl lt) = h i j d lt lj e
    go (inr le) = h j i d (omega (arith, le, ne)) li (sym e)

-- one entry more
pub merges_step : (given left left' : List Part) (x : Entry) (out : List Entry) → AreOfDifferentThreads given → Merges given left out → TakesFirst left x left' → Merges given left' (out ++ x ∷ [])
merges_step given left left' x out apart m t = record {
  size = ap length t.left ∙ length-set left t.place now ∙ m.size;
  threads = λ k d. thread_kept k d (cases_eq k t.place) ∙ m.threads k d;
  split = λ k d h. split k d h (cases_eq k t.place);
  ordered = ordered_append out (x ∷ []) m.ordered (tt, tt) (all_map (λ z. IsBefore z x) (λ z. AllByRecursion (IsBefore z) (x ∷ [])) out (λ z b. (b, tt)) before_x.0);
  before = λ k d h. all_both (λ y. AllByRecursion (λ z. IsBefore z y) out) (IsBefore x) (λ y. AllByRecursion (λ z. IsBefore z y) (out ++ x ∷ [])) (get_or left' k d).entries (λ y b c. all_append (λ z. IsBefore z y) out (x ∷ []) b (c, tt)) (still k d (cases_eq k t.place) h) (t.first k d h);
  known = all_append (λ z. Contains (threads_of given) z.thread) out (x ∷ []) m.known (known_x, tt);
}
  where
    now : Part
    now = record { thread = x.thread; entries = t.rest }

    of_x : (d : Part) → (get_or left t.place d).thread ≡ x.thread
    of_x d = ap (λ (p : Part). p.thread) (t.head d)

    at_place : (d : Part) → get_or left' t.place d ≡ now
    at_place d = ap (λ (ps : List Part). get_or ps t.place d) t.left ∙ get_or-set_same left t.place now d t.within

    elsewhere : (k : ℕ) (d : Part) → (k ≡ t.place → ⊥) → get_or left' k d ≡ get_or left k d
    elsewhere k d ne = ap (λ (ps : List Part). get_or ps k d) t.left ∙ get_or-set_other left t.place k now d ne

    thread_kept : (k : ℕ) (d : Part) → (k ≡ t.place) ⊎ (k ≡ t.place → ⊥) → (get_or left' k d).thread ≡ (get_or left k d).thread
    thread_kept k d (inl e) = subst (λ (i : ℕ). (get_or left' i d).thread ≡ (get_or left i d).thread) (sym e) (ap (λ (p : Part). p.thread) (at_place d) ∙ sym (of_x d))
    thread_kept k d (inr ne) = ap (λ (p : Part). p.thread) (elsewhere k d ne)

    given_place : t.place < length given
    given_place = omega (arith, m.size, t.within)

    given_x : (d : Part) → (get_or given t.place d).thread ≡ x.thread
    given_x d = sym (m.threads t.place d) ∙ of_x d

    added : (u : ℕ) → entries_of u (out ++ x ∷ []) ≡ entries_of u out ++ entries_of u (x ∷ [])
    added u = filter-append (λ z. z.thread == u) out (x ∷ [])

    split : (k : ℕ) (d : Part) → k < length given → (k ≡ t.place) ⊎ (k ≡ t.place → ⊥) → entries_of (get_or given k d).thread (out ++ x ∷ []) ++ (get_or left' k d).entries ≡ (get_or given k d).entries
    split k d h (inl e) =
        let u : ℕ = (get_or given t.place d).thread in
        let mine : entries_of u (out ++ x ∷ []) ≡ entries_of u out ++ x ∷ [] = added u ∙ ap (λ (zs : List Entry). entries_of u out ++ zs) (entries_of-same u x [] (sym (given_x d))) in
        subst (λ (i : ℕ). entries_of (get_or given i d).thread (out ++ x ∷ []) ++ (get_or left' i d).entries ≡ (get_or given i d).entries) (sym e)
        (ap₂ (λ (as' bs : List Entry). as' ++ bs) mine (ap (λ (p : Part). p.entries) (at_place d))
        ∙ append_assoc (entries_of u out) (x ∷ []) t.rest
        ∙ ap (λ (zs : List Entry). entries_of u out ++ zs) (sym (ap (λ (p : Part). p.entries) (t.head d)))
        ∙ m.split t.place d given_place)
    split k d h (inr ne) =
        let u : ℕ = (get_or given k d).thread in
        let other : x.thread ≡ u → ⊥ = λ e. different given t.place k d apart (λ same. ne (sym same)) given_place h (given_x d ∙ e) in
        let same : entries_of u (out ++ x ∷ []) ≡ entries_of u out = added u ∙ ap (λ (zs : List Entry). entries_of u out ++ zs) (entries_of-other u x [] other) ∙ append-nil (entries_of u out) in
        ap₂ (λ (as' bs : List Entry). as' ++ bs) same (ap (λ (p : Part). p.entries) (elsewhere k d ne)) ∙ m.split k d h

    before_at : (d : Part) → AllByRecursion (λ y. AllByRecursion (λ z. IsBefore z y) out) (x ∷ t.rest)
    before_at d = subst (λ (p : Part). AllByRecursion (λ y. AllByRecursion (λ z. IsBefore z y) out) p.entries) (t.head d) (m.before t.place d t.within)

    before_x : AllByRecursion (λ y. AllByRecursion (λ z. IsBefore z y) out) (x ∷ t.rest)
    before_x = before_at now

    still : (k : ℕ) (d : Part) → (k ≡ t.place) ⊎ (k ≡ t.place → ⊥) → k < length left' → AllByRecursion (λ y. AllByRecursion (λ z. IsBefore z y) out) (get_or left' k d).entries
    still k d (inl e) h = subst (λ (i : ℕ). AllByRecursion (λ y. AllByRecursion (λ z. IsBefore z y) out) (get_or left' i d).entries) (sym e) (subst (λ (p : Part). AllByRecursion (λ y. AllByRecursion (λ z. IsBefore z y) out) p.entries) (sym (at_place d)) before_x.1)
    still k d (inr ne) h =
        let there : k < length left = omega (arith, h, ap length t.left, length-set left t.place now) in
        subst (λ (p : Part). AllByRecursion (λ y. AllByRecursion (λ z. IsBefore z y) out) p.entries) (sym (elsewhere k d ne)) (m.before k d there)

    known_x : Contains (threads_of given) x.thread
    known_x = (t.place, omega (arith, given_place, length-map given (λ p. p.thread)), get_or-map (λ (p : Part). p.thread) given t.place now x.thread given_place ∙ given_x now)

-- x is before all of a part of another thread whose head does not come before it
after_head : (x : Entry) (rest ys : List Entry) (t : ℕ) → (x.thread ≡ t → ⊥) → AllByRecursion (λ y. y.thread ≡ t) ys → Rises ys → head_before ys (x ∷ rest) ≡ false → AllByRecursion (IsBefore x) ys
after_head x rest [] t ne of rises h = tt
after_head x rest (y ∷ ys) t ne of rises h =
    let b : IsBefore x y = is_before-false y x h (λ e. ne (sym e ∙ of.0)) in
    (b, all_map (λ z. y.stamp < z.stamp) (IsBefore x) ys (λ z lt. before_trans x y z b (inl lt)) rises.0)

no_head : (ys : List Entry) → head_before ys [] ≡ false → ys ≡ []
no_head [] h = refl
no_head (y ∷ ys) h = cc

-- what the part with the least head gives
pub taken : (parts : List Part) (first : ℕ) (part now : Part) (r : Option Entry) → AreOfDifferentThreads parts → first < length parts → All IsPart parts → ((j : ℕ) (d : Part) → j < length parts → head_before (get_or parts j d).entries (get_or parts first d).entries ≡ false) → part ≡ get_or parts first part → now.thread ≡ part.thread → MatchOption r ((part.entries ≡ []) × (now ≡ part)) (λ x. part.entries ≡ x ∷ now.entries) → MatchOption r (All (λ p. p.entries ≡ []) parts) (λ x. TakesFirst parts x (set parts first now))
taken parts first part now None apart within are least is same e =
    λ k d h. no_head (get_or parts k d).entries
    (ap (λ (zs : List Entry). head_before (get_or parts k d).entries zs) (sym (ap (λ (p : Part). p.entries) (get_or_default parts first d part within ∙ sym is) ∙ e.0)) ∙ least k d h)
taken parts first part now (Some x) apart within are least is same e = record {
  place = first;
  rest = now.entries;
  within = within;
  head = λ d. get_or_default parts first d part within ∙ sym is ∙ ap₂ make (sym x_thread) e;
  left = ap (λ (p : Part). set parts first p) (ap (λ (t : ℕ). make t now.entries) (same ∙ sym x_thread));
  first = λ k d h. go k d (omega (arith, h, length-set parts first now)) (cases_eq k first);
}
  where
    make : ℕ → List Entry → Part
    make t zs = record { thread = t; entries = zs }

    whole : IsPart part
    whole = subst IsPart (sym is) (are first part within)

    whole_x : AllByRecursion (λ y. y.thread ≡ part.thread) (x ∷ now.entries) × Rises (x ∷ now.entries)
    whole_x = subst (λ (zs : List Entry). AllByRecursion (λ y. y.thread ≡ part.thread) zs × Rises zs) e whole

    x_thread : x.thread ≡ part.thread
    x_thread = whole_x.0.0

    go : (k : ℕ) (d : Part) → k < length parts → (k ≡ first) ⊎ (k ≡ first → ⊥) → AllByRecursion (IsBefore x) (get_or (set parts first now) k d).entries
    go k d h (inl same') =
        subst (λ (i : ℕ). AllByRecursion (IsBefore x) (get_or (set parts first now) i d).entries) (sym same')
        (subst (λ (p : Part). AllByRecursion (IsBefore x) p.entries) (sym (get_or-set_same parts first now d within))
        (all_map (λ y. x.stamp < y.stamp) (IsBefore x) now.entries (λ y lt. inl lt) whole_x.1.0))
    go k d h (inr ne) =
        let q : Part = get_or parts k d in
        let at : get_or parts first d ≡ part = get_or_default parts first d part within ∙ sym is in
        let other : x.thread ≡ q.thread → ⊥ = λ e'. different parts k first d apart ne h within (sym e' ∙ x_thread ∙ sym (ap (λ (p : Part). p.thread) at)) in
        let no : head_before q.entries (x ∷ now.entries) ≡ false = ap (λ (zs : List Entry). head_before q.entries zs) (sym (ap (λ (p : Part). p.entries) at ∙ e)) ∙ least k d h in
        subst (λ (p : Part). AllByRecursion (IsBefore x) p.entries) (sym (get_or-set_other parts first k now d ne))
        (after_head x now.entries q.entries q.thread other (are k d h).0 (are k d h).1 no)

-- the same, as the first of all is known by its place
pub took : (left : List Part) (first : ℕ) (d now : Part) (r : Option Entry) → AreOfDifferentThreads left → first < length left → All IsPart left → ((j : ℕ) → j < length left → IsNotBefore left j first) → now.thread ≡ (get_or left first d).thread → MatchOption r (((get_or left first d).entries ≡ []) × (now ≡ get_or left first d)) (λ x. (get_or left first d).entries ≡ x ∷ now.entries) → MatchOption r (All (λ p. p.entries ≡ []) left) (λ x. TakesFirst left x (set left first now))
took left first d now r apart within are least same e =
    let part : Part = get_or left first d in
    taken left first part now r apart within are (λ j d' h. least j h d') (get_or_default left first d part within) same e

-- one entry fewer is left
pub left_fewer : (old new : List Part) (x : Entry) → TakesFirst old x new → sum_by (λ p. length p.entries) new + 1 ≡ sum_by (λ p. length p.entries) old
left_fewer old new x t =
    let size : Part → ℕ = λ p. length p.entries in
    let now : Part = record { thread = x.thread; entries = t.rest } in
    let swapped = sum_by-set size old t.place now now t.within in
    let was : length (get_or old t.place now).entries ≡ length t.rest + 1 = ap size (t.head now) ∙ sym (add-one (length t.rest)) in
    let is : sum_by size new ≡ sum_by size (set old t.place now) = ap (λ (ps : List Part). sum_by size ps) t.left in
    omega (arith, swapped, was, is)
