-- Marking the entries of parts, and taking the entries of each stamp by the marks.
use Rattle.std.proofs.Common.{◌≡◌, ◌≢◌, ℕ, ◌+◌, ◌-◌, ◌<◌, ◌≤◌, ◌⊎◌, inl, inr, List, [], ◌∷◌, length, get_or, set, All, refl, sym, ◌∙◌, ap, subst, get_or-set_same, get_or-set_other, arith}
use Rattle.std.specs.List.{AllByRecursion}
use Rattle.std.specs.Int.{bit_at}
use Rattle.std.proofs.lemmas.Bool.{cases_eq, cases_lt}
use Rattle.std.proofs.lemmas.List.{length-set, get_or_default}
use Rattle.std.proofs.lemmas.Nat.Bits.{bit_at-zero}
use Rattle.bd_base.specs.declared.act.Entry.{Entry}
use Rattle.bd_base.specs.declared.thread_set.ThreadSet.{ThreadSet}
use Rattle.bd_base.specs.ThreadSet.{Has, IsFirst}
use Rattle.bd_log.specs.Merge.{Part, IsPart}
use Rattle.bd_log.specs.Places.{IsMarked, Grows, AreMarkedUpTo, AreMarked}
use Rattle.bd_log.proofs.Order.{all_map, all_both}
use Rattle.bd_log.proofs.SameStamp.{IsPast}

-- ---- marking

pub grows_same : (sets : List ThreadSet) → Grows sets sets
grows_same sets = (refl, λ i k d h. h)

pub grows_then : (a b c : List ThreadSet) → Grows a b → Grows b c → Grows a c
grows_then a b c g h = (h.0 ∙ g.0, λ i k d x. h.1 i k d (g.1 i k d x))

-- one set has one place more
pub grows_set : (sets : List ThreadSet) (at place : ℕ) (d now : ThreadSet) → at < length sets → bit_at now.0 place ≡ 1 → ((k : ℕ) → k ≢ place → bit_at now.0 k ≡ bit_at (get_or sets at d).0 k) → Grows sets (set sets at now)
grows_set sets at place d now within same others = (length-set sets at now, λ i k d' h. go i k d' h (cases_eq i at) (cases_eq k place))
  where
    go : (i k : ℕ) (d' : ThreadSet) → Has (get_or sets i d').0 k → (i ≡ at) ⊎ (i ≡ at → ⊥) → (k ≡ place) ⊎ (k ≡ place → ⊥) → Has (get_or (set sets at now) i d').0 k
    go i k d' h (inr ne) q = subst (λ (s : ThreadSet). Has s.0 k) (sym (get_or-set_other sets at i now d' ne)) h
    go i k d' h (inl e) (inl p) =
        subst (λ (m : ℕ). Has (get_or (set sets at now) m d').0 k) (sym e)
        (subst (λ (s : ThreadSet). Has s.0 k) (sym (get_or-set_same sets at now d' within)) (subst (λ (m : ℕ). Has now.0 m) (sym p) same))
    go i k d' h (inl e) (inr ne) =
        let was : get_or sets at d' ≡ get_or sets at d = get_or_default sets at d' d within in
        let here : Has (get_or sets at d').0 k = subst (λ (m : ℕ). Has (get_or sets m d').0 k) e h in
        let there : Has (get_or sets at d).0 k = subst (λ (s : ThreadSet). Has s.0 k) was here in
        subst (λ (m : ℕ). Has (get_or (set sets at now) m d').0 k) (sym e)
        (subst (λ (s : ThreadSet). Has s.0 k) (sym (get_or-set_same sets at now d' within)) (others k ne ∙ there))

-- what was marked stays so
pub marked_on : (first place : ℕ) (a b : List ThreadSet) (xs : List Entry) → Grows a b → AllByRecursion (IsMarked first a place) xs → AllByRecursion (IsMarked first b place) xs
marked_on first place a b xs g h = all_map (IsMarked first a place) (IsMarked first b place) xs on h
  where
    on : (x : Entry) → IsMarked first a place x → IsMarked first b place x
    on x m = record { from = m.from; within = subst (λ (n : ℕ). x.stamp < first + n) (sym g.0) m.within; inside = λ d. g.1 (x.stamp - first) place d (m.inside d) }

-- the entry whose stamp's set was given the place
pub marked_now : (first at place : ℕ) (sets : List ThreadSet) (now : ThreadSet) (x : Entry) → at < length sets → x.stamp ≡ first + at → bit_at now.0 place ≡ 1 → IsMarked first (set sets at now) place x
marked_now first at place sets now x within is same = record {
  from = omega (arith, is);
  within = omega (arith, is, within, length-set sets at now);
  inside = λ d.
      let i : x.stamp - first ≡ at = omega (arith, is) in
      subst (λ (m : ℕ). Has (get_or (set sets at now) m d).0 place) (sym i) (subst (λ (s : ThreadSet). Has s.0 place) (sym (get_or-set_same sets at now d within)) same);
}

-- one part more
pub up_to_more : (first place : ℕ) (a b : List ThreadSet) (parts : List Part) (p : Part) → place < length parts → p ≡ get_or parts place p → Grows a b → AreMarkedUpTo place first a parts → IsPart p → AllByRecursion (IsMarked first b place) p.entries → AreMarkedUpTo (place + 1) first b parts
up_to_more first place a b parts p within at g before is now k d lt = go (cases_eq k place)
  where
    go : (k ≡ place) ⊎ (k ≡ place → ⊥) → IsPart (get_or parts k d) × AllByRecursion (IsMarked first b k) (get_or parts k d).entries
    go (inl e) =
        let same : p ≡ get_or parts place d = at ∙ get_or_default parts place p d within in
        subst (λ (m : ℕ). IsPart (get_or parts m d) × AllByRecursion (IsMarked first b m) (get_or parts m d).entries) (sym e)
        (subst (λ (q : Part). IsPart q × AllByRecursion (IsMarked first b place) q.entries) same (is, now))
    go (inr ne) =
        let was = before k d (omega (arith, lt, ne)) in
        (was.0, marked_on first k a b (get_or parts k d).entries g was.1)

-- ---- taking

-- no entry has a lesser stamp, and a part whose place isn't in the set has none of this one
pub record IsOpen (left : List Part) (stamp bits : ℕ) : Type 0 where
  pub least : (j : ℕ) (d : Part) → j < length left → AllByRecursion (λ y. stamp ≤ y.stamp) (get_or left j d).entries
  pub above : (j : ℕ) (d : Part) → (Has bits j → ⊥) → j < length left → AllByRecursion (λ y. stamp < y.stamp) (get_or left j d).entries

pub open_start : (left : List Part) (first stamp i : ℕ) (sets : List ThreadSet) (set : ThreadSet) → AreMarked first sets left → stamp ≡ first + i → i < length sets → set ≡ get_or sets i set → ((j : ℕ) (d : Part) → j < length left → AllByRecursion (λ y. stamp ≤ y.stamp) (get_or left j d).entries) → IsOpen left stamp set.0
open_start left first stamp i sets set marked at within is least = record {
  least = least;
  above = λ j d none lt. all_both (λ y. stamp ≤ y.stamp) (IsMarked first sets j) (λ y. stamp < y.stamp) (get_or left j d).entries (λ y le m. go j none y le m (cases_eq y.stamp stamp)) (least j d lt) (marked j d lt).1;
}
  where
    go : (j : ℕ) → (Has set.0 j → ⊥) → (y : Entry) → stamp ≤ y.stamp → IsMarked first sets j y → (y.stamp ≡ stamp) ⊎ (y.stamp ≡ stamp → ⊥) → stamp < y.stamp
    go j none y le m (inr ne) = omega (arith, le, ne)
    go j none y le m (inl e) =
        let index : y.stamp - first ≡ i = omega (arith, e, at) in
        let there : Has (get_or sets i set).0 j = subst (λ (n : ℕ). Has (get_or sets n set).0 j) index (m.inside set) in
        absurd (none (subst (λ (s : ThreadSet). Has s.0 j) (sym is) there))

-- the first of the set comes next
pub past_of : (left : List Part) (stamp bits place count : ℕ) → IsOpen left stamp bits → IsFirst bits place → IsPast left stamp place count
past_of left stamp bits place count o first = record { least = o.least; above = λ j d h h' lt. o.above j d (first.least j h) lt }

other_bit : (bits bits' place j : ℕ) → ((k : ℕ) → k ≢ place → bit_at bits' k ≡ bit_at bits k) → (j ≡ place → ⊥) → (Has bits' j → ⊥) → Has bits j → ⊥
other_bit bits bits' place j others ne none h = none (others j ne ∙ h)

-- the place is out of the set, and its part has no entry of the stamp now
pub open_more : (left : List Part) (stamp bits bits' place : ℕ) (now : Part) → place < length left → IsOpen left stamp bits → ((k : ℕ) → k ≢ place → bit_at bits' k ≡ bit_at bits k) → AllByRecursion (λ y. stamp < y.stamp) now.entries → IsOpen (set left place now) stamp bits'
open_more left stamp bits bits' place now within o others above = record {
  least = λ j d lt. least j d (omega (arith, lt, length-set left place now)) (cases_eq j place);
  above = λ j d none lt. greater_at j d none (omega (arith, lt, length-set left place now)) (cases_eq j place);
}
  where
    here : (P : Entry → Type 0) (j : ℕ) (d : Part) → j ≡ place → AllByRecursion P now.entries → AllByRecursion P (get_or (set left place now) j d).entries
    here P j d e h = subst (λ (i : ℕ). AllByRecursion P (get_or (set left place now) i d).entries) (sym e) (subst (λ (p : Part). AllByRecursion P p.entries) (sym (get_or-set_same left place now d within)) h)

    there : (P : Entry → Type 0) (j : ℕ) (d : Part) → (j ≡ place → ⊥) → AllByRecursion P (get_or left j d).entries → AllByRecursion P (get_or (set left place now) j d).entries
    there P j d ne h = subst (λ (p : Part). AllByRecursion P p.entries) (sym (get_or-set_other left place j now d ne)) h

    least : (j : ℕ) (d : Part) → j < length left → (j ≡ place) ⊎ (j ≡ place → ⊥) → AllByRecursion (λ y. stamp ≤ y.stamp) (get_or (set left place now) j d).entries
    least j d lt (inl e) = here (λ y. stamp ≤ y.stamp) j d e (all_map (λ y. stamp < y.stamp) (λ y. stamp ≤ y.stamp) now.entries (λ y h. omega (arith, h)) above)
    least j d lt (inr ne) = there (λ y. stamp ≤ y.stamp) j d ne (o.least j d lt)

    greater_at : (j : ℕ) (d : Part) → (Has bits' j → ⊥) → j < length left → (j ≡ place) ⊎ (j ≡ place → ⊥) → AllByRecursion (λ y. stamp < y.stamp) (get_or (set left place now) j d).entries
    greater_at j d none lt (inl e) = here (λ y. stamp < y.stamp) j d e above
    greater_at j d none lt (inr ne) = there (λ y. stamp < y.stamp) j d ne (o.above j d (other_bit bits bits' place j others ne none) lt)

-- the place that is out of the set has no part
pub open_past : (left : List Part) (stamp bits bits' place : ℕ) → length left ≤ place → IsOpen left stamp bits → ((k : ℕ) → k ≢ place → bit_at bits' k ≡ bit_at bits k) → IsOpen left stamp bits'
open_past left stamp bits bits' place beyond o others = record {
  least = o.least;
  above = λ j d none lt. o.above j d (other_bit bits bits' place j others (λ e. omega (arith, e, lt, beyond)) none) lt;
}

no_bit : (bits j : ℕ) → bits ≡ 0 → Has bits j → ⊥
no_bit bits j zero h =
    let is : bit_at bits j ≡ 0 = ap (λ (n : ℕ). bit_at n j) zero ∙ bit_at-zero j in
    omega (arith, is, h)

-- nothing is in the set: the next stamp is the least
pub next_least : (left : List Part) (stamp bits : ℕ) → bits ≡ 0 → IsOpen left stamp bits → (j : ℕ) (d : Part) → j < length left → AllByRecursion (λ y. stamp + 1 ≤ y.stamp) (get_or left j d).entries
next_least left stamp bits zero o j d lt = all_map (λ y. stamp < y.stamp) (λ y. stamp + 1 ≤ y.stamp) (get_or left j d).entries (λ y h. omega (arith, h)) (o.above j d (no_bit bits j zero) lt)

-- the places below the one that was taken out aren't in the set
pub passed_more : (bits bits' place past : ℕ) → IsFirst bits place → bit_at bits' place ≡ 0 → ((k : ℕ) → k ≢ place → bit_at bits' k ≡ bit_at bits k) → (k : ℕ) → k < place + 1 → Has bits' k → ⊥
passed_more bits bits' place past first same others k lt h = go (cases_eq k place)
  where
    go : (k ≡ place) ⊎ (k ≡ place → ⊥) → ⊥
    go (inl e) = let is : bit_at bits' k ≡ 0 = ap (λ (n : ℕ). bit_at bits' n) e ∙ same in omega (arith, is, h)
    go (inr ne) = first.least k (omega (arith, lt, ne)) (sym (others k ne) ∙ h)

-- the first of the set isn't below those that were passed
pub not_passed : (bits place past : ℕ) → IsFirst bits place → ((k : ℕ) → k < past → Has bits k → ⊥) → past ≤ place
not_passed bits place past first passed = go (cases_lt place past)
  where
    go : (place < past) ⊎ (past ≤ place) → past ≤ place
    go (inl lt) = absurd (passed place lt first.inside)
    go (inr le) = le

-- marks stay where the first entry of a part was taken
pub marked_taken : (first : ℕ) (sets : List ThreadSet) (left : List Part) (place : ℕ) (d now : Part) (x : Entry) → place < length left → AreMarked first sets left → IsPart now → (get_or left place d).entries ≡ x ∷ now.entries → AreMarked first sets (set left place now)
marked_taken first sets left place d now x within marked is e k d' lt = go (cases_eq k place)
  where
    whole : AllByRecursion (IsMarked first sets place) (x ∷ now.entries)
    whole = subst (AllByRecursion (IsMarked first sets place)) e (marked place d within).1

    go : (k ≡ place) ⊎ (k ≡ place → ⊥) → IsPart (get_or (set left place now) k d') × AllByRecursion (IsMarked first sets k) (get_or (set left place now) k d').entries
    go (inl same) =
        subst (λ (i : ℕ). IsPart (get_or (set left place now) i d') × AllByRecursion (IsMarked first sets i) (get_or (set left place now) i d').entries) (sym same)
        (subst (λ (p : Part). IsPart p × AllByRecursion (IsMarked first sets place) p.entries) (sym (get_or-set_same left place now d' within)) (is, whole.1))
    go (inr ne) =
        subst (λ (p : Part). IsPart p × AllByRecursion (IsMarked first sets k) p.entries) (sym (get_or-set_other left place k now d' ne))
        (marked k d' (omega (arith, lt, length-set left place now)))

no_entry : (first end : ℕ) (sets : List ThreadSet) (k : ℕ) (xs : List Entry) → end ≡ first + length sets → AllByRecursion (λ y. end ≤ y.stamp) xs → AllByRecursion (IsMarked first sets k) xs → xs ≡ []
no_entry first end sets k [] at le m = refl
no_entry first end sets k (x ∷ xs) at le m = let within = m.0.within in absurd (omega (arith, at, le.0, within))

-- behind the last set nothing is left
pub none_left : (first end : ℕ) (sets : List ThreadSet) (left : List Part) → end ≡ first + length sets → AreMarked first sets left → ((j : ℕ) (d : Part) → j < length left → AllByRecursion (λ y. end ≤ y.stamp) (get_or left j d).entries) → All (λ p. p.entries ≡ []) left
none_left first end sets left at marked least k d lt = no_entry first end sets k (get_or left k d).entries at (least k d lt) (marked k d lt).1

-- at the first stamp
pub first_least : (first : ℕ) (sets : List ThreadSet) (left : List Part) → AreMarked first sets left → (j : ℕ) (d : Part) → j < length left → AllByRecursion (λ y. first ≤ y.stamp) (get_or left j d).entries
first_least first sets left marked j d lt = all_map (IsMarked first sets j) (λ y. first ≤ y.stamp) (get_or left j d).entries (λ y m. m.from) (marked j d lt).1

pub are_parts : (first : ℕ) (sets : List ThreadSet) (left : List Part) → AreMarked first sets left → All IsPart left
are_parts first sets left marked k d lt = (marked k d lt).0
