-- What a device's line is after rows come and go, and that it stays what the rows say.
use Rattle.std.proofs.Common.{◌≡◌, ◌≢◌, ℕ, zero, suc, ◌+◌, ◌-◌, ◌<◌, ◌≤◌, ◌^◌, Bool, true, false, not, cond, ◌&&◌, ◌==◌, List, [], ◌∷◌, ◌++◌, length, map, filter, remove, get_or, set, nat_lt, ltb-true, ltb-false, Some, None, refl, sym, ◌∙◌, ap, ap₂, subst, eqb-true, eq-eqb, arith, length-append, slice_get, position}
use Rattle.std.proofs.lemmas.List.{map-append, length-replicate, get_or-replicate, length-set, get_or-set_same, get_or-set_other}
use Rattle.std.proofs.lemmas.Bool.{and_parts}
use Rattle.std.specs.List.{position_or_len}
use Rattle.std.proofs.lemmas.List.Elements.{filter-append}
use Rattle.std.proofs.lemmas.List.Sums.{length-filter, count_by-le-length}
use Rattle.bd_machine.specs.Admission.{has_range}
use Rattle.bd_base.specs.declared.id.DevId.{DevId}
use Rattle.bd_base.specs.declared.id.ReqId.{ReqId}
use Rattle.bd_msg.specs.Purse.{same_request, without}
use Rattle.bd_tables.specs.declared.place.Place.{Place}
use Rattle.bd_tables.specs.declared.place.Place.TheVariants as places
use Rattle.bd_tables.specs.declared.row.Row.{Row}
use Rattle.bd_tables.specs.Firsts.{at, NonePasses}
use Rattle.bd_tables.specs.Lines.{Line, blank_counts, raised, lowered, with_row, without_row, Fits, IsExact}
use Rattle.bd_tables.specs.Rows.{counted_under, first_id, holds_up, holds_up_of, is_in, is_waiting, keeps, row_id, same_id, same_place, stands_over, waits_at, waits_over, waits_under}

-- ---- Lists

nothing_after : {X : Type 0} (xs : List X) → xs ++ [] ≡ xs
nothing_after [] = refl
nothing_after (x ∷ xs) = ap (λ ys. x ∷ ys) (nothing_after xs)

length_come : {X : Type 0} (p : X → Bool) (xs : List X) (x : X) → length (filter p (xs ++ x ∷ [])) ≡ length (filter p xs) + cond (p x) 1 0
length_come p xs x = ap length (filter-append p xs (x ∷ [])) ∙ length-append (filter p xs) (filter p (x ∷ [])) ∙ ap (λ n. length (filter p xs) + n) (one (p x))
  where
    one : (b : Bool) → length (cond b (x ∷ []) []) ≡ cond b 1 0
    one true = refl
    one false = refl

length_goes : (p : Row → Bool) (rows : List Row) (i : ℕ) → i < length rows → length (filter p (remove rows i)) + cond (p (at rows i)) 1 0 ≡ length (filter p rows)
length_goes p [] i inside = absurd (omega arith)
length_goes p (r ∷ rs) zero inside = go (p r)
  where
    go : (b : Bool) → length (filter p rs) + cond b 1 0 ≡ length (cond b (r ∷ filter p rs) (filter p rs))
    go true = omega arith
    go false = omega arith
length_goes p (r ∷ rs) (suc i) inside = go (p r) (length_goes p rs i (omega arith))
  where
    go : (b : Bool) → length (filter p (remove rs i)) + cond (p (at rs i)) 1 0 ≡ length (filter p rs)
        → length (cond b (r ∷ filter p (remove rs i)) (filter p (remove rs i))) + cond (p (at rs i)) 1 0 ≡ length (cond b (r ∷ filter p rs) (filter p rs))
    go true e = omega (arith, e)
    go false e = e

filter_goes : (p : Row → Bool) (rows : List Row) (i : ℕ) → i < length rows → p (at rows i) ≡ false → filter p (remove rows i) ≡ filter p rows
filter_goes p [] i inside fails = absurd (omega arith)
filter_goes p (r ∷ rs) zero inside fails = ap (λ (b : Bool). cond b (r ∷ filter p rs) (filter p rs)) (sym fails)
filter_goes p (r ∷ rs) (suc i) inside fails = ap (λ (xs : List Row). cond (p r) (r ∷ xs) xs) (filter_goes p rs i (omega arith) fails)

-- ---- Counts

count_same : (thread t : ℕ) → thread ≡ t → (thread == t) ≡ true
count_same thread t e = eq-eqb thread t e

raised_at : (thread t : ℕ) (counts : List ℕ) → length counts ≡ 16 → t < 16 → get_or (raised thread counts) t 0 ≡ get_or counts t 0 + cond (thread == t) 1 0
raised_at thread t counts long small = go (nat_lt thread 16) refl (thread == t) refl
  where
    more : ℕ
    more = get_or counts thread 0 + 1

    other : (thread == t) ≡ false → t ≢ thread
    other e same = let yes : (thread == t) ≡ true = count_same thread t (sym same) in cc

    go : (c : Bool) → nat_lt thread 16 ≡ c → (b : Bool) → (thread == t) ≡ b → get_or (cond c (set counts thread more) counts) t 0 ≡ get_or counts t 0 + cond b 1 0
    go true l true e =
        let same : thread ≡ t = eqb-true thread t e in
        let below : thread < 16 = ltb-true thread 16 l in
        subst (λ (n : ℕ). get_or (set counts thread more) n 0 ≡ get_or counts n 0 + 1) same (get_or-set_same counts thread more 0 (omega (arith, below, long)))
    go true l false e = omega (arith, get_or-set_other counts thread t more 0 (other e))
    go false l true e = absurd (omega (arith, ltb-false thread 16 l, eqb-true thread t e, small))
    go false l false e = omega arith

lowered_at : (thread t : ℕ) (counts : List ℕ) → length counts ≡ 16 → t < 16 → get_or (lowered thread counts) t 0 ≡ get_or counts t 0 - cond (thread == t) 1 0
lowered_at thread t counts long small = go (nat_lt thread 16) refl (thread == t) refl
  where
    less : ℕ
    less = get_or counts thread 0 - 1

    other : (thread == t) ≡ false → t ≢ thread
    other e same = let yes : (thread == t) ≡ true = count_same thread t (sym same) in cc

    go : (c : Bool) → nat_lt thread 16 ≡ c → (b : Bool) → (thread == t) ≡ b → get_or (cond c (set counts thread less) counts) t 0 ≡ get_or counts t 0 - cond b 1 0
    go true l true e =
        let same : thread ≡ t = eqb-true thread t e in
        let below : thread < 16 = ltb-true thread 16 l in
        subst (λ (n : ℕ). get_or (set counts thread less) n 0 ≡ get_or counts n 0 - 1) same (get_or-set_same counts thread less 0 (omega (arith, below, long)))
    go true l false e = omega (arith, get_or-set_other counts thread t less 0 (other e))
    go false l true e = absurd (omega (arith, ltb-false thread 16 l, eqb-true thread t e, small))
    go false l false e = omega arith

changed_long : (b c : Bool) (thread n : ℕ) (counts : List ℕ) → length counts ≡ 16 → length (cond b (cond c (set counts thread n) counts) counts) ≡ 16
changed_long true true thread n counts long = length-set counts thread n ∙ long
changed_long true false thread n counts long = long
changed_long false c thread n counts long = long

come_count : (dev : DevId) (rows : List Row) (r : Row) (counts : List ℕ) (t : ℕ) → length counts ≡ 16 → t < 16 → get_or counts t 0 ≡ length (counted_under dev t rows)
    → get_or (cond (holds_up dev r) (raised r.request.id.thread counts) counts) t 0 ≡ length (counted_under dev t (rows ++ r ∷ []))
come_count dev rows r counts t long small e = go (holds_up dev r) ∙ sym (length_come (holds_up_of dev t) rows r)
  where
    thread : ℕ
    thread = r.request.id.thread

    go : (b : Bool) → get_or (cond b (raised thread counts) counts) t 0 ≡ length (counted_under dev t rows) + cond (b && (thread == t)) 1 0
    go true = raised_at thread t counts long small ∙ ap (λ (n : ℕ). n + cond (thread == t) 1 0) e
    go false = omega (arith, e)

left : (a b c d : ℕ) → a ≡ b - c → d + c ≡ b → a ≡ d
left a b c d e f = omega (arith, e, f)

leave_count : (dev : DevId) (rows : List Row) (i : ℕ) (counts : List ℕ) (t : ℕ) → i < length rows → length counts ≡ 16 → t < 16 → get_or counts t 0 ≡ length (counted_under dev t rows)
    → get_or (cond (holds_up dev (at rows i)) (lowered (at rows i).request.id.thread counts) counts) t 0 ≡ length (counted_under dev t (remove rows i))
leave_count dev rows i counts t inside long small e =
    left _ (length (counted_under dev t rows)) (cond (holds_up_of dev t (at rows i)) 1 0) _ (go (holds_up dev (at rows i))) (length_goes (holds_up_of dev t) rows i inside)
  where
    thread : ℕ
    thread = (at rows i).request.id.thread

    go : (b : Bool) → get_or (cond b (lowered thread counts) counts) t 0 ≡ length (counted_under dev t rows) - cond (b && (thread == t)) 1 0
    go true = lowered_at thread t counts long small ∙ ap (λ (n : ℕ). n - cond (thread == t) 1 0) e
    go false = omega (arith, e)

-- ---- Who waits

same_self : (id : ReqId) → same_request id id ≡ true
same_self id = ap₂ (λ a b. a && b) (eq-eqb id.thread id.thread refl) (eq-eqb id.seq id.seq refl)

-- one that waits isn't away
waits_here : (place : Place) → waits_at place ≡ true → same_place place places.Away ≡ false
waits_here places.Fresh w = refl
waits_here places.Away w = cc
waits_here places.Pended w = refl
waits_here places.Retry w = refl
waits_here places.Out w = refl
waits_here places.Delayed w = refl
waits_here places.ResetQueue w = refl
waits_here (places.Quality d) w = refl

pub away_idle : (r : Row) → is_waiting r ≡ true → is_in places.Away r ≡ true → ⊥
away_idle r w away =
    let here : same_place r.place places.Away ≡ false = waits_here r.place (and_parts (has_range r.request.op) (waits_at r.place) w).1 in
    cc

is_waiting_over : (dev : DevId) (r : Row) → waits_over dev r ≡ true → is_waiting r ≡ true
is_waiting_over dev r w = (and_parts (stands_over dev r) (is_waiting r) w).1

another : (a b : Bool) → b ≡ false → (a && not b) ≡ false → a ≡ false
another true true e f = cc
another true false e f = cc
another false b e f = refl

-- one that waits, and doesn't keep this id, has another
not_same : (dev : DevId) (id : ReqId) (r : Row) → waits_over dev r ≡ true → keeps id r ≡ false → same_request (row_id r) id ≡ false
not_same dev id r w k =
    let here : waits_at r.place ≡ true = (and_parts (has_range r.request.op) (waits_at r.place) (is_waiting_over dev r w)).1 in
    another (same_id r.request.id id) (is_in places.Away r) (waits_here r.place here) k

goes_one : (dev : DevId) (rows : List Row) (i : ℕ) → i < length rows → waits_over dev (at rows i) ≡ true → NonePasses (keeps (row_id (at rows i))) rows i
    → without (row_id (at rows i)) (map row_id (waits_under dev rows)) ≡ map row_id (waits_under dev (remove rows i))
goes_one dev [] i inside waits none = absurd (omega arith)
goes_one dev (r ∷ rs) zero inside waits none =
    let p = waits_over dev in
    ap (λ (b : Bool). without (row_id r) (map row_id (cond b (r ∷ filter p rs) (filter p rs)))) waits
    ∙ ap (λ (b : Bool). cond b (map row_id (filter p rs)) (row_id r ∷ without (row_id r) (map row_id (filter p rs)))) (same_self (row_id r))
goes_one dev (r ∷ rs) (suc i) inside waits none = go (waits_over dev r) refl (goes_one dev rs i (omega arith) waits (λ j less. none (suc j) (omega arith)))
  where
    p : Row → Bool
    p = waits_over dev

    id : ReqId
    id = row_id (at rs i)

    go : (b : Bool) → p r ≡ b → without id (map row_id (filter p rs)) ≡ map row_id (filter p (remove rs i))
        → without id (map row_id (cond b (r ∷ filter p rs) (filter p rs))) ≡ map row_id (cond b (r ∷ filter p (remove rs i)) (filter p (remove rs i)))
    go true e ih =
        ap (λ (c : Bool). cond c (map row_id (filter p rs)) (row_id r ∷ without id (map row_id (filter p rs)))) (not_same dev id r e (none 0 (omega arith)))
        ∙ ap (λ (ids : List ReqId). row_id r ∷ ids) ih
    go false e ih = ih

come_waiting : (dev : DevId) (rows : List Row) (r : Row) (ids : List ReqId) → ids ≡ map row_id (waits_under dev rows) → cond (waits_over dev r) (ids ++ row_id r ∷ []) ids ≡ map row_id (waits_under dev (rows ++ r ∷ []))
come_waiting dev rows r ids e =
    go (waits_over dev r) ∙ sym (map-append row_id (waits_under dev rows) (waits_under dev (r ∷ []))) ∙ ap (map row_id) (sym (filter-append (waits_over dev) rows (r ∷ [])))
  where
    go : (b : Bool) → cond b (ids ++ row_id r ∷ []) ids ≡ map row_id (waits_under dev rows) ++ map row_id (cond b (r ∷ []) [])
    go true = ap (λ (xs : List ReqId). xs ++ row_id r ∷ []) e
    go false = e ∙ sym (nothing_after (map row_id (waits_under dev rows)))

leave_waiting : (dev : DevId) (rows : List Row) (i : ℕ) (ids : List ReqId) → i < length rows → (is_waiting (at rows i) ≡ true → NonePasses (keeps (row_id (at rows i))) rows i)
    → ids ≡ map row_id (waits_under dev rows) → cond (waits_over dev (at rows i)) (without (row_id (at rows i)) ids) ids ≡ map row_id (waits_under dev (remove rows i))
leave_waiting dev rows i ids inside first e = go (waits_over dev (at rows i)) refl
  where
    go : (b : Bool) → waits_over dev (at rows i) ≡ b → cond b (without (row_id (at rows i)) ids) ids ≡ map row_id (waits_under dev (remove rows i))
    go true w = ap (without (row_id (at rows i))) e ∙ goes_one dev rows i inside w (first (is_waiting_over dev (at rows i) w))
    go false w = e ∙ ap (map row_id) (sym (filter_goes (waits_over dev) rows i inside w))

-- ---- A line

pub come_exact : (dev : DevId) (rows : List Row) (r : Row) (line : Line) → IsExact dev rows line → IsExact dev (rows ++ r ∷ []) (with_row dev r line)
come_exact dev rows r line exact = record {
  waiting = come_waiting dev rows r line.waiting exact.waiting;
  long = changed_long (holds_up dev r) (nat_lt r.request.id.thread 16) r.request.id.thread _ line.counts exact.long;
  counts = λ t small. come_count dev rows r line.counts t exact.long small (exact.counts t small);
}

pub leave_exact : (dev : DevId) (rows : List Row) (i : ℕ) (line : Line) → i < length rows → (is_waiting (at rows i) ≡ true → NonePasses (keeps (row_id (at rows i))) rows i)
    → IsExact dev rows line → IsExact dev (remove rows i) (without_row dev (at rows i) line)
leave_exact dev rows i line inside first exact = record {
  waiting = leave_waiting dev rows i line.waiting inside first exact.waiting;
  long = changed_long (holds_up dev (at rows i)) (nat_lt (at rows i).request.id.thread 16) (at rows i).request.id.thread _ line.counts exact.long;
  counts = λ t small. leave_count dev rows i line.counts t inside exact.long small (exact.counts t small);
}

short : (p : Row → Bool) (rows : List Row) → length (filter p rows) ≤ length rows
short p rows = omega (arith, length-filter p rows, count_by-le-length p rows)

length_map : (rows : List Row) → length (map row_id rows) ≡ length rows
length_map [] = refl
length_map (r ∷ rs) = ap suc (length_map rs)

-- where one more row has room, the line has
pub exact_fits : (dev : DevId) (rows : List Row) (line : Line) (limit : ℕ) → IsExact dev rows line → length rows < limit → limit ≤ line.capacity → limit ≤ 2 ^ 32 - 1 → Fits line
exact_fits dev rows line limit exact less roomy small = (
  omega (arith, ap length exact.waiting, length_map (waits_under dev rows), short (waits_over dev) rows, less, roomy),
  λ t below. omega (arith, exact.counts t below, short (holds_up_of dev t) rows, less, small),
)

-- ---- The first that waits

pub first_listed : (rows : List Row) → slice_get (map row_id rows) 0 ≡ first_id rows
first_listed [] = refl
first_listed (r ∷ rs) = refl

pub none_first : (p : Row → Bool) (rows : List Row) → NonePasses p rows (length rows) → None ≡ first_id (filter p rows)
none_first p [] none = refl
none_first p (r ∷ rs) none =
    let here : p r ≡ false = none 0 (omega arith) in
    rw here (none_first p rs (λ j inside. none (suc j) (omega arith)))

pub found_first : (p : Row → Bool) (rows : List Row) (i : ℕ) → i < length rows → p (at rows i) ≡ true → NonePasses p rows i → Some (row_id (at rows i)) ≡ first_id (filter p rows)
found_first p [] i inside passes none = absurd (omega arith)
found_first p (r ∷ rs) zero inside passes none = let here : p r ≡ true = passes in rw here
found_first p (r ∷ rs) (suc i) inside passes none =
    let here : p r ≡ false = none 0 (omega arith) in
    rw here (found_first p rs i (omega arith) passes (λ j less. none (suc j) (omega arith)))

-- ---- A line of no rows

pub blank_exact : (dev : DevId) (line : Line) → line.waiting ≡ [] → line.counts ≡ blank_counts → IsExact dev [] line
blank_exact dev line none zeros = record {
  waiting = none;
  long = ap length zeros ∙ length-replicate {A = ℕ} 16 0;
  counts = λ t small. ap (λ (cs : List ℕ). get_or cs t 0) zeros ∙ get_or-replicate {A = ℕ} 16 t 0 0 small;
}

-- ---- An id that is none of these

stays : (id : ReqId) (xs : List ReqId) → length xs ≤ position_or_len (λ x. same_request x id) xs → without id xs ≡ xs
stays id [] end = refl
stays id (y ∷ ys) end = go (same_request y id) end (stays id ys)
  where
    go : (b : Bool) → length (y ∷ ys) ≤ cond (not b) (1 + position_or_len (λ x. same_request x id) ys) 0 → (length ys ≤ position_or_len (λ x. same_request x id) ys → without id ys ≡ ys) → cond b ys (y ∷ without id ys) ≡ y ∷ ys
    go true e more = absurd (omega (arith, e))
    go false e more = ap (λ zs. y ∷ zs) (more (omega (arith, e)))

pub without_none : (id : ReqId) (xs : List ReqId) → position (λ x. same_request x id) xs ≡ None → without id xs ≡ xs
without_none id xs none = stays id xs (go (nat_lt (position_or_len (λ x. same_request x id) xs) (length xs)) refl none)
  where
    go : (b : Bool) → nat_lt (position_or_len (λ x. same_request x id) xs) (length xs) ≡ b → cond b (Some (position_or_len (λ x. same_request x id) xs)) None ≡ None → length xs ≤ position_or_len (λ x. same_request x id) xs
    go true e n = cc
    go false e n = ltb-false (position_or_len (λ x. same_request x id) xs) (length xs) e
