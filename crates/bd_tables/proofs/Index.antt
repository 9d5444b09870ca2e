-- The lines of all devices after rows come and go, and after they get more room.
use Rattle.std.proofs.Common.{Some, slice_get, ◌≡◌, ◌≢◌, ℕ, zero, suc, ◌+◌, ◌-◌, ◌<◌, ◌≤◌, ◌^◌, ◌⊎◌, inl, inr, true, ◌==◌, List, [], ◌∷◌, ◌++◌, length, remove, get_or, set, refl, sym, ◌∙◌, ap, ap₂, subst, eqb-true, arith, length-append}
use Rattle.std.proofs.lemmas.Bool.{and_parts, cases_lt}
use Rattle.std.proofs.lemmas.List.{length-set, get_or-set_same, get_or-set_other, get_or_append_left}
use Rattle.std.proofs.Math.Seq.{get_or-append_seam}
use Rattle.bd_base.specs.declared.id.DevId.{DevId}
use Rattle.bd_base.specs.declared.id.ReqId.{ReqId}
use Rattle.bd_tables.specs.declared.place.Place.TheVariants.{Away}
use Rattle.bd_tables.specs.declared.row.Row.{Row}
use Rattle.bd_tables.specs.Firsts.{at, NonePasses, IsFirst}
use Rattle.bd_tables.specs.Lines.{Line, with_row, without_row, Fits, IsExact, line_at, numbered, AreChanged, AreKept, AreRoomy, AreLines, IsIndexed}
use Rattle.bd_tables.specs.Rows.{Rows, is_in, is_out, is_waiting, keeps, row_id, same_id}
use Rattle.bd_tables.proofs.Lines.{come_exact, leave_exact, exact_fits, away_idle}

-- ---- One line after another

-- a place in a list has one value, whatever stands for those past the end
any_default : {X : Type 0} (xs : List X) (i : ℕ) (d e : X) → i < length xs → get_or xs i d ≡ get_or xs i e
any_default [] i d e inside = absurd (omega arith)
any_default (x ∷ xs) zero d e inside = refl
any_default (x ∷ xs) (suc i) d e inside = any_default xs i d e (omega arith)

pub at_line : (lines : List Line) (i : ℕ) (line : Line) → i < length lines → line ≡ get_or lines i line → line ≡ line_at lines i
at_line lines i line inside here = here ∙ any_default lines i line _ inside

put_here : (now new : List Line) (n : ℕ) (w : Line) → n < length now → new ≡ set now n w → line_at new n ≡ w
put_here now new n w inside put = ap (λ (ls : List Line). line_at ls n) put ∙ get_or-set_same now n w _ inside

put_elsewhere : (now new : List Line) (n : ℕ) (w : Line) (d : ℕ) → d ≢ n → new ≡ set now n w → line_at new d ≡ line_at now d
put_elsewhere now new n w d other put = ap (λ (ls : List Line). line_at ls d) put ∙ get_or-set_other now n d w _ other

put_long : (now new : List Line) (n : ℕ) (w : Line) → new ≡ set now n w → length new ≡ length now
put_long now new n w put = ap length put ∙ length-set now n w

-- the first n lines were changed, and the others not yet
pub record AreSoFar (change : DevId → Line → Line) (old now : List Line) (n : ℕ) : Type 0 where
  pub len : length now ≡ length old
  pub before : (d : ℕ) → d < n → d < length old → line_at now d ≡ change (numbered d) (line_at old d)
  pub after : (d : ℕ) → n ≤ d → line_at now d ≡ line_at old d

pub begin_so_far : (change : DevId → Line → Line) (old : List Line) → AreSoFar change old old 0
begin_so_far change old = record { len = refl; before = λ d less inside. absurd (omega (arith, less)); after = λ d more. refl }

pub next_so_far : (change : DevId → Line → Line) (old now new : List Line) (n : ℕ) (w : Line) → AreSoFar change old now n → n < length now → new ≡ set now n w → w ≡ change (numbered n) (line_at now n) → AreSoFar change old new (n + 1)
next_so_far change old now new n w so inside put is = record {
  len = put_long now new n w put ∙ so.len;
  before = λ d less within. go d within (cases_lt d n) less;
  after = λ d more. put_elsewhere now new n w d (λ same. omega (arith, same, more)) put ∙ so.after d (omega (arith, more));
}
  where
    go : (d : ℕ) → d < length old → (d < n) ⊎ (n ≤ d) → d < n + 1 → line_at new d ≡ change (numbered d) (line_at old d)
    go d within (inl less) small = put_elsewhere now new n w d (λ same. omega (arith, same, less)) put ∙ so.before d less within
    go d within (inr more) small =
        let same : n ≡ d = omega (arith, more, small) in
        subst (λ (k : ℕ). line_at new k ≡ change (numbered k) (line_at old k)) same
        (put_here now new n w inside put ∙ is ∙ ap (change (numbered n)) (so.after n (omega arith)))

pub all_so_far : (change : DevId → Line → Line) (old now : List Line) (n : ℕ) → AreSoFar change old now n → length old ≤ n → AreChanged change old now
all_so_far change old now n so end = record { len = so.len; each = λ d inside. so.before d (omega (arith, inside, end)) inside }

-- ---- More room

pub same_kept : (lines : List Line) → AreKept lines lines
same_kept lines = record { len = refl; waiting = λ d. refl; counts = λ d. refl; capacity = λ d. omega arith }

-- line n alone was changed, and none of what it has
pub put_kept : (old now new : List Line) (n : ℕ) (w : Line) → AreKept old now → n < length now → new ≡ set now n w
    → w.waiting ≡ (line_at now n).waiting → w.counts ≡ (line_at now n).counts → (line_at now n).capacity ≤ w.capacity → AreKept old new
put_kept old now new n w kept inside put waiting counts capacity = record {
  len = put_long now new n w put ∙ kept.len;
  waiting = λ d. go_waiting d (cases_lt d n) (cases_lt n d);
  counts = λ d. go_counts d (cases_lt d n) (cases_lt n d);
  capacity = λ d. go_capacity d (cases_lt d n) (cases_lt n d);
}
  where
    here : (d : ℕ) → n ≤ d → d ≤ n → line_at new d ≡ w
    here d a b = let same : n ≡ d = omega (arith, a, b) in subst (λ (k : ℕ). line_at new k ≡ w) same (put_here now new n w inside put)

    was : (d : ℕ) → n ≤ d → d ≤ n → line_at now n ≡ line_at now d
    was d a b = let same : n ≡ d = omega (arith, a, b) in ap (line_at now) same

    go_waiting : (d : ℕ) → (d < n) ⊎ (n ≤ d) → (n < d) ⊎ (d ≤ n) → (line_at new d).waiting ≡ (line_at old d).waiting
    go_waiting d (inl less) c = ap (λ (l : Line). l.waiting) (put_elsewhere now new n w d (λ same. omega (arith, same, less)) put) ∙ kept.waiting d
    go_waiting d (inr a) (inl more) = ap (λ (l : Line). l.waiting) (put_elsewhere now new n w d (λ same. omega (arith, same, more)) put) ∙ kept.waiting d
    go_waiting d (inr a) (inr b) = ap (λ (l : Line). l.waiting) (here d a b) ∙ waiting ∙ ap (λ (l : Line). l.waiting) (was d a b) ∙ kept.waiting d

    go_counts : (d : ℕ) → (d < n) ⊎ (n ≤ d) → (n < d) ⊎ (d ≤ n) → (line_at new d).counts ≡ (line_at old d).counts
    go_counts d (inl less) c = ap (λ (l : Line). l.counts) (put_elsewhere now new n w d (λ same. omega (arith, same, less)) put) ∙ kept.counts d
    go_counts d (inr a) (inl more) = ap (λ (l : Line). l.counts) (put_elsewhere now new n w d (λ same. omega (arith, same, more)) put) ∙ kept.counts d
    go_counts d (inr a) (inr b) = ap (λ (l : Line). l.counts) (here d a b) ∙ counts ∙ ap (λ (l : Line). l.counts) (was d a b) ∙ kept.counts d

    go_capacity : (d : ℕ) → (d < n) ⊎ (n ≤ d) → (n < d) ⊎ (d ≤ n) → (line_at old d).capacity ≤ (line_at new d).capacity
    go_capacity d (inl less) c = omega (arith, ap (λ (l : Line). l.capacity) (put_elsewhere now new n w d (λ same. omega (arith, same, less)) put), kept.capacity d)
    go_capacity d (inr a) (inl more) = omega (arith, ap (λ (l : Line). l.capacity) (put_elsewhere now new n w d (λ same. omega (arith, same, more)) put), kept.capacity d)
    go_capacity d (inr a) (inr b) = omega (arith, ap (λ (l : Line). l.capacity) (here d a b), ap (λ (l : Line). l.capacity) (was d a b), capacity, kept.capacity d)

-- the first n lines have room for so many
abbrev pub AreRoomySoFar : ℕ → List Line → ℕ → Type 0
AreRoomySoFar limit lines n = (d : ℕ) → d < n → limit ≤ (line_at lines d).capacity

pub next_roomy : (limit : ℕ) (now new : List Line) (n : ℕ) (w : Line) → AreRoomySoFar limit now n → n < length now → new ≡ set now n w → limit ≤ w.capacity → AreRoomySoFar limit new (n + 1)
next_roomy limit now new n w so inside put roomy d small = go (cases_lt d n)
  where
    go : (d < n) ⊎ (n ≤ d) → limit ≤ (line_at new d).capacity
    go (inl less) = omega (arith, ap (λ (l : Line). l.capacity) (put_elsewhere now new n w d (λ same. omega (arith, same, less)) put), so d less)
    go (inr more) =
        let same : n ≡ d = omega (arith, more, small) in
        omega (arith, ap (λ (l : Line). l.capacity) (subst (λ (k : ℕ). line_at new k ≡ w) same (put_here now new n w inside put)), roomy)

-- ---- All lines

kept_exact : (dev : DevId) (rows : List Row) (old new : Line) → new.waiting ≡ old.waiting → new.counts ≡ old.counts → IsExact dev rows old → IsExact dev rows new
kept_exact dev rows old new waiting counts exact = record {
  waiting = waiting ∙ exact.waiting;
  long = ap length counts ∙ exact.long;
  counts = λ t small. ap (λ (cs : List ℕ). get_or cs t 0) counts ∙ exact.counts t small;
}

-- lines that have what they had, and room for so many rows
pub lines_wide : (rows : List Row) (old new : List Line) (limit more : ℕ) → AreKept old new → AreLines rows old limit → AreRoomy more new → AreLines rows new more
lines_wide rows old new limit more kept lines roomy = record {
  exact = λ d inside. kept_exact (numbered d) rows (line_at old d) (line_at new d) (kept.waiting d) (kept.counts d) (lines.exact d (omega (arith, inside, kept.len)));
  roomy = roomy;
  few = omega (arith, kept.len, lines.few);
}

pub lines_kept : (rows : List Row) (old new : List Line) (limit : ℕ) → AreKept old new → AreLines rows old limit → AreLines rows new limit
lines_kept rows old new limit kept lines =
    lines_wide rows old new limit limit kept lines (λ d inside. omega (arith, kept.capacity d, lines.roomy d (omega (arith, inside, kept.len))))

pub lines_less : (rows : List Row) (lines : List Line) (limit less : ℕ) → less ≤ limit → AreLines rows lines limit → AreLines rows lines less
lines_less rows all limit less small lines = record { exact = lines.exact; roomy = λ d inside. omega (arith, small, lines.roomy d inside); few = lines.few }

pub lines_come : (rows : List Row) (r : Row) (old new : List Line) (limit : ℕ) → AreLines rows old limit → AreChanged (λ dev line. with_row dev r line) old new → AreLines (rows ++ r ∷ []) new limit
lines_come rows r old new limit lines changed = record {
  exact = λ d inside.
      let was : d < length old = omega (arith, inside, changed.len) in
      subst (λ (l : Line). IsExact (numbered d) (rows ++ r ∷ []) l) (sym (changed.each d was)) (come_exact (numbered d) rows r (line_at old d) (lines.exact d was));
  roomy = λ d inside.
      let was : d < length old = omega (arith, inside, changed.len) in
      subst (λ (l : Line). limit ≤ l.capacity) (sym (changed.each d was)) (lines.roomy d was);
  few = omega (arith, changed.len, lines.few);
}

pub lines_leave : (rows : List Row) (i : ℕ) (old new : List Line) (limit : ℕ) → i < length rows → (is_waiting (at rows i) ≡ true → NonePasses (keeps (row_id (at rows i))) rows i)
    → AreLines rows old limit → AreChanged (λ dev line. without_row dev (at rows i) line) old new → AreLines (remove rows i) new limit
lines_leave rows i old new limit inside first lines changed = record {
  exact = λ d within.
      let was : d < length old = omega (arith, within, changed.len) in
      subst (λ (l : Line). IsExact (numbered d) (remove rows i) l) (sym (changed.each d was)) (leave_exact (numbered d) rows i (line_at old d) inside first (lines.exact d was));
  roomy = λ d within.
      let was : d < length old = omega (arith, within, changed.len) in
      subst (λ (l : Line). limit ≤ l.capacity) (sym (changed.each d was)) (lines.roomy d was);
  few = omega (arith, changed.len, lines.few);
}

pub lines_fit : (rows : List Row) (lines : List Line) (limit : ℕ) → AreLines rows lines limit → length rows < limit → limit ≤ 2 ^ 32 - 1 → (d : ℕ) → d < length lines → Fits (line_at lines d)
lines_fit rows all limit lines less small d inside = exact_fits (numbered d) rows (line_at all d) limit (lines.exact d inside) less (lines.roomy d inside) small

-- one more line, of the next device
pub lines_add : (rows : List Row) (lines new : List Line) (limit n : ℕ) (line : Line) → AreLines rows lines limit → n ≡ length lines → n < 256 → IsExact (numbered n) rows line → limit ≤ line.capacity
    → new ≡ lines ++ line ∷ [] → AreLines rows new limit
lines_add rows all new limit n line lines next few exact roomy is = subst (λ (ls : List Line). AreLines rows ls limit) (sym is) (record {
  exact = λ d inside. go_exact d (cases_lt d (length all)) (omega (arith, inside, length-append all (line ∷ [])));
  roomy = λ d inside. go_roomy d (cases_lt d (length all)) (omega (arith, inside, length-append all (line ∷ [])));
  few = omega (arith, length-append all (line ∷ []), next, few);
})
  where
    old : (d : ℕ) → d < length all → line_at (all ++ line ∷ []) d ≡ line_at all d
    old d less = get_or_append_left all (line ∷ []) _ d less

    last : line_at (all ++ line ∷ []) (length all) ≡ line
    last = get_or-append_seam all line [] _

    go_exact : (d : ℕ) → (d < length all) ⊎ (length all ≤ d) → d < length all + 1 → IsExact (numbered d) rows (line_at (all ++ line ∷ []) d)
    go_exact d (inl less) small = subst (λ (l : Line). IsExact (numbered d) rows l) (sym (old d less)) (lines.exact d less)
    go_exact d (inr more) small =
        let same : n ≡ d = omega (arith, more, small, next) in
        let here : line_at (all ++ line ∷ []) n ≡ line = subst (λ (k : ℕ). line_at (all ++ line ∷ []) k ≡ line) (sym next) last in
        subst (λ (k : ℕ). IsExact (numbered k) rows (line_at (all ++ line ∷ []) k)) same (subst (λ (l : Line). IsExact (numbered n) rows l) (sym here) exact)

    go_roomy : (d : ℕ) → (d < length all) ⊎ (length all ≤ d) → d < length all + 1 → limit ≤ (line_at (all ++ line ∷ []) d).capacity
    go_roomy d (inl less) small = subst (λ (l : Line). limit ≤ l.capacity) (sym (old d less)) (lines.roomy d less)
    go_roomy d (inr more) small =
        let same : length all ≡ d = omega (arith, more, small) in
        subst (λ (k : ℕ). limit ≤ (line_at (all ++ line ∷ []) k).capacity) same (subst (λ (l : Line). limit ≤ l.capacity) (sym last) roomy)

-- ---- The row that goes is the first that keeps its request

same_id-true : (x id : ReqId) → same_id x id ≡ true → x ≡ id
same_id-true x id h =
    let p = and_parts (x.thread == id.thread) (x.seq == id.seq) h in
    let make : ℕ → ℕ → ReqId = λ t s. record { thread = t; seq = s } in
    ap₂ make (eqb-true x.thread id.thread p.0) (eqb-true x.seq id.seq p.1)

pub kept_first : (id : ReqId) (rows : List Row) (i : ℕ) → IsFirst (keeps id) rows i → is_waiting (at rows i) ≡ true → NonePasses (keeps (row_id (at rows i))) rows i
kept_first id rows i first waits =
    let same : row_id (at rows i) ≡ id = same_id-true (row_id (at rows i)) id (and_parts (same_id (row_id (at rows i)) id) _ first.passes).0 in
    subst (λ (r : ReqId). NonePasses (keeps r) rows i) (sym same) first.first

-- one that is away doesn't wait
pub out_first : (id : ReqId) (rows : List Row) (i : ℕ) → IsFirst (is_out id) rows i → is_waiting (at rows i) ≡ true → NonePasses (keeps (row_id (at rows i))) rows i
out_first id rows i first waits = absurd (away_idle (at rows i) waits (and_parts (same_id (row_id (at rows i)) id) (is_in Away (at rows i)) first.passes).1)

-- ---- A board

pub length_gone : (rows : List Row) (i : ℕ) → i < length rows → length (remove rows i) + 1 ≡ length rows
length_gone [] i inside = absurd (omega arith)
length_gone (r ∷ rs) zero inside = omega arith
length_gone (r ∷ rs) (suc i) inside = omega (arith, length_gone rs i (omega arith))

pub indexed_take : (shelf new : Rows) (lines after : List Line) (limit i : ℕ) (row : Row) → IsIndexed shelf lines limit → i < length shelf.rows
    → (is_waiting (at shelf.rows i) ≡ true → NonePasses (keeps (row_id (at shelf.rows i))) shelf.rows i) → row ≡ at shelf.rows i
    → new ≡ record { rows = remove shelf.rows i; room = shelf.room + 1 } → AreChanged (λ dev line. without_row dev row line) lines after → IsIndexed new after limit
indexed_take shelf new lines after limit i row indexed inside first here gone changed = subst (λ (t : Rows). IsIndexed t after limit) (sym gone) (record {
  all = lines_leave shelf.rows i lines after limit inside first indexed.all (subst (λ (r : Row). AreChanged (λ dev line. without_row dev r line) lines after) here changed);
  fits = omega (arith, length_gone shelf.rows i inside, indexed.fits);
  room = omega (arith, length_gone shelf.rows i inside, indexed.room);
  small = indexed.small;
})

pub indexed_join : (shelf new : Rows) (lines after : List Line) (limit : ℕ) (row : Row) → IsIndexed shelf lines limit → length shelf.rows < limit
    → new ≡ record { rows = shelf.rows ++ row ∷ []; room = shelf.room - 1 } → AreChanged (λ dev line. with_row dev row line) lines after → IsIndexed new after limit
indexed_join shelf new lines after limit row indexed less come changed = subst (λ (t : Rows). IsIndexed t after limit) (sym come) (record {
  all = lines_come shelf.rows row lines after limit indexed.all changed;
  fits = omega (arith, length-append shelf.rows (row ∷ []), less);
  room = omega (arith, length-append shelf.rows (row ∷ []), indexed.room, less);
  small = indexed.small;
})

-- rows that stayed, on a shelf with no less room, with lines that have what they had
pub indexed_kept : (shelf new : Rows) (lines after : List Line) (limit : ℕ) → IsIndexed shelf lines limit → new.rows ≡ shelf.rows → shelf.room ≤ new.room → AreKept lines after → IsIndexed new after limit
indexed_kept shelf new lines after limit indexed same more kept = record {
  all = subst (λ (rows : List Row). AreLines rows after limit) (sym same) (lines_kept shelf.rows lines after limit kept indexed.all);
  fits = omega (arith, ap length same, indexed.fits);
  room = omega (arith, ap length same, indexed.room, more);
  small = indexed.small;
}

-- the same, where lines of more devices came, with room for more
pub indexed_added : (shelf new : Rows) (lines after : List Line) (limit more : ℕ) → IsIndexed shelf lines limit → new.rows ≡ shelf.rows → shelf.room ≤ new.room → AreLines new.rows after more → limit ≤ more
    → IsIndexed new after limit
indexed_added shelf new lines after limit more indexed same grows all less = record {
  all = lines_less new.rows after more limit less all;
  fits = omega (arith, ap length same, indexed.fits);
  room = omega (arith, ap length same, indexed.room, grows);
  small = indexed.small;
}

-- ---- A look-up

-- what a look-up in a list gave is what stands at the place
got : {X : Type 0} (xs : List X) (i : ℕ) (x d : X) → slice_get xs i ≡ Some x → (i < length xs) × (get_or xs i d ≡ x)
got [] i x d e = cc
got (y ∷ ys) zero x d e = let same : y ≡ x = cc in (omega arith, same)
got (y ∷ ys) (suc i) x d e = let more = got ys i x d e in (omega (arith, more.0), more.1)

pub exact_got : (rows : List Row) (lines : List Line) (limit i : ℕ) (line : Line) → AreLines rows lines limit → slice_get lines i ≡ Some line → IsExact (numbered i) rows line
exact_got rows all limit i line lines e =
    let here = got all i line _ e in
    subst (λ (l : Line). IsExact (numbered i) rows l) here.1 (lines.exact i here.0)
