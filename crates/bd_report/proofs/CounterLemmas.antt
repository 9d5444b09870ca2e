-- What one more entry, or one more read or write, adds to the statistics.
use Rattle.std.proofs.Common.{◌≡◌, refl, sym, ap, ◌∙◌, ℕ, ◌+◌, ◌*◌, ◌<◌, ◌≤◌, ⊎_elim, Bool, true, false, cond, ◌&&◌, ◌||◌, if◌then◌else◌, List, [], ◌∷◌, ◌++◌, length, map, set, take, drop, get_or, filter_map, eqb, Option, Some, None, arith}
use Rattle.std.specs.List.{cons_option, range_with_len, sum_by}
use Rattle.std.proofs.lemmas.Bool.{cases_eq}
use Rattle.std.proofs.lemmas.List.{append-nil, append_assoc, ext_get_or, get_or-set_other, length-set, length_push, drop_more, take_more}
use Rattle.std.proofs.lemmas.List.Folds.{list_any-append}
use Rattle.std.proofs.lemmas.List.FromFn.{get_or-map-range_with_len, length-map-range_with_len}
use Rattle.std.proofs.lemmas.List.Sums.{count_by-le-length, sum_by_push}
use Rattle.std.proofs.lemmas.Grind.{get_or-set_at}
use Rattle.bd_base.specs.declared.act.Act.{Act}
use Rattle.bd_base.specs.declared.act.Act.TheVariants as acts
use Rattle.bd_base.specs.declared.act.Entry.{Entry}
use Rattle.bd_base.specs.declared.id.ReqId.{ReqId}
use Rattle.bd_base.specs.declared.request.Status.TheVariants.{Success, Failed, Aborted}
use Rattle.bd_base.specs.declared.request.Way.{Way}
use Rattle.bd_base.specs.declared.request.Way.TheVariants as ways
use Rattle.bd_report.specs.declared.counts.Counts.{Counts}
use Rattle.bd_report.specs.declared.submitted.Submitted.{Submitted}
use Rattle.bd_report.specs.declared.traffic.Traffic.{Traffic}
use Rattle.bd_report.specs.Counts.{capped, count_acts, counts_of, is_accept, is_counted, is_end, is_meant, is_refusal, more_if, no_acts, thread_counts, with_act, with_act_at}
use Rattle.bd_report.specs.Traffic.{all_submitted, bytes_in, device_traffic, has_succeeded, is_success_of, moved_at, moved_in, no_traffic, same_way, submitted_in, submitted_in_act, traffic_among, traffic_from, with_bytes}
use Rattle.bd_report.proofs.ReportLemmas.{filter_map_push}

-- ---- lists by number

-- what was fed, with one more entry of the part
pub fed_more : {X : Type 0} (entries part : List X) (i : ℕ) (x : X) → i < length part → x ≡ get_or part i x → (entries ++ take i part) ++ x ∷ [] ≡ entries ++ take (i + 1) part
fed_more entries part i x low at =
    append_assoc entries (take i part) (x ∷ []) ∙ ap (λ xs. entries ++ xs) (ap (λ y. take i part ++ y ∷ []) at ∙ sym (take_more part i x low))

-- what is listed by number, where one number is replaced
pub set_range : {X : Type 0} (f g : ℕ → X) (n k : ℕ) (d : X) (step : X → X) → ((i : ℕ) → (i ≡ k → ⊥) → f i ≡ g i) → step (f k) ≡ g k → set (map f (range_with_len 0 n)) k (step (get_or (map f (range_with_len 0 n)) k d)) ≡ map g (range_with_len 0 n)
set_range f g n k d step other here =
    let xs = map f (range_with_len 0 n) in
    let y = step (get_or xs k d) in
    let long : length xs ≡ n = length-map-range_with_len f 0 n in
    let at : (i : ℕ) → i < n → get_or (set xs k y) i d ≡ g i = λ i low.
    ⊎_elim
    (λ e. get_or-set_at xs k i y d e (omega (arith, low, long, e)) ∙ ap step (get_or-map-range_with_len f 0 n k k d (omega (arith, low, e)) (omega arith)) ∙ here ∙ ap g (sym e))
    (λ ne. get_or-set_other xs k i y d ne ∙ get_or-map-range_with_len f 0 n i i d low (omega arith) ∙ other i ne)
    (cases_eq i k) in
    ext_get_or d (set xs k y) (map g (range_with_len 0 n))
    (length-set xs k y ∙ long ∙ sym (length-map-range_with_len g 0 n))
    (λ i low. let below : i < n = omega (arith, low, length-set xs k y, long) in at i below ∙ sym (get_or-map-range_with_len g 0 n i i d below (omega arith)))

map_same : {X : Type 0} (f g : ℕ → X) → ((i : ℕ) → f i ≡ g i) → (is : List ℕ) → map f is ≡ map g is
map_same f g same [] = refl
map_same f g same (i ∷ is) = ap (λ x. x ∷ map f is) (same i) ∙ ap (λ xs. g i ∷ xs) (map_same f g same is)

apart : (a b : ℕ) → (b ≡ a → ⊥) → eqb a b ≡ false
apart a b ne = grind (arith, ne)

same : (a : ℕ) → eqb a a ≡ true
same a = grind arith

-- ---- counts of acts

abbrev counts_with : ℕ → ℕ → ℕ → ℕ → ℕ → Counts
counts_with accepted success failed aborted refused =
    record { accepted = accepted; success = success; failed = failed; aborted = aborted; refused = refused }

counts_same : (a b c d e : ℕ) {a' b' c' d' e' : ℕ} → a ≡ a' → b ≡ b' → c ≡ c' → d ≡ d' → e ≡ e' → counts_with a b c d e ≡ counts_with a' b' c' d' e'
counts_same a b c d e {a'} {b'} {c'} {d'} i j k l m =
    ap (λ x. counts_with x b c d e) i ∙ ap (λ x. counts_with a' x c d e) j ∙ ap (λ x. counts_with a' b' x d e) k ∙
    ap (λ x. counts_with a' b' c' x e) l ∙ ap (counts_with a' b' c' d') m

-- a count that was capped, with one more
more_capped : (counts : Bool) (n : ℕ) → capped (n + cond counts 1 0) ≡ more_if counts (capped n)
more_capped true n = omega arith
more_capped false n = omega arith

count_push : (test : Act → Bool) (thread : Option ℕ) (entries : List Entry) (x : Entry) (b : Bool) → is_meant thread x.thread ≡ b → capped (count_acts test thread (entries ++ x ∷ [])) ≡ more_if (b && test x.act) (capped (count_acts test thread entries))
count_push test thread entries x b e =
    ap capped (sum_by_push (λ entry. cond (is_meant thread entry.thread && test entry.act) 1 0) entries x) ∙
    more_capped (is_meant thread x.thread && test x.act) (count_acts test thread entries) ∙
    ap (λ m. more_if (m && test x.act) (capped (count_acts test thread entries))) e

-- one more entry of a thread that is meant
pub counts_push : (thread : Option ℕ) (entries : List Entry) (x : Entry) → is_meant thread x.thread ≡ true → with_act x.act (counts_of thread entries) ≡ counts_of thread (entries ++ x ∷ [])
counts_push thread entries x e =
    counts_same _ _ _ _ _
    (sym (count_push is_accept thread entries x true e))
    (sym (count_push (is_end Success) thread entries x true e))
    (sym (count_push (is_end Failed) thread entries x true e))
    (sym (count_push (is_end Aborted) thread entries x true e))
    (sym (count_push is_refusal thread entries x true e))

-- one more entry of another thread
counts_other : (thread : Option ℕ) (entries : List Entry) (x : Entry) → is_meant thread x.thread ≡ false → counts_of thread entries ≡ counts_of thread (entries ++ x ∷ [])
counts_other thread entries x e =
    counts_same _ _ _ _ _
    (sym (count_push is_accept thread entries x false e))
    (sym (count_push (is_end Success) thread entries x false e))
    (sym (count_push (is_end Failed) thread entries x false e))
    (sym (count_push (is_end Aborted) thread entries x false e))
    (sym (count_push is_refusal thread entries x false e))

-- one more entry, in the counts by thread
pub thread_counts_push : (threads : ℕ) (entries : List Entry) (x : Entry) → with_act_at x.thread x.act (thread_counts threads entries) ≡ thread_counts threads (entries ++ x ∷ [])
thread_counts_push threads entries x =
    set_range (λ thread. counts_of (Some thread) entries) (λ thread. counts_of (Some thread) (entries ++ x ∷ [])) threads x.thread no_acts (with_act x.act)
    (λ i ne. counts_other (Some i) entries x (apart x.thread i ne))
    (counts_push (Some x.thread) entries x (same x.thread))

-- ---- acts that don't count

-- what an act that doesn't count leaves as it is
pub record Adds (nothing : Act) : Type 0 where
  pub counts : (counts : Counts) → with_act nothing counts ≡ counts
  pub submitted : submitted_in_act nothing ≡ None
  pub successes : (request : ReqId) → is_success_of request nothing ≡ false

pub not_counted : (act : Act) → is_counted act ≡ false → Adds act
not_counted (acts.Accept dev lba handle req op count) e = absurd (let x : true ≡ false = e in cc)
not_counted (acts.Refuse errno lba handle op count) e = absurd (let x : true ≡ false = e in cc)
not_counted (acts.Complete req status shown) e = absurd (let x : true ≡ false = e in cc)
not_counted _ e = record { counts = λ counts. refl; submitted = refl; successes = λ request. refl }

-- ---- which requests succeeded

or_false : (b : Bool) → (b || false) ≡ b
or_false true = refl
or_false false = refl

pub or_none : (b : Bool) {c : Bool} → c ≡ false → b ≡ (b || c)
or_none b e = sym (ap (λ c. b || c) e ∙ or_false b)

-- one more entry
pub succeeded_push : (entries : List Entry) (x : Entry) (request : ReqId) → (has_succeeded entries request || is_success_of request x.act) ≡ has_succeeded (entries ++ x ∷ []) request
succeeded_push entries x request =
    sym (list_any-append (λ entry. is_success_of request entry.act) entries (x ∷ []) ∙ ap (λ b. has_succeeded entries request || b) (or_false (is_success_of request x.act)))

-- ---- reads and writes

-- one more entry
pub submitted_push : (entries : List Entry) (x : Entry) → all_submitted entries ++ cons_option (submitted_in x) [] ≡ all_submitted (entries ++ x ∷ [])
submitted_push entries x = sym (filter_map_push submitted_in entries x)

abbrev traffic_with : ℕ → ℕ → ℕ → ℕ → Traffic
traffic_with reads writes read_bytes write_bytes =
    record { reads = reads; writes = writes; read_bytes = read_bytes; write_bytes = write_bytes }

traffic_same : (a b c d : ℕ) {a' b' c' d' : ℕ} → a ≡ a' → b ≡ b' → c ≡ c' → d ≡ d' → traffic_with a b c d ≡ traffic_with a' b' c' d'
traffic_same a b c d {a'} {b'} {c'} i j k l =
    ap (λ x. traffic_with x b c d) i ∙ ap (λ x. traffic_with a' x c d) j ∙ ap (λ x. traffic_with a' b' x d) k ∙ ap (traffic_with a' b' c') l

-- a number that was capped, with some more
sum_capped : (n more : ℕ) → capped (n + more) ≡ capped (capped n + more)
sum_capped n more = omega arith

one_longer : (blocks : List ℕ) (count : ℕ) → capped (length (blocks ++ count ∷ [])) ≡ capped (capped (length blocks) + 1)
one_longer blocks count = ap capped (length_push blocks count) ∙ sum_capped (length blocks) 1

more_bytes : (size : ℕ) (blocks : List ℕ) (count : ℕ) → bytes_in size (blocks ++ count ∷ []) ≡ capped (bytes_in size blocks + count * size)
more_bytes size blocks count =
    ap capped (sum_by_push (λ n. n * size) blocks count) ∙ sum_capped (sum_by (λ n. n * size) blocks) (count * size)

-- one more request, of this way
with_request : (size : ℕ) (read written : List ℕ) (count : ℕ) (way : Way) → traffic_from size (read ++ cons_option (if same_way ways.Read way then Some count else None) []) (written ++ cons_option (if same_way ways.Write way then Some count else None) []) ≡ with_bytes way (count * size) (traffic_from size read written)
with_request size read written count ways.Read =
    traffic_same _ _ _ _ (one_longer read count) (ap (λ xs. capped (length xs)) (append-nil written))
    (more_bytes size read count) (ap (bytes_in size) (append-nil written))
with_request size read written count ways.Write =
    traffic_same _ _ _ _ (ap (λ xs. capped (length xs)) (append-nil read)) (one_longer written count)
    (ap (bytes_in size) (append-nil read)) (more_bytes size written count)

-- the blocks of each of these reads and writes that the device moved, with one more that it did move, or didn't
moved_push : (trace : List Entry) (device : ℕ) (way : Way) (submitted : List Submitted) (s : Submitted) (b : Bool) → (eqb s.device.0 device && has_succeeded trace s.request) ≡ b → filter_map (moved_in trace device way) (submitted ++ s ∷ []) ≡ filter_map (moved_in trace device way) submitted ++ cons_option (if b && same_way way s.way then Some s.blocks else None) []
moved_push trace device way submitted s b e =
    filter_map_push (moved_in trace device way) submitted s ∙
    ap (λ m. filter_map (moved_in trace device way) submitted ++ cons_option (if m && same_way way s.way then Some s.blocks else None) []) e

-- of a device that moved it
traffic_push : (trace : List Entry) (submitted : List Submitted) (s : Submitted) (device size : ℕ) → (eqb s.device.0 device && has_succeeded trace s.request) ≡ true → with_bytes s.way (s.blocks * size) (traffic_among trace submitted device size) ≡ traffic_among trace (submitted ++ s ∷ []) device size
traffic_push trace submitted s device size e =
    let read = moved_push trace device ways.Read submitted s true e in
    let written = moved_push trace device ways.Write submitted s true e in
    sym (ap (λ r. traffic_from size r (filter_map (moved_in trace device ways.Write) (submitted ++ s ∷ []))) read ∙
    ap (traffic_from size _) written ∙
    with_request size (filter_map (moved_in trace device ways.Read) submitted) (filter_map (moved_in trace device ways.Write) submitted) s.blocks s.way)

-- of a device that didn't move it
traffic_other : (trace : List Entry) (submitted : List Submitted) (s : Submitted) (device size : ℕ) → (eqb s.device.0 device && has_succeeded trace s.request) ≡ false → traffic_among trace submitted device size ≡ traffic_among trace (submitted ++ s ∷ []) device size
traffic_other trace submitted s device size e =
    let read = moved_push trace device ways.Read submitted s false e ∙ append-nil (filter_map (moved_in trace device ways.Read) submitted) in
    let written = moved_push trace device ways.Write submitted s false e ∙ append-nil (filter_map (moved_in trace device ways.Write) submitted) in
    sym (ap (λ r. traffic_from size r (filter_map (moved_in trace device ways.Write) (submitted ++ s ∷ []))) read ∙ ap (traffic_from size _) written)

and_true : (a b : Bool) → a ≡ true → b ≡ true → (a && b) ≡ true
and_true true true e f = refl
and_true false b e f = e
and_true true false e f = f

and_false_left : (a b : Bool) → a ≡ false → (a && b) ≡ false
and_false_left true b e = ap (λ a. a && b) e
and_false_left false b e = refl

and_false_right : (a b : Bool) → b ≡ false → (a && b) ≡ false
and_false_right true b e = e
and_false_right false b e = refl

-- one more read or write, in what each device moved, if it succeeded
pub device_traffic_push : (trace : List Entry) (submitted : List Submitted) (sizes : List ℕ) (s : Submitted) (b : Bool) → has_succeeded trace s.request ≡ b → (if b then moved_at sizes s (device_traffic trace submitted sizes) else device_traffic trace submitted sizes) ≡ device_traffic trace (submitted ++ s ∷ []) sizes
device_traffic_push trace submitted sizes s true e =
    let device = s.device.0 in
    set_range (λ i. traffic_among trace submitted i (get_or sizes i 0)) (λ i. traffic_among trace (submitted ++ s ∷ []) i (get_or sizes i 0)) (length sizes) device no_traffic
    (with_bytes s.way (s.blocks * get_or sizes device 0))
    (λ i ne. traffic_other trace submitted s i (get_or sizes i 0) (and_false_left (eqb device i) (has_succeeded trace s.request) (apart device i ne)))
    (traffic_push trace submitted s device (get_or sizes device 0) (and_true (eqb device device) (has_succeeded trace s.request) (same device) e))
device_traffic_push trace submitted sizes s false e =
    map_same (λ i. traffic_among trace submitted i (get_or sizes i 0)) (λ i. traffic_among trace (submitted ++ s ∷ []) i (get_or sizes i 0))
    (λ i. traffic_other trace submitted s i (get_or sizes i 0) (and_false_right (eqb s.device.0 i) (has_succeeded trace s.request) e))
    (range_with_len 0 (length sizes))

pub moved_length : (sizes : List ℕ) (s : Submitted) (devices : List Traffic) (b : Bool) → length (if b then moved_at sizes s devices else devices) ≡ length devices
moved_length sizes s devices true = length-set devices s.device.0 (with_bytes s.way (s.blocks * get_or sizes s.device.0 0) (get_or devices s.device.0 no_traffic))
moved_length sizes s devices false = refl

pub traffic_length : (trace : List Entry) (submitted : List Submitted) (sizes : List ℕ) → length (device_traffic trace submitted sizes) ≡ length sizes
traffic_length trace submitted sizes = length-map-range_with_len (λ i. traffic_among trace submitted i (get_or sizes i 0)) 0 (length sizes)

-- a step over the reads and writes that were submitted
pub traffic_step : (trace : List Entry) (submitted : List Submitted) (sizes : List ℕ) (i : ℕ) (d s : Submitted) {by : List ℕ} {old new : List Traffic} {b : Bool} → i < length submitted → s ≡ get_or submitted i d → by ≡ sizes → b ≡ has_succeeded trace s.request → new ≡ (if b then moved_at by s old else old) → old ≡ device_traffic trace (take i submitted) sizes → new ≡ device_traffic trace (take (i + 1) submitted) sizes
traffic_step trace submitted sizes i d s {by} {old} {new} {b} low at same_sizes succeeded is was =
    is ∙
    ap (λ zs. if b then moved_at zs s old else old) same_sizes ∙
    ap (λ ds. if b then moved_at sizes s ds else ds) was ∙
    device_traffic_push trace (take i submitted) sizes s b (sym succeeded) ∙
    ap (λ x. device_traffic trace (take i submitted ++ x ∷ []) sizes) at ∙
    ap (λ xs. device_traffic trace xs sizes) (sym (take_more submitted i d low))

-- ---- room

-- of these entries no more acts are counted than there are entries
pub few_acts : (test : Act → Bool) (entries : List Entry) → count_acts test None entries ≤ length entries
few_acts test entries = count_by-le-length (λ entry. is_meant None entry.thread && test entry.act) entries

-- what holds of the rest of a part, seen as its next entry and what follows
pub next_of : (P : List Entry → Type 0) (part : List Entry) (i : ℕ) (x : Entry) → i < length part → x ≡ get_or part i x → P (drop i part) → P (x ∷ drop (i + 1) part)
next_of P part i x low at before = rw at (rw (← drop_more part i x low) before)
