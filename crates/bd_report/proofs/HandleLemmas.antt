-- What one more entry adds to what a trace says of handles, and the lines of handles in order.
use Rattle.std.proofs.Common.{◌≡◌, refl, sym, ap, ◌∙◌, ℕ, ◌+◌, ◌<◌, ◌≤◌, Bool, true, false, not, cond, ◌&&◌, ◌||◌, List, [], ◌∷◌, ◌++◌, length, take, get_or, map, flat_map, filter, filter_map, if◌then◌else◌, Some, arith, eqb}
use Rattle.std.specs.List.{All, before_first, count_by, cons_option, list_any, range_with_len}
use Rattle.std.specs.List.Sorted.{IsNonDecreasingBy, IsPermutation, IsStableByKey}
use Rattle.std.specs.Option.{option_and_then}
use Rattle.std.specs.Ordering.{nat_cmp}
use Rattle.std.proofs.lemmas.List.{length-take, take_more}
use Rattle.std.proofs.lemmas.List.Elements.{All-same, All-weaker, filter-append}
use Rattle.std.proofs.lemmas.List.Folds.{flat_map-map}
use Rattle.std.proofs.lemmas.List.Sorted.{All-permutation}
use Rattle.std.proofs.lemmas.List.Sums.{count_by_more_no, count_by_more_yes, count_by-le-length, take_while-cons}
use Rattle.std.proofs.lemmas.Option.{slice_get_read}
use Rattle.bd_base.specs.declared.act.Act.{Act}
use Rattle.bd_base.specs.declared.act.Act.TheVariants as acts
use Rattle.bd_base.specs.declared.act.Entry.{Entry}
use Rattle.bd_base.specs.declared.job.Script.{Script}
use Rattle.bd_report.specs.declared.handles.OpenedHandle.{OpenedHandle}
use Rattle.bd_report.specs.Handles.{as_handle, line_of_opened}
use Rattle.bd_report.specs.Counts.{is_meant}
use Rattle.bd_report.specs.Report.{Handle, gone_in, closed_in, is_number, is_told, is_closed, was_told, is_script, lines_done, opened_in, opened_at, greatest_of, gone_line_at, thread_gone_lines, ordered_lines}
use Rattle.bd_report.proofs.OrderLemmas.{all_before_map, each_greatest, flat_map_agree, has, sorted_writes}
use Rattle.bd_report.proofs.ReportLemmas.{range_more, filter_map_push}

-- ---- the first of two kinds of entries

any_if : {X : Type 0} (q : X → Bool) (b : Bool) (x : X) (xs : List X) → list_any q (cond b (x ∷ xs) []) ≡ (b && (q x || list_any q xs))
any_if q true x xs = refl
any_if q false x xs = refl

-- an element that passes q stands before the first that passes p: the list's head, or one behind it
any_before : {X : Type 0} (p q : X → Bool) (x : X) (xs : List X) → list_any q (before_first p (x ∷ xs)) ≡ (not (p x) && (q x || list_any q (before_first p xs)))
any_before p q x xs =
    ap (list_any q) (take_while-cons (λ y. not (p y)) x xs) ∙ any_if q (not (p x)) x (before_first p xs)

alone : (a b : Bool) → (b ≡ true → a ≡ false) → (not a && (b || false)) ≡ b
alone true true apart = sym (apart refl)
alone true false apart = refl
alone false true apart = refl
alone false false apart = refl

regrouped : (a b rest closed t : Bool) → (not a && (b || (rest || (not closed && t)))) ≡ ((not a && (b || rest)) || (not (a || closed) && t))
regrouped true b rest closed t = refl
regrouped false true rest closed t = refl
regrouped false false rest closed t = refl

-- one more element at the end
any_before_push : {X : Type 0} (p q : X → Bool) → ((x : X) → q x ≡ true → p x ≡ false) → (xs : List X) (x : X) → list_any q (before_first p (xs ++ x ∷ [])) ≡ (list_any q (before_first p xs) || (not (list_any p xs) && q x))
any_before_push p q apart [] x = any_before p q x [] ∙ alone (p x) (q x) (apart x)
any_before_push p q apart (y ∷ xs) x =
    any_before p q y (xs ++ x ∷ []) ∙
    ap (λ b. not (p y) && (q y || b)) (any_before_push p q apart xs x) ∙
    regrouped (p y) (q y) (list_any q (before_first p xs)) (list_any p xs) (q x) ∙
    ap (λ b. b || (not (p y || list_any p xs) && q x)) (sym (any_before p q y xs))

-- ---- remove events

-- an act that takes a remove event closes nothing
apart_acts : (number : ℕ) (act : Act) → is_number number (gone_in act) ≡ true → is_number number (closed_in act) ≡ false
apart_acts number (acts.Reg event answer) told = cc
apart_acts number _ told = refl

second_of : (a b : Bool) → (a && b) ≡ true → b ≡ true
second_of true b h = h
second_of false b h = cc

-- one more entry
pub told_more : (thread number : ℕ) (trace : List Entry) (i : ℕ) (x : Entry) → i < length trace → x ≡ get_or trace i x → was_told (take (i + 1) trace) thread number ≡ (was_told (take i trace) thread number || (not (list_any (is_closed number) (take i trace)) && is_told thread number x))
told_more thread number trace i x low at =
    ap (λ es. was_told es thread number) (take_more trace i x low) ∙
    any_before_push (is_closed number) (is_told thread number)
    (λ e told. apart_acts number e.act (second_of (eqb e.thread thread) (is_number number (gone_in e.act)) told))
    (take i trace) (get_or trace i x) ∙
    ap (λ e. was_told (take i trace) thread number || (not (list_any (is_closed number) (take i trace)) && is_told thread number e)) (sym at)

-- ---- handles that were opened

-- one more entry, whose thread has done so many lines
pub opened_more : (kept : Handle → Bool) (scripts : List Script) (trace : List Entry) (i : ℕ) (x : Entry) → i < length trace → x ≡ get_or trace i x → filter kept (filter_map (opened_at scripts trace) (range_with_len 0 (i + 1))) ≡ filter kept (filter_map (opened_at scripts trace) (range_with_len 0 i)) ++ filter kept (cons_option (opened_in scripts (lines_done (take i trace) x.thread) x) [])
opened_more kept scripts trace i x low at =
    let f = opened_at scripts trace in
    let here : opened_at scripts trace i ≡ opened_in scripts (lines_done (take i trace) x.thread) x =
    ap (option_and_then (λ e. opened_in scripts (lines_done (take i trace) e.thread) e)) (slice_get_read trace (length trace) i x refl low at) in
    ap (λ places. filter kept (filter_map f places)) (range_more i) ∙
    ap (filter kept) (filter_map_push f (range_with_len 0 i) i) ∙
    filter-append kept (filter_map f (range_with_len 0 i)) (cons_option (f i) []) ∙
    ap (λ o. filter kept (filter_map f (range_with_len 0 i)) ++ filter kept (cons_option o [])) here

-- ---- how far the scripts are

-- of these entries no more lines are done than there are entries
pub few_done : (trace : List Entry) (thread i : ℕ) → lines_done (take i trace) thread ≤ i
few_done trace thread i =
    omega (arith, count_by-le-length (λ e. is_meant (Some thread) e.thread && is_script e.act) (take i trace), length-take i trace)

more_counted : {X : Type 0} (p : X → Bool) (xs : List X) (i : ℕ) (x : X) → i < length xs → x ≡ get_or xs i x → (b : Bool) → p x ≡ b → count_by p (take (i + 1) xs) ≡ (if b then count_by p (take i xs) + 1 else count_by p (take i xs))
more_counted p xs i x low at true e = count_by_more_yes p xs i x low (ap p (sym at) ∙ e)
more_counted p xs i x low at false e = count_by_more_no p xs i x low (ap p (sym at) ∙ e)

-- one more entry
pub done_more : (trace : List Entry) (thread i : ℕ) (x : Entry) → i < length trace → x ≡ get_or trace i x → lines_done (take (i + 1) trace) thread ≡ (if eqb x.thread thread && is_script x.act then lines_done (take i trace) thread + 1 else lines_done (take i trace) thread)
done_more trace thread i x low at =
    more_counted (λ e. is_meant (Some thread) e.thread && is_script e.act) trace i x low at (eqb x.thread thread && is_script x.act) refl

-- ---- handles in order

-- what a list sorted by one number and then by another writes is what the list writes by the second number, then by the first
by_two : {X : Type 0} (major minor : X → ℕ) (write : X → List ℕ) (xs ys zs : List X) (m n : ℕ) → IsNonDecreasingBy minor ys → IsStableByKey minor nat_cmp xs ys → All (λ x. minor x < n) ys → IsNonDecreasingBy major zs → IsStableByKey major nat_cmp ys zs → All (λ x. major x < m) zs → flat_map write zs ≡ flat_map (λ t. flat_map (λ k. flat_map (λ x. if has minor k x then (if has major t x then write x else []) else []) xs) (range_with_len 0 n)) (range_with_len 0 m)
by_two major minor write xs ys zs m n up_minor stable_minor low_minor up_major stable_major low_major =
    sorted_writes major write ys zs m up_major stable_major low_major ∙
    flat_map_agree (λ t. flat_map (λ x. if has major t x then write x else []) ys)
    (λ t. flat_map (λ k. flat_map (λ x. if has minor k x then (if has major t x then write x else []) else []) xs) (range_with_len 0 n))
    (λ t. sorted_writes minor (λ x. if has major t x then write x else []) xs ys n up_minor stable_minor low_minor)
    (range_with_len 0 m)

abbrev pub thread_of : OpenedHandle → ℕ
thread_of handle = handle.thread

abbrev pub number_of : OpenedHandle → ℕ
number_of handle = handle.number

-- a part of handles is below one more than the greatest
all_low : (part : Handle → ℕ) (rows : List Handle) (handles : List OpenedHandle) → map as_handle handles ≡ rows → All (λ h. part (as_handle h) < greatest_of part rows + 1) handles
all_low part rows handles e =
    let P : Handle → Type 0 = λ row. part row < greatest_of part rows + 1 in
    all_before_map P as_handle handles
    (All-same P (map as_handle handles) rows e
    (All-weaker (λ row. part row ≤ greatest_of part rows) P (λ row le. omega (arith, le)) rows (each_greatest part 0 rows)))

-- handles sorted by number, and then by thread, write the report's lines
pub sorted_handles : (rows : List Handle) (handles by_number sorted : List OpenedHandle) → map as_handle handles ≡ rows → IsPermutation handles by_number → IsNonDecreasingBy number_of by_number → IsStableByKey number_of nat_cmp handles by_number → IsPermutation by_number sorted → IsNonDecreasingBy thread_of sorted → IsStableByKey thread_of nat_cmp by_number sorted → flat_map line_of_opened sorted ≡ ordered_lines rows
sorted_handles rows handles by_number sorted e moved up stable moved_again up_again stable_again =
    let m = greatest_of (λ row. row.thread) rows + 1 in
    let n = greatest_of (λ row. row.number) rows + 1 in
    let P : OpenedHandle → Type 0 = λ h. h.number < n in
    let Q : OpenedHandle → Type 0 = λ h. h.thread < m in
    let low_numbers : All P by_number = All-permutation P handles by_number moved (all_low (λ row. row.number) rows handles e) in
    let low_threads : All Q sorted = All-permutation Q by_number sorted moved_again (All-permutation Q handles by_number moved (all_low (λ row. row.thread) rows handles e)) in
    by_two thread_of number_of line_of_opened handles by_number sorted m n up stable low_numbers up_again stable_again low_threads ∙
    flat_map_agree (λ t. flat_map (λ k. flat_map (λ h. gone_line_at t k (as_handle h)) handles) (range_with_len 0 n)) (thread_gone_lines rows)
    (λ t. flat_map_agree (λ k. flat_map (λ h. gone_line_at t k (as_handle h)) handles) (λ k. flat_map (gone_line_at t k) rows)
    (λ k. sym (flat_map-map (gone_line_at t k) as_handle handles) ∙ ap (flat_map (gone_line_at t k)) e)
    (range_with_len 0 n))
    (range_with_len 0 m)
