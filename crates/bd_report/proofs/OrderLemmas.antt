-- A list in rising order of a number, against the same list read once for each number.
use Rattle.std.proofs.Common.{◌≡◌, refl, sym, ap, ◌∙◌, ℕ, zero, suc, ◌+◌, ◌<◌, ◌≤◌, Bool, true, false, not, cond, ◌&&◌, List, [], ◌∷◌, ◌++◌, length, get_or, map, max, fold, flat_map, filter, if◌then◌else◌, ⊎_elim, arith, ltb, eqb}
use Rattle.std.specs.List.{All, range_with_len}
use Rattle.std.specs.List.Sorted.{IsNonDecreasingBy, IsPermutation, IsStableByKey, ties}
use Rattle.std.specs.Ordering.{is_lt, nat_cmp}
use Rattle.std.specs.declared.cmp.Ordering.TheVariants.{Less, Equal, Greater}
use Rattle.std.proofs.lemmas.Bool.{cases_order, lt-ltb, le-ltb, eq-eqb, ne_eqb, eqb-true, cond-true, cond-false}
use Rattle.std.proofs.lemmas.Grind.{flat_map-append}
use Rattle.std.proofs.lemmas.List.Folds.{flat_map-map}
use Rattle.std.proofs.lemmas.List.Elements.{All-nil, All-cons, All-head, All-tail, All-same, All-append, All-map, All-weaker, filter_agree, filter_passes}
use Rattle.std.proofs.lemmas.List.Sorted.{All-permutation}
use Rattle.bd_base.specs.declared.act.Entry.{Entry}
use Rattle.bd_base.specs.declared.job.Line.{Line}
use Rattle.bd_base.specs.declared.job.Script.{Script}
use Rattle.bd_report.specs.declared.order.Command.{Command}
use Rattle.bd_report.specs.Order.{as_told, commands_in, commands_of, command_line}
use Rattle.bd_report.specs.Report.{greatest_in, greatest_number, job_line_if, script_lines, lines_numbered, job_lines}
use Rattle.bd_report.proofs.ReportLemmas.{numbers_more}

-- ---- a filter at one more item

filter_yes : {X : Type 0} (p : X → Bool) (x : X) (xs : List X) → p x ≡ true → filter p (x ∷ xs) ≡ x ∷ filter p xs
filter_yes p x xs h = cond-true (p x) (x ∷ filter p xs) (filter p xs) h

filter_no : {X : Type 0} (p : X → Bool) (x : X) (xs : List X) → p x ≡ false → filter p (x ∷ xs) ≡ filter p xs
filter_no p x xs h = cond-false (p x) (x ∷ filter p xs) (filter p xs) h

pub flat_map_agree : {X : Type 0} (f g : X → List ℕ) → ((x : X) → f x ≡ g x) → (xs : List X) → flat_map f xs ≡ flat_map g xs
flat_map_agree f g same [] = refl
flat_map_agree f g same (x ∷ xs) = ap (λ l. l ++ flat_map f xs) (same x) ∙ ap (λ l. g x ++ l) (flat_map_agree f g same xs)

module _ {X : Type 0} (number : X → ℕ) where
  -- an item of this number
  abbrev pub has : ℕ → X → Bool
  has n x = eqb (number x) n

  -- an item of a lower number
  abbrev pub below : ℕ → X → Bool
  below n x = ltb (number x) n

  -- ---- what the items write, number by number

  none_below : (m : ℕ) (xs : List X) → ((k : ℕ) (d : X) → k < length xs → m ≤ number (get_or xs k d)) → filter (below m) xs ≡ []
  none_below m [] h = refl
  none_below m (x ∷ xs) h =
      filter_no (below m) x xs (le-ltb (number x) m (h 0 x (omega arith))) ∙ none_below m xs (λ k d low. h (suc k) d (omega (arith, low)))

  rising_tail : (x : X) (xs : List X) → IsNonDecreasingBy number (x ∷ xs) → IsNonDecreasingBy number xs
  rising_tail x xs up i j d le low = up (suc i) (suc j) d (omega (arith, le)) (omega (arith, low))

  -- what comes after an item is not below it
  none_behind : (x : X) (xs : List X) → IsNonDecreasingBy number (x ∷ xs) → (m : ℕ) → number x ≡ m → filter (below m) xs ≡ []
  none_behind x xs up m same =
      none_below m xs (λ k d low. let h : number x ≤ number (get_or xs k d) = up 0 (suc k) d (omega arith) (omega (arith, low)) in omega (arith, same, h))

  -- the items below the next number are those below this one, and then those of this one
  below_next : (m : ℕ) (xs : List X) → IsNonDecreasingBy number xs → filter (below (suc m)) xs ≡ filter (below m) xs ++ filter (has m) xs
  below_next m [] up = refl
  below_next m (x ∷ xs) up =
      let rest = below_next m xs (rising_tail x xs up) in
      ⊎_elim
      (λ same.
      filter_yes (below (suc m)) x xs (lt-ltb (number x) (suc m) (omega (arith, same))) ∙ ap (λ l. x ∷ l) rest ∙
      ap (λ l. x ∷ (l ++ filter (has m) xs)) (none_behind x xs up m same) ∙
      sym (filter_yes (has m) x xs (eq-eqb (number x) m same)) ∙
      ap (λ l. l ++ filter (has m) (x ∷ xs)) (sym (filter_no (below m) x xs (le-ltb (number x) m (omega (arith, same))) ∙ none_behind x xs up m same)))
      (⊎_elim
      (λ lower.
      filter_yes (below (suc m)) x xs (lt-ltb (number x) (suc m) (omega (arith, lower))) ∙ ap (λ l. x ∷ l) rest ∙
      ap (λ l. l ++ filter (has m) xs) (sym (filter_yes (below m) x xs (lt-ltb (number x) m lower))) ∙
      ap (λ l. filter (below m) (x ∷ xs) ++ l) (sym (filter_no (has m) x xs (ne_eqb (number x) m (λ e. omega (arith, lower, e))))))
      (λ higher.
      filter_no (below (suc m)) x xs (le-ltb (number x) (suc m) (omega (arith, higher))) ∙ rest ∙
      ap (λ l. l ++ filter (has m) xs) (sym (filter_no (below m) x xs (le-ltb (number x) m (omega (arith, higher))))) ∙
      ap (λ l. filter (below m) (x ∷ xs) ++ l) (sym (filter_no (has m) x xs (ne_eqb (number x) m (λ e. omega (arith, higher, e)))))))
      (cases_order (number x) m)

  all_below : (m : ℕ) (xs : List X) → All (λ x. number x < m) xs → filter (below m) xs ≡ xs
  all_below m [] h = refl
  all_below m (x ∷ xs) h =
      filter_yes (below m) x xs (lt-ltb (number x) m (h 0 x (omega arith))) ∙ ap (λ l. x ∷ l) (all_below m xs (λ k d low. h (suc k) d (omega (arith, low))))

  by_number : (write : X → List ℕ) (xs : List X) → IsNonDecreasingBy number xs → (m : ℕ) → flat_map (λ n. flat_map write (filter (has n) xs)) (range_with_len 0 m) ≡ flat_map write (filter (below m) xs)
  by_number write xs up zero = sym (ap (flat_map write) (none_below 0 xs (λ k d low. omega arith)))
  by_number write xs up (suc m) =
      let f : ℕ → List ℕ = λ n. flat_map write (filter (has n) xs) in
      let next : suc m ≡ m + 1 = omega arith in
      ap (λ k. flat_map f (range_with_len 0 k)) next ∙
      sym (numbers_more f [] m) ∙
      ap (λ l. l ++ f m) (by_number write xs up m) ∙
      sym (flat_map-append write (filter (below m) xs) (filter (has m) xs)) ∙
      ap (flat_map write) (sym (below_next m xs up))

  -- ---- a list read for one number

  read_one : (write : X → List ℕ) (n : ℕ) (x : X) (xs : List X) → flat_map (λ y. if has n y then write y else []) xs ≡ flat_map write (filter (has n) xs) → (b : Bool) → has n x ≡ b → flat_map (λ y. if has n y then write y else []) (x ∷ xs) ≡ flat_map write (filter (has n) (x ∷ xs))
  read_one write n x xs rest true e =
      ap (λ b. (if b then write x else []) ++ flat_map (λ y. if has n y then write y else []) xs) e ∙
      ap (λ l. write x ++ l) rest ∙ ap (flat_map write) (sym (filter_yes (has n) x xs e))
  read_one write n x xs rest false e =
      ap (λ b. (if b then write x else []) ++ flat_map (λ y. if has n y then write y else []) xs) e ∙
      rest ∙ ap (flat_map write) (sym (filter_no (has n) x xs e))

  read_for : (write : X → List ℕ) (n : ℕ) (xs : List X) → flat_map (λ x. if has n x then write x else []) xs ≡ flat_map write (filter (has n) xs)
  read_for write n [] = refl
  read_for write n (x ∷ xs) = read_one write n x xs (read_for write n xs) (has n x) refl

  -- ---- a stable sort

  lower_is : (p q : Bool) → is_lt (cond p Less (cond q Equal Greater)) ≡ p
  lower_is true q = refl
  lower_is false true = refl
  lower_is false false = refl

  ties_are : (a b : ℕ) → (not (is_lt (nat_cmp a b)) && not (is_lt (nat_cmp b a))) ≡ eqb b a
  ties_are a b =
      let first : is_lt (nat_cmp a b) ≡ ltb a b = lower_is (ltb a b) (eqb a b) in
      let second : is_lt (nat_cmp b a) ≡ ltb b a = lower_is (ltb b a) (eqb b a) in
      let both : (p q : Bool) → ltb a b ≡ p → ltb b a ≡ q → (not (is_lt (nat_cmp a b)) && not (is_lt (nat_cmp b a))) ≡ (not p && not q) =
      λ p q e f. ap (λ u. not u && not (is_lt (nat_cmp b a))) (first ∙ e) ∙ ap (λ u. not p && not u) (second ∙ f) in
      ⊎_elim
      (λ same. both false false (le-ltb a b (omega (arith, same))) (le-ltb b a (omega (arith, same))) ∙ sym (eq-eqb b a (sym same)))
      (⊎_elim
      (λ less. both true false (lt-ltb a b less) (le-ltb b a (omega (arith, less))) ∙ sym (ne_eqb b a (λ e. omega (arith, less, e))))
      (λ more. both false true (le-ltb a b (omega (arith, more))) (lt-ltb b a more) ∙ sym (ne_eqb b a (λ e. omega (arith, more, e)))))
      (cases_order a b)

  -- the items that tie with one are those of its number, and they stay in their order
  stays : (xs ys : List X) → IsStableByKey number nat_cmp xs ys → (x : X) → filter (has (number x)) ys ≡ filter (has (number x)) xs
  stays xs ys stable x =
      let tie : X → Bool = ties (λ a b. is_lt (nat_cmp (number a) (number b))) x in
      sym (filter_agree tie (has (number x)) (λ y. ties_are (number x) (number y)) ys) ∙
      stable x ∙
      filter_agree tie (has (number x)) (λ y. ties_are (number x) (number y)) xs

  first_has : (n : ℕ) (xs : List X) (z : X) (zs : List X) → filter (has n) xs ≡ z ∷ zs → number z ≡ n
  first_has n xs z zs e =
      let passes : X → Type 0 = λ x. has n x ≡ true in
      eqb-true (number z) n (All-head passes z zs (All-same passes (z ∷ zs) (filter (has n) xs) (sym e) (filter_passes (has n) xs)))

  kept : (xs ys : List X) → IsStableByKey number nat_cmp xs ys → (n : ℕ) (zs ws : List X) → filter (has n) ys ≡ zs → filter (has n) xs ≡ ws → zs ≡ ws
  kept xs ys stable n [] [] e f = refl
  kept xs ys stable n [] (w ∷ ws) e f =
      let is = first_has n xs w ws f in
      sym e ∙ ap (λ m. filter (has m) ys) (sym is) ∙ stays xs ys stable w ∙ ap (λ m. filter (has m) xs) is ∙ f
  kept xs ys stable n (z ∷ zs) ws e f =
      let is = first_has n ys z zs e in
      sym e ∙ ap (λ m. filter (has m) ys) (sym is) ∙ stays xs ys stable z ∙ ap (λ m. filter (has m) xs) is ∙ f

  -- what a list sorted by number writes is what the list writes number by number
  pub sorted_writes : (write : X → List ℕ) (xs ys : List X) (m : ℕ) → IsNonDecreasingBy number ys → IsStableByKey number nat_cmp xs ys → All (λ x. number x < m) ys → flat_map write ys ≡ flat_map (λ n. flat_map (λ x. if has n x then write x else []) xs) (range_with_len 0 m)
  sorted_writes write xs ys m up stable low =
      ap (flat_map write) (sym (all_below m ys low)) ∙
      sym (by_number write ys up m) ∙
      flat_map_agree (λ n. flat_map write (filter (has n) ys)) (λ n. flat_map (λ x. if has n x then write x else []) xs)
      (λ n. ap (flat_map write) (kept xs ys stable n (filter (has n) ys) (filter (has n) xs) refl refl) ∙ sym (read_for write n xs))
      (range_with_len 0 m)

-- ---- the greatest of numbers

start_greatest : {X : Type 0} (f : X → ℕ) (a : ℕ) (xs : List X) → a ≤ fold (λ b x. max b (f x)) a xs
start_greatest f a [] = omega arith
start_greatest f a (x ∷ xs) = omega (arith, start_greatest f (max a (f x)) xs)

pub each_greatest : {X : Type 0} (f : X → ℕ) (a : ℕ) (xs : List X) → All (λ x. f x ≤ fold (λ b y. max b (f y)) a xs) xs
each_greatest f a [] = All-nil (λ x. f x ≤ a)
each_greatest f a (x ∷ xs) =
    All-cons (λ y. f y ≤ fold (λ b z. max b (f z)) (max a (f x)) xs) x xs (omega (arith, start_greatest f (max a (f x)) xs)) (each_greatest f (max a (f x)) xs)

pub all_before_map : {X Y : Type 0} (P : Y → Type 0) (f : X → Y) (xs : List X) → All P (map f xs) → All (λ x. P (f x)) xs
all_before_map P f [] h = All-nil (λ x. P (f x))
all_before_map P f (x ∷ xs) h =
    All-cons (λ y. P (f y)) x xs (All-head P (f x) (map f xs) h) (all_before_map P f xs (All-tail P (f x) (map f xs) h))

-- ---- the commands of scripts

abbrev pub number_of : Command → ℕ
number_of command = command.line.now.number

-- the line number of a pair
abbrev number_in : ℕ × Line → ℕ
number_in pair = pair.1.number

none_above : (m : ℕ) (scripts : List Script) → All (λ script. greatest_in script ≤ m) scripts → All (λ pair. number_in pair ≤ m) (commands_of scripts)
none_above m [] h = All-nil (λ pair. number_in pair ≤ m)
none_above m (script ∷ scripts) h =
    let P : ℕ × Line → Type 0 = λ pair. number_in pair ≤ m in
    let here : greatest_in script ≤ m = All-head (λ s. greatest_in s ≤ m) script scripts h in
    All-append P (commands_in script) (commands_of scripts)
    (All-map P (λ line. (script.thread, line)) script.lines
    (All-weaker (λ line. line.number ≤ greatest_in script) (λ line. line.number ≤ m) (λ line le. omega (arith, le, here)) script.lines (each_greatest (λ line. line.number) 0 script.lines)))
    (none_above m scripts (All-tail (λ s. greatest_in s ≤ m) script scripts h))

-- the report's line of a pair, if it has this number
abbrev pair_line : List Entry → ℕ → ℕ × Line → List ℕ
pair_line trace n pair = job_line_if trace n pair.0 pair.1

pair_lines : (trace : List Entry) (n : ℕ) (scripts : List Script) → flat_map (pair_line trace n) (commands_of scripts) ≡ lines_numbered scripts trace n
pair_lines trace n [] = refl
pair_lines trace n (script ∷ scripts) =
    flat_map-append (pair_line trace n) (commands_in script) (commands_of scripts) ∙
    ap (λ l. l ++ flat_map (pair_line trace n) (commands_of scripts)) (flat_map-map (pair_line trace n) (λ line. (script.thread, line)) script.lines) ∙
    ap (λ l. script_lines trace n script ++ l) (pair_lines trace n scripts)

numbered : (trace : List Entry) (n : ℕ) (scripts : List Script) (commands : List Command) → map as_told commands ≡ commands_of scripts → flat_map (λ c. if has number_of n c then command_line trace c else []) commands ≡ lines_numbered scripts trace n
numbered trace n scripts commands e =
    sym (flat_map-map (pair_line trace n) as_told commands) ∙ ap (flat_map (pair_line trace n)) e ∙ pair_lines trace n scripts

-- the commands of all scripts, sorted by line number, write the report's lines
pub sorted_lines : (scripts : List Script) (commands sorted : List Command) → map as_told commands ≡ commands_of scripts → IsPermutation commands sorted → IsNonDecreasingBy number_of sorted → IsStableByKey number_of nat_cmp commands sorted → (trace : List Entry) → flat_map (command_line trace) sorted ≡ job_lines scripts trace
sorted_lines scripts commands sorted e moved up stable trace =
    let greatest = greatest_number scripts in
    let P : ℕ × Line → Type 0 = λ pair. number_in pair < greatest + 1 in
    let all : All P (commands_of scripts) =
    All-weaker (λ pair. number_in pair ≤ greatest) P (λ pair le. omega (arith, le)) (commands_of scripts)
    (none_above greatest scripts (each_greatest greatest_in 0 scripts)) in
    let low = all_before_map P as_told commands (All-same P (map as_told commands) (commands_of scripts) e all) in
    sorted_writes number_of (command_line trace) commands sorted (greatest + 1) up stable (All-permutation (λ c. number_of c < greatest + 1) commands sorted moved low) ∙
    flat_map_agree (λ n. flat_map (λ c. if has number_of n c then command_line trace c else []) commands) (lines_numbered scripts trace)
    (λ n. numbered trace n scripts commands e) (range_with_len 0 (greatest + 1))
