-- Where a range is cut: its first piece, and the rest.
use Rattle.std.proofs.Common.{◌≡◌, ℕ, zero, suc, ◌+◌, ◌-◌, ◌<◌, ◌≤◌, inl, inr, List, [], ◌∷◌, ◌++◌, length, refl, ap, ap₂, sym, ◌∙◌, arith, Bool, true, false, not, ◌||◌, ◌==◌, cond, filter, Option, Some, None}
use Rattle.std.specs.List.{list_any, range_with_len}
use Rattle.std.proofs.lemmas.Bool.{and_from, cases_lt, eq-eqb}
use Rattle.std.proofs.lemmas.List.Elements.{filter-append}
use Rattle.bd_base.specs.declared.id.DevId.{DevId}
use Rattle.bd_base.specs.declared.setup.Setup.{Setup}
use Rattle.bd_machine.specs.declared.state.Extent.{Extent}
use Rattle.bd_machine.specs.BlockMap.{at, boundary_of, follows, last_of, path, path_within, row_of, shift_of_row, stands_on, under}
use Rattle.bd_machine.specs.Pieces.{cuts, extents, extents_between, is_boundary, is_cut_at}
use Rattle.bd_blocks.specs.Cuts.{IsClear, extents_left, is_multiple}
use Rattle.bd_blocks.proofs.Runs.{both_clear, clear_same}

-- ---- boundaries, one step down

any_lower : (setup : Setup) (m : ℕ) (dev base : DevId) (b : ℕ) → stands_on setup dev ≡ Some base
    → (is_multiple (boundary_of setup dev) b || list_any (is_boundary setup) (path_within (suc m) setup base (shift_of_row (row_of setup dev) + b)))
    ≡ list_any (is_boundary setup) (path_within (suc (suc m)) setup dev b)
any_lower setup m dev base b e =
    sym (ap (λ (o : Option DevId). is_multiple (boundary_of setup dev) b || list_any (is_boundary setup) (under o (λ base. path_within (suc m) setup base (shift_of_row (row_of setup dev) + b)))) e)

-- the way to a boundary of a device or of one below, from both ways
pub clear_lower : (setup : Setup) (n m : ℕ) (dev base : DevId) (b lower most run clear : ℕ) → stands_on setup dev ≡ Some base → lower ≡ shift_of_row (row_of setup dev) + b → n ≡ suc m
    → IsClear (λ k. is_multiple (boundary_of setup dev) (b + k)) most run
    → IsClear (λ k. list_any (is_boundary setup) (path_within (suc m) setup base (lower + k))) run clear
    → IsClear (λ k. list_any (is_boundary setup) (path_within (suc n) setup dev (b + k))) most clear
clear_lower setup n m dev base b lower most run clear e f g own rest =
    clear_same _ _ most clear
    (λ k.
    let moved : lower + k ≡ shift_of_row (row_of setup dev) + (b + k) = omega (arith, f) in
    ap (λ (x : ℕ). is_multiple (boundary_of setup dev) (b + k) || list_any (is_boundary setup) (path_within (suc m) setup base x)) moved
    ∙ any_lower setup m dev base (b + k) e
    ∙ ap (λ (j : ℕ). list_any (is_boundary setup) (path_within (suc j) setup dev (b + k))) (sym g))
    (both_clear (λ k. is_multiple (boundary_of setup dev) (b + k)) (λ k. list_any (is_boundary setup) (path_within (suc m) setup base (lower + k))) most run clear own rest)

-- ---- the base block follows the one before, so that boundaries alone are cuts

next_here : (dev : DevId) (b : ℕ) → follows (record { dev = dev; number = b }) (record { dev = dev; number = b + 1 }) ≡ true
next_here dev b = and_from (dev.0 == dev.0) (b + 1 == b + 1) (eq-eqb dev.0 dev.0 refl) (eq-eqb (b + 1) (b + 1) refl)

next_none : (dev : DevId) (b : ℕ) (o : Option DevId) → follows (last_of (record { dev = dev; number = b }) (under o (λ base. []))) (last_of (record { dev = dev; number = b + 1 }) (under o (λ base. []))) ≡ true
next_none dev b None = next_here dev b
next_none dev b (Some base) = next_here dev b

next_under : (setup : Setup) (n : ℕ) (dev : DevId) (b shift : ℕ) (o : Option DevId)
    → ((base : DevId) → follows (last_of (record { dev = base; number = shift + b }) (path_within (suc n) setup base (shift + b))) (last_of (record { dev = base; number = shift + (b + 1) }) (path_within (suc n) setup base (shift + (b + 1)))) ≡ true)
    → follows (last_of (record { dev = dev; number = b }) (under o (λ base. path_within (suc n) setup base (shift + b)))) (last_of (record { dev = dev; number = b + 1 }) (under o (λ base. path_within (suc n) setup base (shift + (b + 1))))) ≡ true
next_under setup n dev b shift None h = next_here dev b
next_under setup n dev b shift (Some base) h = h base

next_within : (setup : Setup) (n : ℕ) (dev : DevId) (b : ℕ) → follows (last_of (record { dev = dev; number = b }) (path_within (suc n) setup dev b)) (last_of (record { dev = dev; number = b + 1 }) (path_within (suc n) setup dev (b + 1))) ≡ true
next_within setup zero dev b = next_none dev b (stands_on setup dev)
next_within setup (suc n) dev b =
    let shift : ℕ = shift_of_row (row_of setup dev) in
    let moved : shift + b + 1 ≡ shift + (b + 1) = omega arith in
    next_under setup n dev b shift (stands_on setup dev)
    (λ base.
    ap (λ (x : ℕ). follows (last_of (record { dev = base; number = shift + b }) (path_within (suc n) setup base (shift + b))) (last_of (record { dev = base; number = x }) (path_within (suc n) setup base x))) (sym moved)
    ∙ next_within setup n base (shift + b))

cut_is_boundary : (setup : Setup) (dev : DevId) (b : ℕ) → 0 < b → list_any (is_boundary setup) (path setup dev b) ≡ is_cut_at setup dev b
cut_is_boundary setup dev b pos =
    let back : b - 1 + 1 ≡ b = omega (arith, pos) in
    let goes : follows (at setup dev (b - 1)) (at setup dev b) ≡ true = ap (λ (x : ℕ). follows (at setup dev (b - 1)) (at setup dev x)) (sym back) ∙ next_within setup (length setup.devices) dev (b - 1) in
    sym (ap (λ (t : Bool). not t || list_any (is_boundary setup) (path setup dev b)) goes)

-- the same test above 0, told otherwise
same_above : (first second : ℕ → Bool) (most n : ℕ) → ((k : ℕ) → 0 < k → first k ≡ second k) → IsClear first most n → IsClear second most n
same_above first second most n same p = record {
  some = p.some;
  within = p.within;
  clear = λ k pos below. sym (same k pos) ∙ p.clear k pos below;
  ends = λ short. sym (same n p.some) ∙ p.ends short;
}

-- the way to a boundary is the way to a cut
pub cut_run : (setup : Setup) (n : ℕ) (dev : DevId) (b most run : ℕ) → n ≡ length setup.devices
    → IsClear (λ k. list_any (is_boundary setup) (path_within (suc n) setup dev (b + k))) most run
    → IsClear (λ k. is_cut_at setup dev (b + k)) most run
cut_run setup n dev b most run e clear =
    same_above _ _ most run
    (λ k pos.
    ap (λ (j : ℕ). list_any (is_boundary setup) (path_within (suc j) setup dev (b + k))) e
    ∙ cut_is_boundary setup dev (b + k) (omega (arith, pos)))
    clear

-- ---- the first piece of a range, and the rest

range_append : (a m n : ℕ) → range_with_len a (m + n) ≡ range_with_len a m ++ range_with_len (a + m) n
range_append a zero n =
    let same : 0 + n ≡ n = omega arith in
    let here : a ≡ a + 0 = omega arith in
    ap₂ range_with_len here same
range_append a (suc m) n =
    let longer : suc m + n ≡ suc (m + n) = omega arith in
    let moved : a + 1 + m ≡ a + suc m = omega arith in
    ap (range_with_len a) longer
    ∙ ap (λ (xs : List ℕ). a ∷ xs) (range_append (a + 1) m n ∙ ap (λ (k : ℕ). range_with_len (a + 1) m ++ range_with_len k n) moved)

-- a test that holds nowhere in a range leaves nothing of it
none_of : (test : ℕ → Bool) (a n : ℕ) → ((k : ℕ) → k < n → test (a + k) ≡ false) → filter test (range_with_len a n) ≡ []
none_of test a zero never = refl
none_of test a (suc n) never =
    let start : a ≡ a + 0 = omega arith in
    let here : test a ≡ false = ap test start ∙ never 0 (omega arith) in
    ap (λ (b : Bool). cond b (a ∷ filter test (range_with_len (a + 1) n)) (filter test (range_with_len (a + 1) n))) here
    ∙ none_of test (a + 1) n (λ k lt. let moved : a + 1 + k ≡ a + (k + 1) = omega arith in ap test moved ∙ never (k + 1) (omega (arith, lt)))

no_cuts : (setup : Setup) (dev : DevId) (lba n count : ℕ) → count ≤ n → ((k : ℕ) → 0 < k → k < n → is_cut_at setup dev (lba + k) ≡ false) → cuts setup dev lba count ≡ []
no_cuts setup dev lba n count le uncut =
    none_of (is_cut_at setup dev) (lba + 1) (count - 1) (λ k lt. let moved : lba + 1 + k ≡ lba + (k + 1) = omega arith in ap (is_cut_at setup dev) moved ∙ uncut (k + 1) (omega arith) (omega (arith, lt, le)))

-- the first cut of the range, and those of the rest
first_cut : (setup : Setup) (dev : DevId) (lba n j : ℕ) → 0 < n → ((k : ℕ) → 0 < k → k < n → is_cut_at setup dev (lba + k) ≡ false) → is_cut_at setup dev (lba + n) ≡ true
    → cuts setup dev lba (n + suc j) ≡ (lba + n) ∷ cuts setup dev (lba + n) (suc j)
first_cut setup dev lba n j pos uncut cut =
    let test : ℕ → Bool = is_cut_at setup dev in
    let shorter : n + suc j - 1 ≡ n - 1 + suc j = omega (arith, pos) in
    let after : lba + 1 + (n - 1) ≡ lba + n = omega (arith, pos) in
    let others : j ≡ suc j - 1 = omega arith in
    let parts : range_with_len (lba + 1) (n + suc j - 1) ≡ range_with_len (lba + 1) (n - 1) ++ range_with_len (lba + n) (suc j) =
    ap (range_with_len (lba + 1)) shorter
    ∙ (range_append (lba + 1) (n - 1) (suc j)
    ∙ ap (λ (a : ℕ). range_with_len (lba + 1) (n - 1) ++ range_with_len a (suc j)) after) in
    let before : filter test (range_with_len (lba + 1) (n - 1)) ≡ [] = no_cuts setup dev lba n n (omega arith) uncut in
    let rest : filter test (range_with_len (lba + n) (suc j)) ≡ (lba + n) ∷ filter test (range_with_len (lba + n + 1) j) =
    ap (λ (b : Bool). cond b ((lba + n) ∷ filter test (range_with_len (lba + n + 1) j)) (filter test (range_with_len (lba + n + 1) j))) cut in
    ap (filter test) parts
    ∙ (filter-append test (range_with_len (lba + 1) (n - 1)) (range_with_len (lba + n) (suc j))
    ∙ (ap₂ (λ (xs ys : List ℕ). xs ++ ys) before rest
    ∙ ap (λ (m : ℕ). (lba + n) ∷ filter test (range_with_len (lba + n + 1) m)) others))

pub extents_are : (setup : Setup) (dev : DevId) (lba count : ℕ) → 0 < count → extents_left setup dev lba count ≡ extents setup dev lba count
extents_are setup dev lba zero pos = absurd (omega arith)
extents_are setup dev lba (suc count) pos = refl

-- the whole range is one piece
whole : (setup : Setup) (dev : DevId) (lba run count : ℕ) → 0 < count → count ≤ run → ((k : ℕ) → 0 < k → k < run → is_cut_at setup dev (lba + k) ≡ false)
    → extents_left setup dev lba count ≡ record { first = lba; count = count } ∷ []
whole setup dev lba run count pos le uncut =
    let length : lba + count - lba ≡ count = omega arith in
    extents_are setup dev lba count pos
    ∙ (ap (λ (cs : List ℕ). extents_between lba cs (lba + count)) (no_cuts setup dev lba run count le uncut)
    ∙ ap (λ (n : ℕ). let xs : List Extent = record { first = lba; count = n } ∷ [] in xs) length)

-- the range goes on after the first piece
goes_on : (setup : Setup) (dev : DevId) (lba run j : ℕ) → 0 < run → ((k : ℕ) → 0 < k → k < run → is_cut_at setup dev (lba + k) ≡ false) → is_cut_at setup dev (lba + run) ≡ true
    → extents_left setup dev lba (run + suc j) ≡ record { first = lba; count = run } ∷ extents_left setup dev (lba + run) (suc j)
goes_on setup dev lba run j pos uncut cut =
    let length : lba + run - lba ≡ run = omega arith in
    let end : lba + (run + suc j) ≡ lba + run + suc j = omega arith in
    extents_are setup dev lba (run + suc j) (omega arith)
    ∙ (ap (λ (cs : List ℕ). extents_between lba cs (lba + (run + suc j))) (first_cut setup dev lba run j pos uncut cut)
    ∙ ap₂ (λ (n stop : ℕ). let xs : List Extent = record { first = lba; count = n } ∷ extents_between (lba + run) (cuts setup dev (lba + run) (suc j)) stop in xs) length end)

-- the first piece of a range goes to the first cut or the range's end, and the others are those of the rest
pub next_piece : (setup : Setup) (dev : DevId) (lba run count : ℕ) → IsClear (λ k. is_cut_at setup dev (lba + k)) count run
    → extents_left setup dev lba count ≡ record { first = lba; count = run } ∷ extents_left setup dev (lba + run) (count - run)
next_piece setup dev lba run count is =
    elim (cases_lt run count) [
      | inl lt ↦
          let rest : count ≡ run + suc (count - run - 1) = omega (arith, lt) in
          let left : count - run ≡ suc (count - run - 1) = omega (arith, lt) in
          ap (extents_left setup dev lba) rest
          ∙ (goes_on setup dev lba run (count - run - 1) is.some is.clear (is.ends lt)
          ∙ ap (λ (n : ℕ). let xs : List Extent = record { first = lba; count = run } ∷ extents_left setup dev (lba + run) n in xs) (sym left))
      | inr ge ↦
          let same : count ≡ run = omega (arith, ge, is.within) in
          let left : count - run ≡ 0 = omega (arith, ge) in
          ap (extents_left setup dev lba) same
          ∙ (whole setup dev lba run run is.some (omega arith) is.clear
          ∙ ap (λ (n : ℕ). let xs : List Extent = record { first = lba; count = run } ∷ extents_left setup dev (lba + run) n in xs) (sym left))
    ]
