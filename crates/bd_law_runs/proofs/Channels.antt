-- A thread's references: each device has one for each handle on it, each channel above it, and what else needs one. What the registry's events make of that.
use Rattle.std.proofs.Common.{◌≡◌, ℕ, zero, suc, ◌+◌, ◌-◌, ◌<◌, ◌≤◌, Bool, true, false, cond, ◌&&◌, ◌||◌, ◌⊎◌, inl, inr, List, [], ◌∷◌, ◌++◌, length, map, Option, Some, None, is_some, refl, sym, ◌∙◌, ap, subst, eq-eqb, ne_eqb, arith}
use Rattle.std.specs.Prelude.{slice_get}
use Rattle.std.specs.List.{list_any}
use Rattle.std.proofs.lemmas.Bool.{and_parts, and_from, cases_eq}
use Rattle.bd_base.specs.declared.device.DevRow.{DevRow}
use Rattle.bd_base.specs.declared.id.DevId.{DevId}
use Rattle.bd_base.specs.declared.setup.Setup.{Setup}
use Rattle.bd_machine.specs.Alone.{counts_by}
use Rattle.bd_machine.specs.BlockMap.{stands_on, dev_of_block, under, path_within, shift_of_row, row_of, base_of_row, StandsOnEarlier}
use Rattle.bd_machine.specs.Changes.{counts_got, got_at, base_put, one_less}
use Rattle.bd_machine.specs.Laws.{one_if}
use Rattle.bd_machine.specs.Same.{same_dev}
use Rattle.bd_machine.specs.Users.{dev_of}
use Rattle.bd_machine.proofs.Tables.{dev_exact}
use Rattle.bd_law_runs.proofs.Sums.{count_to, count_more, count_without, count_with, count_some}

-- the references that there are; none where there is no channel
abbrev pub val : Option ℕ → ℕ
val None = 0
val (Some n) = n

pub same_here : (d : DevId) → same_dev d d ≡ true
same_here d = eq-eqb d.0 d.0 refl

differ : {b : Bool} → b ≡ true → b ≡ false → ⊥
differ h k = let e : true ≡ false = sym h ∙ k in cc

-- the base that a device stands on is this one
abbrev pub is_base_at : DevId → Option DevId → Bool
is_base_at d None = false
is_base_at d (Some base) = same_dev base d

module _ (setup : Setup) where
  abbrev pub is_on_top : (DevId → Option ℕ) → DevId → ℕ → Bool
  is_on_top refs d n = is_base_at d (stands_on setup (dev_of n)) && is_some (refs (dev_of n))

  -- how many devices that stand on it have a channel
  abbrev pub above : (DevId → Option ℕ) → DevId → ℕ
  above refs d = count_to (is_on_top refs d) (length setup.devices)

  -- each device has the references that it needs, but for those that are missing
  abbrev pub Covered : (need : DevId → ℕ) → (refs : DevId → Option ℕ) → (missing : DevId → ℕ) → Type 0
  Covered need refs missing = (d : DevId) → need d + above refs d ≤ val (refs d) + missing d

  in_setup : (dev base : DevId) → stands_on setup dev ≡ Some base → dev.0 < length setup.devices
  in_setup dev base h = at setup.devices dev.0 h
    where
      first : (n : ℕ) → 0 < suc n
      first n = omega arith

      later : (k n : ℕ) → k < n → suc k < suc n
      later k n h = omega arith

      at : (rows : List DevRow) (k : ℕ) → base_of_row (slice_get rows k) ≡ Some base → k < length rows
      at [] k h = cc
      at (r ∷ rs) zero h = first (length rs)
      at (r ∷ rs) (suc k) h = later k (length rs) (at rs k h)

  -- where only one device may have a channel more, what is above a device grows by it at most
  pub above_with : (refs more : DevId → Option ℕ) (dev d : DevId) → ((k : DevId) → (k ≡ dev → ⊥) → is_some (more k) ≡ true → is_some (refs k) ≡ true) → above more d ≤ above refs d + one_if (is_base_at d (stands_on setup dev))
  above_with refs more dev d h = go (is_base_at d (stands_on setup dev)) refl
    where
      zero_more : (a b : ℕ) → a ≤ b → a ≤ b + 0
      zero_more a b h = omega arith

      named : (k : ℕ) → (k ≡ dev.0 → ⊥) → dev_of k ≡ dev → ⊥
      named k ne e = ne (ap (λ (x : DevId). x.0) e)

      step : (k : ℕ) → (k ≡ dev.0 → ⊥) → is_on_top more d k ≡ true → is_on_top refs d k ≡ true
      step k ne e =
          let p = and_parts (is_base_at d (stands_on setup (dev_of k))) (is_some (more (dev_of k))) e in
          and_from (is_base_at d (stands_on setup (dev_of k))) (is_some (refs (dev_of k))) p.0 (h (dev_of k) (named k ne) p.1)

      go : (b : Bool) → is_base_at d (stands_on setup dev) ≡ b → above more d ≤ above refs d + one_if b
      go true e = count_with (is_on_top refs d) (is_on_top more d) dev.0 (length setup.devices) step
      go false e = zero_more (above more d) (above refs d) (count_more (is_on_top more d) (is_on_top refs d) (length setup.devices) (λ k l f. all k f (cases_eq k dev.0)))
        where
          all : (k : ℕ) → is_on_top more d k ≡ true → (k ≡ dev.0) ⊎ (k ≡ dev.0 → ⊥) → is_on_top refs d k ≡ true
          all k f (inl same) =
              let on : is_base_at d (stands_on setup (dev_of k)) ≡ true = (and_parts (is_base_at d (stands_on setup (dev_of k))) (is_some (more (dev_of k))) f).0 in
              absurd (differ (subst (λ (m : ℕ). is_base_at d (stands_on setup (dev_of m)) ≡ true) same on) e)
          all k f (inr ne) = step k ne f

  -- fewer channels
  pub above_fewer : (refs less : DevId → Option ℕ) (d : DevId) → ((k : DevId) → is_some (less k) ≡ true → is_some (refs k) ≡ true) → above less d ≤ above refs d
  above_fewer refs less d h = count_more (is_on_top less d) (is_on_top refs d) (length setup.devices) step
    where
      step : (k : ℕ) → k < length setup.devices → is_on_top less d k ≡ true → is_on_top refs d k ≡ true
      step k l e =
          let p = and_parts (is_base_at d (stands_on setup (dev_of k))) (is_some (less (dev_of k))) e in
          and_from (is_base_at d (stands_on setup (dev_of k))) (is_some (refs (dev_of k))) p.0 (h (dev_of k) p.1)

  -- a channel goes
  pub above_without : (refs less : DevId → Option ℕ) (dev base : DevId) → stands_on setup dev ≡ Some base → is_some (refs dev) ≡ true → is_some (less dev) ≡ false
      → ((k : DevId) → is_some (less k) ≡ true → is_some (refs k) ≡ true) → above less base + 1 ≤ above refs base
  above_without refs less dev base on had gone h =
      count_without (is_on_top less base) (is_on_top refs base) dev.0 (length setup.devices) (in_setup dev base on)
      (ap (λ b. is_base_at base (stands_on setup dev) && b) gone ∙ none (is_base_at base (stands_on setup dev)))
      (and_from (is_base_at base (stands_on setup dev)) (is_some (refs dev)) (ap (is_base_at base) on ∙ same_here base) had)
      (λ k e.
      let p = and_parts (is_base_at base (stands_on setup (dev_of k))) (is_some (less (dev_of k))) e in
      and_from (is_base_at base (stands_on setup (dev_of k))) (is_some (refs (dev_of k))) p.0 (h (dev_of k) p.1))
    where
      none : (b : Bool) → (b && false) ≡ false
      none true = refl
      none false = refl

  -- where a device has a channel, so has its base
  pub base_has : (need : DevId → ℕ) (refs : DevId → Option ℕ) → Covered need refs (λ d. 0) → (dev base : DevId) → stands_on setup dev ≡ Some base → is_some (refs dev) ≡ true → is_some (refs base) ≡ true
  base_has need refs c dev base on has = go (refs base) (c base)
    where
      some : 0 < above refs base
      some = count_some (is_on_top refs base) dev.0 (length setup.devices) (in_setup dev base on)
          (and_from (is_base_at base (stands_on setup dev)) (is_some (refs dev)) (ap (is_base_at base) on ∙ same_here base) has)

      clash : (a b : ℕ) → 0 < b → a + b ≤ 0 + 0 → ⊥
      clash a b h k = omega arith

      go : (o : Option ℕ) → need base + above refs base ≤ val o + 0 → is_some o ≡ true
      go None h = absurd (clash (need base) (above refs base) some h)
      go (Some n) h = refl

  pub all_have : (need : DevId → ℕ) (refs : DevId → Option ℕ) → Covered need refs (λ d. 0) → (n : ℕ) (dev : DevId) (b : ℕ) → is_some (refs dev) ≡ true → (lower : DevId)
      → list_any (same_dev lower) (map dev_of_block (path_within n setup dev b)) ≡ true → is_some (refs lower) ≡ true
  all_have need refs c zero dev b has lower h = cc
  all_have need refs c (suc n) dev b has lower h = first (same_dev lower dev) refl h (λ base on. all_have need refs c n base (shift_of_row (row_of setup dev) + b) (base_has need refs c dev base on has) lower)
    where
      rest : (o : Option DevId) → stands_on setup dev ≡ o → list_any (same_dev lower) (map dev_of_block (under o (λ base. path_within n setup base (shift_of_row (row_of setup dev) + b)))) ≡ true
          → ((base : DevId) → stands_on setup dev ≡ Some base → list_any (same_dev lower) (map dev_of_block (path_within n setup base (shift_of_row (row_of setup dev) + b))) ≡ true → is_some (refs lower) ≡ true) → is_some (refs lower) ≡ true
      rest None e h ih = cc
      rest (Some base) e h ih = ih base e h

      first : (q : Bool) → same_dev lower dev ≡ q → (q || list_any (same_dev lower) (map dev_of_block (under (stands_on setup dev) (λ base. path_within n setup base (shift_of_row (row_of setup dev) + b))))) ≡ true
          → ((base : DevId) → stands_on setup dev ≡ Some base → list_any (same_dev lower) (map dev_of_block (path_within n setup base (shift_of_row (row_of setup dev) + b))) ≡ true → is_some (refs lower) ≡ true) → is_some (refs lower) ≡ true
      first true e h ih = subst (λ (d : DevId). is_some (refs d) ≡ true) (sym (dev_exact lower dev e)) has
      first false e h ih = rest (stands_on setup dev) refl h ih

  -- ---- a get

  module _ (ordered : StandsOnEarlier setup) (need : DevId → ℕ) where
    -- the path from the device goes all the way down
    abbrev pub Deep : ℕ → DevId → Type 0
    Deep n dev = (base : DevId) → stands_on setup dev ≡ Some base → dev.0 < n

    abbrev pub with_one : (DevId → Option ℕ) → DevId → Option ℕ → DevId → Option ℕ
    with_one refs dev count d = cond (same_dev dev d) count (refs d)

    -- one reference more where there is a channel
    more_covered : (refs : DevId → Option ℕ) (dev : DevId) (n : ℕ) → refs dev ≡ Some n → Covered need refs (λ d. one_if (same_dev dev d)) → Covered need (with_one refs dev (Some (n + 1))) (λ d. 0)
    more_covered refs dev n has c d = go (same_dev dev d) refl (above_fewer refs (with_one refs dev (Some (n + 1))) d old) (c d)
      where
        old : (k : DevId) → is_some (with_one refs dev (Some (n + 1)) k) ≡ true → is_some (refs k) ≡ true
        old k h = at (same_dev dev k) refl h
          where
            at : (b : Bool) → same_dev dev k ≡ b → is_some (cond b (Some (n + 1)) (refs k)) ≡ true → is_some (refs k) ≡ true
            at true e h = ap is_some (ap refs (sym (dev_exact dev k e)) ∙ has)
            at false e h = h

        here : (a x y m n : ℕ) → x ≤ y → m ≡ n → a + y ≤ m + 1 → a + x ≤ n + 1 + 0
        here a x y m n h e k = omega arith

        there : (a x y m : ℕ) → x ≤ y → a + y ≤ m + 0 → a + x ≤ m + 0
        there a x y m h k = omega arith

        go : (b : Bool) → same_dev dev d ≡ b → above (with_one refs dev (Some (n + 1))) d ≤ above refs d → need d + above refs d ≤ val (refs d) + one_if b → need d + above (with_one refs dev (Some (n + 1))) d ≤ val (cond b (Some (n + 1)) (refs d)) + 0
        go true e h k = here (need d) (above (with_one refs dev (Some (n + 1))) d) (above refs d) (val (refs d)) n h (ap val (ap refs (sym (dev_exact dev d e)) ∙ has)) k
        go false e h k = there (need d) (above (with_one refs dev (Some (n + 1))) d) (above refs d) (val (refs d)) h k

    -- a channel is made: its base lacks a reference
    made_covered : (refs : DevId → Option ℕ) (dev : DevId) → refs dev ≡ None → Covered need refs (λ d. one_if (same_dev dev d)) → Covered need (with_one refs dev (Some 1)) (λ d. one_if (is_base_at d (stands_on setup dev)))
    made_covered refs dev has c d = go (same_dev dev d) refl (above_with refs (with_one refs dev (Some 1)) dev d old) (c d)
      where
        old : (k : DevId) → (k ≡ dev → ⊥) → is_some (with_one refs dev (Some 1) k) ≡ true → is_some (refs k) ≡ true
        old k ne h = at (same_dev dev k) refl h
          where
            at : (b : Bool) → same_dev dev k ≡ b → is_some (cond b (Some 1) (refs k)) ≡ true → is_some (refs k) ≡ true
            at true e h = absurd (ne (sym (dev_exact dev k e)))
            at false e h = h

        here : (a x y m i : ℕ) → x ≤ y + i → m ≡ 0 → a + y ≤ m + 1 → a + x ≤ 1 + i
        here a x y m i h e k = omega arith

        there : (a x y m i : ℕ) → x ≤ y + i → a + y ≤ m + 0 → a + x ≤ m + i
        there a x y m i h k = omega arith

        go : (b : Bool) → same_dev dev d ≡ b → above (with_one refs dev (Some 1)) d ≤ above refs d + one_if (is_base_at d (stands_on setup dev)) → need d + above refs d ≤ val (refs d) + one_if b
            → need d + above (with_one refs dev (Some 1)) d ≤ val (cond b (Some 1) (refs d)) + one_if (is_base_at d (stands_on setup dev))
        go true e h k = here (need d) (above (with_one refs dev (Some 1)) d) (above refs d) (val (refs d)) (one_if (is_base_at d (stands_on setup dev))) h (ap val (ap refs (sym (dev_exact dev d e)) ∙ has)) k
        go false e h k = there (need d) (above (with_one refs dev (Some 1)) d) (above refs d) (val (refs d)) (one_if (is_base_at d (stands_on setup dev))) h k

    -- the path from the base on
    abbrev lowers : ℕ → DevId → ℕ → Option DevId → List DevId
    lowers n dev b o = map dev_of_block (under o (λ base. path_within n setup base (shift_of_row (row_of setup dev) + b)))

    got_step : (n : ℕ) (dev : DevId) (b : ℕ) (refs channels : DevId → Option ℕ) → channels dev ≡ refs dev → Covered need refs (λ d. one_if (same_dev dev d))
        → ((base : DevId) → stands_on setup dev ≡ Some base → Covered need (with_one refs dev (Some 1)) (λ d. one_if (same_dev base d)) → Covered need (counts_by (counts_got channels (lowers n dev b (Some base))) (with_one refs dev (Some 1))) (λ d. 0))
        → Covered need (counts_by (counts_got channels (map dev_of_block (path_within (suc n) setup dev b))) refs) (λ d. 0)
    got_step n dev b refs channels same c rest = go (channels dev) refl
      where
        made : refs dev ≡ None → (o : Option DevId) → stands_on setup dev ≡ o → Covered need (counts_by (counts_got channels (lowers n dev b o)) (with_one refs dev (Some 1))) (λ d. 0)
        made e None on = subst (λ (o : Option DevId). Covered need (with_one refs dev (Some 1)) (λ d. one_if (is_base_at d o))) on (made_covered refs dev e c)
        made e (Some base) on = rest base on (subst (λ (o : Option DevId). Covered need (with_one refs dev (Some 1)) (λ d. one_if (is_base_at d o))) on (made_covered refs dev e c))

        go : (o : Option ℕ) → channels dev ≡ o → Covered need (counts_by (got_at dev (counts_got channels (lowers n dev b (stands_on setup dev))) o) refs) (λ d. 0)
        go None e = made (sym same ∙ e) (stands_on setup dev) refl
        go (Some k) e = more_covered refs dev k (sym same ∙ e) c

    same_is : (k : ℕ) → k ≤ k
    same_is k = omega arith

    -- what is lower than the base is as it was
    alike_below : (refs channels : DevId → Option ℕ) (dev base : DevId) → stands_on setup dev ≡ Some base → ((d : DevId) → d.0 ≤ dev.0 → channels d ≡ refs d) → (d : DevId) → d.0 ≤ base.0 → channels d ≡ with_one refs dev (Some 1) d
    alike_below refs channels dev base on alike d h =
        alike d (under_it d.0 base.0 dev.0 h (ordered dev base on))
        ∙ sym (ap (λ b. cond b (Some 1) (refs d)) (ne_eqb dev.0 d.0 (not_it d.0 base.0 dev.0 h (ordered dev base on))))
      where
        under_it : (a b c : ℕ) → a ≤ b → b < c → a ≤ c
        under_it a b c h k = omega arith

        not_it : (a b c : ℕ) → a ≤ b → b < c → c ≡ a → ⊥
        not_it a b c h k e = omega arith

    less_deep : (a b c : ℕ) → a < b → b < suc c → a < c
    less_deep a b c h k = omega arith

    none_deep : (a : ℕ) → a < 0 → ⊥
    none_deep a h = omega arith

    -- a get brings the reference that is missing
    pub got_covered : (n : ℕ) (dev : DevId) (b : ℕ) (refs channels : DevId → Option ℕ) → Deep n dev → ((d : DevId) → d.0 ≤ dev.0 → channels d ≡ refs d) → Covered need refs (λ d. one_if (same_dev dev d))
        → Covered need (counts_by (counts_got channels (map dev_of_block (path_within (suc n) setup dev b))) refs) (λ d. 0)
    got_covered zero dev b refs channels deep alike c = got_step zero dev b refs channels (alike dev (same_is dev.0)) c (λ base on k. absurd (none_deep dev.0 (deep base on)))
    got_covered (suc m) dev b refs channels deep alike c =
        got_step (suc m) dev b refs channels (alike dev (same_is dev.0)) c
        (λ base on k. got_covered m base (shift_of_row (row_of setup dev) + b) (with_one refs dev (Some 1)) channels (λ x o. less_deep base.0 dev.0 m (ordered dev base on) (deep base on)) (alike_below refs channels dev base on alike) k)

    pub deep_at : (dev : DevId) → Deep (length setup.devices) dev
    deep_at dev base on = in_setup dev base on

    -- ---- a put, and a drop

    pub put_covered : (refs : DevId → Option ℕ) (dev : DevId) (n : ℕ) → refs dev ≡ Some n → Covered need refs (λ d. 0) → Covered need (with_one refs dev (Some (n - 1))) (λ d. one_if (same_dev dev d))
    put_covered refs dev n has c d = go (same_dev dev d) refl (above_fewer refs (with_one refs dev (Some (n - 1))) d old) (c d)
      where
        old : (k : DevId) → is_some (with_one refs dev (Some (n - 1)) k) ≡ true → is_some (refs k) ≡ true
        old k h = at (same_dev dev k) refl h
          where
            at : (b : Bool) → same_dev dev k ≡ b → is_some (cond b (Some (n - 1)) (refs k)) ≡ true → is_some (refs k) ≡ true
            at true e h = ap is_some (ap refs (sym (dev_exact dev k e)) ∙ has)
            at false e h = h

        here : (a x y m n : ℕ) → x ≤ y → m ≡ n → a + y ≤ m + 0 → a + x ≤ n - 1 + 1
        here a x y m n h e k = omega arith

        there : (a x y m : ℕ) → x ≤ y → a + y ≤ m + 0 → a + x ≤ m + 0
        there a x y m h k = omega arith

        go : (b : Bool) → same_dev dev d ≡ b → above (with_one refs dev (Some (n - 1))) d ≤ above refs d → need d + above refs d ≤ val (refs d) + 0 → need d + above (with_one refs dev (Some (n - 1))) d ≤ val (cond b (Some (n - 1)) (refs d)) + one_if b
        go true e h k = here (need d) (above (with_one refs dev (Some (n - 1))) d) (above refs d) (val (refs d)) n h (ap val (ap refs (sym (dev_exact dev d e)) ∙ has)) k
        go false e h k = there (need d) (above (with_one refs dev (Some (n - 1))) d) (above refs d) (val (refs d)) h k

    abbrev without_both : (DevId → Option ℕ) → DevId → DevId → DevId → Option ℕ
    without_both refs dev base = with_one (with_one refs base (one_less (refs base))) dev None

    less_is : (o : Option ℕ) → val (one_less o) ≡ val o - 1
    less_is None = omega arith
    less_is (Some n) = refl

    less_some : (o : Option ℕ) → is_some (one_less o) ≡ true → is_some o ≡ true
    less_some None h = h
    less_some (Some n) h = refl

    both_old : (refs : DevId → Option ℕ) (dev base k : DevId) → is_some (without_both refs dev base k) ≡ true → is_some (refs k) ≡ true
    both_old refs dev base k h = at (same_dev dev k) (same_dev base k) refl h
      where
        at : (a b : Bool) → same_dev base k ≡ b → is_some (cond a None (cond b (one_less (refs base)) (refs k))) ≡ true → is_some (refs k) ≡ true
        at true b e h = cc
        at false true e h = subst (λ (x : DevId). is_some (refs x) ≡ true) (dev_exact base k e) (less_some (refs base) h)
        at false false e h = h

    dropped_with_base : (refs : DevId → Option ℕ) (dev base : DevId) → stands_on setup dev ≡ Some base → refs dev ≡ Some 0 → Covered need refs (λ d. 0) → Covered need (without_both refs dev base) (λ d. 0)
    dropped_with_base refs dev base on has c d = by (same_dev dev d) (same_dev base d) refl refl (above_fewer refs (without_both refs dev base) d (both_old refs dev base)) (c d)
      where
        here : (a x y m : ℕ) → x ≤ y → m ≡ 0 → a + y ≤ m + 0 → a + x ≤ 0 + 0
        here a x y m h e k = omega arith

        there : (a x y m : ℕ) → x ≤ y → a + y ≤ m + 0 → a + x ≤ m + 0
        there a x y m h k = omega arith

        at_base : (a x y m l : ℕ) → x + 1 ≤ y → l ≡ m - 1 → a + y ≤ m + 0 → a + x ≤ l + 0
        at_base a x y m l h e k = omega arith

        gone : is_some (without_both refs dev base dev) ≡ false
        gone = ap (λ b. is_some (cond b None (cond (same_dev base dev) (one_less (refs base)) (refs dev)))) (same_here dev)

        less : base ≡ d → above (without_both refs dev base) d + 1 ≤ above refs d
        less same = subst (λ (x : DevId). above (without_both refs dev base) x + 1 ≤ above refs x) same (above_without refs (without_both refs dev base) dev base on (ap is_some has) gone (both_old refs dev base))

        by : (a b : Bool) → same_dev dev d ≡ a → same_dev base d ≡ b → above (without_both refs dev base) d ≤ above refs d → need d + above refs d ≤ val (refs d) + 0 → need d + above (without_both refs dev base) d ≤ val (cond a None (cond b (one_less (refs base)) (refs d))) + 0
        by true b e f h k = here (need d) (above (without_both refs dev base) d) (above refs d) (val (refs d)) h (ap val (ap refs (sym (dev_exact dev d e)) ∙ has)) k
        by false true e f h k = at_base (need d) (above (without_both refs dev base) d) (above refs d) (val (refs d)) (val (one_less (refs base))) (less (dev_exact base d f)) (less_is (refs base) ∙ ap (λ (x : DevId). val (refs x) - 1) (dev_exact base d f)) k
        by false false e f h k = there (need d) (above (without_both refs dev base) d) (above refs d) (val (refs d)) h k

    -- a channel without references goes, and its base has a reference less
    pub dropped_covered : (refs : DevId → Option ℕ) (dev : DevId) → refs dev ≡ Some 0 → Covered need refs (λ d. 0) → Covered need (counts_by (base_put refs (stands_on setup dev) ++ record { dev = dev; count = None } ∷ []) refs) (λ d. 0)
    dropped_covered refs dev has c = go (stands_on setup dev) refl
      where
        here : (a x y m : ℕ) → x ≤ y → m ≡ 0 → a + y ≤ m + 0 → a + x ≤ 0 + 0
        here a x y m h e k = omega arith

        there : (a x y m : ℕ) → x ≤ y → a + y ≤ m + 0 → a + x ≤ m + 0
        there a x y m h k = omega arith

        go : (o : Option DevId) → stands_on setup dev ≡ o → Covered need (counts_by (base_put refs o ++ record { dev = dev; count = None } ∷ []) refs) (λ d. 0)
        go None on d = by (same_dev dev d) refl (above_fewer refs (with_one refs dev None) d old) (c d)
          where
            old : (k : DevId) → is_some (with_one refs dev None k) ≡ true → is_some (refs k) ≡ true
            old k h = at (same_dev dev k) h
              where
                at : (b : Bool) → is_some (cond b None (refs k)) ≡ true → is_some (refs k) ≡ true
                at true h = cc
                at false h = h

            by : (b : Bool) → same_dev dev d ≡ b → above (with_one refs dev None) d ≤ above refs d → need d + above refs d ≤ val (refs d) + 0 → need d + above (with_one refs dev None) d ≤ val (cond b None (refs d)) + 0
            by true e h k = here (need d) (above (with_one refs dev None) d) (above refs d) (val (refs d)) h (ap val (ap refs (sym (dev_exact dev d e)) ∙ has)) k
            by false e h k = there (need d) (above (with_one refs dev None) d) (above refs d) (val (refs d)) h k
        go (Some base) on d = dropped_with_base refs dev base on has c d
