-- What the state before any entry has of handles, channels and open requests.
use Rattle.std.proofs.Common.{◌≡◌, ℕ, zero, suc, ◌+◌, ◌<◌, ◌≤◌, Bool, true, false, cond, not, ◌&&◌, ◌||◌, ◌==◌, ◌⊎◌, inl, inr, List, [], ◌∷◌, length, map, get_or, Option, Some, None, refl, sym, ap, subst, eq-eqb, ne_eqb, arith, le_refl}
use Rattle.std.specs.Prelude.{slice_get, nat_lt, unwrap_or}
use Rattle.std.specs.List.{filter, list_any, range_with_len}
use Rattle.std.proofs.lemmas.Bool.{and_parts, and_from, cases_eq, lt-ltb}
use mathlib.Core.Path.{fun_ext}
use Rattle.bd_base.specs.declared.event.Answer.TheVariants as answers
use Rattle.bd_base.specs.declared.event.RegEvent.TheVariants as events
use Rattle.bd_base.specs.declared.id.DevId.{DevId}
use Rattle.bd_base.specs.declared.setup.Setup.{Setup}
use Rattle.bd_machine.specs.declared.state.Device.{Device}
use Rattle.bd_machine.specs.declared.state.Handle.{Handle}
use Rattle.bd_machine.specs.declared.state.Registry.{Registry}
use Rattle.bd_machine.specs.Alone.{counts_by}
use Rattle.bd_machine.specs.declared.state.Between.{Between}
use Rattle.bd_machine.specs.BlockMap.{below, home, stands_on, StandsOnEarlier}
use Rattle.bd_machine.specs.Changes.{counts_got}
use Rattle.bd_machine.specs.Content.{Told}
use Rattle.bd_machine.specs.Laws.{one_if}
use Rattle.bd_machine.specs.Limits.{is_limited}
use Rattle.bd_machine.specs.Registry.{references, is_live, is_live_standing, standing_if_any}
use Rattle.bd_machine.specs.Same.{same_dev}
use Rattle.bd_machine.specs.Start.{start, part_at_start, device_at_start, registry_at_start, bare_registry, with_channel, with_channels, base_handle_at_start, handles_from}
use Rattle.bd_machine.specs.Users.{all_devices, dev_of, firsts}
use Rattle.bd_machine.specs.View.{blank_part, is_of, part_of}
use Rattle.bd_machine.proofs.Laws.{counts-own, channels-other}
use Rattle.bd_machine.proofs.Tables.{dev_exact}
use Rattle.bd_law_runs.proofs.Channels.{Covered, above, val, is_on_top, is_base_at, got_covered, deep_at}
use Rattle.bd_law_runs.proofs.Counted.{InOrder, LiveFine, pending, users_on, weaker}
use Rattle.bd_law_runs.proofs.Fit.{Fit, Counts}
use Rattle.bd_law_runs.proofs.Names.{FineNames, is_putter, puts}
use Rattle.bd_law_runs.proofs.Opened.{RowsOpen, any_kept}
use Rattle.bd_law_runs.proofs.Quiet.{devices_first}
use Rattle.bd_law_runs.proofs.Sums.{count_in, count_to, in_some}

-- ---- the registry but its channels

pub handles_kept : (setup : Setup) (ds : List DevId) (r : Registry) → (with_channels setup ds r).handles ≡ r.handles
handles_kept setup [] r = refl
handles_kept setup (d ∷ ds) r = handles_kept setup ds (with_channel setup d r)

next_kept : (setup : Setup) (ds : List DevId) (r : Registry) → (with_channels setup ds r).next ≡ r.next
next_kept setup [] r = refl
next_kept setup (d ∷ ds) r = next_kept setup ds (with_channel setup d r)

between_kept : (setup : Setup) (ds : List DevId) (r : Registry) → (with_channels setup ds r).between ≡ r.between
between_kept setup [] r = refl
between_kept setup (d ∷ ds) r = between_kept setup ds (with_channel setup d r)

first_order : (setup : Setup) (n m : ℕ) (ds : List DevId) → n + length ds ≡ m → InOrder n (handles_from setup n ds) m
first_order setup n m [] e = go n m e
  where
    go : (n m : ℕ) → n + 0 ≡ m → n ≤ m
    go n m e = omega arith
first_order setup n m (d ∷ ds) e = (le_refl n, subst (λ (k : ℕ). InOrder k (handles_from setup (n + 1) ds) m) (next n) (first_order setup (n + 1) m ds (more n (length ds) m e)))
  where
    next : (n : ℕ) → n + 1 ≡ suc n
    next n = omega arith

    more : (a b c : ℕ) → a + suc b ≡ c → a + 1 + b ≡ c
    more a b c e = omega arith

-- a base handle at first
abbrev base_handle_of : Setup → ℕ → DevId → Handle
base_handle_of setup n x = base_handle_at_start setup n x (unwrap_or (stands_on setup x) x)

-- they are base handles, which no reference is for
no_users : (setup : Setup) (t n : ℕ) (ds : List DevId) (d : DevId) → n + length ds ≡ length (firsts setup) → users_on setup (filter (is_of t) (handles_from setup n ds)) d ≡ 0
no_users setup t n [] d e = refl
no_users setup t n (x ∷ xs) d e = go (home setup x == t) (no_users setup t (n + 1) xs d (more n (length xs) (length (firsts setup)) e))
  where
    more : (a b c : ℕ) → a + suc b ≡ c → a + 1 + b ≡ c
    more a b c e = omega arith

    less : (a b c : ℕ) → a + suc b ≡ c → a < c
    less a b c e = omega arith

    base : nat_lt n (length (firsts setup)) ≡ true
    base = lt-ltb n (length (firsts setup)) (less n (length xs) (length (firsts setup)) e)

    none : (a c : Bool) (m : ℕ) → c ≡ true → m ≡ 0 → one_if (a && not c) + m ≡ 0
    none true true m e h = omega arith
    none false true m e h = omega arith
    none a false m e h = cc

    go : (b : Bool) → users_on setup (filter (is_of t) (handles_from setup (n + 1) xs)) d ≡ 0 → users_on setup (cond b (base_handle_of setup n x ∷ filter (is_of t) (handles_from setup (n + 1) xs)) (filter (is_of t) (handles_from setup (n + 1) xs))) d ≡ 0
    go true k = none (same_dev (base_handle_of setup n x).dev d) (nat_lt n (length (firsts setup))) (users_on setup (filter (is_of t) (handles_from setup (n + 1) xs)) d) base k
    go false k = k

-- ---- channels

module _ (setup : Setup) (ordered : StandsOnEarlier setup) (t : ℕ) where
  abbrev counted_for : List DevId → DevId → ℕ
  counted_for ds d = count_in (λ (x : DevId). same_dev x d && (home setup x == t)) ds

  one_got : (dev : DevId) (r : Registry) (need : DevId → ℕ) → Covered setup need (references r t) (λ d. 0) → Covered setup (λ d. need d + one_if (same_dev dev d && (home setup dev == t))) (references (with_channel setup dev r) t) (λ d. 0)
  one_got dev r need c = go (cases_eq (home setup dev) t)
    where
      own : (home setup dev ≡ t) → (d : DevId) → references (with_channel setup dev r) t d ≡ counts_by (counts_got (references r t) (below setup dev)) (references r t) d
      own same d = subst (λ (u : ℕ). references (with_channel setup dev r) u d ≡ counts_by (counts_got (references r u) (below setup dev)) (references r u) d) same (counts-own (home setup dev) (counts_got (references r (home setup dev)) (below setup dev)) r.channels d)

      other : (home setup dev ≡ t → ⊥) → (d : DevId) → references (with_channel setup dev r) t d ≡ references r t d
      other ne d = channels-other setup (home setup dev) t ne r (Some (record { event = events.GetChannel dev; answer = answers.Got true [] })) d

      more : (a x v i : ℕ) → a + x ≤ v + 0 → a + i + x ≤ v + i
      more a x v i h = omega arith

      less : (a i j : ℕ) → j ≤ i → a + j ≤ a + i
      less a i j h = omega arith

      at_most : (a b : Bool) → one_if (a && b) ≤ one_if a
      at_most true true = omega arith
      at_most true false = omega arith
      at_most false b = omega arith

      none : (a b : Bool) → b ≡ false → one_if (a && b) ≤ 0
      none true true e = cc
      none true false e = omega arith
      none false b e = omega arith

      plus : (a i : ℕ) → i ≤ 0 → a + i ≤ a
      plus a i h = omega arith

      go : (home setup dev ≡ t) ⊎ (home setup dev ≡ t → ⊥) → Covered setup (λ d. need d + one_if (same_dev dev d && (home setup dev == t))) (references (with_channel setup dev r) t) (λ d. 0)
      go (inl same) =
          subst (λ (f : DevId → Option ℕ). Covered setup (λ d. need d + one_if (same_dev dev d && (home setup dev == t))) f (λ d. 0)) (sym (fun_ext (own same)))
          (weaker setup (λ d. need d + one_if (same_dev dev d)) (λ d. need d + one_if (same_dev dev d && (home setup dev == t))) (counts_by (counts_got (references r t) (below setup dev)) (references r t)) (λ d. 0) (λ d. 0)
          (λ d. less (need d) (one_if (same_dev dev d)) (one_if (same_dev dev d && (home setup dev == t))) (at_most (same_dev dev d) (home setup dev == t))) (λ d. le_refl 0)
          (got_covered setup ordered (λ d. need d + one_if (same_dev dev d)) (length setup.devices) dev 0 (references r t) (references r t) (deep_at setup ordered (λ d. need d + one_if (same_dev dev d)) dev) (λ d k. refl)
          (λ d. more (need d) (above setup (references r t) d) (val (references r t d)) (one_if (same_dev dev d)) (c d))))
      go (inr ne) =
          subst (λ (f : DevId → Option ℕ). Covered setup (λ d. need d + one_if (same_dev dev d && (home setup dev == t))) f (λ d. 0)) (sym (fun_ext (other ne)))
          (weaker setup need (λ d. need d + one_if (same_dev dev d && (home setup dev == t))) (references r t) (λ d. 0) (λ d. 0)
          (λ d. plus (need d) (one_if (same_dev dev d && (home setup dev == t))) (none (same_dev dev d) (home setup dev == t) (ne_eqb (home setup dev) t ne))) (λ d. le_refl 0) c)

  all_got : (ds : List DevId) (r : Registry) (need : DevId → ℕ) → Covered setup need (references r t) (λ d. 0) → Covered setup (λ d. need d + counted_for ds d) (references (with_channels setup ds r) t) (λ d. 0)
  all_got [] r need c = weaker setup need (λ d. need d + 0) (references r t) (λ d. 0) (λ d. 0) (λ d. zero_more (need d)) (λ d. le_refl 0) c
    where
      zero_more : (a : ℕ) → a + 0 ≤ a
      zero_more a = omega arith
  all_got (x ∷ xs) r need c =
      weaker setup (λ d. need d + one_if (same_dev x d && (home setup x == t)) + counted_for xs d) (λ d. need d + (one_if (same_dev x d && (home setup x == t)) + counted_for xs d)) (references (with_channels setup xs (with_channel setup x r)) t) (λ d. 0) (λ d. 0)
      (λ d. assoc (need d) (one_if (same_dev x d && (home setup x == t))) (counted_for xs d)) (λ d. le_refl 0)
      (all_got xs (with_channel setup x r) (λ d. need d + one_if (same_dev x d && (home setup x == t))) (one_got x r need c))
    where
      assoc : (a b c : ℕ) → a + (b + c) ≤ a + b + c
      assoc a b c = omega arith

  -- at first there are none
  none_at_first : Covered setup (λ d. 0) (λ d. None) (λ d. 0)
  none_at_first d = no_sum (above setup (λ d. None) d) (nothing (length setup.devices))
    where
      no_sum : (a : ℕ) → a ≤ 0 → 0 + a ≤ 0 + 0
      no_sum a h = omega arith

      no_and : (b : Bool) → (b && false) ≡ false
      no_and true = refl
      no_and false = refl

      nothing : (n : ℕ) → count_to (λ k. is_on_top setup (λ d. None) d k) n ≤ 0
      nothing zero = omega arith
      nothing (suc n) = by (is_on_top setup (λ d. None) d n) (count_to (λ k. is_on_top setup (λ d. None) d k) n) (no_and (is_base_at d (stands_on setup (dev_of n)))) (nothing n)
        where
          by : (b : Bool) (m : ℕ) → b ≡ false → m ≤ 0 → one_if b + m ≤ 0
          by true m e h = cc
          by false m e h = omega arith

  -- the home of a limited device has its channel
  abbrev first_extra : DevId → ℕ
  first_extra d = one_if (list_any (λ (x : DevId). same_dev x d && (home setup x == t)) (filter (is_limited setup) (all_devices setup)))

  extra_counted : (d : DevId) → first_extra d ≤ counted_for (filter (is_limited setup) (all_devices setup)) d
  extra_counted d = go (list_any (λ (x : DevId). same_dev x d && (home setup x == t)) (filter (is_limited setup) (all_devices setup))) refl
    where
      go : (b : Bool) → list_any (λ (x : DevId). same_dev x d && (home setup x == t)) (filter (is_limited setup) (all_devices setup)) ≡ b → one_if b ≤ counted_for (filter (is_limited setup) (all_devices setup)) d
      go true e = in_some (λ (x : DevId). same_dev x d && (home setup x == t)) (filter (is_limited setup) (all_devices setup)) e
      go false e = omega arith

  -- a device that is live is one of the setup
  live_any : (g : DevId → Device) (is : DevId → Bool) (n a k : ℕ) → is_live_standing (standing_if_any (slice_get (map g (map dev_of (range_with_len a n))) k)) ≡ true → is (dev_of (a + k)) ≡ true → list_any is (map dev_of (range_with_len a n)) ≡ true
  live_any g is zero a k l h = cc
  live_any g is (suc n) a zero l h = ap (λ b. b || list_any is (map dev_of (range_with_len (a + 1) n))) (subst (λ (m : ℕ). is (dev_of m) ≡ true) (zero_more a) h)
    where
      zero_more : (a : ℕ) → a + 0 ≡ a
      zero_more a = omega arith
  live_any g is (suc n) a (suc k) l h = or_right (is (dev_of a)) (live_any g is n (a + 1) k l (subst (λ (m : ℕ). is (dev_of m) ≡ true) (next a k) h))
    where
      next : (a k : ℕ) → a + suc k ≡ a + 1 + k
      next a k = omega arith

      or_right : (b : Bool) → list_any is (map dev_of (range_with_len (a + 1) n)) ≡ true → (b || list_any is (map dev_of (range_with_len (a + 1) n))) ≡ true
      or_right true k = refl
      or_right false k = k

  putter_any : (d : DevId) → (is_putter setup t d && is_live (registry_at_start setup) d) ≡ true → list_any (λ (x : DevId). same_dev x d && (home setup x == t)) (filter (is_limited setup) (all_devices setup)) ≡ true
  putter_any d h =
      let p = and_parts (is_putter setup t d) (is_live (registry_at_start setup) d) h in
      let q = and_parts (is_limited setup d) (home setup d == t) p.0 in
      any_kept (λ (x : DevId). same_dev x d && (home setup x == t)) (is_limited setup)
      (λ x e. subst (λ (y : DevId). is_limited setup y ≡ true) (sym (dev_exact x d (and_parts (same_dev x d) (home setup x == t) e).0)) q.0) (all_devices setup)
      (live_any (device_at_start setup) (λ (x : DevId). same_dev x d && (home setup x == t)) (length setup.devices) 0 d.0
      (subst (λ (ds : List Device). is_live_standing (standing_if_any (slice_get ds d.0)) ≡ true) (devices_first setup) p.1)
      (subst (λ (m : ℕ). (same_dev (dev_of m) d && (home setup (dev_of m) == t)) ≡ true) (sym (plus d.0)) (and_from (same_dev d d) (home setup d == t) (eq-eqb d.0 d.0 refl) q.1)))
    where
      plus : (n : ℕ) → 0 + n ≡ n
      plus n = omega arith

  pub first_counts : (told : Told) → Counts setup t (start setup told)
  first_counts told = record {
    extra = first_extra;
    covered = subst (λ (hs : List Handle). Covered setup (λ d. users_on setup (filter (is_of t) hs) d + first_extra d) (references (registry_at_start setup) t) (pending (registry_at_start setup).between t)) (sym (handles_kept setup (filter (is_limited setup) (all_devices setup)) (bare_registry setup)))
        (subst (λ (o : Option Between). Covered setup (λ d. users_on setup (filter (is_of t) (handles_from setup 0 (firsts setup))) d + first_extra d) (references (registry_at_start setup) t) (pending o t)) (sym (between_kept setup (filter (is_limited setup) (all_devices setup)) (bare_registry setup)))
        (weaker setup (λ d. 0 + counted_for (filter (is_limited setup) (all_devices setup)) d) (λ d. users_on setup (filter (is_of t) (handles_from setup 0 (firsts setup))) d + first_extra d) (references (registry_at_start setup) t) (λ d. 0) (pending None t)
        (λ d. sums (users_on setup (filter (is_of t) (handles_from setup 0 (firsts setup))) d) (first_extra d) (counted_for (filter (is_limited setup) (all_devices setup)) d) (no_users setup t 0 (firsts setup) d (plus (length (firsts setup)))) (extra_counted d)) (λ d. le_refl 0)
        (all_got (filter (is_limited setup) (all_devices setup)) (bare_registry setup) (λ d. 0) none_at_first)));
    credit = λ d. record {
      walk = None;
      only = λ id h. cc;
      total = live_sum d (is_putter setup t d && is_live (registry_at_start setup) d) refl (puts_none told t);
      most = one_most (list_any (λ (x : DevId). same_dev x d && (home setup x == t)) (filter (is_limited setup) (all_devices setup)));
    };
  }
    where
      plus : (n : ℕ) → 0 + n ≡ n
      plus n = omega arith

      sums : (a b c : ℕ) → a ≡ 0 → b ≤ c → a + b ≤ 0 + c
      sums a b c e h = omega arith

      one_most : (b : Bool) → one_if b ≤ 1
      one_most true = omega arith
      one_most false = omega arith

      puts_none : (told : Told) (u : ℕ) → (d : DevId) → puts (part_of (start setup told) u) d ≡ 0
      puts_none told u d = go (range_with_len 0 setup.threads) u
        where
          go : (us : List ℕ) (i : ℕ) → puts (get_or (map (part_at_start setup told) us) i blank_part) d ≡ 0
          go [] i = refl
          go (w ∷ us) zero = refl
          go (w ∷ us) (suc i) = go us i

      total_of : (a l x : ℕ) → a ≡ 0 → l ≤ x → a + 0 + l ≤ x
      total_of a l x e h = omega arith

      live_sum : (d : DevId) (b : Bool) → (is_putter setup t d && is_live (registry_at_start setup) d) ≡ b → ((x : DevId) → puts (part_of (start setup told) t) x ≡ 0) → puts (part_of (start setup told) t) d + 0 + one_if b ≤ first_extra d
      live_sum d true e none = total_of (puts (part_of (start setup told) t) d) 1 (first_extra d) (none d) (subst (λ (b : Bool). 1 ≤ one_if b) (sym (putter_any d e)) (le_refl 1))
      live_sum d false e none = total_of (puts (part_of (start setup told) t) d) 0 (first_extra d) (none d) (least (first_extra d))
        where
          least : (n : ℕ) → 0 ≤ n
          least n = omega arith

pub first_fit : (setup : Setup) (told : Told) → Fit setup (start setup told)
first_fit setup told = record {
  order = subst (λ (hs : List Handle). InOrder 0 hs (registry_at_start setup).next) (sym (handles_kept setup (filter (is_limited setup) (all_devices setup)) (bare_registry setup)))
      (subst (λ (n : ℕ). InOrder 0 (handles_from setup 0 (firsts setup)) n) (sym (next_kept setup (filter (is_limited setup) (all_devices setup)) (bare_registry setup))) (first_order setup 0 (length (firsts setup)) (firsts setup) (plus (length (firsts setup)))));
  next = subst (λ (n : ℕ). length (firsts setup) ≤ n) (sym (next_kept setup (filter (is_limited setup) (all_devices setup)) (bare_registry setup))) (le_refl (length (firsts setup)));
  live = subst (LiveFine setup (registry_at_start setup)) (sym (between_kept setup (filter (is_limited setup) (all_devices setup)) (bare_registry setup))) tt;
  names = λ u. names (range_with_len 0 setup.threads) u u;
  rows = λ u. rows (range_with_len 0 setup.threads) u (filter (is_of u) (registry_at_start setup).handles);
}
  where
    plus : (n : ℕ) → 0 + n ≡ n
    plus n = omega arith

    names : (us : List ℕ) (i u : ℕ) → FineNames setup u (get_or (map (part_at_start setup told) us) i blank_part)
    names [] i u = (tt, tt, tt)
    names (w ∷ us) zero u = (tt, tt, tt)
    names (w ∷ us) (suc i) u = names us i u

    rows : (us : List ℕ) (i : ℕ) (hs : List Handle) → RowsOpen setup hs (get_or (map (part_at_start setup told) us) i blank_part).requests
    rows [] i hs = tt
    rows (w ∷ us) zero hs = tt
    rows (w ∷ us) (suc i) hs = rows us i hs
