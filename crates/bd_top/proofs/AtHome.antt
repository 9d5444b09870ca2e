-- The base of a device at its home: as a run begins, and that it stays as the run goes on.
use Rattle.std.proofs.Common.{◌≡◌, ℕ, zero, suc, ◌+◌, ◌<◌, ◌≤◌, ◌&&◌, ◌==◌, Bool, true, false, cond, List, [], ◌∷◌, length, Option, Some, None, ◌⊎◌, inl, inr, refl, sym, ◌∙◌, ap, ap₂, subst, zero-add, eqb-true, arith}
use Rattle.std.specs.List.{cons_option, count_by, filter_map, find, range_with_len}
use Rattle.std.specs.Option.{option_map}
use Rattle.std.specs.Prelude.{get_or, slice_index_or}
use Rattle.std.proofs.Math.Nat.{mod-lt}
use Rattle.std.proofs.lemmas.Bool.{cases_eq, cases_lt, eq-eqb}
use Rattle.std.proofs.lemmas.List.{set_past}
use Rattle.std.proofs.lemmas.List.FromFn.{get_or-map-range_with_len}
use Rattle.std.proofs.lemmas.List.Sums.{sum_by-cons}
use Rattle.bd_base.specs.declared.act.Entry.{Entry}
use Rattle.bd_base.specs.declared.device.DevRow.{DevRow}
use Rattle.bd_base.specs.declared.device.Kind.{Kind}
use Rattle.bd_base.specs.declared.device.Kind.TheVariants as kinds
use Rattle.bd_base.specs.declared.id.DevId.{DevId}
use Rattle.bd_base.specs.declared.setup.Setup.{Setup}
use Rattle.bd_machine.specs.declared.state.Base.{Base}
use Rattle.bd_machine.specs.declared.state.Part.{Part}
use Rattle.bd_machine.specs.declared.state.State.{State}
use Rattle.bd_machine.specs.BlockMap.{has_kind, home, is_aio_kind, is_base_kind, row_of}
use Rattle.bd_machine.specs.Content.{content_at_start, content_told, Told}
use Rattle.bd_machine.specs.Homes.{is_base}
use Rattle.bd_machine.specs.Run.{after_all, state_after}
use Rattle.bd_machine.specs.Start.{base_at_start, base_if_here, part_at_start, start}
use Rattle.bd_machine.specs.Step.{after, carried_out, change_in}
use Rattle.bd_machine.specs.Users.{dev_of}
use Rattle.bd_machine.specs.View.{blank_part, came_for, part_of, view, Change}
use Rattle.bd_machine.proofs.Laws.{part-other, part-own}
use Rattle.bd_disk_pool.proofs.Lists.{dev_self, is_below}
use Rattle.bd_law_disks.proofs.Kept.{bases_stay}
use Rattle.bd_top.specs.DiskRows.{content_at_home}

-- what a state has of a device at its home
abbrev pub base_in : Setup → State → DevId → Option Base
base_in setup s dev = find (is_base dev) (part_of s (home setup dev)).bases

-- ---- at the start

module _ (setup : Setup) (told : Told) (dev : DevId) (row : DevRow) (there : row_of setup dev ≡ Some row) (kind : is_base_kind row.kind ≡ true) where
  -- the bases of k devices at the device's home, from number a on
  abbrev from : ℕ → ℕ → List Base
  from a k = filter_map (λ n. base_if_here setup told (home setup dev) (dev_of n) (row_of setup (dev_of n))) (range_with_len a k)

  own : (bs : List Base) → find (is_base dev) (cons_option (base_if_here setup told (home setup dev) dev (row_of setup dev)) bs) ≡ Some (base_at_start told dev row)
  own bs =
      ap (λ (o : Option DevRow). find (is_base dev) (cons_option (base_if_here setup told (home setup dev) dev o) bs)) there
      ∙ ap₂ (λ (b c : Bool). find (is_base dev) (cons_option (cond (b && c) (Some (base_at_start told dev row)) None) bs)) kind (eq-eqb (home setup dev) (home setup dev) refl)
      ∙ ap (λ (b : Bool). cond b (Some (base_at_start told dev row)) (find (is_base dev) bs)) (dev_self dev)

  other : (a : ℕ) (bs : List Base) → (a ≡ dev.0 → ⊥) → find (is_base dev) (cons_option (base_if_here setup told (home setup dev) (dev_of a) (row_of setup (dev_of a))) bs) ≡ find (is_base dev) bs
  other a bs ne = go (row_of setup (dev_of a))
    where
      differs : (b : Bool) → (a == dev.0) ≡ b → (a == dev.0) ≡ false
      differs true e = absurd (ne (eqb-true a dev.0 e))
      differs false e = e

      go : (o : Option DevRow) → find (is_base dev) (cons_option (base_if_here setup told (home setup dev) (dev_of a) o) bs) ≡ find (is_base dev) bs
      go None = refl
      go (Some r) = if_here (is_base_kind r.kind && (home setup (dev_of a) == home setup dev))
        where
          if_here : (b : Bool) → find (is_base dev) (cons_option (cond b (Some (base_at_start told (dev_of a) r)) None) bs) ≡ find (is_base dev) bs
          if_here true = ap (λ (b : Bool). cond b (Some (base_at_start told (dev_of a) r)) (find (is_base dev) bs)) (differs (a == dev.0) refl)
          if_here false = refl

  found_from : (k a : ℕ) → a ≤ dev.0 → dev.0 < a + k → find (is_base dev) (from a k) ≡ Some (base_at_start told dev row)
  found_from zero a low high = absurd (omega (arith, low, high))
  found_from (suc k) a low high = go (cases_eq a dev.0) (λ above. found_from k (a + 1) above (omega (arith, high)))
    where
      go : (a ≡ dev.0) ⊎ (a ≡ dev.0 → ⊥) → (a + 1 ≤ dev.0 → find (is_base dev) (from (a + 1) k) ≡ Some (base_at_start told dev row)) → find (is_base dev) (from a (suc k)) ≡ Some (base_at_start told dev row)
      go (inl same) later =
          subst (λ (n : ℕ). find (is_base dev) (cons_option (base_if_here setup told (home setup dev) (dev_of n) (row_of setup (dev_of n))) (from (a + 1) k)) ≡ Some (base_at_start told dev row)) (sym same)
          (own (from (a + 1) k))
      go (inr ne) later = other a (from (a + 1) k) ne ∙ later (omega (arith, low, ne))

  -- its home has its base
  base_first : 0 < setup.threads → base_in setup (start setup told) dev ≡ Some (base_at_start told dev row)
  base_first some =
      ap (λ (p : Part). find (is_base dev) p.bases) (get_or-map-range_with_len (part_at_start setup told) 0 setup.threads (home setup dev) (home setup dev) blank_part (mod-lt _ some) (zero-add (home setup dev)))
      ∙ found_from (length setup.devices) 0 (omega arith) (let below : dev.0 < length setup.devices = is_below setup.devices dev.0 row there in omega (arith, below))

-- ---- as a run goes on

bases_after : (setup : Setup) (s : State) (e : Entry) (t : ℕ) (dev : DevId) → count_by (is_base dev) (part_of (after setup s e) t).bases ≡ count_by (is_base dev) (part_of s t).bases
unfolding after
bases_after setup s e t dev = go (cases_eq e.thread t)
  where
    c : Change
    c = change_in setup s e.thread e.act

    own : (e.thread < length s.parts) ⊎ (length s.parts ≤ e.thread) → count_by (is_base dev) (part_of (carried_out setup s e c) e.thread).bases ≡ count_by (is_base dev) (part_of s e.thread).bases
    own (inl lt) = ap (λ (p : Part). count_by (is_base dev) p.bases) (part-own setup s e c lt) ∙ bases_stay setup e.thread (view s e.thread) e.act (came_for setup s e.thread e.act) dev
    own (inr le) = ap (λ (ps : List Part). count_by (is_base dev) (get_or ps e.thread blank_part).bases) (set_past s.parts e.thread c.part le)

    go : (e.thread ≡ t) ⊎ (e.thread ≡ t → ⊥) → count_by (is_base dev) (part_of (carried_out setup s e c) t).bases ≡ count_by (is_base dev) (part_of s t).bases
    go (inl same) = subst (λ (u : ℕ). count_by (is_base dev) (part_of (carried_out setup s e c) u).bases ≡ count_by (is_base dev) (part_of s u).bases) same (own (cases_lt e.thread (length s.parts)))
    go (inr ne) = ap (λ (p : Part). count_by (is_base dev) p.bases) (part-other setup s e c t ne)

bases_then : (setup : Setup) (s : State) (es : List Entry) (t : ℕ) (dev : DevId) → count_by (is_base dev) (part_of (after_all setup s es) t).bases ≡ count_by (is_base dev) (part_of s t).bases
bases_then setup s [] t dev = refl
bases_then setup s (e ∷ es) t dev = bases_then setup (after setup s e) es t dev ∙ bases_after setup s e t dev

module _ {X : Type 0} (is : X → Bool) where
  found_some : (xs : List X) (x : X) → find is xs ≡ Some x → 0 < count_by is xs
  found_some [] x at = cc
  found_some (y ∷ ys) x at = subst (λ (n : ℕ). 0 < n) (sym (sum_by-cons (λ (z : X). cond (is z) 1 0) y ys)) (go (is y) at (found_some ys x))
    where
      go : (b : Bool) → cond b (Some y) (find is ys) ≡ Some x → (find is ys ≡ Some x → 0 < count_by is ys) → 0 < cond b 1 0 + count_by is ys
      go true e later = omega arith
      go false e later = let more : 0 < count_by is ys = later e in omega (arith, more)

  some_found : (xs : List X) → 0 < count_by is xs → (x : X) × (find is xs ≡ Some x)
  some_found [] some = absurd (omega (arith, some))
  some_found (y ∷ ys) some = go (is y) refl (subst (λ (n : ℕ). 0 < n) (sum_by-cons (λ (z : X). cond (is z) 1 0) y ys) some) (some_found ys)
    where
      go : (b : Bool) → is y ≡ b → 0 < cond b 1 0 + count_by is ys → (0 < count_by is ys → (x : X) × (find is ys ≡ Some x)) → (x : X) × (find is (y ∷ ys) ≡ Some x)
      go true e some later = (y, ap (λ (b : Bool). cond b (Some y) (find is ys)) e)
      go false e some later = let rest = later (omega (arith, some)) in (rest.0, ap (λ (b : Bool). cond b (Some y) (find is ys)) e ∙ rest.1)

-- ---- aio devices

aio_is_base : (kind : Kind) → is_aio_kind kind ≡ true → is_base_kind kind ≡ true
aio_is_base kinds.Aio is = refl
aio_is_base _ is = cc

aio_told : (told : Told) (dev : DevId) (kind : Kind) (size blocks : ℕ) → is_aio_kind kind ≡ true → content_at_start told dev kind size blocks ≡ content_told (slice_index_or told dev.0 None)
aio_told told dev kinds.Aio size blocks is = refl
aio_told told dev _ size blocks is = cc

row_there : (o : Option DevRow) → has_kind is_aio_kind o ≡ true → (row : DevRow) × (o ≡ Some row) × (is_aio_kind row.kind ≡ true)
row_there None is = cc
row_there (Some row) is = (row, refl, is)

module _ (setup : Setup) (told : Told) (dev : DevId) (some : 0 < setup.threads) (aio : has_kind is_aio_kind (row_of setup dev) ≡ true) where
  -- **as a run begins an aio device has at its home what is told of it**
  pub begins_as_told : content_at_home setup (start setup told) dev ≡ Some (content_told (slice_index_or told dev.0 None))
  begins_as_told =
      let row = row_there (row_of setup dev) aio in
      ap (option_map (λ (b : Base). b.content)) (base_first setup told dev row.0 row.1 (aio_is_base row.0.kind row.2) some)
      ∙ ap Some (aio_told told dev row.0.kind row.0.size row.0.blocks row.2)

  -- **after any entries it has a base there**
  pub base_last : (es : List Entry) → (b : Base) × (base_in setup (state_after setup told es) dev ≡ Some b)
  base_last es =
      let row = row_there (row_of setup dev) aio in
      let first : 0 < count_by (is_base dev) (part_of (start setup told) (home setup dev)).bases =
      found_some (is_base dev) (part_of (start setup told) (home setup dev)).bases (base_at_start told dev row.0) (base_first setup told dev row.0 row.1 (aio_is_base row.0.kind row.2) some) in
      some_found (is_base dev) (part_of (state_after setup told es) (home setup dev)).bases (subst (λ (n : ℕ). 0 < n) (sym (bases_then setup (start setup told) es (home setup dev) dev)) first)
