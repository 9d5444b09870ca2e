-- A thread keeps its bases, and has one of a device at most.
use Rattle.std.proofs.Common.{◌≡◌, ℕ, zero, suc, ◌+◌, ◌<◌, ◌≤◌, ◌&&◌, ◌==◌, Bool, true, false, cond, List, [], ◌∷◌, length, Option, Some, None, refl, sym, ◌∙◌, ap, subst, eqb-true, arith}
use Rattle.std.specs.List.{count_by, filter_map, cons_option, range_with_len}
use Rattle.std.proofs.lemmas.List.Sums.{sum_by-cons}
use Rattle.bd_base.specs.declared.act.Act.{Act}
use Rattle.bd_base.specs.declared.act.Act.TheVariants as acts
use Rattle.bd_base.specs.declared.act.ApplyEnd.{ApplyEnd}
use Rattle.bd_base.specs.declared.device.DevRow.{DevRow}
use Rattle.bd_base.specs.declared.id.DevId.{DevId}
use Rattle.bd_base.specs.declared.id.ReqId.{ReqId}
use Rattle.bd_base.specs.declared.setup.Setup.{Setup}
use Rattle.bd_machine.specs.declared.state.Base.{Base}
use Rattle.bd_machine.specs.declared.state.OpenPiece.{OpenPiece}
use Rattle.bd_machine.specs.BlockMap.{home, is_aio, is_base_kind, row_of, size_of}
use Rattle.bd_machine.specs.Content.{Told}
use Rattle.bd_machine.specs.Guards.{change}
use Rattle.bd_machine.specs.Homes.{applied, base_grown, bases_grown, base_here, change_applied, is_base}
use Rattle.bd_machine.specs.Kept.{piece_here}
use Rattle.bd_machine.specs.Laws.{Stored, stored, stored_of}
use Rattle.bd_machine.specs.Same.{same_dev}
use Rattle.bd_machine.specs.Start.{base_if_here, base_at_start}
use Rattle.bd_machine.specs.Table.{change_first}
use Rattle.bd_machine.specs.Users.{dev_of}
use Rattle.bd_machine.specs.View.{View, Came}
use Rattle.bd_machine.proofs.Parts.{Core, is_plain, plain_grows}
use Rattle.bd_law_disks.specs.Laws.{StartIsOnce}

module _ (dev : DevId) where
  abbrev is_stored : Stored → Bool
  is_stored s = same_dev s.dev dev

  counted : (b : Base) (bs : List Base) → count_by (is_base dev) (b ∷ bs) ≡ cond (is_base dev b) 1 0 + count_by (is_base dev) bs
  counted b bs = sum_by-cons (λ (x : Base). cond (is_base dev x) 1 0) b bs

  -- how many bases the device has goes by what is stored
  count_stored : (bs : List Base) → count_by (is_base dev) bs ≡ count_by is_stored (stored bs)
  count_stored [] = refl
  count_stored (b ∷ bs) = counted b bs ∙ ap (λ (n : ℕ). cond (is_base dev b) 1 0 + n) (count_stored bs)
      ∙ sym (sum_by-cons (λ (x : Stored). cond (is_stored x) 1 0) (stored_of b) (stored bs))

  same_stored : (bs cs : List Base) → stored bs ≡ stored cs → count_by (is_base dev) bs ≡ count_by (is_base dev) cs
  same_stored bs cs h = count_stored bs ∙ ap (count_by is_stored) h ∙ sym (count_stored cs)

  -- a change that leaves each base its device
  changed_count : (d : DevId) (f : Base → Base) → ((b : Base) → (f b).dev ≡ b.dev) → (bs : List Base)
      → count_by (is_base dev) (change_first (is_base d) f bs) ≡ count_by (is_base dev) bs
  changed_count d f keeps [] = refl
  changed_count d f keeps (b ∷ bs) = go (is_base d b) (changed_count d f keeps bs)
    where
      go : (c : Bool) → count_by (is_base dev) (change_first (is_base d) f bs) ≡ count_by (is_base dev) bs
          → count_by (is_base dev) (cond c (f b ∷ bs) (b ∷ change_first (is_base d) f bs)) ≡ count_by (is_base dev) (b ∷ bs)
      go true h = counted (f b) bs ∙ ap (λ (x : DevId). cond (same_dev x dev) 1 0 + count_by (is_base dev) bs) (keeps b) ∙ sym (counted b bs)
      go false h = counted b (change_first (is_base d) f bs) ∙ ap (λ (n : ℕ). cond (is_base dev b) 1 0 + n) h ∙ sym (counted b bs)

  -- an Apply
  applied_count : (d : DevId) (end : ApplyEnd) (p : OpenPiece) (bs : List Base)
      → count_by (is_base dev) (change_first (is_base d) (applied end p) bs) ≡ count_by (is_base dev) bs
  applied_count d end p bs = changed_count d (applied end p) (λ b. refl) bs

  -- a Grow
  grown_count : (setup : Setup) (d : DevId) (blocks : ℕ) (bs : List Base) → count_by (is_base dev) (bases_grown setup d blocks bs) ≡ count_by (is_base dev) bs
  grown_count setup d blocks bs = go (is_aio setup d)
    where
      go : (c : Bool) → count_by (is_base dev) (cond c bs (change_first (is_base d) (base_grown blocks) bs)) ≡ count_by (is_base dev) bs
      go true = refl
      go false = changed_count d (base_grown blocks) (λ b. refl) bs

  apply_count : (v : View) (req : ReqId) (k : ℕ) (d : DevId) (end : ApplyEnd) (size : ℕ) (x : Option OpenPiece) (y : Option Base)
      → count_by (is_base dev) (change_applied v req k d end size x y).part.bases ≡ count_by (is_base dev) v.part.bases
  apply_count v req k d end size (Some p) (Some b) = applied_count d end p v.part.bases
  apply_count v req k d end size _ _ = refl

plain_stay : (setup : Setup) (t : ℕ) (v : View) (act : Act) (came : Came) (dev : DevId) → is_plain act ≡ true
    → count_by (is_base dev) (change setup t v act came).part.bases ≡ count_by (is_base dev) v.part.bases
plain_stay setup t v act came dev h =
    same_stored dev (change setup t v act came).part.bases v.part.bases (ap (λ (c : Core). c.contents) (plain_grows setup t v act came h).rest)

-- an act leaves each device as many bases as it had
pub bases_stay : (setup : Setup) (t : ℕ) (v : View) (act : Act) (came : Came) (dev : DevId)
    → count_by (is_base dev) (change setup t v act came).part.bases ≡ count_by (is_base dev) v.part.bases
bases_stay setup t v (acts.Put to number what) came dev = refl
bases_stay setup t v (acts.Accept d lba handle req op count) came dev = refl
bases_stay setup t v (acts.Destruct d digest) came dev = refl
bases_stay setup t v (acts.Tick d now slices) came dev = refl
bases_stay setup t v (acts.Apply req k d end) came dev = apply_count dev v req k d end (size_of setup d) (piece_here v req k) (base_here v d)
bases_stay setup t v (acts.Grow d blocks) came dev = grown_count dev setup d blocks v.part.bases
bases_stay setup t v act came dev = plain_stay setup t v act came dev refl

-- ---- at the start

-- what is told or not, a number gives one base at most, of its own device
only_own : (setup : Setup) (told : Told) (t n : ℕ) (dev : DevId) (o : Option DevRow) (bs : List Base) → (n == dev.0) ≡ false
    → count_by (is_base dev) (cons_option (base_if_here setup told t (dev_of n) o) bs) ≡ count_by (is_base dev) bs
only_own setup told t n dev None bs h = refl
only_own setup told t n dev (Some row) bs h = go (is_base_kind row.kind && (home setup (dev_of n) == t))
  where
    go : (b : Bool) → count_by (is_base dev) (cons_option (cond b (Some (base_at_start told (dev_of n) row)) None) bs) ≡ count_by (is_base dev) bs
    go true = counted dev (base_at_start told (dev_of n) row) bs ∙ ap (λ (b : Bool). cond b 1 0 + count_by (is_base dev) bs) h ∙ omega arith
    go false = refl

one_more : (setup : Setup) (told : Told) (t n : ℕ) (dev : DevId) (o : Option DevRow) (bs : List Base) → count_by (is_base dev) bs ≤ 0
    → count_by (is_base dev) (cons_option (base_if_here setup told t (dev_of n) o) bs) ≤ 1
one_more setup told t n dev None bs h = omega arith
one_more setup told t n dev (Some row) bs h = go (is_base_kind row.kind && (home setup (dev_of n) == t))
  where
    at_most : (b : Bool) → cond b 1 0 + count_by (is_base dev) bs ≤ 1
    at_most true = omega arith
    at_most false = omega arith

    go : (b : Bool) → count_by (is_base dev) (cons_option (cond b (Some (base_at_start told (dev_of n) row)) None) bs) ≤ 1
    go true = subst (λ (m : ℕ). m ≤ 1) (sym (counted dev (base_at_start told (dev_of n) row) bs)) (at_most (is_base dev (base_at_start told (dev_of n) row)))
    go false = omega arith

module _ (setup : Setup) (told : Told) (t : ℕ) (dev : DevId) where
  -- the bases of n devices, from number a on
  abbrev from : ℕ → ℕ → List Base
  from a n = filter_map (λ n. base_if_here setup told t (dev_of n) (row_of setup (dev_of n))) (range_with_len a n)

  none_above : (n a : ℕ) → dev.0 < a → count_by (is_base dev) (from a n) ≤ 0
  none_above zero a h = omega arith
  none_above (suc n) a h = subst (λ (m : ℕ). m ≤ 0) (sym (only_own setup told t a dev (row_of setup (dev_of a)) (from (a + 1) n) (go (a == dev.0) refl)))
      (none_above n (a + 1) (omega arith))
    where
      go : (b : Bool) → (a == dev.0) ≡ b → (a == dev.0) ≡ false
      go true e = absurd (let same : a ≡ dev.0 = eqb-true a dev.0 e in let x : ⊥ = omega arith in x)
      go false e = e

  once_from : (n a : ℕ) → count_by (is_base dev) (from a n) ≤ 1
  once_from zero a = omega arith
  once_from (suc n) a = go (a == dev.0) refl (once_from n (a + 1))
    where
      go : (b : Bool) → (a == dev.0) ≡ b → count_by (is_base dev) (from (a + 1) n) ≤ 1 → count_by (is_base dev) (from a (suc n)) ≤ 1
      go true e h = let same : a
          ≡ dev.0 = eqb-true a dev.0 e in one_more setup told t a dev (row_of setup (dev_of a)) (from (a + 1) n) (none_above n (a + 1) (omega arith))
      go false e h = subst (λ (m : ℕ). m ≤ 1) (sym (only_own setup told t a dev (row_of setup (dev_of a)) (from (a + 1) n) e)) h

pub start_is_once : StartIsOnce
start_is_once setup told t dev = once_from setup told t dev (length setup.devices) 0
