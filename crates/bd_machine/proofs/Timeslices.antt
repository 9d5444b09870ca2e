-- In every run, all Ticks of a device fit one start.
use Rattle.std.proofs.Common.{◌≡◌, ℕ, zero, suc, ◌+◌, ◌-◌, ◌*◌, ◌/◌, ◌<◌, ◌≤◌, Bool, true, false, cond, ◌&&◌, ◌==◌, ◌⊎◌, inl, inr, nat_le, nat_lt, leb-true, List, [], ◌∷◌, length, map, max, min, Option, Some, None, refl, sym, ◌∙◌, ap, subst, eqb-true, eq-eqb, arith}
use Rattle.std.specs.List.{find, range_with_len}
use Rattle.std.specs.Option.{option_map}
use Rattle.std.specs.Prelude.{get_or}
use Rattle.bd_base.specs.declared.act.ApplyEnd.{ApplyEnd}
use Rattle.bd_base.specs.declared.id.ReqId.{ReqId}
use Rattle.bd_machine.specs.declared.state.Base.{Base}
use Rattle.bd_machine.specs.declared.state.OpenPiece.{OpenPiece}
use Rattle.bd_machine.specs.BlockMap.{size_of}
use Rattle.bd_machine.specs.Homes.{base_here, change_applied}
use Rattle.bd_machine.specs.Kept.{piece_here}
use Rattle.std.proofs.lemmas.Bool.{and_parts, cases_eq}
use Rattle.bd_base.specs.declared.act.Act.{Act}
use Rattle.bd_base.specs.declared.act.Act.TheVariants as acts
use Rattle.bd_base.specs.declared.act.Entry.{Entry}
use Rattle.bd_base.specs.declared.id.DevId.{DevId}
use Rattle.bd_base.specs.declared.setup.Setup.{Setup}
use Rattle.bd_machine.specs.declared.state.Limited.{Limited}
use Rattle.bd_machine.specs.declared.state.Moments.{Moments}
use Rattle.bd_machine.specs.declared.state.Part.{Part}
use Rattle.bd_machine.specs.declared.state.Starts.{Starts}
use Rattle.bd_machine.specs.declared.state.State.{State}
use Rattle.bd_machine.specs.BlockMap.{home}
use Rattle.bd_machine.specs.Budget.{starts_before, may_have_passed, slices_passed}
use Rattle.bd_machine.specs.Content.{Told}
use Rattle.bd_machine.specs.Guards.{guards, change}
use Rattle.bd_machine.specs.Limits.{is_limit, limited_here, starts_left, is_tick_due, ticked}
use Rattle.bd_machine.specs.Run.{IsRunFrom, after_all}
use Rattle.bd_machine.specs.Same.{same_dev}
use Rattle.bd_machine.specs.Start.{start, part_at_start, limited_at_start, limited_devices}
use Rattle.bd_machine.specs.Step.{refusal, after}
use Rattle.bd_machine.specs.Table.{change_first}
use Rattle.bd_machine.specs.Timeslices.{Timing, timing_of, timings, slices_of, FitsAct, Fits, IsAmong, IsLeftStart, LeftStartsFit, SomeStartFits}
use Rattle.bd_machine.specs.View.{View, Came, view, part_of, came_for, blank_part}
use Rattle.bd_machine.proofs.Tables.{dev_exact}
use Rattle.bd_machine.proofs.Parts.{Core, is_plain, plain_grows}
use Rattle.bd_machine.proofs.Acts.{Passes, passed, IsFresh}
use Rattle.bd_machine.proofs.Steps.{allowed_passes, fresh_after, part_is, part_stays}
use Rattle.bd_machine.proofs.Complete.{fresh_start}

-- ---- numbers

quotient : (n k : ℕ) → k * 1000 ≤ n → n < k * 1000 + 1000 → n / 1000 ≡ k
quotient n k low high = omega arith

fits_between : (now sum start : ℕ) → sum * 1000 ≤ now → now - (sum * 1000 + 999) ≤ start → start ≤ now - sum * 1000 → (start ≤ now) × (slices_passed start now ≡ sum)
fits_between now sum start enough low high = (omega arith, quotient (now - start) sum (omega arith) (omega arith))

-- ---- a device's timing

abbrev is_timing : DevId → Timing → Bool
is_timing dev x = same_dev x.dev dev

abbrev timing_in : DevId → List Timing → Option Timing
timing_in dev rows = find (is_timing dev) rows

-- a start is possible as yet
abbrev Within : ℕ → Option Timing → Type 0
Within start None = Unit {0}
Within start (Some x) = IsAmong start x.starts

abbrev IsSomeLeft : Option Starts → Type 0
IsSomeLeft None = Unit {0}
IsSomeLeft (Some s) = s.earliest ≤ s.latest

-- some start is possible as yet
abbrev IsOpen : Option Timing → Type 0
IsOpen None = Unit {0}
IsOpen (Some x) = IsSomeLeft x.starts

abbrev sum_of : Option Timing → ℕ
sum_of None = 0
sum_of (Some x) = x.slices

some_start : (o : Option Timing) → IsOpen o → (start : ℕ) × Within start o
some_start None h = (0, tt)
some_start (Some x) h = go x.starts h
  where
    same : (n : ℕ) → n ≤ n
    same n = omega arith

    go : (o : Option Starts) → IsSomeLeft o → (start : ℕ) × IsAmong start o
    go None h = (0, tt)
    go (Some s) h = (s.earliest, (same s.earliest, h))

-- the timing of a row that is found
found_timing : (dev : DevId) (rows : List Limited) (l : Limited) → find (is_limit dev) rows ≡ Some l → timing_in dev (timings rows) ≡ Some (timing_of l)
found_timing dev [] l h = cc
found_timing dev (x ∷ xs) l h = go (is_limit dev x) h (found_timing dev xs l)
  where
    go : (b : Bool) → cond b (Some x) (find (is_limit dev) xs) ≡ Some l → (find (is_limit dev) xs ≡ Some l → timing_in dev (timings xs) ≡ Some (timing_of l)) → cond b (Some (timing_of x)) (timing_in dev (timings xs)) ≡ Some (timing_of l)
    go true h rest = let same : x ≡ l = cc in ap (λ (y : Limited). Some (timing_of y)) same
    go false h rest = rest h

-- a row that changes but for its device
changed_row : (dev : DevId) (f : Limited → Limited) → ((l : Limited) → same_dev (f l).dev l.dev ≡ true) → (rows : List Limited) (l : Limited) → find (is_limit dev) rows ≡ Some l → timing_in dev (timings (change_first (is_limit dev) f rows)) ≡ Some (timing_of (f l))
changed_row dev f keeps [] l h = cc
changed_row dev f keeps (x ∷ xs) l h = go (is_limit dev x) refl h (changed_row dev f keeps xs l)
  where
    hit : (b : Bool) → same_dev (f x).dev dev ≡ b → b ≡ true → cond (same_dev (f x).dev dev) (Some (timing_of (f x))) (timing_in dev (timings xs)) ≡ Some (timing_of (f x))
    hit true e h = ap (λ c. cond c (Some (timing_of (f x))) (timing_in dev (timings xs))) e
    hit false e h = cc

    go : (b : Bool) → is_limit dev x ≡ b → cond b (Some x) (find (is_limit dev) xs) ≡ Some l → (find (is_limit dev) xs ≡ Some l → timing_in dev (timings (change_first (is_limit dev) f xs)) ≡ Some (timing_of (f l)))
        → timing_in dev (timings (cond b (f x ∷ xs) (x ∷ change_first (is_limit dev) f xs))) ≡ Some (timing_of (f l))
    go true e h rest =
        let same : x ≡ l = cc in
        let here : same_dev (f x).dev dev ≡ true = subst (λ (d : DevId). same_dev (f x).dev d ≡ true) (dev_exact x.dev dev e) (keeps x) in
        hit (same_dev (f x).dev dev) refl here ∙ ap (λ (y : Limited). Some (timing_of (f y))) same
    go false e h rest = ap (λ c. cond c (Some (timing_of x)) (timing_in dev (timings (change_first (is_limit dev) f xs)))) e ∙ rest h

-- a row of another device
other_row : (d dev : DevId) (f : Limited → Limited) → ((l : Limited) → same_dev (f l).dev l.dev ≡ true) → same_dev d dev ≡ false → (rows : List Limited) → timing_in dev (timings (change_first (is_limit d) f rows)) ≡ timing_in dev (timings rows)
other_row d dev f keeps ne [] = refl
other_row d dev f keeps ne (x ∷ xs) = go (is_limit d x) refl (other_row d dev f keeps ne xs)
  where
    apart : same_dev x.dev d ≡ true → (y : DevId) → same_dev y x.dev ≡ true → same_dev y dev ≡ false
    apart e y h = subst (λ (z : DevId). same_dev z dev ≡ false) (sym (dev_exact y x.dev h ∙ dev_exact x.dev d e)) ne

    go : (b : Bool) → is_limit d x ≡ b → timing_in dev (timings (change_first (is_limit d) f xs)) ≡ timing_in dev (timings xs)
        → timing_in dev (timings (cond b (f x ∷ xs) (x ∷ change_first (is_limit d) f xs))) ≡ timing_in dev (timings (x ∷ xs))
    go true e ih =
        ap (λ c. cond c (Some (timing_of (f x))) (timing_in dev (timings xs))) (apart e (f x).dev (keeps x))
        ∙ sym (ap (λ c. cond c (Some (timing_of x)) (timing_in dev (timings xs))) (apart e x.dev (eq-eqb x.dev.0 x.dev.0 refl)))
    go false e ih = ap (λ o. cond (same_dev x.dev dev) (Some (timing_of x)) o) ih

-- ---- one act

abbrev is_tick_of : DevId → Act → Bool
is_tick_of dev (acts.Tick d now slices) = same_dev d dev
is_tick_of dev _ = false

abbrev timing : DevId → Part → Option Timing
timing dev part = timing_in dev (timings part.limited)

ticked_dev : (setup : Setup) (moments : Moments) (now slices : ℕ) (l : Limited) → same_dev (ticked setup moments now slices l).dev l.dev ≡ true
ticked_dev setup moments now slices l = eq-eqb l.dev.0 l.dev.0 refl

-- an act that isn't a Tick of the device leaves its timing
timing_kept : (setup : Setup) (t : ℕ) (v : View) (act : Act) (came : Came) (dev : DevId) → is_tick_of dev act ≡ false → timing dev (change setup t v act came).part ≡ timing dev v.part
timing_kept setup t v act came dev h = go (is_plain act) refl
  where
    applied : (req : ReqId) (k : ℕ) (d : DevId) (end : ApplyEnd) (size : ℕ) (x : Option OpenPiece) (b : Option Base) → timing dev (change_applied v req k d end size x b).part ≡ timing dev v.part
    applied req k d end size (Some p) (Some b) = refl
    applied req k d end size _ _ = refl

    others : (act : Act) → is_tick_of dev act ≡ false → is_plain act ≡ false → timing dev (change setup t v act came).part ≡ timing dev v.part
    others (acts.Put to number what) h e = refl
    others (acts.Accept d lba handle req op count) h e = refl
    others (acts.Destruct d digest) h e = refl
    others (acts.Grow d blocks) h e = refl
    others (acts.Apply req k d end) h e = applied req k d end (size_of setup d) (piece_here v req k) (base_here v d)
    others (acts.Tick d now slices) h e = other_row d dev (ticked setup v.part.moments now slices) (ticked_dev setup v.part.moments now slices) h v.part.limited
    others _ h e = cc

    go : (b : Bool) → is_plain act ≡ b → timing dev (change setup t v act came).part ≡ timing dev v.part
    go true e = ap (λ (c : Core). timing_in dev c.timings) (plain_grows setup t v act came e).rest
    go false e = others act h e

-- what a Tick of the device needs and leaves
record IsTicked (dev : DevId) (old new : Option Timing) (now slices : ℕ) : Type 0 where
  is_open : IsOpen new
  sum : sum_of new ≡ sum_of old + slices
  within : (start : ℕ) → Within start new → Within start old
  fits : (start : ℕ) → Within start new → (start ≤ now) × (slices_passed start now ≡ sum_of old + slices)

max_parts : (a b c : ℕ) → max a b ≤ c → (a ≤ c) × (b ≤ c)
max_parts a b c h = (omega arith, omega arith)

min_parts : (a b c : ℕ) → c ≤ min a b → (c ≤ a) × (c ≤ b)
min_parts a b c h = (omega arith, omega arith)

row_ticked : (setup : Setup) (moments : Moments) (dev : DevId) (now slices : ℕ) (l : Limited) → is_tick_due moments now slices (Some l) ≡ true → IsTicked dev (Some (timing_of l)) (Some (timing_of (ticked setup moments now slices l))) now slices
row_ticked setup moments dev now slices l h =
    let sum : ℕ = l.slices + slices in
    let old : Starts = starts_left moments now l.starts in
    let due = (and_parts (nat_lt 0 slices && nat_lt 0 (length l.waiting)) (may_have_passed now sum old) h).1 in
    let p = and_parts (nat_le (sum * 1000) now) (nat_le (starts_before now sum old).earliest (starts_before now sum old).latest) due in
    let enough = leb-true (sum * 1000) now p.0 in
    record {
      is_open = leb-true (starts_before now sum old).earliest (starts_before now sum old).latest p.1;
      sum = refl;
      within = λ start w. inside l.starts start (max_parts old.earliest (now - (sum * 1000 + 999)) start w.0).0 (min_parts old.latest (now - sum * 1000) start w.1).0;
      fits = λ start w. fits_between now sum start enough (max_parts old.earliest (now - (sum * 1000 + 999)) start w.0).1 (min_parts old.latest (now - sum * 1000) start w.1).1;
    }
  where
    inside : (o : Option Starts) (start : ℕ) → (starts_left moments now o).earliest ≤ start → start ≤ (starts_left moments now o).latest → IsAmong start o
    inside None start a b = tt
    inside (Some s) start a b = (a, b)

act_ticked : (setup : Setup) (t : ℕ) (v : View) (act : Act) (came : Came) (dev : DevId) → Passes (guards setup t v act came) → is_tick_of dev act ≡ true → (home setup dev ≡ t) × ((now : ℕ) × ((slices : ℕ) × ((slices_of dev act ≡ slices) × (IsTicked dev (timing dev v.part) (timing dev (change setup t v act came).part) now slices × ((start : ℕ) → (start ≤ now) × (slices_passed start now ≡ sum_of (timing dev v.part) + slices) → FitsAct dev start (sum_of (timing dev v.part)) act)))))
act_ticked setup t v (acts.Tick d now slices) came dev h e =
    let g = (passed (guards setup t v (acts.Tick d now slices) came) h).0 in
    let p = and_parts ((home setup d == t) && nat_le v.part.moments.last now) (is_tick_due v.part.moments now slices (limited_here v.part d)) g in
    let q = and_parts (home setup d == t) (nat_le v.part.moments.last now) p.0 in
    let same : d ≡ dev = dev_exact d dev e in (
      subst (λ (x : DevId). home setup x ≡ t) same (eqb-true (home setup d) t q.0),
      (now, (slices, (ap (λ b. cond b slices 0) e, (subst (λ (x : DevId). IsTicked x (timing x v.part) (timing x (change setup t v (acts.Tick d now slices) came).part) now slices) same (go (limited_here v.part d) refl p.1), (λ start f _. f))))),
    )
  where
    go : (o : Option Limited) → limited_here v.part d ≡ o → is_tick_due v.part.moments now slices o ≡ true → IsTicked d (timing d v.part) (timing d (change setup t v (acts.Tick d now slices) came).part) now slices
    go None f k = cc
    go (Some l) f k =
        let T : Option Timing → Option Timing → Type 0 = λ a b. IsTicked d a b now slices in
        subst (λ (a : Option Timing). T a (timing d (change setup t v (acts.Tick d now slices) came).part)) (sym (found_timing d v.part.limited l f))
        (subst (T (Some (timing_of l))) (sym (changed_row d (ticked setup v.part.moments now slices) (ticked_dev setup v.part.moments now slices) v.part.limited l f)) (row_ticked setup v.part.moments d now slices l k))
act_ticked setup t v _ came dev h e = cc

-- ---- runs

untold_fits : (dev : DevId) (start before : ℕ) (act : Act) → is_tick_of dev act ≡ false → FitsAct dev start before act × (slices_of dev act ≡ 0)
untold_fits dev start before (acts.Tick d now slices) h = ((λ e. let no : true ≡ false = sym e ∙ h in cc), ap (λ b. cond b slices 0) h)
untold_fits dev start before _ h = (tt, refl)

module _ (setup : Setup) (dev : DevId) where
  abbrev timing_at : State → Option Timing
  timing_at s = timing dev (part_of s (home setup dev))

  kept_by : (s : State) (e : Entry) → IsFresh s → refusal setup s e ≡ None → is_tick_of dev e.act ≡ false → timing_at (after setup s e) ≡ timing_at s
  kept_by s e fresh allowed h = go (cases_eq e.thread (home setup dev))
    where
      own : timing dev (part_of (after setup s e) e.thread) ≡ timing dev (part_of s e.thread)
      own = ap (timing dev) (part_is setup s e fresh allowed) ∙ timing_kept setup e.thread (view s e.thread) e.act (came_for setup s e.thread e.act) dev h

      go : (e.thread ≡ home setup dev) ⊎ (e.thread ≡ home setup dev → ⊥) → timing_at (after setup s e) ≡ timing_at s
      go (inl same) = subst (λ (u : ℕ). timing dev (part_of (after setup s e) u) ≡ timing dev (part_of s u)) same own
      go (inr ne) = ap (timing dev) (part_stays setup s e fresh allowed (home setup dev) ne)

  fits_from : (s : State) (es : List Entry) → IsFresh s → IsRunFrom setup s es → IsOpen (timing_at s) → (start : ℕ) × (Within start (timing_at s) × Fits dev start (sum_of (timing_at s)) es)
  fits_from s [] fresh run open_now = let x = some_start (timing_at s) open_now in (x.0, (x.1, tt))
  fits_from s (e ∷ es) fresh run open_now = go (is_tick_of dev e.act) refl (fits_from (after setup s e) es (fresh_after setup s e fresh run.0) run.1)
    where
      abbrev_goal : Type 0
      abbrev_goal = (start : ℕ) × (Within start (timing_at s) × (FitsAct dev start (sum_of (timing_at s)) e.act × Fits dev start (sum_of (timing_at s) + slices_of dev e.act) es))

      zero_more : (n k : ℕ) → k ≡ 0 → n ≡ n + k
      zero_more n k h = omega arith

      go : (b : Bool) → is_tick_of dev e.act ≡ b → (IsOpen (timing_at (after setup s e)) → (start : ℕ) × (Within start (timing_at (after setup s e)) × Fits dev start (sum_of (timing_at (after setup s e))) es)) → abbrev_goal
      go false q rest =
          let k = kept_by s e fresh run.0 q in
          let x = rest (subst IsOpen (sym k) open_now) in
          let u = untold_fits dev x.0 (sum_of (timing_at s)) e.act q in
          (x.0, (subst (Within x.0) k x.1.0, (u.0, subst (λ (n : ℕ). Fits dev x.0 n es) (ap sum_of k ∙ zero_more (sum_of (timing_at s)) (slices_of dev e.act) u.1) x.1.1)))
      go true q rest =
          let a = act_ticked setup e.thread (view s e.thread) e.act (came_for setup s e.thread e.act) dev (allowed_passes setup s e run.0) q in
          let now : ℕ = a.1.0 in
          let slices : ℕ = a.1.1.0 in
          let old : timing dev (part_of s e.thread) ≡ timing_at s = ap (λ (u : ℕ). timing dev (part_of s u)) (sym a.0) in
          let new : timing dev (change setup e.thread (view s e.thread) e.act (came_for setup s e.thread e.act)).part ≡ timing_at (after setup s e) = sym (ap (timing dev) (part_is setup s e fresh run.0)) ∙ ap (λ (u : ℕ). timing dev (part_of (after setup s e) u)) (sym a.0) in
          let T : IsTicked dev (timing_at s) (timing_at (after setup s e)) now slices = subst (λ (o : Option Timing). IsTicked dev o (timing_at (after setup s e)) now slices) old (subst (λ (o : Option Timing). IsTicked dev (timing dev (part_of s e.thread)) o now slices) new a.1.1.1.1.0) in
          let x = rest T.is_open in
          let act_fits = a.1.1.1.1.1 x.0 (subst (λ (o : Option Timing). (x.0 ≤ now) × (slices_passed x.0 now ≡ sum_of o + slices)) (sym old) (T.fits x.0 x.1.0)) in
          (x.0, (T.within x.0 x.1.0, (subst (λ (o : Option Timing). FitsAct dev x.0 (sum_of o) e.act) old act_fits, subst (λ (n : ℕ). Fits dev x.0 n es) (T.sum ∙ ap (λ (k : ℕ). sum_of (timing_at s) + k) (sym a.1.1.1.0)) x.1.1)))

  -- each start that is left in the end fits, and was left before
  left_fits : (s : State) (es : List Entry) → IsFresh s → IsRunFrom setup s es → (start : ℕ) → Within start (timing_at (after_all setup s es)) → Within start (timing_at s) × Fits dev start (sum_of (timing_at s)) es
  left_fits s [] fresh run start w = (w, tt)
  left_fits s (e ∷ es) fresh run start w = go (is_tick_of dev e.act) refl (left_fits (after setup s e) es (fresh_after setup s e fresh run.0) run.1 start w)
    where
      zero_more : (n k : ℕ) → k ≡ 0 → n ≡ n + k
      zero_more n k h = omega arith

      go : (b : Bool) → is_tick_of dev e.act ≡ b → Within start (timing_at (after setup s e)) × Fits dev start (sum_of (timing_at (after setup s e))) es
          → Within start (timing_at s) × (FitsAct dev start (sum_of (timing_at s)) e.act × Fits dev start (sum_of (timing_at s) + slices_of dev e.act) es)
      go false q x =
          let k = kept_by s e fresh run.0 q in
          let u = untold_fits dev start (sum_of (timing_at s)) e.act q in
          (subst (Within start) k x.0, (u.0, subst (λ (n : ℕ). Fits dev start n es) (ap sum_of k ∙ zero_more (sum_of (timing_at s)) (slices_of dev e.act) u.1) x.1))
      go true q x =
          let a = act_ticked setup e.thread (view s e.thread) e.act (came_for setup s e.thread e.act) dev (allowed_passes setup s e run.0) q in
          let now : ℕ = a.1.0 in
          let slices : ℕ = a.1.1.0 in
          let old : timing dev (part_of s e.thread) ≡ timing_at s = ap (λ (u : ℕ). timing dev (part_of s u)) (sym a.0) in
          let new : timing dev (change setup e.thread (view s e.thread) e.act (came_for setup s e.thread e.act)).part ≡ timing_at (after setup s e) = sym (ap (timing dev) (part_is setup s e fresh run.0)) ∙ ap (λ (u : ℕ). timing dev (part_of (after setup s e) u)) (sym a.0) in
          let T : IsTicked dev (timing_at s) (timing_at (after setup s e)) now slices = subst (λ (o : Option Timing). IsTicked dev o (timing_at (after setup s e)) now slices) old (subst (λ (o : Option Timing). IsTicked dev (timing dev (part_of s e.thread)) o now slices) new a.1.1.1.1.0) in
          let act_fits = a.1.1.1.1.1 start (subst (λ (o : Option Timing). (start ≤ now) × (slices_passed start now ≡ sum_of o + slices)) (sym old) (T.fits start x.0)) in
          (T.within start x.0, (subst (λ (o : Option Timing). FitsAct dev start (sum_of o) e.act) old act_fits, subst (λ (n : ℕ). Fits dev start n es) (T.sum ∙ ap (λ (k : ℕ). sum_of (timing_at s) + k) (sym a.1.1.1.0)) x.1))

-- a device's timing is that of its row
timing_found : (dev : DevId) (rows : List Limited) → timing_in dev (timings rows) ≡ option_map timing_of (find (is_limit dev) rows)
timing_found dev [] = refl
timing_found dev (x ∷ xs) = go (is_limit dev x) (timing_found dev xs)
  where
    go : (b : Bool) → timing_in dev (timings xs) ≡ option_map timing_of (find (is_limit dev) xs) → cond b (Some (timing_of x)) (timing_in dev (timings xs)) ≡ option_map timing_of (cond b (Some x) (find (is_limit dev) xs))
    go true ih = refl
    go false ih = ih

left_within : (dev : DevId) (start : ℕ) (rows : List Limited) → IsLeftStart start (find (is_limit dev) rows) → Within start (timing_in dev (timings rows))
left_within dev start rows h = subst (Within start) (sym (timing_found dev rows)) (go (find (is_limit dev) rows) h)
  where
    go : (o : Option Limited) → IsLeftStart start o → Within start (option_map timing_of o)
    go None h = tt
    go (Some l) h = h

-- at the start no timeslice was told
fresh_rows : (setup : Setup) (dev : DevId) (ds : List DevId) → (IsOpen (timing_in dev (timings (map (limited_at_start setup) ds)))) × (sum_of (timing_in dev (timings (map (limited_at_start setup) ds))) ≡ 0)
fresh_rows setup dev [] = (tt, refl)
fresh_rows setup dev (d ∷ ds) = go (same_dev d dev) (fresh_rows setup dev ds)
  where
    go : (b : Bool) → (IsOpen (timing_in dev (timings (map (limited_at_start setup) ds)))) × (sum_of (timing_in dev (timings (map (limited_at_start setup) ds))) ≡ 0)
        → IsOpen (cond b (Some (timing_of (limited_at_start setup d))) (timing_in dev (timings (map (limited_at_start setup) ds)))) × (sum_of (cond b (Some (timing_of (limited_at_start setup d))) (timing_in dev (timings (map (limited_at_start setup) ds)))) ≡ 0)
    go true ih = (tt, refl)
    go false ih = ih

fresh_parts : (setup : Setup) (told : Told) (dev : DevId) (us : List ℕ) (i : ℕ) → IsOpen (timing dev (get_or (map (part_at_start setup told) us) i blank_part)) × (sum_of (timing dev (get_or (map (part_at_start setup told) us) i blank_part)) ≡ 0)
fresh_parts setup told dev [] i = (tt, refl)
fresh_parts setup told dev (u ∷ us) zero = fresh_rows setup dev (limited_devices setup u)
fresh_parts setup told dev (u ∷ us) (suc i) = fresh_parts setup told dev us i

pub some_start_fits : SomeStartFits
some_start_fits setup told es run dev =
    let at_first = fresh_parts setup told dev (range_with_len 0 setup.threads) (home setup dev) in
    let x = fits_from setup dev (start setup told) es (fresh_start setup told) run at_first.0 in
    (x.0, subst (λ (n : ℕ). Fits dev x.0 n es) at_first.1 x.1.1)

pub left_starts_fit : LeftStartsFit
left_starts_fit setup told es run dev at left =
    let at_first = fresh_parts setup told dev (range_with_len 0 setup.threads) (home setup dev) in
    let within = left_within dev at (part_of (after_all setup (start setup told) es) (home setup dev)).limited left in
    let x = left_fits setup dev (start setup told) es (fresh_start setup told) run at within in
    subst (λ (n : ℕ). Fits dev at n es) at_first.1 x.1
