-- The moments and timeslices of a thread's entries: of none, of one, and of some after others.
use Rattle.std.proofs.Common.{◌≡◌, ℕ, ◌+◌, ◌-◌, ◌/◌, ◌<◌, ◌≤◌, Bool, true, false, cond, ◌&&◌, ◌==◌, ◌⊎◌, inl, inr, nat_le, nat_lt, List, [], ◌∷◌, ◌++◌, find, Option, Some, None, refl, sym, ◌∙◌, ap, subst, arith}
use Rattle.std.specs.List.{AllByRecursion}
use Rattle.std.specs.Prelude.{IfSome}
use Rattle.std.proofs.lemmas.Bool.{and_parts, cases_lt}
use Rattle.bd_base.specs.declared.act.Act.{Act}
use Rattle.bd_base.specs.declared.act.Act.TheVariants as acts
use Rattle.bd_base.specs.declared.act.ApplyEnd.{ApplyEnd}
use Rattle.bd_base.specs.declared.act.Entry.{Entry}
use Rattle.bd_base.specs.declared.id.DevId.{DevId}
use Rattle.bd_base.specs.declared.id.ReqId.{ReqId}
use Rattle.bd_base.specs.declared.setup.Setup.{Setup}
use Rattle.bd_machine.specs.declared.guard.TheConstants.{UNBUILT, IN_ORDER}
use Rattle.bd_machine.specs.declared.state.Base.{Base}
use Rattle.bd_machine.specs.declared.state.Limited.{Limited}
use Rattle.bd_machine.specs.declared.state.Moments.{Moments}
use Rattle.bd_machine.specs.declared.state.OpenPiece.{OpenPiece}
use Rattle.bd_machine.specs.declared.state.Part.{Part}
use Rattle.bd_machine.specs.BlockMap.{home, size_of}
use Rattle.bd_machine.specs.Budget.{slices_passed}
use Rattle.bd_machine.specs.Guards.{guards, change, is_built}
use Rattle.bd_machine.specs.Homes.{base_here, change_applied}
use Rattle.bd_machine.specs.Kept.{piece_here}
use Rattle.bd_machine.specs.Limits.{is_limit, limited_here, is_tick_due, ticked}
use Rattle.bd_machine.specs.Same.{same_dev}
use Rattle.bd_machine.specs.Step.{first_failing}
use Rattle.bd_machine.specs.Table.{change_first}
use Rattle.bd_machine.specs.Timeslices.{Timing, timings, slices_of, Fits, FitsAct}
use Rattle.bd_machine.specs.View.{Came, View}
use Rattle.bd_machine.proofs.Acts.{passed}
use Rattle.bd_machine.proofs.Parts.{Core, is_plain, plain_grows}
use Rattle.bd_machine.proofs.Tables.{dev_exact}
use Rattle.bd_law_held.specs.Held.{held_by, EndInTime}
use Rattle.bd_moment.specs.declared.time.Time.{Time}
use Rattle.bd_tokens.specs.Tokens.{here_in}
use Rattle.bd_turns.specs.Local.{came_local, local_after, refusal_local, Local}
use Rattle.bd_thread.specs.declared.thread.Thread.{Thread}
use Rattle.bd_thread.specs.Timely.{moment_named, slices_at, slices_if, slices_in, AreTimely, IsTimely, KeepsTime}

-- ---- a thread's time

pub time_stays : (old new : Time) → new ≡ old → KeepsTime old new
time_stays old new is = is ∙ ap (λ (n : ℕ). let t : Time = record old { met = n } in t) (sym (ap (λ (t : Time). t.met) is))

pub time_then : (a b c : Time) → KeepsTime a b → KeepsTime b c → KeepsTime a c
time_then a b c first second = second ∙ ap (λ (t : Time). let u : Time = record t { met = c.met } in u) first

-- ---- an act that names no moment, holds nothing and tells no timeslices

abbrev pub is_untimed : Act → Bool
is_untimed (acts.Let req dev now) = false
is_untimed (acts.Tick dev now slices) = false
is_untimed (acts.Release req now) = false
is_untimed (acts.Hold req until) = false
is_untimed (acts.Due walk now) = false
is_untimed _ = true

pub untimed : (act : Act) (old new : Thread) → is_untimed act ≡ true → new.time ≡ old.time → IsTimely act old new
untimed act old new plain is = record { time = time_stays old.time new.time is; named = names act plain; held = holds act plain; fits = λ dev. told act plain dev }
  where
    holds : (act : Act) → is_untimed act ≡ true → EndInTime old.setup.now old.time.moment (held_by (here_in old.held.items) act)
    holds (acts.Hold req until) h = cc
    holds _ h = tt

    names : (act : Act) → is_untimed act ≡ true → IfSome (moment_named act) (λ moment. moment ≡ old.time.moment)
    names (acts.Let req dev now) h = cc
    names (acts.Tick dev now slices) h = cc
    names (acts.Release req now) h = cc
    names (acts.Due walk now) h = cc
    names _ h = tt

    told : (act : Act) → is_untimed act ≡ true → (dev : DevId) → FitsAct dev old.time.start (slices_at old.part dev) act
    told (acts.Tick d now slices) h dev = λ e. cc
    told _ h dev = tt

-- ---- the timeslices that an act tells

none_some : {X : Type 0} {x : X} → None ≡ Some x → ⊥
none_some e = cc

abbrev slices_by : DevId → List Timing → ℕ
slices_by dev [] = 0
slices_by dev (x ∷ xs) = cond (same_dev x.dev dev) x.slices (slices_by dev xs)

-- as the timings of the rows say
by_timings : (dev : DevId) (rows : List Limited) → slices_if (find (is_limit dev) rows) ≡ slices_by dev (timings rows)
by_timings dev [] = refl
by_timings dev (x ∷ xs) = go (is_limit dev x) (by_timings dev xs)
  where
    go : (b : Bool) → slices_if (find (is_limit dev) xs) ≡ slices_by dev (timings xs) → slices_if (cond b (Some x) (find (is_limit dev) xs)) ≡ cond b x.slices (slices_by dev (timings xs))
    go true ih = refl
    go false ih = ih

and_none : (n : ℕ) → n ≡ n + 0
and_none n = omega arith

-- a Tick's row
ticked_rows : (setup : Setup) (moments : Moments) (now slices : ℕ) (d dev : DevId) (rows : List Limited) (l : Limited) → find (is_limit d) rows ≡ Some l
    → slices_if (find (is_limit dev) (change_first (is_limit d) (ticked setup moments now slices) rows)) ≡ slices_if (find (is_limit dev) rows) + cond (same_dev d dev) slices 0
ticked_rows setup moments now slices d dev [] l h = absurd (none_some h)
ticked_rows setup moments now slices d dev (x ∷ xs) l h = go (same_dev x.dev d) refl h (ticked_rows setup moments now slices d dev xs l)
  where
    here : same_dev x.dev d ≡ true → (b : Bool) → same_dev d dev ≡ b → slices_if (cond b (Some (ticked setup moments now slices x)) (find (is_limit dev) xs)) ≡ slices_if (cond b (Some x) (find (is_limit dev) xs)) + cond b slices 0
    here e true q = refl
    here e false q = and_none (slices_if (find (is_limit dev) xs))

    apart : (b : Bool) → same_dev d dev ≡ b → same_dev x.dev d ≡ false → same_dev x.dev dev ≡ true → cond b slices 0 ≡ 0
    apart false q e k = refl
    apart true q e k = let no : true ≡ false = sym k ∙ ap (same_dev x.dev) (sym (dev_exact d dev q)) ∙ e in cc

    there : same_dev x.dev d ≡ false → (b : Bool) → same_dev x.dev dev ≡ b
        → slices_if (find (is_limit dev) (change_first (is_limit d) (ticked setup moments now slices) xs)) ≡ slices_if (find (is_limit dev) xs) + cond (same_dev d dev) slices 0
        → slices_if (cond b (Some x) (find (is_limit dev) (change_first (is_limit d) (ticked setup moments now slices) xs))) ≡ slices_if (cond b (Some x) (find (is_limit dev) xs)) + cond (same_dev d dev) slices 0
    there e true q ih = and_none x.slices ∙ ap (λ n. x.slices + n) (sym (apart (same_dev d dev) refl e q))
    there e false q ih = ih

    go : (b : Bool) → same_dev x.dev d ≡ b → cond b (Some x) (find (is_limit d) xs) ≡ Some l
        → (find (is_limit d) xs ≡ Some l → slices_if (find (is_limit dev) (change_first (is_limit d) (ticked setup moments now slices) xs)) ≡ slices_if (find (is_limit dev) xs) + cond (same_dev d dev) slices 0)
        → slices_if (find (is_limit dev) (cond b (ticked setup moments now slices x ∷ xs) (x ∷ change_first (is_limit d) (ticked setup moments now slices) xs))) ≡ slices_if (find (is_limit dev) (x ∷ xs)) + cond (same_dev d dev) slices 0
    go true e k rest =
        let same : same_dev x.dev dev ≡ same_dev d dev = ap (λ (y : DevId). same_dev y dev) (dev_exact x.dev d e) in
        subst (λ (b : Bool). slices_if (cond b (Some (ticked setup moments now slices x)) (find (is_limit dev) xs)) ≡ slices_if (cond b (Some x) (find (is_limit dev) xs)) + cond (same_dev d dev) slices 0) (sym same) (here e (same_dev d dev) refl)
    go false e k rest = there e (same_dev x.dev dev) refl (rest k)

-- what an act leaves of a device's timeslices, where each of its guards holds
slices_after : (setup : Setup) (t : ℕ) (v : View) (act : Act) (came : Came) (dev : DevId) → first_failing (guards setup t v act came) ≡ None
    → slices_at (change setup t v act came).part dev ≡ slices_at v.part dev + slices_of dev act
slices_after setup t v act came dev h = go (is_plain act) refl
  where
    applied : (req : ReqId) (k : ℕ) (d : DevId) (end : ApplyEnd) (size : ℕ) (x : Option OpenPiece) (b : Option Base) → slices_at (change_applied v req k d end size x b).part dev ≡ slices_at v.part dev
    applied req k d end size (Some p) (Some b) = refl
    applied req k d end size _ _ = refl

    none : slices_at v.part dev ≡ slices_at v.part dev + 0
    none = and_none (slices_at v.part dev)

    row : (d : DevId) (now slices : ℕ) (o : Option Limited) → limited_here v.part d ≡ o → is_tick_due v.part.moments now slices o ≡ true
        → slices_at (change setup t v (acts.Tick d now slices) came).part dev ≡ slices_at v.part dev + cond (same_dev d dev) slices 0
    row d now slices None f k = cc
    row d now slices (Some l) f k = ticked_rows setup v.part.moments now slices d dev v.part.limited l f

    others : (act : Act) → first_failing (guards setup t v act came) ≡ None → is_plain act ≡ false → slices_at (change setup t v act came).part dev ≡ slices_at v.part dev + slices_of dev act
    others (acts.Put to number what) g e = none
    others (acts.Accept d lba handle req op count) g e = none
    others (acts.Destruct d digest) g e = none
    others (acts.Grow d blocks) g e = none
    others (acts.Apply req k d end) g e = applied req k d end (size_of setup d) (piece_here v req k) (base_here v d) ∙ none
    others (acts.Tick d now slices) g e =
        let due = (passed (guards setup t v (acts.Tick d now slices) came) g).0 in
        row d now slices (limited_here v.part d) refl (and_parts ((home setup d == t) && nat_le v.part.moments.last now) (is_tick_due v.part.moments now slices (limited_here v.part d)) due).1
    others _ g e = cc

    untold : (act : Act) → is_plain act ≡ true → slices_of dev act ≡ 0
    untold (acts.Tick d now slices) e = cc
    untold _ e = refl

    go : (b : Bool) → is_plain act ≡ b → slices_at (change setup t v act came).part dev ≡ slices_at v.part dev + slices_of dev act
    go true e =
        by_timings dev (change setup t v act came).part.limited
        ∙ ap (λ (c : Core). slices_by dev c.timings) (plain_grows setup t v act came e).rest
        ∙ sym (by_timings dev v.part.limited)
        ∙ none
        ∙ ap (λ n. slices_at v.part dev + n) (sym (untold act e))
    go false e = others act h e

-- the guards beside those of the order
allowed_by : (a b : Bool) (m n : ℕ) (o : Option ℕ) → cond a (cond b o (Some n)) (Some m) ≡ None → o ≡ None
allowed_by true true m n o h = h
allowed_by true false m n o h = cc
allowed_by false b m n o h = cc

-- after an entry that the thread may make
local_slices : (setup : Setup) (t : ℕ) (l : Local) (e : Entry) (dev : DevId) → refusal_local setup t l e ≡ None → slices_at (local_after setup t l e).view.part dev ≡ slices_at l.view.part dev + slices_of dev e.act
unfolding local_after
local_slices setup t l e dev allowed =
    slices_after setup t l.view e.act (came_local setup t l e.act) dev
    (allowed_by (is_built e.act) (nat_lt l.shared.stamp e.stamp) UNBUILT IN_ORDER (first_failing (guards setup t l.view e.act (came_local setup t l e.act))) allowed)

-- ---- entries

pub timely_none : (old new : Thread) → new.time ≡ old.time → ((dev : DevId) → slices_at new.part dev ≡ slices_at old.part dev) → AreTimely [] old new
timely_none old new is same = record { time = time_stays old.time new.time is; named = tt; fits = λ dev. tt; slices = λ dev. same dev ∙ and_none (slices_at old.part dev) }

-- one entry, by what the thread sees before and after it
pub timely_one : (old new : Thread) (setup : Setup) (t : ℕ) (l l' : Local) (e : Entry)
    → l.view.part ≡ old.part
    → l'.view.part ≡ new.part
    → refusal_local setup t l e ≡ None
    → local_after setup t l e ≡ l'
    → IsTimely e.act old new
    → AreTimely (e ∷ []) old new
timely_one old new setup t l l' e was is allowed leads timely = record {
  time = timely.time;
  named = (timely.named, tt);
  fits = λ dev. (timely.fits dev, tt);
  slices = λ dev.
      ap (λ (p : Part). slices_at p dev) (sym is)
      ∙ ap (λ (x : Local). slices_at x.view.part dev) (sym leads)
      ∙ local_slices setup t l e dev allowed
      ∙ ap (λ (p : Part). slices_at p dev + slices_of dev e.act) was
      ∙ ap (λ n. slices_at old.part dev + n) (and_none (slices_of dev e.act));
}

-- one that tells no timeslices
pub timely_plain : (old new : Thread) (e : Entry) → is_untimed e.act ≡ true → new.time ≡ old.time → ((dev : DevId) → slices_at new.part dev ≡ slices_at old.part dev) → AreTimely (e ∷ []) old new
timely_plain old new e plain is same =
    let one : IsTimely e.act old new = untimed e.act old new plain is in
    record {
      time = one.time;
      named = (one.named, tt);
      fits = λ dev. (one.fits dev, tt);
      slices = λ dev. same dev ∙ and_none (slices_at old.part dev) ∙ ap (λ n. slices_at old.part dev + n) (sym (untold e.act plain dev));
    }
  where
    untold : (act : Act) → is_untimed act ≡ true → (dev : DevId) → slices_of dev act + 0 ≡ 0
    untold (acts.Tick d now slices) h dev = cc
    untold _ h dev = refl

-- ---- one way after the other

names_both : (moment : ℕ) (xs ys : List Entry) → AllByRecursion (λ e. IfSome (moment_named e.act) (λ n. n ≡ moment)) xs → AllByRecursion (λ e. IfSome (moment_named e.act) (λ n. n ≡ moment)) ys
    → AllByRecursion (λ e. IfSome (moment_named e.act) (λ n. n ≡ moment)) (xs ++ ys)
names_both moment [] ys f s = s
names_both moment (x ∷ xs) ys f s = (f.0, names_both moment xs ys f.1 s)

pub slices_both : (dev : DevId) (xs ys : List Entry) → slices_in dev (xs ++ ys) ≡ slices_in dev xs + slices_in dev ys
slices_both dev [] ys = omega arith
slices_both dev (x ∷ xs) ys = let ih : slices_in dev (xs ++ ys) ≡ slices_in dev xs + slices_in dev ys = slices_both dev xs ys in omega arith

pub fits_both : (dev : DevId) (start before : ℕ) (xs ys : List Entry) → Fits dev start before xs → Fits dev start (before + slices_in dev xs) ys → Fits dev start before (xs ++ ys)
fits_both dev start before [] ys f s = subst (λ (n : ℕ). Fits dev start n ys) (sym (and_none before)) s
fits_both dev start before (x ∷ xs) ys f s =
    let more : before + (slices_of dev x.act + slices_in dev xs) ≡ before + slices_of dev x.act + slices_in dev xs = omega arith in
    (f.0, fits_both dev start (before + slices_of dev x.act) xs ys f.1 (subst (λ (n : ℕ). Fits dev start n ys) more s))

pub timely_then : (xs ys : List Entry) (a b c : Thread) → AreTimely xs a b → AreTimely ys b c → AreTimely (xs ++ ys) a c
timely_then xs ys a b c f s =
    let moment : b.time.moment ≡ a.time.moment = ap (λ (t : Time). t.moment) f.time in
    let start : b.time.start ≡ a.time.start = ap (λ (t : Time). t.start) f.time in
    record {
      time = time_then a.time b.time c.time f.time s.time;
      named = names_both a.time.moment xs ys f.named (subst (λ (n : ℕ). AllByRecursion (λ e. IfSome (moment_named e.act) (λ m. m ≡ n)) ys) moment s.named);
      fits = λ dev.
          fits_both dev a.time.start (slices_at a.part dev) xs ys (f.fits dev)
          (subst (λ (n : ℕ). Fits dev n (slices_at a.part dev + slices_in dev xs) ys) start (subst (λ (n : ℕ). Fits dev b.time.start n ys) (f.slices dev) (s.fits dev)));
      slices = λ dev.
          let first : slices_at b.part dev ≡ slices_at a.part dev + slices_in dev xs = f.slices dev in
          let second : slices_at c.part dev ≡ slices_at b.part dev + slices_in dev ys = s.slices dev in
          let both : slices_in dev (xs ++ ys) ≡ slices_in dev xs + slices_in dev ys = slices_both dev xs ys in
          omega arith;
    }

-- ---- the acts that name moments

-- a Tick tells those that passed and weren't told, where there are some
pub tick_fits : (t : Thread) (d : DevId) (slices : ℕ) (l : Limited)
    → limited_here t.part d ≡ Some l
    → slices ≡ slices_passed t.time.start t.time.moment - l.slices
    → 0 < slices
    → (dev : DevId) → FitsAct dev t.time.start (slices_at t.part dev) (acts.Tick d t.time.moment slices)
tick_fits t d slices l here is some dev same =
    let told : slices_at t.part dev ≡ l.slices = ap (slices_at t.part) (sym (dev_exact d dev same)) ∙ ap slices_if here in
    (from_start t.time.start t.time.moment (omega (arith, is, some)), omega (arith, is, some, told))
  where
    nothing : (n : ℕ) → n ≡ 0 → n / 1000 ≡ 0
    nothing n h = omega arith

    from_start : (start now : ℕ) → 0 < slices_passed start now → start ≤ now
    from_start start now more = go (cases_lt now start)
      where
        go : (now < start) ⊎ (start ≤ now) → start ≤ now
        go (inl less) = let none : (now - start) / 1000 ≡ 0 = nothing (now - start) (omega (arith, less)) in absurd (omega (arith, none, more))
        go (inr le) = le
