-- All that a thread did goes with its time, turn after turn.
use Rattle.std.proofs.Common.{◌≡◌, ℕ, ◌+◌, ◌<◌, ◌≤◌, Bool, true, false, cond, max, List, [], ◌∷◌, ◌++◌, find, map, Option, Some, None, refl, sym, ◌∙◌, ap, subst, arith}
use Rattle.std.specs.List.{AllByRecursion}
use Rattle.std.specs.Prelude.{IfSome}
use Rattle.bd_base.specs.declared.act.Act.{Act}
use Rattle.bd_base.specs.declared.act.Act.TheVariants as acts
use Rattle.bd_base.specs.declared.act.Entry.{Entry}
use Rattle.bd_base.specs.declared.id.DevId.{DevId}
use Rattle.bd_base.specs.declared.setup.Setup.{Setup}
use Rattle.bd_machine.specs.declared.state.Part.{Part}
use Rattle.bd_machine.specs.Limits.{is_limit}
use Rattle.bd_machine.specs.Same.{same_dev}
use Rattle.bd_machine.specs.Start.{limited_at_start, limited_devices}
use Rattle.bd_machine.specs.Timeslices.{slices_of, Fits, FitsAct}
use Rattle.bd_moment.specs.declared.time.Time.{Time}
use Rattle.bd_moment.specs.Time.{begun}
use Rattle.bd_thread.specs.declared.thread.Thread.{Thread}
use Rattle.bd_thread.specs.Asleep.{begun_at}
use Rattle.bd_thread.specs.Starts.{IsNew}
use Rattle.bd_thread.specs.Timely.{moment_named, slices_at, slices_if, slices_in, AreTimely, HasBegun, IsBetween, IsOnTime}
use Rattle.bd_thread.proofs.Timing.{fits_both, slices_both}

-- ---- entries

-- what each moment that is named satisfies
abbrev pub AreNamed : (ℕ → Type 0) → List Entry → Type 0
AreNamed P entries = AllByRecursion (λ e. IfSome (moment_named e.act) P) entries

pub all_weaker : (P Q : ℕ → Type 0) → ((n : ℕ) → P n → Q n) → (es : List Entry) → AreNamed P es → AreNamed Q es
all_weaker P Q f [] h = tt
all_weaker P Q f (e ∷ es) h = (go (moment_named e.act) h.0, all_weaker P Q f es h.1)
  where
    go : (o : Option ℕ) → IfSome o P → IfSome o Q
    go None k = tt
    go (Some n) k = f n k

named_both : (P : ℕ → Type 0) (xs ys : List Entry) → AreNamed P xs → AreNamed P ys → AreNamed P (xs ++ ys)
named_both P [] ys f s = s
named_both P (x ∷ xs) ys f s = (f.0, named_both P xs ys f.1 s)

-- where none is named
abbrev pub NameNone : List Entry → Type 0
NameNone entries = AllByRecursion (λ e. moment_named e.act ≡ None) entries

none_named : (P : ℕ → Type 0) (es : List Entry) → NameNone es → AreNamed P es
none_named P [] h = tt
none_named P (e ∷ es) h = (subst (λ (o : Option ℕ). IfSome o P) (sym h.0) tt, none_named P es h.1)

act_untold : (dev : DevId) (start before : ℕ) (act : Act) → moment_named act ≡ None → FitsAct dev start before act × (slices_of dev act ≡ 0)
act_untold dev start before (acts.Tick d now slices) h = cc
act_untold dev start before _ h = (tt, refl)

none_told : (dev : DevId) (start before : ℕ) (es : List Entry) → NameNone es → Fits dev start before es
none_told dev start before [] h = tt
none_told dev start before (e ∷ es) h = ((act_untold dev start before e.act h.0).0, none_told dev start (before + slices_of dev e.act) es h.1)

pub none_sliced : (dev : DevId) (es : List Entry) → NameNone es → slices_in dev es ≡ 0
none_sliced dev [] h = refl
none_sliced dev (e ∷ es) h = let first : slices_of dev e.act ≡ 0 = (act_untold dev 0 0 e.act h.0).1 in let rest : slices_in dev es ≡ 0 = none_sliced dev es h.1 in omega arith

-- ---- before any entry

pub on_time_new : (t : Thread) → t.time.start ≤ t.time.moment → ((dev : DevId) → slices_at t.part dev ≡ 0) → IsOnTime t []
on_time_new t order none = record { order = order; named = tt; fits = λ dev. tt; slices = none; none = λ e. tt }

-- ---- a turn begins

later_moment : (m now n : ℕ) → n ≤ m → n ≤ max m now
later_moment m now n h = omega arith

begins : (time : Time) (now : ℕ) (es : List Entry) → time.start ≤ time.moment → AreNamed (IsBetween time) es → ((dev : DevId) → Fits dev time.start 0 es) → (time.given ≡ false → NameNone es)
    → ((begun time now).start ≤ (begun time now).moment) × (AreNamed (IsBetween (begun time now)) es × ((dev : DevId) → Fits dev (begun time now).start 0 es))
begins time now es order named fits none = go time.given refl
  where
    same : (n : ℕ) → n ≤ n
    same n = omega arith

    go : (b : Bool) → time.given ≡ b
        → ((begun time now).start ≤ (begun time now).moment) × (AreNamed (IsBetween (begun time now)) es × ((dev : DevId) → Fits dev (begun time now).start 0 es))
    go true e =
        let start : time.start ≡ (begun time now).start = ap (λ (b : Bool). cond b time.start (max time.moment now)) (sym e) in (
          subst (λ (n : ℕ). n ≤ max time.moment now) start (later_moment time.moment now time.start order),
          (
            all_weaker (IsBetween time) (IsBetween (begun time now)) (λ n h. (subst (λ (k : ℕ). k ≤ n) start h.0, later_moment time.moment now n h.1)) es named,
            λ dev. subst (λ (n : ℕ). Fits dev n 0 es) start (fits dev),
          ),
        )
    go false e =
        let start : max time.moment now ≡ (begun time now).start = ap (λ (b : Bool). cond b time.start (max time.moment now)) (sym e) in (
          subst (λ (n : ℕ). n ≤ max time.moment now) start (same (max time.moment now)),
          (none_named (IsBetween (begun time now)) es (none e), λ dev. none_told dev (begun time now).start 0 es (none e)),
        )

pub on_time_begun : (t : Thread) (now : ℕ) (es : List Entry) → IsOnTime t es → IsOnTime (begun_at now t) es
on_time_begun t now es h =
    let x = begins t.time now es h.order h.named h.fits h.none in
    record {
      order = x.0;
      named = x.1.0;
      fits = x.1.1;
      slices = h.slices;
      none = λ e. cc;
    }

-- ---- a turn ends

-- the turn's moment lies there
at_moment : (time : Time) → time.start ≤ time.moment → (n : ℕ) → n ≡ time.moment → IsBetween time n
at_moment time order n e = (omega (arith, order, e), omega (arith, e))

pub on_time_then : (es added : List Entry) (old new : Thread) → IsOnTime old es → HasBegun old → AreTimely added old new → IsOnTime new (es ++ added)
on_time_then es added old new h begun timely =
    let kept : Time = record old.time { met = new.time.met } in
    let named : AreNamed (IsBetween kept) (es ++ added) =
    named_both (IsBetween kept) es added h.named (all_weaker (λ n. n ≡ old.time.moment) (IsBetween kept) (at_moment old.time h.order) added timely.named) in
    let told : (dev : DevId) → slices_at old.part dev ≡ 0 + slices_in dev es = λ dev. let e : slices_at old.part dev ≡ slices_in dev es = h.slices dev in omega arith in
    let fits : (dev : DevId) → Fits dev kept.start 0 (es ++ added) =
    λ dev. fits_both dev old.time.start 0 es added (h.fits dev) (subst (λ (n : ℕ). Fits dev old.time.start n added) (told dev) (timely.fits dev)) in
    record {
      order = subst (λ (t : Time). t.start ≤ t.moment) (sym timely.time) h.order;
      named = subst (λ (t : Time). AreNamed (IsBetween t) (es ++ added)) (sym timely.time) named;
      fits = λ dev. subst (λ (t : Time). Fits dev t.start 0 (es ++ added)) (sym timely.time) (fits dev);
      slices = λ dev.
          let first : slices_at old.part dev ≡ slices_in dev es = h.slices dev in
          let second : slices_at new.part dev ≡ slices_at old.part dev + slices_in dev added = timely.slices dev in
          let both : slices_in dev (es ++ added) ≡ slices_in dev es + slices_in dev added = slices_both dev es added in
          omega arith;
      none = λ e. let still : new.time.given ≡ old.time.given = ap (λ (t : Time). t.given) timely.time in let no : true ≡ false = sym begun ∙ sym still ∙ e in cc;
    }

-- an entry that names no moment
pub on_time_still : (t : Thread) (es : List Entry) (e : Entry) → IsOnTime t es → moment_named e.act ≡ None → IsOnTime t (es ++ e ∷ [])
on_time_still t es e h none =
    record {
      order = h.order;
      named = named_both (IsBetween t.time) es (e ∷ []) h.named (none_named (IsBetween t.time) (e ∷ []) (none, tt));
      fits = λ dev. fits_both dev t.time.start 0 es (e ∷ []) (h.fits dev) (none_told dev t.time.start (0 + slices_in dev es) (e ∷ []) (none, tt));
      slices = λ dev.
          let first : slices_at t.part dev ≡ slices_in dev es = h.slices dev in
          let both : slices_in dev (es ++ e ∷ []) ≡ slices_in dev es + slices_in dev (e ∷ []) = slices_both dev es (e ∷ []) in
          let more : slices_in dev (e ∷ []) ≡ 0 = none_sliced dev (e ∷ []) (none, tt) in
          omega arith;
      none = λ given. none_both es (h.none given);
    }
  where
    none_both : (xs : List Entry) → NameNone xs → NameNone (xs ++ e ∷ [])
    none_both [] h = (none, tt)
    none_both (x ∷ xs) h = (h.0, none_both xs h.1)

-- ---- what that says

-- where the thread had a turn, whatever all moments from its first to its last satisfy, those that are named do; where it had none, none is named
pub named_all : (t : Thread) (es : List Entry) (P : ℕ → Type 0) → IsOnTime t es → (t.time.given ≡ true → (n : ℕ) → IsBetween t.time n → P n) → AreNamed P es
named_all t es P h f = go t.time.given refl
  where
    go : (b : Bool) → t.time.given ≡ b → AreNamed P es
    go true e = all_weaker (IsBetween t.time) P (f e) es h.named
    go false e = none_named P es (h.none e)

-- who told timeslices had a turn
pub told_begun : (t : Thread) (es : List Entry) (dev : DevId) → IsOnTime t es → 0 < slices_in dev es → HasBegun t
told_begun t es dev h some = go t.time.given refl
  where
    go : (b : Bool) → t.time.given ≡ b → t.time.given ≡ true
    go true e = e
    go false e = let none : slices_in dev es ≡ 0 = none_sliced dev es (h.none e) in absurd (omega (arith, none, some))

-- ---- a new thread

none_at_start : (setup : Setup) (dev : DevId) (ds : List DevId) → slices_if (find (is_limit dev) (map (limited_at_start setup) ds)) ≡ 0
none_at_start setup dev [] = refl
none_at_start setup dev (d ∷ ds) = go (same_dev d dev) (none_at_start setup dev ds)
  where
    go : (b : Bool) → slices_if (find (is_limit dev) (map (limited_at_start setup) ds)) ≡ 0 → slices_if (cond b (Some (limited_at_start setup d)) (find (is_limit dev) (map (limited_at_start setup) ds))) ≡ 0
    go true ih = refl
    go false ih = ih

pub on_time_at_start : (me : ℕ) (setup : Setup) (t : Thread) → IsNew me setup t → IsOnTime t []
on_time_at_start me setup t new =
    on_time_new t (subst (λ (x : Time). x.start ≤ x.moment) (sym new.time) (same 0))
    (λ dev. ap (λ (p : Part). slices_at p dev) new.part ∙ none_at_start setup dev (limited_devices setup me))
  where
    same : (n : ℕ) → n ≤ n
    same n = omega arith
