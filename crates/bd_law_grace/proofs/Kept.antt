-- What each freeze mark on a thread says of the history: by each entry, and so in each run.
use Rattle.std.proofs.Common.{◌≡◌, ℕ, ◌+◌, ◌≤◌, ◌==◌, Bool, true, false, cond, ◌&&◌, ◌||◌, nat_lt, nat_le, min, List, [], ◌∷◌, ◌++◌, Option, Some, None, get_or, unwrap_or, is_some, ◌⊎◌, inl, inr, refl, sym, ◌∙◌, ap, ap₂, subst, zero, suc, eqb-true, map}
use Rattle.std.proofs.lemmas.Bool.{and_parts, cases_eq, leb-true}
use Rattle.std.proofs.lemmas.List.{append_assoc, append-nil}
use Rattle.std.specs.List.{AllByRecursion, list_any, range_with_len}
use Rattle.bd_base.specs.declared.act.Act.{Act}
use Rattle.bd_base.specs.declared.act.Act.TheVariants as acts
use Rattle.bd_base.specs.declared.act.Entry.{Entry}
use Rattle.bd_base.specs.declared.event.Answer.{Answer}
use Rattle.bd_base.specs.declared.event.Answer.TheVariants as answers
use Rattle.bd_base.specs.declared.event.RegEvent.{RegEvent}
use Rattle.bd_base.specs.declared.event.RegEvent.TheVariants as events
use Rattle.bd_base.specs.declared.id.DevId.{DevId}
use Rattle.bd_base.specs.declared.id.WalkId.{WalkId}
use Rattle.bd_base.specs.declared.dev_set.DevSet.{DevSet}
use Rattle.bd_base.specs.declared.request.AbortCause.TheVariants.{Frozen}
use Rattle.bd_base.specs.declared.request.WalkKind.{WalkKind}
use Rattle.bd_base.specs.declared.request.WalkKind.TheVariants.{Freeze, Drain, Thaw, Removal}
use Rattle.bd_base.specs.declared.setup.Setup.{Setup}
use Rattle.bd_base.specs.DevSet.{has_dev}
use Rattle.bd_machine.specs.declared.state.FreezeMark.{FreezeMark}
use Rattle.bd_machine.specs.declared.state.FreezeMark.TheVariants.{Not, Hard, Soft}
use Rattle.bd_machine.specs.declared.state.Marking.{Marking}
use Rattle.bd_machine.specs.declared.state.OpenRequest.{OpenRequest}
use Rattle.bd_machine.specs.declared.state.Owed.TheVariants as owes
use Rattle.bd_machine.specs.declared.state.Part.{Part}
use Rattle.bd_machine.specs.declared.state.Prior.{Prior}
use Rattle.bd_machine.specs.declared.state.Prior.TheVariants as priors
use Rattle.bd_machine.specs.declared.state.State.{State}
use Rattle.bd_machine.specs.Aborts.{is_below, is_cause_if_any}
use Rattle.bd_machine.specs.BlockMap.{below, home}
use Rattle.bd_machine.specs.Changes.{is_dropped}
use Rattle.bd_machine.specs.Content.{Told}
use Rattle.bd_machine.specs.Delays.{last_moment}
use Rattle.bd_machine.specs.Events.{all_born, born, paid}
use Rattle.bd_machine.specs.Grace.{dev_if_any, ending_mark, has_come, has_ended, is_ending, is_mark_due, may_grace, may_last, remarked_if_any, softened, time_of_mark, until_of}
use Rattle.bd_machine.specs.Guards.{change, change_by, guards, prior_by}
use Rattle.bd_machine.specs.Kept.{request_here, walk_here}
use Rattle.bd_machine.specs.Limits.{is_limited}
use Rattle.bd_machine.specs.Marks.{born_as, freeze_set, freezes_here, frozen_until, hardened, is_hard_mark, is_soft, marking_of, remarked, removal_set, unmarked, with_frozen, with_until}
use Rattle.bd_machine.specs.Registry.{made}
use Rattle.bd_machine.specs.Run.{IsRun, IsRunFrom, after_all, state_after}
use Rattle.bd_machine.specs.Same.{same_dev, same_walk}
use Rattle.bd_machine.specs.Start.{part_at_start, start}
use Rattle.bd_machine.specs.Step.{IsAllowed, after, guards_in}
use Rattle.bd_machine.specs.Table.{look_up, write}
use Rattle.bd_machine.specs.View.{Came, View, blank_part, came_for, part_of, view}
use Rattle.bd_machine.specs.Walks.{put_owed, time_of_walk}
use Rattle.bd_machine.proofs.Acts.{Passes, passed, IsFresh}
use Rattle.bd_machine.proofs.Complete.{fresh_start}
use Rattle.bd_machine.proofs.Runs.{last_allowed, own_view_follows, prefix_is_run}
use Rattle.bd_machine.proofs.Steps.{allowed_passes, frame, fresh_after}
use Rattle.bd_machine.proofs.Tables.{look_up-write}
use Rattle.bd_law_grace.specs.Hard.{is_thaw, is_thaw_of, HasEnded, IsHardSince, IsSet, IsTimed, MakesHard}
use Rattle.bd_law_grace.specs.Laws.{GraceIsKept}
use Rattle.bd_law_grace.proofs.Rows.{dev_same, dev_self, each_as, each_at, each_found, each_written, once_written, apart, Each, Once}
use Rattle.bd_law_grace.proofs.Unmarked.{marks_stay, sets_marks, walk_stays}

walk_exact : (a b : WalkId) → same_walk a b ≡ true → a ≡ b
walk_exact a b h =
    let p = and_parts (a.thread == b.thread) (a.seq == b.seq) h in
    ap₂ (λ (m n : ℕ). let w : WalkId = record { thread = m; seq = n } in w) (eqb-true a.thread b.thread p.0) (eqb-true a.seq b.seq p.1)

all_more : (P : Entry → Type 0) (es : List Entry) (e : Entry) → AllByRecursion P es → P e → AllByRecursion P (es ++ e ∷ [])
all_more P [] e all new = (new, tt)
all_more P (x ∷ es) e all new = (all.0, all_more P es e all.1 new)

-- ---- what a mark says

-- a soft mark was set by a visit of this walk, with this drain time
pub record WasSet (setup : Setup) (told : Told) (t : ℕ) (dev : DevId) (walk : WalkId) (time : ℕ) (es : List Entry) : Type 0 where
  pub before : List Entry
  pub visit : Entry
  pub since : List Entry
  pub parts : es ≡ before ++ visit ∷ since
  pub set : IsSet (state_after setup told before) t dev walk time visit

abbrev pub Says : Setup → Told → ℕ → List Entry → DevId → FreezeMark → Type 0
Says setup told t es dev Not = Unit {0}
Says setup told t es dev Hard = IsHardSince setup told t dev es
Says setup told t es dev (Soft walk time None) = WasSet setup told t dev walk time es
Says setup told t es dev (Soft walk time (Some until)) = IsTimed setup told t dev walk time until es

-- the entry before set a soft mark, which doesn't yet last until any moment
abbrev pub PriorSays : Part → Option Prior → Type 0
PriorSays part None = Unit {0}
PriorSays part (Some (priors.Softening walk dev)) = (time : ℕ) × ((marking_of part dev).frozen ≡ Soft walk time None)
PriorSays part (Some (priors.Injection taken)) = Unit {0}
PriorSays part (Some (priors.Growth dev)) = Unit {0}

-- each device has one row at most, and each row says so
pub record Tell (setup : Setup) (told : Told) (t : ℕ) (es : List Entry) (part : Part) : Type 0 where
  pub each : Each (Says setup told t es) part.marked
  pub once : Once part.marked
  pub prior : PriorSays part part.prior

-- ---- one entry more

module _ (setup : Setup) (told : Told) (t : ℕ) (es : List Entry) (e : Entry) where
  abbrev now : List Entry
  now = es ++ e ∷ []

  abbrev v : View
  v = view (state_after setup told es) t

  longer : (before rest : List Entry) (x : Entry) → es ≡ before ++ x ∷ rest → now ≡ before ++ x ∷ (rest ++ e ∷ [])
  longer before rest x parts = ap (λ (xs : List Entry). xs ++ e ∷ []) parts ∙ append_assoc before (x ∷ rest) (e ∷ [])

  -- what a mark says stays so, unless the entry takes it
  says_more : (d : DevId) (f : FreezeMark) → is_thaw_of t d e ≡ false → Says setup told t es d f → Says setup told t now d f
  says_more d Not stays h = tt
  says_more d Hard stays h = record {
    before = h.before;
    entry = h.entry;
    since = h.since ++ e ∷ [];
    parts = longer h.before h.since h.entry h.parts;
    thread = h.thread;
    hard = h.hard;
    stays = all_more (λ x. is_thaw_of t d x ≡ false) h.since e h.stays stays;
  }
  says_more d (Soft walk time None) stays h = record { before = h.before; visit = h.visit; since = h.since ++ e ∷ []; parts = longer h.before h.since h.visit h.parts; set = h.set }
  says_more d (Soft walk time (Some until)) stays h = record {
    before = h.before;
    visit = h.visit;
    between = h.between;
    grace = h.grace;
    since = h.since ++ e ∷ [];
    parts = longer h.before (h.between ++ h.grace ∷ h.since) h.visit h.parts ∙ ap (λ (xs : List Entry). h.before ++ h.visit ∷ xs) (append_assoc h.between (h.grace ∷ h.since) (e ∷ []));
    set = h.set;
    named = h.named;
  }

  no_thaw : (d : DevId) → is_thaw d e.act ≡ false → is_thaw_of t d e ≡ false
  no_thaw d none = go (e.thread == t)
    where
      go : (b : Bool) → b && is_thaw d e.act ≡ false
      go true = none
      go false = refl

  -- where the entry takes no mark
  all_more_says : ((d : DevId) → is_thaw d e.act ≡ false) → (rows : List _) → Each (Says setup told t es) rows → Each (Says setup told t now) rows
  all_more_says none rows each = each_as (Says setup told t es) (Says setup told t now) (λ d f h. says_more d f (no_thaw d (none d)) h) rows each

  -- a row is written whose mark says so, and no mark is taken
  written : ((d : DevId) → is_thaw d e.act ≡ false) → (dev : DevId) (m : Marking) (rows : List _) → Each (Says setup told t es) rows → Once rows → Says setup told t now dev m.frozen → Each (Says setup told t now) (write same_dev rows dev m)
  written none dev m rows each once new =
      each_written (Says setup told t es) (Says setup told t now) dev m (λ d f other h. says_more d f (no_thaw d (none d)) h) new rows once each

  hard_now : (dev : DevId) → e.thread ≡ t → MakesHard setup told t dev es e.act → IsHardSince setup told t dev now
  hard_now dev own hard = record { before = es; entry = e; since = []; parts = refl; thread = own; hard = hard; stays = tt }

  marked_now : (part : Part) (dev : DevId) (m : Marking) (rows : List _) → part.marked ≡ write same_dev rows dev m → marking_of part dev ≡ m
  marked_now part dev m rows is =
      ap (λ (o : Option Marking). unwrap_or o unmarked) (ap (λ rs. look_up same_dev rs dev) is ∙ look_up-write same_dev dev_same rows dev dev m ∙ ap (λ b. cond b (Some m) (look_up same_dev rows dev)) (dev_self dev))

  -- ---- acts that set no mark

  unmarked_thaw : (act : Act) → sets_marks act ≡ false → (d : DevId) → is_thaw d act ≡ false
  unmarked_thaw (acts.Visit walk dev kind) h d = cc
  unmarked_thaw _ h d = refl

  taken_prior : (part : Part) (event : RegEvent) (a : Answer) → PriorSays part (prior_by v (acts.Reg event a))
  taken_prior part (events.TakeInjection dev req op) a = go a
    where
      go : (a : Answer) → PriorSays part (prior_by v (acts.Reg (events.TakeInjection dev req op) a))
      go (answers.Injected decision) = tt
      go _ = tt
  taken_prior part _ a = tt

  unmarked_prior : (part : Part) (act : Act) → sets_marks act ≡ false → PriorSays part (prior_by v act)
  unmarked_prior part (acts.Visit walk dev kind) h = cc
  unmarked_prior part (acts.Reg event a) h = taken_prior part event a
  unmarked_prior part (acts.Grow dev blocks) h = tt
  unmarked_prior part _ h = tt

  unmarking : (came : Came) → sets_marks e.act ≡ false → Tell setup told t es v.part → Tell setup told t now (change setup t v e.act came).part
  unmarking came h tell =
      let same : (change_by setup t v e.act came).part.marked ≡ v.part.marked = marks_stay setup t v e.act came h in
      record {
        each = subst (λ rows. Each (Says setup told t now) rows) (sym same) (all_more_says (unmarked_thaw e.act h) v.part.marked tell.each);
        once = subst Once (sym same) tell.once;
        prior = unmarked_prior (change setup t v e.act came).part e.act h;
      }

  -- ---- Visit

  -- the mark that a freeze walk's visit sets says so
  set_says : (walk : WalkId) (dev : DevId) (m : Marking) → e.thread ≡ t → e.act ≡ acts.Visit walk dev Freeze → Says setup told t now dev (freeze_set walk (time_of_walk (walk_here v walk)) m).frozen
  set_says walk dev m own is = go (time_of_walk (walk_here v walk) == 0) refl
    where
      time : ℕ
      time = time_of_walk (walk_here v walk)

      go : (b : Bool) → (time_of_walk (walk_here v walk) == 0) ≡ b → Says setup told t now dev (cond b (hardened m) (with_frozen (Soft walk (time_of_walk (walk_here v walk)) None) m)).frozen
      go true z = hard_now dev own (subst (MakesHard setup told t dev es) (sym is) (refl, eqb-true (time_of_walk (walk_here v walk)) 0 z))
      go false z = record { before = es; visit = e; since = []; parts = refl; set = record { thread = own; visit = is; brings = refl } }

  freeze_prior : (walk : WalkId) (dev : DevId) (part : Part) (time : ℕ) (m : Marking) → marking_of part dev ≡ freeze_set walk time m → PriorSays part (cond (true && nat_lt 0 time) (Some (priors.Softening walk dev)) None)
  freeze_prior walk dev part time m at = go (nat_lt 0 time) refl (time == 0) refl
    where
      go : (b : Bool) → nat_lt 0 time ≡ b → (z : Bool) → (time == 0) ≡ z → PriorSays part (cond b (Some (priors.Softening walk dev)) None)
      go false p z q = tt
      go true p false q = (time, ap (λ (x : Marking). x.frozen) at ∙ ap (λ c. (cond c (hardened m) (with_frozen (Soft walk time None) m)).frozen) q)
      go true p true q = absurd (none (sym p ∙ ap (nat_lt 0) (eqb-true time 0 q)))
        where
          none : true ≡ false → ⊥
          none x = cc

  freezing : (walk : WalkId) (dev : DevId) (came : Came) → e.thread ≡ t → e.act ≡ acts.Visit walk dev Freeze → Tell setup told t es v.part → Tell setup told t now (change setup t v (acts.Visit walk dev Freeze) came).part
  freezing walk dev came own is tell = go (is_some (v.channels dev)) refl (walk_stays setup t v walk dev Freeze)
    where
      part : Part
      part = (change setup t v (acts.Visit walk dev Freeze) came).part

      thaws : (d : DevId) → is_thaw d e.act ≡ false
      thaws d = ap (is_thaw d) is

      m : Marking
      m = freeze_set walk (time_of_walk (walk_here v walk)) (marking_of v.part dev)

      prior : (b : Bool) → is_some (v.channels dev) ≡ b → PriorSays part (cond (b && nat_lt 0 (time_of_walk (walk_here v walk))) (Some (priors.Softening walk dev)) None) → PriorSays part part.prior
      prior b c h = subst (λ x. PriorSays part (cond (x && nat_lt 0 (time_of_walk (walk_here v walk))) (Some (priors.Softening walk dev)) None)) (sym c) h

      go : (b : Bool) → is_some (v.channels dev) ≡ b → part.marked ≡ (cond b (record v.part { marked = write same_dev v.part.marked dev m }) v.part).marked → Tell setup told t now part
      go true c rows = record {
        each = subst (λ rs. Each (Says setup told t now) rs) (sym rows) (written thaws dev m v.part.marked tell.each tell.once (set_says walk dev (marking_of v.part dev) own is));
        once = subst Once (sym rows) (once_written v.part.marked dev m tell.once);
        prior = prior true c (freeze_prior walk dev part (time_of_walk (walk_here v walk)) (marking_of v.part dev) (marked_now part dev m v.part.marked rows));
      }
      go false c rows = record {
        each = subst (λ rs. Each (Says setup told t now) rs) (sym rows) (all_more_says thaws v.part.marked tell.each);
        once = subst Once (sym rows) tell.once;
        prior = prior false c tt;
      }

  draining : (walk : WalkId) (dev : DevId) (came : Came) → e.act ≡ acts.Visit walk dev Drain → Tell setup told t es v.part → Tell setup told t now (change setup t v (acts.Visit walk dev Drain) came).part
  draining walk dev came is tell =
      let rows : (change setup t v (acts.Visit walk dev Drain) came).part.marked ≡ v.part.marked = walk_stays setup t v walk dev Drain in
      record {
        each = subst (λ rs. Each (Says setup told t now) rs) (sym rows) (all_more_says (λ d. ap (is_thaw d) is) v.part.marked tell.each);
        once = subst Once (sym rows) tell.once;
        prior = tt;
      }

  thawing : (walk : WalkId) (dev : DevId) (came : Came) → e.act ≡ acts.Visit walk dev Thaw → Tell setup told t es v.part → Tell setup told t now (change setup t v (acts.Visit walk dev Thaw) came).part
  thawing walk dev came is tell =
      let m : Marking = with_frozen Not (marking_of v.part dev) in
      let rows : (change setup t v (acts.Visit walk dev Thaw) came).part.marked ≡ write same_dev v.part.marked dev m = walk_stays setup t v walk dev Thaw in
      record {
        each = subst (λ rs. Each (Says setup told t now) rs) (sym rows)
            (each_written (Says setup told t es) (Says setup told t now) dev m (λ d f other h. says_more d f (no_thaw d (ap (is_thaw d) is ∙ apart d dev other)) h) tt v.part.marked tell.once tell.each);
        once = subst Once (sym rows) (once_written v.part.marked dev m tell.once);
        prior = tt;
      }

  owed_stays : (dev : DevId) (part : Part) → (put_owed setup t dev part).marked ≡ part.marked
  owed_stays dev part = go (is_limited setup dev && (home setup dev == t))
    where
      go : (b : Bool) → (cond b (record part { owed = part.owed ++ owes.Put dev ∷ [] }) part).marked ≡ part.marked
      go true = refl
      go false = refl

  removing : (walk : WalkId) (dev : DevId) (came : Came) → e.act ≡ acts.Visit walk dev Removal → Tell setup told t es v.part → Tell setup told t now (change setup t v (acts.Visit walk dev Removal) came).part
  removing walk dev came is tell =
      let m : Marking = removal_set (marking_of v.part dev) in
      let thaws : (d : DevId) → is_thaw d e.act ≡ false = λ d. ap (is_thaw d) is in
      let rows : (change setup t v (acts.Visit walk dev Removal) came).part.marked ≡ write same_dev v.part.marked dev m =
      walk_stays setup t v walk dev Removal ∙ owed_stays dev (record v.part { marked = write same_dev v.part.marked dev m }) in
      record {
        each = subst (λ rs. Each (Says setup told t now) rs) (sym rows)
            (written thaws dev m v.part.marked tell.each tell.once (says_more dev (marking_of v.part dev).frozen (no_thaw dev (thaws dev)) (each_at (Says setup told t es) (λ d. tt) dev v.part.marked tell.each)));
        once = subst Once (sym rows) (once_written v.part.marked dev m tell.once);
        prior = tt;
      }

  -- ---- Grace

  gracing : (walk : WalkId) (until : ℕ) (came : Came) → e.thread ≡ t → e.act ≡ acts.Grace walk until → may_grace v.part walk until ≡ true → Tell setup told t es v.part → Tell setup told t now (change setup t v (acts.Grace walk until) came).part
  gracing walk until came own is may tell = go v.part.prior refl may tell.prior
    where
      thaws : (d : DevId) → is_thaw d e.act ≡ false
      thaws d = ap (is_thaw d) is

      part : Part
      part = (change setup t v (acts.Grace walk until) came).part

      timed : (w : WalkId) (dev : DevId) (time : ℕ) → w ≡ walk → (marking_of v.part dev).frozen ≡ Soft w time None → may_last v.part until (Some dev) ≡ true → WasSet setup told t dev w time es → IsTimed setup told t dev w time until now
      timed w dev time at frozen lasts was = record {
        before = was.before;
        visit = was.visit;
        between = was.since;
        grace = e;
        since = [];
        parts = ap (λ (xs : List Entry). xs ++ e ∷ []) was.parts ∙ append_assoc was.before (was.visit ∷ was.since) (e ∷ []);
        set = was.set;
        named = record {
          thread = own;
          grace = is ∙ ap (λ (x : WalkId). acts.Grace x until) (sym at);
          least = subst (λ (xs : List Entry). min ((part_of (state_after setup told xs) t).moments.last + time) last_moment ≤ until) was.parts
              (leb-true (min (v.part.moments.last + time) last_moment) until (subst (λ (f : FreezeMark). nat_le (min (v.part.moments.last + time_of_mark f) last_moment) until ≡ true) frozen lasts));
        };
      }

      by : (w : WalkId) (dev : DevId) (b : Bool) → same_walk w walk ≡ b → v.part.prior ≡ Some (priors.Softening w dev) → may_last v.part until (cond b (Some dev) None) ≡ true → (time : ℕ) × ((marking_of v.part dev).frozen ≡ Soft w time None)
          → Tell setup told t now part
      by w dev false e p h says = cc
      by w dev true same p h says =
          let m : Marking = with_until until (marking_of v.part dev) in
          let rows : part.marked ≡ write same_dev v.part.marked dev m =
          ap (λ (o : Option Prior). (remarked_if_any (softened walk o) (with_until until) v.part).marked) p ∙ ap (λ (b : Bool). (remarked_if_any (cond b (Some dev) None) (with_until until) v.part).marked) same in
          let was : WasSet setup told t dev w says.0 es = subst (Says setup told t es dev) says.1 (each_at (Says setup told t es) (λ d. tt) dev v.part.marked tell.each) in
          let new : Says setup told t now dev m.frozen = subst (λ (f : FreezeMark). Says setup told t now dev (frozen_until until f)) (sym says.1) (timed w dev says.0 (walk_exact w walk same) says.1 h was) in
          record {
            each = subst (λ rs. Each (Says setup told t now) rs) (sym rows) (written thaws dev m v.part.marked tell.each tell.once new);
            once = subst Once (sym rows) (once_written v.part.marked dev m tell.once);
            prior = tt;
          }

      go : (o : Option Prior) → v.part.prior ≡ o → may_last v.part until (softened walk o) ≡ true → PriorSays v.part o → Tell setup told t now part
      go None p h says = cc
      go (Some (priors.Injection taken)) p h says = cc
      go (Some (priors.Growth dev)) p h says = cc
      go (Some (priors.Softening w dev)) p h says = by w dev (same_walk w walk) refl p h says

  -- ---- Due

  ending : (walk : WalkId) (now_is : ℕ) (came : Came) → e.thread ≡ t → e.act ≡ acts.Due walk now_is → is_mark_due v.part walk now_is ≡ true → Tell setup told t es v.part → Tell setup told t now (change setup t v (acts.Due walk now_is) came).part
  ending walk moment came own is due tell = go (ending_mark v.part walk) refl (and_parts (has_ended walk moment (ending_mark v.part walk)) _ due).0
    where
      part : Part
      part = (change setup t v (acts.Due walk moment) came).part

      thaws : (d : DevId) → is_thaw d e.act ≡ false
      thaws d = ap (is_thaw d) is

      over : (dev : DevId) (f : FreezeMark) → Says setup told t es dev f → has_come moment (until_of walk f) ≡ true → HasEnded setup told t dev walk moment es
      over dev Not says come = cc
      over dev Hard says come = cc
      over dev (Soft w time u) says come = by (same_walk w walk) refl u says come
        where
          by : (b : Bool) → same_walk w walk ≡ b → (u : Option ℕ) → Says setup told t es dev (Soft w time u) → has_come moment (cond b u None) ≡ true → HasEnded setup told t dev walk moment es
          by false e u says come = cc
          by true e None says come = cc
          by true e (Some until) says come = record {
            time = time;
            until = until;
            timed = subst (λ (x : WalkId). IsTimed setup told t dev x time until es) (walk_exact w walk e) says;
            come = leb-true until moment come;
          }

      go : (o : Option _) → ending_mark v.part walk ≡ o → has_ended walk moment o ≡ true → Tell setup told t now part
      go None found come = cc
      go (Some row) found come =
          let m : Marking = hardened (marking_of v.part row.0) in
          let rows : part.marked ≡ write same_dev v.part.marked row.0 m = ap (λ o. (remarked_if_any (dev_if_any o) hardened v.part).marked) found in
          let says = each_found (Says setup told t es) (is_ending walk) v.part.marked row found tell.each in
          let hard : MakesHard setup told t row.0 es e.act = subst (MakesHard setup told t row.0 es) (sym is) (over row.0 row.1.frozen says.0 come) in
          record {
            each = subst (λ rs. Each (Says setup told t now) rs) (sym rows) (written thaws row.0 m v.part.marked tell.each tell.once (hard_now row.0 own hard));
            once = subst Once (sym rows) (once_written v.part.marked row.0 m tell.once);
            prior = tt;
          }

  -- ---- channels that are made, or go

  getting : (dev : DevId) (a : Answer) (came : Came) → e.thread ≡ t → e.act ≡ acts.Reg (events.GetChannel dev) a → Tell setup told t es v.part → Tell setup told t now (change setup t v (acts.Reg (events.GetChannel dev) a) came).part
  getting dev a came own is tell = by_answer a is
    where
      reg : (a : Answer) → e.act ≡ acts.Reg (events.GetChannel dev) a → (d : DevId) → is_thaw d e.act ≡ false
      reg a is d = ap (is_thaw d) is

      same : (a : Answer) → e.act ≡ acts.Reg (events.GetChannel dev) a → Each (Says setup told t now) v.part.marked
      same a is = all_more_says (reg a is) v.part.marked tell.each

      born_says : (fresh : Bool) (frozen : List DevId) → e.act ≡ acts.Reg (events.GetChannel dev) (answers.Got fresh frozen) → (x : DevId) → Says setup told t now x (born_as (list_any (same_dev x) frozen))
      born_says fresh frozen is x = go (list_any (same_dev x) frozen) refl
        where
          go : (b : Bool) → list_any (same_dev x) frozen ≡ b → Says setup told t now x (born_as b)
          go true h = hard_now x own (subst (MakesHard setup told t x es) (sym is) h)
          go false h = tt

      all : (frozen : List DevId) → ((x : DevId) → Says setup told t now x (born_as (list_any (same_dev x) frozen))) → (ds : List DevId) (part : Part) → Each (Says setup told t now) part.marked → Once part.marked
          → Each (Says setup told t now) (all_born frozen ds part).marked × Once (all_born frozen ds part).marked
      all frozen says [] part each once = (each, once)
      all frozen says (x ∷ xs) part each once =
          let m : Marking = with_frozen (born_as (list_any (same_dev x) frozen)) (marking_of part x) in
          all frozen says xs (born frozen x part) (each_written (Says setup told t now) (Says setup told t now) x m (λ d f other h. h) (says x) part.marked once each) (once_written part.marked x m once)

      by_answer : (a : Answer) → e.act ≡ acts.Reg (events.GetChannel dev) a → Tell setup told t now (change setup t v (acts.Reg (events.GetChannel dev) a) came).part
      by_answer (answers.Got fresh frozen) is =
          let both = all frozen (born_says fresh frozen is) (made v.channels (below setup dev)) v.part (same (answers.Got fresh frozen) is) tell.once in
          record { each = both.0; once = both.1; prior = tt }
      by_answer a is = record { each = same a is; once = tell.once; prior = tt }

  dropping : (dev : DevId) (a : Answer) (came : Came) → e.act ≡ acts.Reg (events.DropChannel dev) a → Tell setup told t es v.part → Tell setup told t now (change setup t v (acts.Reg (events.DropChannel dev) a) came).part
  dropping dev a came is tell = by_answer a is
    where
      m : Marking
      m = with_frozen Not (marking_of v.part dev)

      same : (a : Answer) → e.act ≡ acts.Reg (events.DropChannel dev) a → Each (Says setup told t now) v.part.marked
      same a is = all_more_says (λ d. ap (is_thaw d) is) v.part.marked tell.each

      gone : (a : Answer) → e.act ≡ acts.Reg (events.DropChannel dev) a → Each (Says setup told t now) (write same_dev v.part.marked dev m)
      gone a is = written (λ d. ap (is_thaw d) is) dev m v.part.marked tell.each tell.once tt

      by_answer : (a : Answer) → e.act ≡ acts.Reg (events.DropChannel dev) a → Tell setup told t now (change setup t v (acts.Reg (events.DropChannel dev) a) came).part
      by_answer (answers.Dropped what emptied destruct) is = go (is_dropped what) refl
        where
          part : Part
          part = (change setup t v (acts.Reg (events.DropChannel dev) (answers.Dropped what emptied destruct)) came).part

          go : (b : Bool) → is_dropped what ≡ b → Tell setup told t now part
          go true d =
              let rows : part.marked ≡ write same_dev v.part.marked dev m = ap (λ (b : Bool). (cond b (remarked dev (with_frozen Not) (paid (owes.Drop dev) v.part)) (paid (owes.Drop dev) v.part)).marked) d in
              record { each = subst (λ rs. Each (Says setup told t now) rs) (sym rows) (gone (answers.Dropped what emptied destruct) is); once = subst Once (sym rows) (once_written v.part.marked dev m tell.once); prior = tt }
          go false d =
              let rows : part.marked ≡ v.part.marked = ap (λ (b : Bool). (cond b (remarked dev (with_frozen Not) (paid (owes.Drop dev) v.part)) (paid (owes.Drop dev) v.part)).marked) d in
              record { each = subst (λ rs. Each (Says setup told t now) rs) (sym rows) (same (answers.Dropped what emptied destruct) is); once = subst Once (sym rows) tell.once; prior = tt }
      by_answer a is = record { each = same a is; once = tell.once; prior = tt }

  -- ---- each act

  by_visit : (walk : WalkId) (dev : DevId) (kind : WalkKind) (came : Came) → e.thread ≡ t → e.act ≡ acts.Visit walk dev kind → Tell setup told t es v.part → Tell setup told t now (change setup t v (acts.Visit walk dev kind) came).part
  by_visit walk dev Freeze came own is tell = freezing walk dev came own is tell
  by_visit walk dev Drain came own is tell = draining walk dev came is tell
  by_visit walk dev Thaw came own is tell = thawing walk dev came is tell
  by_visit walk dev Removal came own is tell = removing walk dev came is tell

  abbrev Left : Came → Act → Type 0
  Left came act = Tell setup told t now (change setup t v act came).part

  plain : (came : Came) (act : Act) → e.act ≡ act → sets_marks act ≡ false → Tell setup told t es v.part → Left came act
  plain came act is h tell = subst (Left came) is (unmarking came (ap sets_marks is ∙ h) tell)

  by_event : (came : Came) (event : RegEvent) (a : Answer) → e.thread ≡ t → e.act ≡ acts.Reg event a → Tell setup told t es v.part → Left came (acts.Reg event a)
  by_event came (events.GetChannel dev) a own is tell = getting dev a came own is tell
  by_event came (events.DropChannel dev) a own is tell = dropping dev a came is tell
  by_event came event a own is tell = other event is (sets_marks (acts.Reg event a)) refl
    where
      other : (event : RegEvent) → e.act ≡ acts.Reg event a → (b : Bool) → sets_marks (acts.Reg event a) ≡ b → Left came (acts.Reg event a)
      other event is false h = plain came (acts.Reg event a) is h tell
      other (events.GetChannel dev) is true h = getting dev a came own is tell
      other (events.DropChannel dev) is true h = dropping dev a came is tell
      other _ is true h = cc

  by_act : (came : Came) (act : Act) → e.thread ≡ t → e.act ≡ act → Passes (guards setup t v act came) → Tell setup told t es v.part → Left came act
  by_act came (acts.Visit walk dev kind) own is h tell = by_visit walk dev kind came own is tell
  by_act came (acts.Grace walk until) own is h tell = gracing walk until came own is (passed (guards setup t v (acts.Grace walk until) came) h).0 tell
  by_act came (acts.Due walk moment) own is h tell = ending walk moment came own is (passed (guards setup t v (acts.Due walk moment) came) h).0 tell
  by_act came (acts.Reg event a) own is h tell = by_event came event a own is tell
  by_act came act own is h tell = other act is (sets_marks act) refl h
    where
      other : (act : Act) → e.act ≡ act → (b : Bool) → sets_marks act ≡ b → Passes (guards setup t v act came) → Left came act
      other act is false s h = plain came act is s tell
      other (acts.Visit walk dev kind) is true s h = by_visit walk dev kind came own is tell
      other (acts.Grace walk until) is true s h = gracing walk until came own is (passed (guards setup t v (acts.Grace walk until) came) h).0 tell
      other (acts.Due walk moment) is true s h = ending walk moment came own is (passed (guards setup t v (acts.Due walk moment) came) h).0 tell
      other (acts.Reg event a) is true s h = by_event came event a own is tell
      other _ is true s h = cc

-- ---- runs

-- at the start no device is marked
start_marks : (setup : Setup) (told : Told) (us : List ℕ) (i : ℕ) → ((get_or (map (part_at_start setup told) us) i blank_part).marked ≡ []) × ((get_or (map (part_at_start setup told) us) i blank_part).prior ≡ None)
start_marks setup told [] i = (refl, refl)
start_marks setup told (u ∷ us) zero = (refl, refl)
start_marks setup told (u ∷ us) (suc i) = start_marks setup told us i

at_start : (setup : Setup) (told : Told) (t : ℕ) → Tell setup told t [] (part_of (start setup told) t)
at_start setup told t =
    let none = start_marks setup told (range_with_len 0 setup.threads) t in
    let part : Part = part_of (start setup told) t in
    record {
      each = subst (λ rs. Each (Says setup told t []) rs) (sym none.0) tt;
      once = subst Once (sym none.0) tt;
      prior = subst (PriorSays part) (sym none.1) tt;
    }

module _ (setup : Setup) (told : Told) (t : ℕ) where
  after_last : (s : State) (es : List Entry) (e : Entry) → after_all setup s (es ++ e ∷ []) ≡ after setup (after_all setup s es) e
  after_last s [] e = refl
  after_last s (x ∷ es) e = after_last (after setup s x) es e

  step : (es : List Entry) (e : Entry) → IsFresh (state_after setup told es) → IsAllowed setup (state_after setup told es) e → Tell setup told t es (part_of (state_after setup told es) t)
      → Tell setup told t (es ++ e ∷ []) (part_of (after setup (state_after setup told es) e) t)
  step es e fresh allowed tell = go (cases_eq e.thread t)
    where
      s : State
      s = state_after setup told es

      go : (e.thread ≡ t) ⊎ (e.thread ≡ t → ⊥) → Tell setup told t (es ++ e ∷ []) (part_of (after setup (state_after setup told es) e) t)
      go (inl own) =
          let s : State = state_after setup told es in
          let came : Came = came_for setup s e.thread e.act in
          let is : part_of (after setup s e) e.thread ≡ (change setup e.thread (view s e.thread) e.act came).part = ap (λ (v : View). v.part) (own_view_follows setup s e allowed) in
          let passes : Passes (guards setup t (view s t) e.act (came_for setup s t e.act)) = subst (λ (u : ℕ). Passes (guards_in setup s u e.act)) own (allowed_passes setup s e allowed) in
          subst (λ (p : Part). Tell setup told t (es ++ e ∷ []) p)
          (sym (subst (λ (u : ℕ). part_of (after setup s e) u ≡ (change setup u (view s u) e.act (came_for setup s u e.act)).part) own is))
          (by_act setup told t es e (came_for setup s t e.act) e.act own refl passes tell)
      go (inr other) =
          let s : State = state_after setup told es in
          let is : part_of (after setup s e) t ≡ part_of s t = ap (λ (v : View). v.part) (frame setup s e fresh allowed t other) in
          let no : (d : DevId) → is_thaw_of t d e ≡ false = λ d. ap (λ b. b && is_thaw d e.act) (differ e.thread t other) in
          subst (λ (p : Part). Tell setup told t (es ++ e ∷ []) p) (sym is)
          (record {
            each = each_as (Says setup told t es) (Says setup told t (es ++ e ∷ [])) (λ d f h. says_more setup told t es e d f (no d) h) (part_of s t).marked tell.each;
            once = tell.once;
            prior = tell.prior;
          })
        where
          differ : (a b : ℕ) → (a ≡ b → ⊥) → (a == b) ≡ false
          differ a b ne = by (a == b) refl
            where
              by : (c : Bool) → (a == b) ≡ c → c ≡ false
              by false e = refl
              by true e = absurd (ne (eqb-true a b e))

  run_tells : (done rest : List Entry) → IsFresh (state_after setup told done) → IsRunFrom setup (state_after setup told done) rest → Tell setup told t done (part_of (state_after setup told done) t)
      → Tell setup told t (done ++ rest) (part_of (state_after setup told (done ++ rest)) t)
  run_tells done [] fresh run tell = subst (λ (es : List Entry). Tell setup told t es (part_of (state_after setup told es) t)) (sym (append-nil done)) tell
  run_tells done (e ∷ rest) fresh run tell =
      let last : state_after setup told (done ++ e ∷ []) ≡ after setup (state_after setup told done) e = after_last (start setup told) done e in
      subst (λ (es : List Entry). Tell setup told t es (part_of (state_after setup told es) t)) (append_assoc done (e ∷ []) rest)
      (run_tells (done ++ e ∷ []) rest (subst IsFresh (sym last) (fresh_after setup (state_after setup told done) e fresh run.0))
      (subst (λ (s : State). IsRunFrom setup s rest) (sym last) run.1)
      (subst (λ (s : State). Tell setup told t (done ++ e ∷ []) (part_of s t)) (sym last) (step done e fresh run.0 tell)))

-- ---- the law

-- a freeze mark that stops a request that isn't late for its device is hard
stops_hard : (part : Part) (late : DevSet) (dev : DevId) → freezes_here part late dev ≡ true → has_dev late dev ≡ false → (marking_of part dev).frozen ≡ Hard
stops_hard part late dev h not_late = go (marking_of part dev).frozen refl
  where
    go : (f : FreezeMark) → (marking_of part dev).frozen ≡ f → f ≡ Hard
    go Hard e = refl
    go Not e = by (is_soft part dev) (has_dev late dev) (subst (λ (f : FreezeMark). is_hard_mark f || (is_soft part dev && has_dev late dev) ≡ true) e h) not_late
      where
        by : (a b : Bool) → a && b ≡ true → b ≡ false → Not ≡ Hard
        by true true h n = cc
        by true false h n = cc
        by false b h n = cc
    go (Soft walk time until) e = by (is_soft part dev) (has_dev late dev) (subst (λ (f : FreezeMark). is_hard_mark f || (is_soft part dev && has_dev late dev) ≡ true) e h) not_late
      where
        by : (a b : Bool) → a && b ≡ true → b ≡ false → Soft walk time until ≡ Hard
        by true true h n = cc
        by true false h n = cc
        by false b h n = cc

pub grace_is_kept : GraceIsKept
grace_is_kept setup told es e req dev r run is here not_late =
    let s : State = state_after setup told es in
    let t : ℕ = e.thread in
    let v : View = view s t in
    let came : Came = came_for setup s t e.act in
    let before : IsRun setup told es = prefix_is_run setup told es (e ∷ []) run in
    let passes = subst (λ (a : Act). Passes (guards_in setup s t a)) is (allowed_passes setup s e (last_allowed setup (start setup told) es e run)) in
    let cause : is_cause_if_any setup t v req (Frozen dev) (request_here v req) ≡ true = (passed (guards_in setup s t (acts.Abort req (Frozen dev))) passes).1.0 in
    let by_mark : is_below setup r.dev dev && freezes_here v.part r.late dev ≡ true = subst (λ (o : Option OpenRequest). is_cause_if_any setup t v req (Frozen dev) o ≡ true) here cause in
    let hard : (marking_of v.part dev).frozen ≡ Hard = stops_hard v.part r.late dev (and_parts (is_below setup r.dev dev) (freezes_here v.part r.late dev) by_mark).1 not_late in
    let tell : Tell setup told t es v.part = run_tells setup told t [] es (fresh_start setup told) before (at_start setup told t) in
    subst (Says setup told t es dev) hard (each_at (Says setup told t es) (λ d. tt) dev v.part.marked tell.each)
