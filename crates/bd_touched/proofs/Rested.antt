-- An open request that rests does so on, until an act reaches it.
use Rattle.std.proofs.Common.{◌≡◌, ℕ, Bool, true, false, not, ◌&&◌, ◌||◌, List, [], ◌∷◌, Option, Some, None, is_none, slice_get, refl, sym, ◌∙◌, ap, subst}
use Rattle.std.specs.List.{AllByRecursion, list_any}
use Rattle.std.proofs.lemmas.Bool.{and_from, and_parts}
use Rattle.bd_base.specs.declared.act.Act.{Act}
use Rattle.bd_base.specs.declared.act.Act.TheVariants as acts
use Rattle.bd_base.specs.declared.event.RegEvent.TheVariants as events
use Rattle.bd_base.specs.declared.id.DevId.{DevId}
use Rattle.bd_base.specs.declared.id.ReqId.{ReqId}
use Rattle.bd_base.specs.declared.request.WalkKind.{WalkKind}
use Rattle.bd_base.specs.declared.request.WalkKind.TheVariants.{Freeze, Drain, Thaw, Removal}
use Rattle.bd_base.specs.declared.setup.Setup.{Setup}
use Rattle.bd_flight.specs.Next.{is_wait, next_step, step_of}
use Rattle.bd_flight.specs.declared.next.Step.TheVariants as steps
use Rattle.bd_held.specs.Holds.{HoldKey}
use Rattle.bd_machine.specs.declared.state.Id.TheVariants as ids
use Rattle.bd_machine.specs.declared.state.Open.{Open}
use Rattle.bd_machine.specs.declared.state.OpenRequest.{OpenRequest}
use Rattle.bd_machine.specs.Aborts.{is_below}
use Rattle.bd_machine.specs.Admission.{has_range}
use Rattle.bd_machine.specs.BlockMap.{below}
use Rattle.bd_machine.specs.Guards.{change}
use Rattle.bd_machine.specs.Kept.{as_request, request_here}
use Rattle.bd_machine.specs.Marks.{marking_of}
use Rattle.bd_machine.specs.Requests.{is_walking}
use Rattle.bd_machine.specs.Same.{same_dev}
use Rattle.bd_machine.specs.Walks.{is_kept_waiting, is_reset, reset_of}
use Rattle.bd_machine.specs.Alone.{view_by}
use Rattle.bd_machine.specs.View.{View, Came, asked}
use Rattle.bd_machine.proofs.Tables.{request_same}
use Rattle.bd_touched.specs.Reach.{holds_on, is_touched, reach_of, reach_of_visit, reaches, KeepsHolds, Touches}
use Rattle.bd_touched.specs.Rests.{bare, is_on_own, may_rest, rests, rests_as, RestsById}
use Rattle.bd_touched.proofs.Apart.{act_apart, here_apart}
use Rattle.bd_touched.proofs.Marking.{dev_same, marks_stay, IsNone, Spares, SparesVisit}
use Rattle.bd_touched.proofs.Waiting.{waits_for, waits_so, waits_too, Waits}

-- ---- one that may rest

-- it waits by tokens and marks alone
pub rest_waits : (setup : Setup) (t : ℕ) (v : View) (keys : List HoldKey) (req : ReqId) (r : OpenRequest) → request_here v req ≡ Some r → may_rest setup t v keys req r ≡ true → Waits setup t (bare v) req r
rest_waits setup t v keys req r here h =
    let w : is_wait (next_step setup t (bare v) req) ≡ true = (and_parts (has_range r.op && holds_on keys req r.hold) (is_wait (next_step setup t (bare v) req)) h).1 in
    waits_for setup t (bare v) req r (sym (ap (λ (o : Option OpenRequest). is_wait (step_of setup t (bare v) req o)) here) ∙ w)

-- it waits by all that a thread sees
pub rest_waits_all : (setup : Setup) (t : ℕ) (v : View) (keys : List HoldKey) (req : ReqId) (r : OpenRequest) → request_here v req ≡ Some r → may_rest setup t v keys req r ≡ true → Waits setup t v req r
rest_waits_all setup t v keys req r here h =
    let plain = and_parts (has_range r.op) (holds_on keys req r.hold) (and_parts (has_range r.op && holds_on keys req r.hold) (is_wait (next_step setup t (bare v) req)) h).0 in
    waits_too setup t req r (bare v) v plain.0 (record { piece = λ k. refl; marks = λ uncut d lower. refl; still = refl }) (rest_waits setup t v keys req r here h)

is_not : (b : Bool) → not b ≡ true → b ≡ false
is_not true h = cc
is_not false h = refl

-- one that waits by all that a thread sees, and has no reset, waits by tokens and marks alone
pub may_rest_so : (setup : Setup) (t : ℕ) (v : View) (keys : List HoldKey) (req : ReqId) (r : OpenRequest) → request_here v req ≡ Some r → has_range r.op ≡ true → holds_on keys req r.hold ≡ true → not (is_walking (reset_of v.part req)) ≡ true
    → is_wait (next_step setup t v req) ≡ true
    → may_rest setup t v keys req r ≡ true
may_rest_so setup t v keys req r here range free unwalked waits =
    let still : is_walking (reset_of v.part req) ≡ false = is_not (is_walking (reset_of v.part req)) unwalked in
    let w : Waits setup t v req r = waits_for setup t v req r (sym (ap (λ (o : Option OpenRequest). is_wait (step_of setup t v req o)) here) ∙ waits) in
    let b : Waits setup t (bare v) req r = waits_too setup t req r v (bare v) range (record { piece = λ k. refl; marks = λ uncut d lower. refl; still = still }) w in
    let is : next_step setup t (bare v) req ≡ steps.Wait = ap (step_of setup t (bare v) req) here ∙ waits_so setup t (bare v) req r b in
    and_from (has_range r.op && holds_on keys req r.hold) (is_wait (next_step setup t (bare v) req)) (and_from (has_range r.op) (holds_on keys req r.hold) range free) (ap is_wait is)

-- ---- the open request of an id

-- it isn't here
pub by_id_away : (setup : Setup) (t : ℕ) (v : View) (requests : List Open) (req : ReqId) (keys : List HoldKey) (place : ℕ) (o : Open) → slice_get requests place ≡ Some o → o.id ≡ req → request_here v req ≡ None → RestsById setup t v requests req keys
by_id_away setup t v requests req keys place o at named away = record {
  place = place;
  open_at = o;
  at = at;
  named = named;
  rests_so = ap (rests_as setup t v keys o) (ap (request_here v) named ∙ away);
}

-- it may rest here
pub by_id_here : (setup : Setup) (t : ℕ) (v : View) (requests : List Open) (req : ReqId) (keys : List HoldKey) (place : ℕ) (o : Open) (r : OpenRequest) → slice_get requests place ≡ Some o → o.id ≡ req → request_here v req ≡ Some r
    → is_on_own o r ≡ true
    → may_rest setup t v keys req r ≡ true
    → RestsById setup t v requests req keys
by_id_here setup t v requests req keys place o r at named here on may = record {
  place = place;
  open_at = o;
  at = at;
  named = named;
  rests_so = ap (rests_as setup t v keys o) (ap (request_here v) named ∙ here) ∙ and_from (is_on_own o r) (may_rest setup t v keys o.id r) on (subst (λ (q : ReqId). may_rest setup t v keys q r ≡ true) (sym named) may);
}

-- ---- what shows the same of an open request

-- the same tokens of it, and the same marks below it
pub record ShowsAlike (setup : Setup) (o : Open) (v w : View) : Type 0 where
  pub request : w.here (ids.Request o.id) ≡ v.here (ids.Request o.id)
  pub piece : (k : ℕ) → w.here (ids.Piece o.id k) ≡ v.here (ids.Piece o.id k)
  pub marks : is_reset o.op ≡ false → (d : DevId) → is_below setup o.dev d ≡ true → marking_of w.part d ≡ marking_of v.part d

-- it rests by the one as by the other
pub rests_too : (setup : Setup) (t : ℕ) (keys : List HoldKey) (o : Open) (v w : View) → ShowsAlike setup o v w → rests setup t v keys o ≡ true → rests setup t w keys o ≡ true
rests_too setup t keys o v w same h = go (request_here v o.id) refl h
  where
    here_same : request_here w o.id ≡ request_here v o.id
    here_same = ap as_request same.request

    marks_of : (r : OpenRequest) → is_on_own o r ≡ true → is_none r.pieces ≡ true → (d : DevId) → is_below setup r.dev d ≡ true → marking_of w.part d ≡ marking_of v.part d
    marks_of r own uncut d lower =
        let parts = and_parts (not (is_reset o.op)) (same_dev r.dev o.dev) own in
        same.marks (is_not (is_reset o.op) parts.0) d (subst (λ (x : DevId). is_below setup x d ≡ true) (dev_same.exact r.dev o.dev parts.1) lower)

    go : (x : Option OpenRequest) → request_here v o.id ≡ x → rests_as setup t v keys o x ≡ true → rests setup t w keys o ≡ true
    go None e k = ap (rests_as setup t w keys o) (here_same ∙ e)
    go (Some r) e k =
        let both = and_parts (is_on_own o r) (may_rest setup t v keys o.id r) k in
        let plain = and_parts (has_range r.op && holds_on keys o.id r.hold) (is_wait (next_step setup t (bare v) o.id)) both.1 in
        let range = (and_parts (has_range r.op) (holds_on keys o.id r.hold) plain.0).0 in
        let here : request_here w o.id ≡ Some r = here_same ∙ e in
        let waits : Waits setup t (bare w) o.id r =
        waits_too setup t o.id r (bare v) (bare w) range (record { piece = same.piece; marks = marks_of r both.0; still = refl }) (rest_waits setup t v keys o.id r e both.1) in
        let is : next_step setup t (bare w) o.id ≡ steps.Wait = ap (step_of setup t (bare w) o.id) here ∙ waits_so setup t (bare w) o.id r waits in
        ap (rests_as setup t w keys o) here
        ∙ and_from (is_on_own o r) (may_rest setup t w keys o.id r) both.0
        (and_from (has_range r.op && holds_on keys o.id r.hold) (is_wait (next_step setup t (bare w) o.id)) plain.0 (ap is_wait is))

-- ---- an act that doesn't reach it

module _ (setup : Setup) (o : Open) (work : is_reset o.op ≡ false) where
  -- the device stands below it
  abbrev Out : DevId → Type 0
  Out d = is_below setup o.dev d ≡ true

  -- one that doesn't wait for the device, and is no reset, doesn't have it below
  not_below : (dev : DevId) → is_kept_waiting setup dev o ≡ false → is_below setup o.dev dev ≡ false
  not_below dev h = sym (ap (λ (b : Bool). not b && is_below setup o.dev dev) work) ∙ h

  none_below : (dev : DevId) → is_kept_waiting setup dev o ≡ false → IsNone Out dev
  none_below dev h d out = go (same_dev dev d) refl
    where
      go : (b : Bool) → same_dev dev d ≡ b → b ≡ false
      go true e = let f : false ≡ true = sym (not_below dev h) ∙ ap (is_below setup o.dev) (dev_same.exact dev d e) ∙ out in cc
      go false e = refl

  none_along : (ds : List DevId) → list_any (λ d. is_kept_waiting setup d o) ds ≡ false → AllByRecursion (IsNone Out) ds
  none_along [] h = tt
  none_along (d ∷ ds) h = go (is_kept_waiting setup d o) refl h (none_along ds)
    where
      go : (b : Bool) → is_kept_waiting setup d o ≡ b → b || list_any (λ d. is_kept_waiting setup d o) ds ≡ false → (list_any (λ d. is_kept_waiting setup d o) ds ≡ false → AllByRecursion (IsNone Out) ds) → AllByRecursion (IsNone Out) (d ∷ ds)
      go true e k rest = cc
      go false e k rest = (none_below d e, rest k)

  visit_spares : (dev : DevId) (kind : WalkKind) → reaches setup (reach_of_visit dev kind) o ≡ false → SparesVisit Out dev kind
  visit_spares dev Drain h = tt
  visit_spares dev Freeze h = none_below dev h
  visit_spares dev Thaw h = none_below dev h
  visit_spares dev Removal h = none_below dev h

  spares : (act : Act) → reaches setup (reach_of act) o ≡ false → Spares Out setup act
  spares (acts.Reg (events.GetChannel dev) a) h = none_along (below setup dev) h
  spares (acts.Reg (events.DropChannel dev) a) h = none_below dev h
  spares (acts.Reg _ a) h = tt
  spares (acts.Visit walk dev kind) h = visit_spares dev kind h
  spares (acts.Grace walk until) h = let no : true ≡ false = h in cc
  spares (acts.Due walk now) h = let no : true ≡ false = h in cc
  spares _ h = tt

-- what a thread sees after it shows the same
pub alike_after : (setup : Setup) (t : ℕ) (v : View) (act : Act) (came : Came) (o : Open) → reaches setup (reach_of act) o ≡ false
    → ShowsAlike setup o v (view_by setup t v (change setup t v act came) (asked act))
alike_after setup t v act came o h =
    let apart = act_apart o.id setup t v came o refl act h in
    record {
      request = here_apart o.id (change setup t v act came).moves v.here (ids.Request o.id) (request_same.same_self o.id) apart;
      piece = λ k. here_apart o.id (change setup t v act came).moves v.here (ids.Piece o.id k) (request_same.same_self o.id) apart;
      marks = λ work. marks_stay (Out setup o work) setup t v act came (spares setup o work act h);
    }

-- ---- what is held still, or is to be looked at

-- what rested rests still, unless it is to be looked at
pub rests_or : (setup : Setup) (t : ℕ) (v : View) (old new : Touches) (o : Open) → KeepsHolds old new → rests setup t v old.holds o ≡ true → is_touched new o.id || rests setup t v new.holds o ≡ true
rests_or setup t v old new o keeps h = go (request_here v o.id) h
  where
    either : (a b c : Bool) → a || b ≡ true → (b ≡ true → c ≡ true) → a || c ≡ true
    either true b c m f = refl
    either false b c m f = f m

    last : (a b : Bool) → b ≡ true → a || b ≡ true
    last true b m = refl
    last false b m = m

    go : (x : Option OpenRequest) → rests_as setup t v old.holds o x ≡ true → is_touched new o.id || rests_as setup t v new.holds o x ≡ true
    go None k = last (is_touched new o.id) true refl
    go (Some r) k =
        let both = and_parts (is_on_own o r) (may_rest setup t v old.holds o.id r) k in
        let waits = and_parts (has_range r.op && holds_on old.holds o.id r.hold) (is_wait (next_step setup t (bare v) o.id)) both.1 in
        let plain = and_parts (has_range r.op) (holds_on old.holds o.id r.hold) waits.0 in
        either (is_touched new o.id) (holds_on new.holds o.id r.hold) (rests_as setup t v new.holds o (Some r)) (keeps o.id r.hold plain.1)
        (λ on. and_from (is_on_own o r) (may_rest setup t v new.holds o.id r) both.0
        (and_from (has_range r.op && holds_on new.holds o.id r.hold) (is_wait (next_step setup t (bare v) o.id)) (and_from (has_range r.op) (holds_on new.holds o.id r.hold) plain.0 on) waits.1))
