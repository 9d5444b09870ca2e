-- What a thread looks at: it goes on with what the thread does, and all else rests.
use Rattle.std.proofs.Common.{◌≡◌, ◌⊎◌, inl, inr, ℕ, zero, suc, ◌+◌, ◌-◌, ◌<◌, ◌≤◌, Bool, true, false, cond, ◌&&◌, ◌||◌, ◌==◌, nat_le, List, [], ◌∷◌, ◌++◌, drop, take, length, slice_get, Option, Some, None, is_none, refl, sym, ◌∙◌, ap, ap₂, subst, arith}
use Rattle.std.specs.List.{AllByRecursion, list_any}
use Rattle.std.proofs.Math.Seq.{drop-length}
use Rattle.std.proofs.lemmas.Bool.{and_parts, cases_lt}
use Rattle.std.proofs.lemmas.List.{drop-append-le, length-drop, take_all}
use Rattle.std.proofs.lemmas.Option.{same_Some, slice_get_within}
use Rattle.bd_base.specs.declared.act.Act.{Act}
use Rattle.bd_base.specs.declared.act.Entry.{Entry}
use Rattle.bd_base.specs.declared.id.ReqId.{ReqId}
use Rattle.bd_base.specs.declared.request.Op.{Op}
use Rattle.bd_base.specs.declared.request.Op.TheVariants as ops
use Rattle.bd_base.specs.declared.setup.Setup.{Setup}
use Rattle.bd_flight.specs.declared.next.Step.{Step}
use Rattle.bd_flight.specs.declared.next.Step.TheVariants as steps
use Rattle.bd_flight.specs.Next.{may_take, next_step, step_of}
use Rattle.bd_machine.specs.declared.state.Hold.{Hold}
use Rattle.bd_machine.specs.declared.state.Hold.TheVariants as holds
use Rattle.bd_machine.specs.declared.state.Open.{Open}
use Rattle.bd_machine.specs.declared.state.OpenRequest.{OpenRequest}
use Rattle.bd_machine.specs.declared.guard.TheConstants.{HOLD_OVER, MAY_HOLD}
use Rattle.bd_machine.specs.Admission.{has_range}
use Rattle.bd_machine.specs.Delays.{is_hold_over, may_hold, may_release}
use Rattle.bd_machine.specs.Kept.{is_at_own, request_here}
use Rattle.bd_machine.specs.Marks.{times_marked}
use Rattle.bd_machine.specs.Same.{same_request}
use Rattle.bd_machine.specs.View.{View}
use Rattle.bd_machine.specs.Walks.{is_reset, reset_of}
use Rattle.bd_machine.proofs.Tables.{request_same}
use Rattle.bd_steps.specs.Completions.{ending_in, ends_as}
use Rattle.bd_steps.specs.Naming.{named_in, number_in, number_of_op}
use Rattle.bd_steps.specs.Resetting.{event_of, reset_event}
use Rattle.bd_touched.specs.Looks.{is_looked_at, Looks}
use Rattle.bd_touched.specs.Reach.{holds_on, is_reached, is_touched, Covers, KeepsHolds, TakesIn, Touches}
use Rattle.bd_touched.specs.Rests.{is_on_own, may_rest, rests, rests_as, RestsById}
use Rattle.bd_touched.proofs.Looking.{all_so, looks_then}
use Rattle.bd_held.specs.Holds.{has_due, HoldKey}
use Rattle.bd_touched.proofs.Holding.{not_yet}
use Rattle.bd_touched.proofs.Rested.{rest_waits_all, rests_or}
use Rattle.bd_touched.proofs.Waiting.{never_held, waits_so, Waits}
use Rattle.bd_thread.specs.declared.links.Links.{Links}
use Rattle.bd_thread.specs.declared.thread.Thread.{Thread}
use Rattle.bd_thread.specs.Acted.{is_own, ActedBy}
use Rattle.bd_thread.specs.Calls.{asks_next, asks_reset, may_ask_freely, next_found, Finds, FindsAmong, FindsNamed, NoneAsksAmong}
use Rattle.bd_thread.specs.Delays.{hold_due_of, may_hold_until, may_release_now, until_of}
use Rattle.bd_thread.specs.Injections.{is_inject}
use Rattle.bd_thread.specs.Limits.{NoWayOut}
use Rattle.bd_thread.specs.Looking.{sight, IsLookedAfter, LooksAt, LooksBut}
use Rattle.bd_thread.specs.Requests.{ids_of, AreDistinct, KeepsTickets}
use Rattle.bd_thread.specs.Seen.{local, view_of}
use Rattle.bd_thread.specs.Waits.{is_taken_alone, Idles, IsIdle, NoStepOf, StandsAmong, StandsBut, StandsNamed, StandsOf}
use Rattle.bd_thread.proofs.Idle.{grown}
use Rattle.bd_thread.proofs.Limiting.{no_request}

-- ---- lists

all_at : {X : Type 0} (P : X → Type 0) (xs : List X) (i : ℕ) (x : X) → AllByRecursion P xs → slice_get xs i ≡ Some x → P x
all_at P [] i x h at = absurd (omega (arith, slice_get_within [] i x at))
all_at P (y ∷ ys) zero x h at = subst P (same_Some y x at) h.0
all_at P (y ∷ ys) (suc i) x h at = all_at P ys i x h.1 at

all_both : {X : Type 0} (P Q R : X → Type 0) (xs : List X) → ((x : X) → P x → Q x → R x) → AllByRecursion P xs → AllByRecursion Q xs → AllByRecursion R xs
all_both P Q R [] f h k = tt
all_both P Q R (x ∷ xs) f h k = (f x h.0 k.0, all_both P Q R xs f h.1 k.1)

-- where one is the same, it stands at a place
record StandsAt (req : ReqId) (xs : List ReqId) : Type 0 where
  place : ℕ
  at : slice_get xs place ≡ Some req

any_at : (req : ReqId) (xs : List ReqId) → list_any (λ r. same_request r req) xs ≡ true → StandsAt req xs
any_at req [] h = cc
any_at req (x ∷ xs) h = go (same_request x req) refl h (any_at req xs)
  where
    go : (b : Bool) → same_request x req ≡ b → b || list_any (λ r. same_request r req) xs ≡ true → (list_any (λ r. same_request r req) xs ≡ true → StandsAt req xs) → StandsAt req (x ∷ xs)
    go true e k rest = record { place = 0; at = ap (λ (r : ReqId). Some r) (request_same.exact x req e) }
    go false e k rest = let s = rest k in record { place = suc s.place; at = s.at }

-- ---- an open request that rests

none_named : (op : Op) → has_range op ≡ true → number_of_op op ≡ None
none_named ops.Read h = refl
none_named (ops.Write fill) h = refl
none_named ops.Zeroes h = refl
none_named ops.Unmap h = refl
none_named ops.Flush h = refl
none_named (ops.Reset time) h = cc
none_named (ops.Abort seq) h = cc

no_reset : (op : Op) → has_range op ≡ true → is_reset op ≡ false
no_reset ops.Read h = refl
no_reset (ops.Write fill) h = refl
no_reset ops.Zeroes h = refl
no_reset ops.Unmap h = refl
no_reset ops.Flush h = refl
no_reset (ops.Reset time) h = cc
no_reset (ops.Abort seq) h = refl

-- what is held until a moment that hasn't come is held still
not_over : (now times : ℕ) (keys : List HoldKey) (req : ReqId) (hold : Hold) → has_due now keys ≡ false → holds_on keys req hold ≡ true → is_hold_over now times hold ≡ false
not_over now times keys req holds.Before early h = refl
not_over now times keys req (holds.Until moment marked) early h = ap (λ (b : Bool). b && (marked == times)) (not_yet now keys req moment early h)
not_over now times keys req holds.Over early h = refl

and_false : (b : Bool) → b && false ≡ false
and_false true = refl
and_false false = refl

-- it can't be carried on, and asks nothing
module _ (t : Thread) (links : Links) (keys : List HoldKey) (early : has_due t.time.moment keys ≡ false) (o : Open) (r : OpenRequest) (here : request_here (view_of t links) o.id ≡ Some r) (may : may_rest t.setup.now t.me (view_of t links) keys o.id r ≡ true) where
  plain : (has_range r.op ≡ true) × (holds_on keys o.id r.hold ≡ true)
  plain = and_parts (has_range r.op) (holds_on keys o.id r.hold) (and_parts (has_range r.op && holds_on keys o.id r.hold) _ may).0

  waits : Waits t.setup.now t.me (view_of t links) o.id r
  waits = rest_waits_all t.setup.now t.me (view_of t links) keys o.id r here may

  step_is : next_step t.setup.now t.me (view_of t links) o.id ≡ steps.Wait
  step_is = ap (step_of t.setup.now t.me (view_of t links) o.id) here ∙ waits_so t.setup.now t.me (view_of t links) o.id r waits

  released_never : may_release_now t links o.id ≡ false
  released_never =
      ap (λ (x : Option OpenRequest). is_none (cond (may_release t.setup.now t.me (view_of t links) o.id t.time.moment x) (let n : Option ℕ = None in n) (Some HOLD_OVER))) here
      ∙ ap (λ b. is_none (cond (is_at_own t.me o.id r && is_none r.aborted && nat_le t.part.moments.last t.time.moment && b) (let n : Option ℕ = None in n) (Some HOLD_OVER))) (not_over t.time.moment (times_marked t.setup.now t.part r.dev) keys o.id r.hold early plain.1)
      ∙ ap (λ b. is_none (cond b (let n : Option ℕ = None in n) (Some HOLD_OVER))) (and_false (is_at_own t.me o.id r && is_none r.aborted && nat_le t.part.moments.last t.time.moment))

  held_never : may_hold_until t links o.id (until_of t r) ≡ false
  held_never =
      ap (λ (x : Option OpenRequest). is_none (cond (may_hold t.setup.now t.me (view_of t links) o.id (until_of t r) x) (let n : Option ℕ = None in n) (Some MAY_HOLD))) here
      ∙ ap (λ b. is_none (cond b (let n : Option ℕ = None in n) (Some MAY_HOLD))) (never_held t.setup.now t.me (view_of t links) o.id r waits (until_of t r))

  stands_here : StandsOf false o.id t links
  stands_here = record {
    none = record {
      step = ap is_taken_alone step_is;
      named = ap (λ (x : Option OpenRequest). named_in t.setup.now t.me (view_of t links) o.id (number_in x)) here ∙ ap (named_in t.setup.now t.me (view_of t links) o.id) (none_named r.op plain.0);
      still = record {
        release = ap (λ b. cond b (request_here (view_of t links) o.id) None) released_never;
        hold = ap (hold_due_of t links o.id) here ∙ ap (λ b. cond b (Some (r, until_of t r)) None) held_never;
        completion = ap (ending_in t.setup.now t.me (view_of t links) o.id) here ∙ ap (ends_as (view_of t links) o.id r _) waits.end;
      };
      out = subst (λ (s : Step). NoWayOut o.id s t links) (sym step_is) (and_false (length t.outbox.items == 0));
    };
    asks_is = sym (
        ap (λ (s : Step). (is_inject s && may_take t.setup.now t.me (view_of t links) o.id s) || asks_reset t links o.id) step_is
        ∙ ap (λ (x : Option OpenRequest). may_ask_freely t links (reset_event t.part o.id x)) here
        ∙ ap (λ b. may_ask_freely t links (cond b (event_of r.dev o.id (reset_of t.part o.id)) None)) (no_reset r.op plain.0)
        );
  }

pub rest_stands : (t : Thread) (links : Links) (keys : List HoldKey) → has_due t.time.moment keys ≡ false → (o : Open) → rests t.setup.now t.me (sight t) keys o ≡ true → StandsOf false o.id t links
rest_stands t links keys early o h = go (request_here (view_of t links) o.id) refl h
  where
    go : (x : Option OpenRequest) → request_here (view_of t links) o.id ≡ x → rests_as t.setup.now t.me (sight t) keys o x ≡ true → StandsOf false o.id t links
    go None here k = no_request o.id t links here
    go (Some r) here k = stands_here t links keys early o r here (and_parts (is_on_own o r) (may_rest t.setup.now t.me (view_of t links) keys o.id r) k).1

-- ---- those that are to be looked at

-- the one at this place can't be carried on either
pub stands_among : (reqs : List ReqId) (place : ℕ) (req : ReqId) (asks : Bool) (found next : Option ReqId) (o : Thread) (a : Links) (m : Thread) (b : Links) (n : Thread) (c : Links)
    → ActedBy is_own o a m b
    → ActedBy is_own m b n c
    → slice_get reqs place ≡ Some req
    → next_found asks req found ≡ next
    → Idles (StandsAmong found reqs place) o a m b
    → Idles (StandsOf asks req) m b n c
    → Idles (StandsAmong next reqs (place + 1)) o a n c
stands_among reqs place req asks found next o a m b n c g h at next_is f s few =
    let first : IsIdle (StandsAmong found reqs place) o a m b = f (omega (arith, few, grown m b n c h)) in
    let second : IsIdle (StandsOf asks req) m b n c = s (omega (arith, few, grown o a m b g)) in
    let one : StandsOf asks req o a = subst (λ (t : Thread). StandsOf asks req t a) first.thread (subst (λ (l : Links). StandsOf asks req m l) first.links second.waits) in
    record {
      thread = second.thread ∙ first.thread;
      links = second.links ∙ first.links;
      waits = record {
        none = λ i x less there. none_of first.waits.none one.none i x less there (cases_lt i place);
        finds = subst (λ (x : Option ReqId). FindsAmong reqs (place + 1) x o a) next_is (finds_next asks found one.asks_is first.waits.finds);
      };
    }
  where
    none_of : ((i : ℕ) (x : ReqId) → i < place → slice_get reqs i ≡ Some x → NoStepOf x o a) → NoStepOf req o a → (i : ℕ) (x : ReqId) → i < place + 1 → slice_get reqs i ≡ Some x → (i < place) ⊎ (place ≤ i) → NoStepOf x o a
    none_of below one i x less there (inl lower) = below i x lower there
    none_of below one i x less there (inr upper) =
        let same : i ≡ place = omega (arith, less, upper) in
        subst (λ (y : ReqId). NoStepOf y o a) (same_Some req x (sym at ∙ subst (λ (k : ℕ). slice_get reqs k ≡ Some x) same there)) one

    none_asks : asks_next o a req ≡ false → NoneAsksAmong reqs place o a → (i : ℕ) (x : ReqId) → i < place + 1 → slice_get reqs i ≡ Some x → (i < place) ⊎ (place ≤ i) → asks_next o a x ≡ false
    none_asks one below i x less there (inl lower) = below i x lower there
    none_asks one below i x less there (inr upper) =
        let same : i ≡ place = omega (arith, less, upper) in
        subst (λ (y : ReqId). asks_next o a y ≡ false) (same_Some req x (sym at ∙ subst (λ (k : ℕ). slice_get reqs k ≡ Some x) same there)) one

    finds_next : (y : Bool) (x : Option ReqId) → y ≡ asks_next o a req → FindsAmong reqs place x o a → FindsAmong reqs (place + 1) (next_found y req x) o a
    finds_next y (Some x) is finds = finds
    finds_next true None is finds = sym is
    finds_next false None is finds = λ i x less there. none_asks (sym is) finds i x less there (cases_lt i place)

-- none before the end can be carried on, and the first that asks was found
pub stands_named : (reqs : List ReqId) (count : ℕ) (found : Option ReqId) (o : Thread) (a : Links) (n : Thread) (c : Links) → length reqs ≤ count → Idles (StandsAmong found reqs count) o a n c → Idles (StandsNamed found reqs) o a n c
stands_named reqs count found o a n c whole f few =
    let first : IsIdle (StandsAmong found reqs count) o a n c = f few in
    record {
      thread = first.thread;
      links = first.links;
      waits = record { none = λ i x at. first.waits.none i x (omega (arith, whole, slice_get_within reqs i x at)) at; finds = all found first.waits.finds };
    }
  where
    all : (x : Option ReqId) → FindsAmong reqs count x o a → FindsNamed reqs x o a
    all None finds = λ i x at. finds i x (omega (arith, whole, slice_get_within reqs i x at)) at
    all (Some req) finds = finds

-- a place of the list is there
pub stands_there : {Q : Type 0} (reqs : List ReqId) (place : ℕ) → place < length reqs → slice_get reqs place ≡ None → Q
stands_there reqs place within none = absurd (gone reqs place within none)
  where
    gone : {X : Type 0} (xs : List X) (i : ℕ) → i < length xs → slice_get xs i ≡ None → ⊥
    gone [] i within none = absurd (omega (arith, within))
    gone (x ∷ xs) zero within none = cc
    gone (x ∷ xs) (suc i) within none = gone xs i (omega (arith, within)) none

-- ---- all open requests

module _ (old new : Touches) (found : Option ReqId) (t : Thread) (links : Links) (early : has_due t.time.moment old.holds ≡ false) (named : new.all ≡ false)
    (same : AllByRecursion (λ (o : Open). is_touched old o.id ≡ true → is_touched new o.id ≡ true) t.part.requests) (stands : StandsNamed found new.reqs t links) where
  listed : (o : Open) → is_touched new o.id ≡ true → StandsAt o.id new.reqs
  listed o h = any_at o.id new.reqs (sym (ap (λ b. b || list_any (λ r. same_request r o.id) new.reqs) named) ∙ h)

  -- it is named, or rests
  one_of : {Q : Type 0} (o : Open) → (is_touched old o.id ≡ true → is_touched new o.id ≡ true) → is_looked_at t.setup.now t.me [] old (sight t) o ≡ true
      → (StandsAt o.id new.reqs → Q) → (StandsOf false o.id t links → Q) → Q
  one_of {Q} o covers h by_name by_rest = go (is_touched old o.id) refl h
    where
      go : (b : Bool) → is_touched old o.id ≡ b → b || false || rests t.setup.now t.me (sight t) old.holds o ≡ true → Q
      go true e k = by_name (listed o (covers e))
      go false e k = by_rest (rest_stands t links old.holds early o k)

  pub stands_looked : StandsBut (LooksAt old) found t links
  stands_looked = record {
    none = λ looks i o at.
        one_of o (all_at _ t.part.requests i o same at) (all_at _ t.part.requests i o looks at).1
        (λ s. stands.none s.place o.id s.at) (λ s. s.none);
    finds = λ looks. finds looks found stands.finds;
  }
    where
      finds : LooksAt old t → (x : Option ReqId) → FindsNamed new.reqs x t links → Finds x t links
      finds looks None h = λ i o at.
          one_of o (all_at _ t.part.requests i o same at) (all_at _ t.part.requests i o looks at).1
          (λ s. h s.place o.id s.at) (λ s. sym s.asks_is)
      finds looks (Some req) h = h

-- ---- what the thread does

-- it looks at them on
pub look_acted : {may : Setup → Act → Bool} (count : ℕ) (touched : Touches) (o : Thread) (a : Links) (n : Thread) (c : Links) → ActedBy may o a n c → count ≤ length a.entries
    → LooksBut (drop count a.entries) touched o → LooksBut (drop count c.entries) touched n
look_acted count touched o a n c acted within looks =
    let on : Looks o.setup.now o.me (drop count a.entries ++ acted.entries) touched (view_of n c) = looks_then o.setup.now o.me (local o a) (local n c) (drop count a.entries) acted.entries touched acted.leads looks in
    let entries : drop count c.entries ≡ drop count a.entries ++ acted.entries = ap (drop count) acted.added ∙ drop-append-le count a.entries acted.entries within in
    subst (λ (es : List Entry). LooksBut es touched n) (sym entries)
    (subst (λ (u : ℕ). Looks n.setup.now u (drop count a.entries ++ acted.entries) touched (view_of n c)) (sym acted.me)
    (subst (λ (s : Setup). Looks s o.me (drop count a.entries ++ acted.entries) touched (view_of n c)) (sym (ap (λ s. s.now) acted.setup)) on))

-- no entry was made yet
pub look_first : (a : Links) (touched : Touches) (o : Thread) → LooksAt touched o → LooksBut (drop (length a.entries) a.entries) touched o
look_first a touched o looks = subst (λ (es : List Entry). LooksBut es touched o) (sym (drop-length a.entries)) looks

-- as many are named, and perhaps more
pub look_named : (entries : List Entry) (old new : Touches) (t : Thread) → new.holds ≡ old.holds → AllByRecursion (λ (o : Open). is_touched old o.id ≡ true → is_touched new o.id ≡ true) t.part.requests → LooksBut entries old t → LooksBut entries new t
look_named entries old new t next same looks =
    all_both (λ (o : Open). is_touched old o.id ≡ true → is_touched new o.id ≡ true) (λ (o : Open). (o.id.thread ≡ t.me) × (is_looked_at t.setup.now t.me entries old (sight t) o ≡ true)) (λ (o : Open). (o.id.thread ≡ t.me) × (is_looked_at t.setup.now t.me entries new (sight t) o ≡ true))
    t.part.requests (λ o covers looked. (looked.0, go o (is_touched old o.id) refl covers looked.1)) same looks
  where
    go : (o : Open) (b : Bool) → is_touched old o.id ≡ b → (is_touched old o.id ≡ true → is_touched new o.id ≡ true) → b || is_reached t.setup.now entries o || rests t.setup.now t.me (sight t) old.holds o ≡ true → is_looked_at t.setup.now t.me entries new (sight t) o ≡ true
    go o true e covers k = ap (λ x. x || is_reached t.setup.now entries o || rests t.setup.now t.me (sight t) new.holds o) (covers e)
    go o false e covers k = subst (λ (n : List HoldKey). is_touched new o.id || is_reached t.setup.now entries o || rests t.setup.now t.me (sight t) n o ≡ true) (sym next) (also (is_touched new o.id) (is_reached t.setup.now entries o) (rests t.setup.now t.me (sight t) old.holds o) k)
      where
        also : (a b c : Bool) → b || c ≡ true → a || b || c ≡ true
        also true b c h = refl
        also false b c h = h

-- ---- those that rest

-- the open request of an id is the one that stands there
the_open : (xs : List Open) (place : ℕ) (x : Open) → AreDistinct (ids_of xs) → slice_get xs place ≡ Some x → AllByRecursion (λ (o : Open). same_request x.id o.id ≡ true → o ≡ x) xs
the_open [] place x distinct at = tt
the_open (y ∷ ys) zero x distinct at =
    let is : y ≡ x = same_Some y x at in
    (λ same. is, apart ys (subst (λ (z : Open). list_any (same_request z.id) (ids_of ys) ≡ false) is distinct.0))
  where
    apart : (zs : List Open) → list_any (same_request x.id) (ids_of zs) ≡ false → AllByRecursion (λ (o : Open). same_request x.id o.id ≡ true → o ≡ x) zs
    apart [] h = tt
    apart (z ∷ zs) h = go (same_request x.id z.id) refl h (apart zs)
      where
        go : (b : Bool) → same_request x.id z.id ≡ b → b || list_any (same_request x.id) (ids_of zs) ≡ false → (list_any (same_request x.id) (ids_of zs) ≡ false → AllByRecursion (λ (o : Open). same_request x.id o.id ≡ true → o ≡ x) zs)
            → AllByRecursion (λ (o : Open). same_request x.id o.id ≡ true → o ≡ x) (z ∷ zs)
        go true e k rest = cc
        go false e k rest = (λ same. let f : false ≡ true = sym e ∙ same in cc, rest k)
the_open (y ∷ ys) (suc place) x distinct at = (λ same. absurd (elsewhere ys place at distinct.0 same), the_open ys place x distinct.1 at)
  where
    elsewhere : (zs : List Open) (i : ℕ) → slice_get zs i ≡ Some x → list_any (same_request y.id) (ids_of zs) ≡ false → same_request x.id y.id ≡ true → ⊥
    elsewhere [] i there h same = omega (arith, slice_get_within (let os : List Open = [] in os) i x there)
    elsewhere (z ∷ zs) zero there h same =
        let is : z ≡ x = same_Some z x there in
        let self : same_request y.id z.id ≡ true = ap (λ (w : Open). same_request y.id w.id) is ∙ ap (same_request y.id) (request_same.exact x.id y.id same) ∙ request_same.same_self y.id in
        let f : true ≡ false = sym (ap (λ b. b || list_any (same_request y.id) (ids_of zs)) self) ∙ h in cc
    elsewhere (z ∷ zs) (suc i) there h same = elsewhere zs i there (later (same_request y.id z.id) (list_any (same_request y.id) (ids_of zs)) h) same
      where
        later : (a b : Bool) → a || b ≡ false → b ≡ false
        later true b h = cc
        later false b h = h

module _ (entries : List Entry) (x y : Touches) (req : ReqId) (t : Thread) (all : y.all ≡ x.all) (first : x.reqs ≡ req ∷ y.reqs) (kept : y.holds ≡ x.holds) where
  -- what was to be looked at is that request, or is so still
  split : (o : Open) → is_touched x o.id ≡ (y.all || (same_request req o.id || list_any (λ r. same_request r o.id) y.reqs))
  split o = ap₂ (λ (b : Bool) (rs : List ReqId). b || list_any (λ r. same_request r o.id) rs) (sym all) first

  -- it rests
  pub look_settled : KeepsTickets t → RestsById t.setup.now t.me (sight t) t.part.requests req y.holds → LooksBut entries x t → LooksBut entries y t
  look_settled keeps by looks =
      all_both (λ (o : Open). same_request by.open_at.id o.id ≡ true → o ≡ by.open_at) (λ (o : Open). (o.id.thread ≡ t.me) × (is_looked_at t.setup.now t.me entries x (sight t) o ≡ true))
      (λ (o : Open). (o.id.thread ≡ t.me) × (is_looked_at t.setup.now t.me entries y (sight t) o ≡ true))
      t.part.requests (λ o only looked. (looked.0, go o only (same_request req o.id) refl looked.1)) (the_open t.part.requests by.place by.open_at keeps.distinct by.at) looks
    where
      third : (a b c : Bool) → c ≡ true → a || b || c ≡ true
      third true b c h = refl
      third false true c h = refl
      third false false c h = h

      go : (o : Open) → (same_request by.open_at.id o.id ≡ true → o ≡ by.open_at) → (b : Bool) → same_request req o.id ≡ b → is_looked_at t.setup.now t.me entries x (sight t) o ≡ true
          → is_looked_at t.setup.now t.me entries y (sight t) o ≡ true
      go o only true e k =
          let is : o ≡ by.open_at = only (ap (λ (r : ReqId). same_request r o.id) by.named ∙ e) in
          third (is_touched y o.id) (is_reached t.setup.now entries o) (rests t.setup.now t.me (sight t) y.holds o)
          (subst (λ (z : Open). rests t.setup.now t.me (sight t) y.holds z ≡ true) (sym is) by.rests_so)
      go o only false e k =
          ap (λ (n : List HoldKey). is_touched y o.id || is_reached t.setup.now entries o || rests t.setup.now t.me (sight t) n o) kept
          ∙ ap (λ b. b || is_reached t.setup.now entries o || rests t.setup.now t.me (sight t) x.holds o) (sym (split o ∙ ap (λ b. y.all || (b || list_any (λ r. same_request r o.id) y.reqs)) e)) ∙ k

  -- it is to be looked at again
  pub look_again : (z : Touches) → z.holds ≡ y.holds → Covers y z → is_touched z req ≡ true → LooksBut entries x t → LooksBut entries z t
  look_again z stays covers named looks = look_named entries x z t (stays ∙ kept) (each t.part.requests) looks
    where
      by_parts : (o : Open) (b : Bool) → same_request req o.id ≡ b → is_touched x o.id ≡ true → is_touched z o.id ≡ true
      by_parts o true e h = subst (λ (r : ReqId). is_touched z r ≡ true) (request_same.exact req o.id e) named
      by_parts o false e h = covers o.id (sym (split o ∙ ap (λ b. y.all || (b || list_any (λ r. same_request r o.id) y.reqs)) e) ∙ h)

      each : (xs : List Open) → AllByRecursion (λ (o : Open). is_touched x o.id ≡ true → is_touched z o.id ≡ true) xs
      each [] = tt
      each (o ∷ os) = (by_parts o (same_request req o.id) refl, each os)

-- one that rests by all that the thread sees
pub look_rested : (t : Thread) (links : Links) (v : View) (req : ReqId) (keys : List HoldKey) → v ≡ view_of t links → RestsById t.setup.now t.me v v.part.requests req keys → RestsById t.setup.now t.me (sight t) t.part.requests req keys
look_rested t links v req keys seen by =
    let b : RestsById t.setup.now t.me (view_of t links) t.part.requests req keys = subst (λ (w : View). RestsById t.setup.now t.me w w.part.requests req keys) seen by in
    record { place = b.place; open_at = b.open_at; at = b.at; named = b.named; rests_so = b.rests_so }

-- the same is to be looked at
pub look_same : (entries : List Entry) (x y : Touches) (t : Thread) → y.all ≡ x.all → y.reqs ≡ x.reqs → y.holds ≡ x.holds → LooksBut entries x t → LooksBut entries y t
look_same entries x y t all reqs kept looks =
    subst (λ (z : Touches). LooksBut entries z t)
    (ap₂ (λ (b : Bool) (rs : List ReqId). let z : Touches = record { all = b; reqs = rs; holds = x.holds } in z) (sym all) (sym reqs) ∙ ap (λ (n : List HoldKey). let z : Touches = record { all = y.all; reqs = y.reqs; holds = n } in z) (sym kept)) looks

-- what was to be looked at is so still, and what rested rests or is to be looked at
pub look_expired : (entries : List Entry) (old new : Touches) (t : Thread) → Covers old new → KeepsHolds old new → LooksBut entries old t → LooksBut entries new t
look_expired entries old new t covers keeps looks =
    all_so (λ (o : Open). (o.id.thread ≡ t.me) × (is_looked_at t.setup.now t.me entries old (sight t) o ≡ true)) (λ (o : Open). (o.id.thread ≡ t.me) × (is_looked_at t.setup.now t.me entries new (sight t) o ≡ true))
    t.part.requests (λ o h. (h.0, go o (is_touched old o.id) (is_reached t.setup.now entries o) refl refl h.1)) looks
  where
    second : (a b c : Bool) → b ≡ true → a || b || c ≡ true
    second true b c h = refl
    second false true c h = refl
    second false false c h = cc

    outer : (a b c : Bool) → a || c ≡ true → a || b || c ≡ true
    outer true b c h = refl
    outer false true c h = refl
    outer false false c h = h

    go : (o : Open) (a b : Bool) → is_touched old o.id ≡ a → is_reached t.setup.now entries o ≡ b → a || b || rests t.setup.now t.me (sight t) old.holds o ≡ true → is_looked_at t.setup.now t.me entries new (sight t) o ≡ true
    go o true b p q k = ap (λ x. x || is_reached t.setup.now entries o || rests t.setup.now t.me (sight t) new.holds o) (covers o.id p)
    go o false true p q k = second (is_touched new o.id) (is_reached t.setup.now entries o) (rests t.setup.now t.me (sight t) new.holds o) q
    go o false false p q k = outer (is_touched new o.id) (is_reached t.setup.now entries o) (rests t.setup.now t.me (sight t) new.holds o) (rests_or t.setup.now t.me (sight t) old new o keeps k)

-- what the entries reach is to be looked at too
pub look_taken : (entries : List Entry) (old new : Touches) (t : Thread) → TakesIn t.setup.now t.me t.part.requests entries old new → KeepsHolds old new → LooksBut entries old t → LooksAt new t
look_taken entries old new t taken keeps looks =
    all_both (λ (o : Open). o.id.thread ≡ t.me → is_touched old o.id || is_reached t.setup.now entries o ≡ true → is_touched new o.id ≡ true) (λ (o : Open). (o.id.thread ≡ t.me) × (is_looked_at t.setup.now t.me entries old (sight t) o ≡ true))
    (λ (o : Open). (o.id.thread ≡ t.me) × (is_looked_at t.setup.now t.me [] new (sight t) o ≡ true))
    t.part.requests (λ o takes looked. (looked.0, go o (is_touched old o.id || is_reached t.setup.now entries o) refl (takes looked.0) looked.1)) taken looks
  where
    outer : (a c : Bool) → a || c ≡ true → a || false || c ≡ true
    outer true c h = refl
    outer false c h = h

    go : (o : Open) (b : Bool) → is_touched old o.id || is_reached t.setup.now entries o ≡ b → (is_touched old o.id || is_reached t.setup.now entries o ≡ true → is_touched new o.id ≡ true)
        → b || rests t.setup.now t.me (sight t) old.holds o ≡ true → is_looked_at t.setup.now t.me [] new (sight t) o ≡ true
    go o true e takes k = ap (λ b. b || false || rests t.setup.now t.me (sight t) new.holds o) (takes e)
    go o false e takes k = outer (is_touched new o.id) (rests t.setup.now t.me (sight t) new.holds o) (rests_or t.setup.now t.me (sight t) old new o keeps k)

-- the last entries, as many as there are from a number on
pub take_rest : (count : ℕ) (entries : List Entry) → take (length entries - count) (drop count entries) ≡ drop count entries
take_rest count entries = take_all (length entries - count) (drop count entries) (omega (arith, length-drop count entries))

-- ---- a turn

-- as it begins
pub look_began : (count : ℕ) (o b : Thread) (x : Touches) (a : Links) → b ≡ record o { touched = b.touched } → x ≡ o.touched → count ≡ length a.entries → IsLookedAfter o → LooksBut (drop count a.entries) x b
look_began count o b x a is was at looks =
    let first : LooksBut (drop (length a.entries) a.entries) o.touched o = look_first a o.touched o looks in
    let here : LooksBut (drop (length a.entries) a.entries) x o = subst (λ (y : Touches). LooksBut (drop (length a.entries) a.entries) y o) (sym was) first in
    let counted : LooksBut (drop count a.entries) x o = subst (λ (n : ℕ). LooksBut (drop n a.entries) x o) (sym at) here in
    subst (λ (t : Thread). LooksBut (drop count a.entries) x t) (sym is) counted

-- what is noted changes nothing
pub look_noted : (m u : Thread) → u ≡ record m { calls = u.calls } → IsLookedAfter m → IsLookedAfter u
look_noted m u is looks = subst (λ (t : Thread). IsLookedAfter t) (sym is) looks
