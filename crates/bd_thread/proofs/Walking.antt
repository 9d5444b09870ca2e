-- A visit of a walk, by the local rules.
use Rattle.std.proofs.Common.{◌≡◌, ◌⊎◌, inl, inr, ℕ, zero, suc, ◌+◌, ◌<◌, ◌≤◌, Bool, true, false, cond, List, [], ◌∷◌, length, slice_get, Option, Some, None, is_none, is_some, refl, sym, ◌∙◌, ap, subst, arith}
use Rattle.std.proofs.lemmas.Bool.{cases_lt}
use Rattle.std.proofs.lemmas.Option.{same_Some}
use Rattle.bd_base.specs.declared.act.Act.{Act}
use Rattle.bd_base.specs.declared.act.Act.TheVariants as acts
use Rattle.bd_base.specs.declared.id.WalkId.{WalkId}
use Rattle.bd_base.specs.declared.request.WalkKind.{WalkKind}
use Rattle.bd_base.specs.declared.request.WalkKind.TheVariants as kinds
use Rattle.bd_base.specs.declared.setup.Setup.{Setup}
use Rattle.bd_machine.specs.declared.state.Id.{Id}
use Rattle.bd_machine.specs.declared.state.Id.TheVariants.{Walk}
use Rattle.bd_machine.specs.declared.state.Kept.{Kept}
use Rattle.bd_machine.specs.declared.state.OpenWalk.{OpenWalk}
use Rattle.bd_machine.specs.declared.state.Part.{Part}
use Rattle.bd_machine.specs.declared.state.Registry.{Registry}
use Rattle.bd_machine.specs.Alone.{held_after}
use Rattle.bd_machine.specs.Guards.{prior_by}
use Rattle.bd_machine.specs.Kept.{as_walk, walk_here}
use Rattle.bd_machine.specs.Marks.{freeze_set, remarked}
use Rattle.bd_machine.specs.Step.{first_failing}
use Rattle.bd_machine.specs.View.{View}
use Rattle.bd_machine.specs.Walks.{change_visit, guards_visit, marked_by, time_of_walk, visited, walked, walked_if_any}
use Rattle.bd_machine.proofs.Parts.{Core, visit_grows}
use Rattle.bd_turns.specs.declared.queue.Message.{Message}
use Rattle.bd_turns.specs.Local.{Local}
use Rattle.bd_rule_walks.specs.Walking.{with_channel}
use Rattle.bd_links.specs.Entries.{longer}
use Rattle.bd_links.specs.Queues.{queues_of}
use Rattle.bd_tokens.specs.Tokens.{here_in}
use Rattle.bd_tokens.specs.Walks.{walks_in, IsAmong}
use Rattle.bd_tokens.proofs.Listed.{here_among}
use Rattle.bd_links.proofs.Longer.{length-longer}
use Rattle.bd_steps.specs.Visiting.{if_visited, may_visit}
use Rattle.bd_thread.specs.declared.links.Links.{Links}
use Rattle.bd_thread.specs.declared.thread.Thread.{Thread}
use Rattle.bd_thread.specs.Acted.{Acted}
use Rattle.bd_thread.specs.Requests.{KeepsTickets}
use Rattle.bd_thread.specs.Seen.{left_by, local, local_at, view_of}
use Rattle.bd_thread.specs.Aborts.{Then}
use Rattle.bd_thread.specs.Waits.{Idles, IsIdle}
use Rattle.bd_thread.specs.Walking.{visit_change, visit_due, visit_prior, IsVisited, LastsAndStops, NoVisit, NoVisitBelow, NoVisitOf, Visits, VisitsBy}
use Rattle.bd_thread.proofs.Going.{Hold, Steps, acted_step, local_eq, steps, still_shut}
use Rattle.bd_thread.proofs.Idle.{for_grows, graces_grows, grown, more}
use Rattle.bd_thread.proofs.Tickets.{same_tickets}
use Rattle.bd_thread.proofs.Timing.{untimed}

-- where no guard fails, each holds
pub hold_all : (gs : List (ℕ × Bool)) → first_failing gs ≡ None → Hold gs
hold_all [] h = tt
hold_all (g ∷ gs) h = go g.1 refl h (hold_all gs)
  where
    go : (b : Bool) → g.1 ≡ b → cond b (first_failing gs) (Some g.0) ≡ None → (first_failing gs ≡ None → Hold gs) → Hold (g ∷ gs)
    go true e k rest = (e, rest k)
    go false e k rest = cc

pub none_is : {X : Type 0} (o : Option X) → is_none o ≡ true → o ≡ None
none_is None h = refl
none_is (Some x) h = cc

-- ---- the walk that may visit

-- it is here, and no guard fails
pub record MayBe (t : Thread) (links : Links) (walk : WalkId) (w : OpenWalk) : Type 0 where
  pub here : walk_here (view_of t links) walk ≡ Some w
  pub passes : first_failing (guards_visit t.setup.now t.me (view_of t links) walk w.dev w.kind) ≡ None

pub visit_may : (t : Thread) (links : Links) (walk : WalkId) (w : OpenWalk) → visit_due t links walk ≡ Some w → MayBe t links walk w
visit_may t links walk w due = go (walk_here (view_of t links) walk) refl due
  where
    go : (o : Option OpenWalk) → walk_here (view_of t links) walk ≡ o → if_visited t.setup.now t.me (view_of t links) walk o ≡ Some w → MayBe t links walk w
    go None e k = cc
    go (Some x) e k = may (may_visit t.setup.now t.me (view_of t links) walk x) refl k
      where
        may : (b : Bool) → may_visit t.setup.now t.me (view_of t links) walk x ≡ b → cond b (Some x) None ≡ Some w → MayBe t links walk w
        may false m k = cc
        may true m k =
            let same : x ≡ w = cc in
            record {
              here = e ∙ ap Some same;
              passes = none_is _ (subst (λ (y : OpenWalk). may_visit t.setup.now t.me (view_of t links) walk y ≡ true) same m);
            }

-- ---- what the visit changes

-- of what the thread sees, the marks go by the part, by its channel of the device and by the drain time that the walk brings
pub marked_as : (setup : Setup) (t : ℕ) (v : View) (walk : WalkId) (w : OpenWalk) → walk_here v walk ≡ Some w
    → marked_by setup t (with_channel v.part (v.channels w.dev) w.time) walk w.dev w.kind ≡ marked_by setup t v walk w.dev w.kind
marked_as setup t v walk w here = go w.kind
  where
    go : (kind : WalkKind) → marked_by setup t (with_channel v.part (v.channels w.dev) w.time) walk w.dev kind ≡ marked_by setup t v walk w.dev kind
    go kinds.Freeze = ap (λ (o : Option OpenWalk). cond (is_some (v.channels w.dev)) (remarked w.dev (freeze_set walk (time_of_walk o)) v.part) v.part) (sym here)
    go kinds.Drain = refl
    go kinds.Thaw = refl
    go kinds.Removal = refl

-- the walk goes on from the marks
pub change_is : (t : Thread) (links : Links) (walk : WalkId) (w : OpenWalk)
    → walk_here (view_of t links) walk ≡ Some w
    → visit_change t links walk w ≡ walked t.me walk (visited t.me w) (marked_by t.setup.now t.me (view_of t links) walk w.dev w.kind)
change_is t links walk w here = ap (walked_if_any t.me walk (marked_by t.setup.now t.me (view_of t links) walk w.dev w.kind)) here

-- ---- the visit

visit_steps : (setup : Setup) (t : ℕ) (part : Part) (here here' : Id → Option Kept) (registry : Registry) (shut : Bool) (stamp : ℕ) (queues : ℕ → List Message) (walk : WalkId) (w : OpenWalk)
    → first_failing (guards_visit setup t (local_at t part here registry shut stamp queues).view walk w.dev w.kind) ≡ None
    → here' ≡ held_after (change_visit setup t (local_at t part here registry shut stamp queues).view walk w.dev w.kind).moves here
    → Steps setup t (local_at t part here registry shut stamp queues) (acts.Visit walk w.dev w.kind)
    (local_at t (left_by (prior_by (local_at t part here registry shut stamp queues).view (acts.Visit walk w.dev w.kind)) (change_visit setup t (local_at t part here registry shut stamp queues).view walk w.dev w.kind).part) here' registry shut (stamp + 1) queues)
visit_steps setup t part here here' registry shut stamp queues walk w passes held =
    let l : Local = local_at t part here registry shut stamp queues in
    let l' : Local = local_at t (left_by (prior_by l.view (acts.Visit walk w.dev w.kind)) (change_visit setup t l.view walk w.dev w.kind).part) here' registry shut (stamp + 1) queues in
    steps setup t l l' (acts.Visit walk w.dev w.kind) refl refl
    (hold_all (guards_visit setup t l.view walk w.dev w.kind) passes)
    (local_eq _ l' refl (sym held) refl refl refl (still_shut shut) refl refl)

-- the thread that was visited goes on
pub visited_acted : (t : Thread) (before : Links) (new : Thread) (after : Links) (walk : WalkId) (w : OpenWalk)
    → visit_due t before walk ≡ Some w
    → IsVisited walk w t before new after
    → Acted t before new after
visited_acted t before new after walk w due is =
    let may = visit_may t before walk w due in
    let act : Act = acts.Visit walk w.dev w.kind in
    let p : Thread = record t { part = left_by (visit_prior t before walk w) (visit_change t before walk w).part; held = new.held; outbox = new.outbox } in
    let q : Links = record before { entries = longer t.me before.entries act } in
    let queues = queues_of before.queues.items in
    let stepped = visit_steps t.setup.now t.me t.part (here_in t.held.items) (here_in new.held.items) before.registry.state before.shut (length before.entries) queues walk w may.passes is.held in
    let ends : local_at t.me p.part (here_in new.held.items) before.registry.state before.shut (length before.entries + 1) queues ≡ local p q =
    ap (λ (n : ℕ). local_at t.me p.part (here_in new.held.items) before.registry.state before.shut n queues) (sym (length-longer t.me before.entries act)) in
    subst (λ (n : Thread). Acted t before n after) (sym is.thread)
    (subst (λ (l : Links). Acted t before p l) (sym is.links)
    (acted_step t before p q act refl refl refl refl refl (subst (Steps t.setup.now t.me (local t before) act) ends stepped) refl (untimed act t p refl refl)))

-- its open requests and their tickets stay
pub visited_tickets : (t : Thread) (before : Links) (new : Thread) (after : Links) (walk : WalkId) (w : OpenWalk) → IsVisited walk w t before new after → KeepsTickets t → KeepsTickets new
visited_tickets t before new after walk w is keeps =
    let rest = (visit_grows t.setup.now t.me (view_of t before) walk w.dev w.kind).rest in
    same_tickets t new (ap (λ (n : Thread). n.purse.ids) is.thread)
    (ap (λ (n : Thread). n.part.requests) is.thread ∙ ap (λ (c : Core). c.requests) rest)
    (ap (λ (n : Thread). n.part.next_request) is.thread ∙ ap (λ (c : Core). c.next_request) rest) keeps

-- ---- walks that are here

-- a visit adds an entry
visit_more : (walk : WalkId) (w : OpenWalk) (old : Thread) (before : Links) (new : Thread) (after : Links)
    → Then (λ t links. IsVisited walk w old before t links) (λ t links. LastsAndStops walk w t links new after)
    → length after.entries ≤ length before.entries
    → ⊥
visit_more walk w old before new after h few =
    more old.me before h.shared (acts.Visit walk w.dev w.kind) (ap (λ (l : Links). l.entries) h.first.links)
    (omega (arith, few, graces_grows walk w.time h.middle h.shared h.second.middle h.second.shared h.second.first, for_grows w.kind w.dev h.second.middle h.second.shared new after h.second.second))

pub visits_idle : (walk : WalkId) (old : Thread) (before : Links) (new : Thread) (after : Links) (made : Bool) → Visits walk old before new after made → Idles (NoVisitOf walk) old before new after
visits_idle walk old before new after made h few = go (visit_due old before walk) refl h
  where
    go : (o : Option OpenWalk) → visit_due old before walk ≡ o → VisitsBy walk old before new after made o → IsIdle (NoVisitOf walk) old before new after
    go None e k = record { thread = k.1; links = k.2; waits = e }
    go (Some w) e k = absurd (visit_more walk w old before new after k.1 few)

pub visits_more : (walk : WalkId) (old : Thread) (before : Links) (new : Thread) (after : Links) → Visits walk old before new after true → length after.entries ≤ length before.entries → ⊥
visits_more walk old before new after h few = go (visit_due old before walk) h
  where
    true_false : true ≡ false → ⊥
    true_false e = cc

    go : (o : Option OpenWalk) → VisitsBy walk old before new after true o → ⊥
    go None k = true_false k.0
    go (Some w) k = visit_more walk w old before new after k.1 few

-- the walk at this place may not visit either
pub visits_below : (place : ℕ) (walk : WalkId) (o : Thread) (a : Links) (m : Thread) (b : Links) (n : Thread) (c : Links)
    → Acted o a m b
    → Acted m b n c
    → slice_get (walks_in m.held.items) place ≡ Some walk
    → Idles (NoVisitBelow place) o a m b
    → Idles (NoVisitOf walk) m b n c
    → Idles (NoVisitBelow (place + 1)) o a n c
visits_below place walk o a m b n c g h at f s few =
    let first : IsIdle (NoVisitBelow place) o a m b = f (omega (arith, few, grown m b n c h)) in
    let second : IsIdle (NoVisitOf walk) m b n c = s (omega (arith, few, grown o a m b g)) in
    let here : slice_get (walks_in o.held.items) place ≡ Some walk = subst (λ (t : Thread). slice_get (walks_in t.held.items) place ≡ Some walk) first.thread at in
    let one : NoVisitOf walk o a = subst (λ (t : Thread). NoVisitOf walk t a) first.thread (subst (λ (x : Links). NoVisitOf walk m x) first.links second.waits) in
    record { thread = second.thread ∙ first.thread; links = second.links ∙ first.links; waits = λ i x less found. go first.waits here one i x less found (cases_lt i place) }
  where
    go : NoVisitBelow place o a → slice_get (walks_in o.held.items) place ≡ Some walk → NoVisitOf walk o a → (i : ℕ) (x : WalkId) → i < place + 1 → slice_get (walks_in o.held.items) i ≡ Some x → (i < place) ⊎ (place ≤ i) → NoVisitOf x o a
    go below here one i x less found (inl lower) = below i x lower found
    go below here one i x less found (inr upper) =
        let same : i ≡ place = omega (arith, less, upper) in
        let is : walk ≡ x = same_Some walk x (sym here ∙ subst (λ (k : ℕ). slice_get (walks_in o.held.items) k ≡ Some x) same found) in
        subst (λ (y : WalkId). NoVisitOf y o a) is one

-- all before the end, so all: one that isn't here may not visit
pub visits_all : (count : ℕ) (o : Thread) (a : Links) (n : Thread) (c : Links) → length (walks_in o.held.items) ≤ count → Idles (NoVisitBelow count) o a n c → Idles NoVisit o a n c
visits_all count o a n c whole f few =
    let first : IsIdle (NoVisitBelow count) o a n c = f few in
    record { thread = first.thread; links = first.links; waits = λ walk. go walk (here_in o.held.items (Walk walk)) refl first.waits }
  where
    go : (walk : WalkId) (k : Option Kept) → here_in o.held.items (Walk walk) ≡ k → NoVisitBelow count o a → NoVisitOf walk o a
    go walk None is below = ap (if_visited o.setup.now o.me (view_of o a) walk) (ap as_walk is)
    go walk (Some kept) is below =
        let found : IsAmong o.held.items walk = here_among o.held.items walk kept is in
        below found.place walk (omega (arith, whole, found.within)) found.at

-- a place that was there once is there still, where nothing changed
pub visits_there : {Q : Type 0} (place : ℕ) (o : Thread) (a : Links) (n : Thread) (c : Links)
    → place < length (walks_in o.held.items)
    → slice_get (walks_in n.held.items) place ≡ None
    → Idles (NoVisitBelow place) o a n c
    → length c.entries ≤ length a.entries
    → Q
visits_there place o a n c within none f few =
    let first : IsIdle (NoVisitBelow place) o a n c = f few in
    gone (walks_in o.held.items) place within (subst (λ (t : Thread). slice_get (walks_in t.held.items) place ≡ None) first.thread none)
  where
    gone : {Q : Type 0} (xs : List WalkId) (i : ℕ) → i < length xs → slice_get xs i ≡ None → Q
    gone [] i within none = absurd (omega (arith, within))
    gone (x ∷ xs) zero within none = cc
    gone (x ∷ xs) (suc i) within none = gone xs i (omega (arith, within)) none
