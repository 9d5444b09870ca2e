-- Grow, by the local rules; and the end of the resize, which may be asked directly after it.
use Rattle.std.proofs.Common.{◌≡◌, ℕ, ◌+◌, Bool, true, false, cond, ◌&&◌, ◌||◌, List, [], ◌∷◌, ◌++◌, length, Option, Some, None, is_none, refl, sym, ◌∙◌, ap, subst, eq-eqb}
use Rattle.std.specs.List.{list_any}
use Rattle.std.proofs.lemmas.Bool.{and_from, and_parts}
use Rattle.std.proofs.lemmas.Option.{same_Some}
use Rattle.bd_base.specs.declared.act.Act.{Act}
use Rattle.bd_base.specs.declared.act.Act.TheVariants as acts
use Rattle.bd_base.specs.declared.event.RegEvent.{RegEvent}
use Rattle.bd_base.specs.declared.event.RegEvent.TheVariants as events
use Rattle.bd_base.specs.declared.id.DevId.{DevId}
use Rattle.bd_base.specs.declared.setup.Setup.{Setup}
use Rattle.bd_machine.specs.declared.state.Between.{Between}
use Rattle.bd_machine.specs.declared.state.Id.{Id}
use Rattle.bd_machine.specs.declared.state.Kept.{Kept}
use Rattle.bd_machine.specs.declared.state.Owed.{Owed}
use Rattle.bd_machine.specs.declared.state.Owed.TheVariants as owes
use Rattle.bd_machine.specs.declared.state.Part.{Part}
use Rattle.bd_machine.specs.declared.state.Prior.TheVariants.{Growth}
use Rattle.bd_machine.specs.declared.state.Registry.{Registry}
use Rattle.bd_machine.specs.Asked.{asks_between, has_grown, owes_it}
use Rattle.bd_machine.specs.Homes.{change_grow}
use Rattle.bd_machine.specs.Same.{same_dev, same_owed}
use Rattle.bd_machine.specs.Table.{without_first}
use Rattle.bd_machine.specs.View.{View}
use Rattle.bd_rule_requests.specs.Homes.{may_grow}
use Rattle.bd_rule_view.specs.Came.{came_between}
use Rattle.bd_turns.specs.declared.queue.Message.{Message}
use Rattle.bd_turns.specs.Local.{Local}
use Rattle.bd_links.specs.Entries.{longer}
use Rattle.bd_links.specs.Queues.{queues_of}
use Rattle.bd_steps.specs.Duties.{growth_owed}
use Rattle.bd_tokens.specs.Tokens.{here_in}
use Rattle.bd_thread.specs.declared.links.Links.{Links}
use Rattle.bd_thread.specs.declared.thread.Thread.{Thread}
use Rattle.bd_thread.specs.Acted.{Acted}
use Rattle.bd_thread.specs.Growing.{growth_due, if_growable, may_grow_now, GrowsBy, IsGrown}
use Rattle.bd_thread.specs.Lines.{may_ask, IsAnswered}
use Rattle.bd_thread.specs.Requests.{KeepsTickets}
use Rattle.bd_thread.specs.Seen.{left_by, local_at, view_of}
use Rattle.bd_thread.proofs.Going.{Steps, acted_by, carried, steps, still_shut}
use Rattle.bd_thread.proofs.Tickets.{same_tickets}
use Rattle.bd_thread.proofs.Timing.{untimed}
use Rattle.bd_thread.proofs.Walking.{none_is}

-- ---- what is due

-- the device that is due may grow
pub growth_may : (t : Thread) (links : Links) (dev : DevId) (blocks : ℕ) → growth_due t links ≡ Some (dev, blocks) → may_grow_now t links dev blocks ≡ true
growth_may t links dev blocks due = go (growth_owed t.part.owed) due
  where
    go : (o : Option (DevId × ℕ)) → if_growable t links o ≡ Some (dev, blocks) → may_grow_now t links dev blocks ≡ true
    go None h = cc
    go (Some x) h = may (may_grow_now t links x.0 x.1) refl h
      where
        may : (b : Bool) → may_grow_now t links x.0 x.1 ≡ b → cond b (Some x) None ≡ Some (dev, blocks) → may_grow_now t links dev blocks ≡ true
        may true m k = subst (λ (y : DevId × ℕ). may_grow_now t links y.0 y.1 ≡ true) (same_Some x (dev, blocks) k) m
        may false m k = cc

-- ---- the act

grow_steps : (setup : Setup) (t : ℕ) (part new : Part) (here : Id → Option Kept) (registry : Registry) (shut : Bool) (stamp : ℕ) (queues : ℕ → List Message) (dev : DevId) (blocks : ℕ)
    → may_grow setup t (local_at t part here registry shut stamp queues).view dev blocks ≡ true
    → new ≡ (change_grow setup (local_at t part here registry shut stamp queues).view dev blocks).part
    → Steps setup t (local_at t part here registry shut stamp queues) (acts.Grow dev blocks) (local_at t (left_by (Some (Growth dev)) new) here registry shut (stamp + 1) queues)
grow_steps setup t part new here registry shut stamp queues dev blocks may is =
    let l : Local = local_at t part here registry shut stamp queues in
    let after : Part → Bool → Local = λ p s. local_at t (left_by (Some (Growth dev)) p) here registry s (stamp + 1) queues in
    steps setup t l (after new shut) (acts.Grow dev blocks) refl refl
    (may, tt)
    (ap (after (change_grow setup l.view dev blocks).part) (still_shut shut) ∙ ap (λ (p : Part). after p shut) (sym is))

-- the thread whose device grew goes on
pub grown_acted : (t : Thread) (links : Links) (part : Part) (dev : DevId) (blocks : ℕ)
    → growth_due t links ≡ Some (dev, blocks)
    → part ≡ (change_grow t.setup.now (view_of t links) dev blocks).part
    → Acted t links (record t { part = left_by (Some (Growth dev)) part }) (record links { entries = longer t.me links.entries (acts.Grow dev blocks) })
grown_acted t links part dev blocks due is =
    let act : Act = acts.Grow dev blocks in
    let new : Thread = record t { part = left_by (Some (Growth dev)) part } in
    let after : Links = record links { entries = longer t.me links.entries act } in
    let may = (and_parts (is_none links.registry.state.between) (may_grow t.setup.now t.me (view_of t links) dev blocks) (growth_may t links dev blocks due)).1 in
    let stepped = grow_steps t.setup.now t.me t.part part (here_in t.held.items) links.registry.state links.shut (length links.entries) (queues_of links.queues.items) dev blocks may is in
    acted_by t links new after act refl refl refl refl refl stepped refl (untimed act t new refl refl)

-- its open requests and their tickets stay
pub grown_tickets : (t : Thread) (links : Links) (part : Part) (dev : DevId) (blocks : ℕ)
    → part ≡ (change_grow t.setup.now (view_of t links) dev blocks).part
    → KeepsTickets t
    → KeepsTickets (record t { part = left_by (Some (Growth dev)) part })
grown_tickets t links part dev blocks is keeps =
    same_tickets t (record t { part = left_by (Some (Growth dev)) part }) refl (ap (λ (p : Part). p.requests) is) (ap (λ (p : Part). p.next_request) is) keeps

-- ---- the end of the resize

last_owed : (is : Owed → Bool) (xs : List Owed) (x : Owed) → is x ≡ true → list_any is (xs ++ x ∷ []) ≡ true
last_owed is [] x h = ap (λ b. b || false) h
last_owed is (y ∷ xs) x h = later (is y) (list_any is (xs ++ x ∷ [])) (last_owed is xs x h)
  where
    later : (a b : Bool) → b ≡ true → a || b ≡ true
    later true b e = refl
    later false b e = e

-- where nothing has to follow at the registry, it may be asked
pub end_asked : (t : Thread) (links : Links) (dev : DevId) (blocks : ℕ)
    → growth_due t links ≡ Some (dev, blocks)
    → may_ask (record t { part = left_by (Some (Growth dev)) (change_grow t.setup.now (view_of t links) dev blocks).part }) (record links { entries = longer t.me links.entries (acts.Grow dev blocks) }) (events.EndResize dev) ≡ true
end_asked t links dev blocks due =
    let new : Thread = record t { part = left_by (Some (Growth dev)) (change_grow t.setup.now (view_of t links) dev blocks).part } in
    let after : Links = record links { entries = longer t.me links.entries (acts.Grow dev blocks) } in
    let event : RegEvent = events.EndResize dev in
    let none : links.registry.state.between ≡ None = none_is links.registry.state.between (and_parts (is_none links.registry.state.between) (may_grow t.setup.now t.me (view_of t links) dev blocks) (growth_may t links dev blocks due)).0 in
    let freely : Option Between → Bool = λ b. asks_between t.setup.now t.me (view_of new after) (came_between b links.shut) event b in
    let left : List Owed = without_first (same_owed (owes.Grow dev blocks)) t.part.owed in
    let owed : owes_it new.part (owes.EndResize dev) ≡ true = last_owed (same_owed (owes.EndResize dev)) left (owes.EndResize dev) (eq-eqb dev.0 dev.0 refl) in
    ap freely none ∙ and_from (has_grown dev new.part.prior) (owes_it new.part (owes.EndResize dev)) (eq-eqb dev.0 dev.0 refl) owed

-- ---- said exactly

-- a device that may grow grew, and the registry answered the end of the resize
pub grew_by : (t : Thread) (before : Links) (m : Thread) (l : Links) (new : Thread) (after : Links) (dev : DevId) (blocks : ℕ)
    → IsGrown dev blocks t before m l
    → IsAnswered (events.EndResize dev) m l new after
    → GrowsBy t before new after true (Some (dev, blocks))
grew_by t before m l new after dev blocks first second = (refl, record { middle = m; shared = l; first = first; second = second })
