-- What a walk's visit of a thread leaves.
use Rattle.std.specs.Prelude.{◌≡◌, ℕ, ◌<◌, Bool, true, false, ◌++◌, slice_get, Option, Some, None}
use Rattle.bd_base.specs.declared.act.Act.TheVariants as acts
use Rattle.bd_base.specs.declared.id.DevId.{DevId}
use Rattle.bd_base.specs.declared.id.WalkId.{WalkId}
use Rattle.bd_base.specs.declared.request.AbortCause.TheVariants.{Frozen, Removed}
use Rattle.bd_base.specs.declared.request.WalkKind.{WalkKind}
use Rattle.bd_base.specs.declared.request.WalkKind.TheVariants.{Freeze, Removal}
use Rattle.bd_machine.specs.declared.state.OpenWalk.{OpenWalk}
use Rattle.bd_machine.specs.declared.state.Prior.{Prior}
use Rattle.bd_machine.specs.Alone.{held_after}
use Rattle.bd_machine.specs.Guards.{prior_by}
use Rattle.bd_machine.specs.View.{Change}
use Rattle.bd_machine.specs.Walks.{change_visit, visited}
use Rattle.bd_steps.specs.Sending.{goes_on, sent_off}
use Rattle.bd_steps.specs.Visiting.{visitor}
use Rattle.bd_rule_effects.specs.Begun.{begun, walk_moved}
use Rattle.bd_links.specs.Entries.{longer}
use Rattle.bd_tokens.specs.Tokens.{here_in}
use Rattle.bd_tokens.specs.Walks.{walks_in}
use Rattle.bd_thread.specs.declared.links.Links.{Links}
use Rattle.bd_thread.specs.declared.thread.Thread.{Thread}
use Rattle.bd_thread.specs.Aborts.{StopsAll, Then}
use Rattle.bd_thread.specs.Calls.{NotesResets}
use Rattle.bd_thread.specs.Grace.{Graces}
use Rattle.bd_thread.specs.Seen.{left_by, view_of}

-- the walk, where it is here and the rules let it visit this thread
abbrev pub visit_due : Thread → Links → WalkId → Option OpenWalk
visit_due t links walk = visitor t.setup.now t.me (view_of t links) walk

-- what a visit changes
abbrev pub visit_change : Thread → Links → WalkId → OpenWalk → Change
visit_change t links walk w = change_visit t.setup.now t.me (view_of t links) walk w.dev w.kind

-- what a visit is to the thread's next entry
abbrev pub visit_prior : Thread → Links → WalkId → OpenWalk → Option Prior
visit_prior t links walk w = prior_by (view_of t links) (acts.Visit walk w.dev w.kind)

-- one Visit: the marks are set, the walk ends or is to be put to where it goes next, and another that begins by its end is here and to be put
pub record IsVisited (walk : WalkId) (w : OpenWalk) (old : Thread) (before : Links) (new : Thread) (after : Links) : Type 0 where
  pub next : Option (WalkId × OpenWalk)
  pub begins : (visit_change old before walk w).moves ≡ walk_moved old.me walk (visited old.me w) ++ begun next
  pub thread : new ≡ record old { part = left_by (visit_prior old before walk w) (visit_change old before walk w).part; held = new.held; outbox = new.outbox }
  pub held : here_in new.held.items ≡ held_after (visit_change old before walk w).moves (here_in old.held.items)
  pub outbox : new.outbox.items ≡ (old.outbox.items ++ sent_off next) ++ goes_on old.me walk (visited old.me w)
  pub links : after ≡ record before { entries = longer old.me before.entries (acts.Visit walk w.dev w.kind) }

-- where the mark of a removal or of a reset was set, what it stops is stopped; another walk stops nothing
abbrev pub StopsFor : WalkKind → DevId → Thread → Links → Thread → Links → Type 0
StopsFor Removal dev old before new after = StopsAll dev (Removed dev) old before new after
StopsFor Freeze dev old before new after = StopsAll dev (Frozen dev) old before new after
StopsFor _ dev old before new after = (new ≡ old) × (after ≡ before)

-- a soft mark lasts until the turn's moment with the drain time that the walk brings, and then what the visit stops is stopped
abbrev pub LastsAndStops : WalkId → OpenWalk → Thread → Links → Thread → Links → Type 0
LastsAndStops walk w old before new after = Then (λ t links. Graces walk w.time old before t links) (λ t links. StopsFor w.kind w.dev t links new after)

-- true where a visit is due: it was made, and then a soft mark got its moment, and what the visit stops was stopped; else nothing changes
abbrev pub VisitsBy : WalkId → Thread → Links → Thread → Links → Bool → Option OpenWalk → Type 0
VisitsBy walk old before new after made None = (made ≡ false) × (new ≡ old) × (after ≡ before)
VisitsBy walk old before new after made (Some w) =
    (made ≡ true) × Then (λ t links. IsVisited walk w old before t links) (λ t links. LastsAndStops walk w t links new after)

abbrev pub Visits : WalkId → Thread → Links → Thread → Links → Bool → Type 0
Visits walk old before new after made = VisitsBy walk old before new after made (visit_due old before walk)

abbrev pub WalksBy : WalkId → Thread → Links → Thread → Links → Option OpenWalk → Type 0
WalksBy walk old before new after None = (new ≡ old) × (after ≡ before)
WalksBy walk old before new after (Some w) = Then (λ t links. Visits walk old before t links true) (λ t links. NotesResets t new × (after ≡ links))

-- where a visit is due it was made, and then the resets that ask the registry for something next were noted; else nothing changes
abbrev pub Walks : WalkId → Thread → Links → Thread → Links → Type 0
Walks walk old before new after = WalksBy walk old before new after (visit_due old before walk)

-- ---- walks that can't visit

-- the walk isn't here, or may not visit this thread
abbrev pub NoVisitOf : WalkId → Thread → Links → Type 0
NoVisitOf walk t links = visit_due t links walk ≡ None

-- nor may any of the first n walks that are here
abbrev pub NoVisitBelow : ℕ → Thread → Links → Type 0
NoVisitBelow n t links = (i : ℕ) (walk : WalkId) → i < n → slice_get (walks_in t.held.items) i ≡ Some walk → NoVisitOf walk t links

-- no walk may visit this thread
abbrev pub NoVisit : Thread → Links → Type 0
NoVisit t links = (walk : WalkId) → NoVisitOf walk t links
