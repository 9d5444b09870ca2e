-- When a home lets a device's content grow, and what that leaves: the end of the resize is asked directly after it.
use Rattle.std.specs.Prelude.{◌≡◌, ℕ, Bool, true, false, cond, ◌&&◌, Option, Some, None, is_none}
use Rattle.bd_base.specs.declared.act.Act.TheVariants as acts
use Rattle.bd_base.specs.declared.event.RegEvent.TheVariants as events
use Rattle.bd_base.specs.declared.id.DevId.{DevId}
use Rattle.bd_machine.specs.declared.state.Prior.TheVariants.{Growth}
use Rattle.bd_machine.specs.BlockMap.{home}
use Rattle.bd_machine.specs.Homes.{change_grow, is_told_to_grow}
use Rattle.bd_rule_requests.specs.Homes.{may_grow}
use Rattle.bd_steps.specs.Duties.{growth_owed}
use Rattle.bd_links.specs.Entries.{longer}
use Rattle.bd_thread.specs.declared.links.Links.{Links}
use Rattle.bd_thread.specs.declared.thread.Thread.{Thread}
use Rattle.bd_thread.specs.Aborts.{Then}
use Rattle.bd_thread.specs.Lines.{IsAnswered}
use Rattle.bd_thread.specs.Seen.{left_by, view_of}

-- the rules let the thread grow the device to this number of blocks, and nothing has to follow at the registry, so the resize can be ended directly after
abbrev pub may_grow_now : Thread → Links → DevId → ℕ → Bool
may_grow_now t links dev blocks = is_none links.registry.state.between && may_grow t.setup.now t.me (view_of t links) dev blocks

abbrev pub if_growable : Thread → Links → Option (DevId × ℕ) → Option (DevId × ℕ)
if_growable t links None = None
if_growable t links (Some due) = cond (may_grow_now t links due.0 due.1) (Some due) None

-- the first device that the thread is to let grow, and to how many blocks, where it may
abbrev pub growth_due : Thread → Links → Option (DevId × ℕ)
growth_due t links = if_growable t links (growth_owed t.part.owed)

-- one Grow: the device's content has this number of blocks, and the thread has to ask for the end of the resize in its next entry
pub record IsGrown (dev : DevId) (blocks : ℕ) (old : Thread) (before : Links) (new : Thread) (after : Links) : Type 0 where
  pub thread : new ≡ record old { part = left_by (Some (Growth dev)) (change_grow old.setup.now (view_of old before) dev blocks).part }
  pub links : after ≡ record before { entries = longer old.me before.entries (acts.Grow dev blocks) }

-- true where a device is to grow: it grew, and directly after the registry answered the end of the resize; else nothing changes
abbrev pub GrowsBy : Thread → Links → Thread → Links → Bool → Option (DevId × ℕ) → Type 0
GrowsBy old before new after grew None = (grew ≡ false) × (new ≡ old) × (after ≡ before)
GrowsBy old before new after grew (Some due) =
    (grew ≡ true) × Then (λ t links. IsGrown due.0 due.1 old before t links) (λ t links. IsAnswered (events.EndResize due.0) t links new after)

abbrev pub Grows : Thread → Links → Thread → Links → Bool → Type 0
Grows old before new after grew = GrowsBy old before new after grew (growth_due old before)
