-- The laws of turns: what each thread does by what it sees and by what is shared is a run of the machine.
use Rattle.std.specs.Prelude.{◌≡◌, ℕ, ◌<◌, Bool, true, false, cond, not, ◌&&◌, ◌==◌, List, [], length, filter, Option, Some, None, is_none}
use Rattle.std.specs.List.{list_any}
use Rattle.bd_base.specs.declared.act.Entry.{Entry}
use Rattle.bd_base.specs.declared.setup.Setup.{Setup}
use Rattle.bd_machine.specs.declared.state.Handle.{Handle}
use Rattle.bd_machine.specs.declared.state.Id.{Id}
use Rattle.bd_machine.specs.declared.state.Id.TheVariants.{Request, Walk}
use Rattle.bd_machine.specs.declared.state.Kept.{Kept}
use Rattle.bd_machine.specs.declared.state.Kept.TheVariants as keeps
use Rattle.bd_machine.specs.declared.state.State.{State}
use Rattle.bd_machine.specs.Admission.{is_gone}
use Rattle.bd_machine.specs.Asked.{is_script_blocked, open_on}
use Rattle.bd_machine.specs.BlockMap.{home}
use Rattle.bd_machine.specs.Content.{Told}
use Rattle.bd_machine.specs.Lines.{shutdown_at}
use Rattle.bd_machine.specs.Marks.{has_any_mark}
use Rattle.bd_machine.specs.Registry.{references}
use Rattle.bd_machine.specs.Rest.{is_nothing_owed}
use Rattle.bd_machine.specs.Run.{IsRunFrom, after_all, is_finished}
use Rattle.bd_machine.specs.Same.{same_dev}
use Rattle.bd_machine.specs.Start.{start, part_at_start, registry_at_start}
use Rattle.bd_machine.specs.Step.{IsAllowed, after}
use Rattle.bd_machine.specs.Users.{dev_of, is_base_handle}
use Rattle.bd_machine.specs.View.{View, is_of}
use Rattle.bd_turns.specs.Local.{Shared, Local, Leads}
use Rattle.bd_turns.specs.Tied.{IsTied}

-- ---- at the start

-- a thread sees its part, no token, its base handles, and the channels of its limited devices
abbrev pub view_at_start : Setup → Told → ℕ → View
view_at_start setup told t = record {
  part = part_at_start setup told t;
  here = λ id. None;
  handles = filter (is_of t) (registry_at_start setup).handles;
  channels = references (registry_at_start setup) t;
}

-- no entry, no Shutdown and no message
abbrev pub shared_at_start : Setup → Shared
shared_at_start setup = record { stamp = 0; shut = false; registry = registry_at_start setup; queues = λ r. [] }

-- the start of any setup is tied
abbrev pub StartIsTied : Type 0
StartIsTied = (setup : Setup) (told : Told) → IsTied setup (start setup told) (view_at_start setup told) (shared_at_start setup)

-- ---- a turn

-- the views with this one as t's
abbrev pub with_view : (ℕ → View) → ℕ → View → ℕ → View
with_view views t v u = cond (u == t) v (views u)

-- the entries are a run from the state, and the state after them is tied with t's view and the shared as they are now, and with the other views as they were
pub record IsTurn (setup : Setup) (s : State) (views : ℕ → View) (t : ℕ) (es : List Entry) (now : Local) : Type 0 where
  pub run : IsRunFrom setup s es
  pub tied : IsTied setup (after_all setup s es) (with_view views t now.view) now.shared

-- what a thread does from a tied state by what it sees and what is shared, whichever thread it is, is a run from that state, and leaves a tied one
abbrev pub TurnIsRun : Type 0
TurnIsRun = (setup : Setup) (s : State) (views : ℕ → View) (shared : Shared) (t : ℕ) (es : List Entry) (now : Local)
    → IsTied setup s views shared → t < setup.threads → Leads setup t (record { view = views t; shared = shared }) es now → IsTurn setup s views t es now

-- ---- the end

-- a script's handle that its thread closes by itself
abbrev pub is_left_open_in : Setup → View → Handle → Bool
is_left_open_in setup v h = not (is_base_handle setup h.id) && is_gone v.part h.id && (open_on v.part h.id == 0)

-- it is a request, kept without an answer, no abort stopped it, and no mark is below
abbrev pub is_pended_in : Setup → View → Kept → Bool
is_pended_in setup v (keeps.Request r) = r.pended && is_none r.aborted && not (has_any_mark setup v.part r.dev)
is_pended_in setup v _ = true

-- of the tokens that are here, a request is the thread's own and pended, and there is no walk
abbrev pub is_resting_here : Setup → ℕ → View → Id → Option Kept → Bool
is_resting_here setup t v id None = true
is_resting_here setup t v (Request req) (Some kept) = (req.thread == t) && is_pended_in setup v kept
is_resting_here setup t v (Walk walk) (Some kept) = false
is_resting_here setup t v _ (Some kept) = true

-- before Shutdown: no message is on its way; no thread has a message still to put, and none has more to do than to remove a device that is being removed already; none has a handle that it closes by itself; no walk is on a thread, and a request only pended, on its own thread; thread 0's last entry took no injection, set no soft mark and let no device grow, since its Shutdown would drop that
pub record AreAtRest (setup : Setup) (views : ℕ → View) (shared : Shared) : Type 0 where
  pub none_queued : (r : ℕ) → shared.queues r ≡ []
  pub none_due : (t : ℕ) → t < setup.threads → (views t).part.due ≡ []
  pub owed_idle : (t : ℕ) → t < setup.threads → is_nothing_owed shared.registry (views t).part ≡ true
  pub closed : (t : ℕ) → t < setup.threads → list_any (is_left_open_in setup (views t)) (views t).handles ≡ false
  pub resting : (t : ℕ) → t < setup.threads → (id : Id) → is_resting_here setup t (views t) id ((views t).here id) ≡ true
  pub untaken : (views 0).part.prior ≡ None

-- at the end: no message is on its way, no token is on a thread, and no thread has a message still to put or anything else still to do
pub record AreDone (setup : Setup) (views : ℕ → View) (shared : Shared) : Type 0 where
  pub none_queued : (r : ℕ) → shared.queues r ≡ []
  pub none_here : (t : ℕ) → t < setup.threads → (id : Id) → (views t).here id ≡ None
  pub none_due : (t : ℕ) → t < setup.threads → (views t).part.due ≡ []
  pub none_owed : (t : ℕ) → t < setup.threads → (views t).part.owed ≡ []

-- every script is at its end, or its next line waits
abbrev pub AreBlocked : Setup → (ℕ → View) → Type 0
AreBlocked setup views = (t : ℕ) → t < setup.threads → is_script_blocked setup t (views t) ≡ true

-- the Shutdown is allowed, and nothing else changes: from then on the Shutdown came, with its stamp
pub record IsShut (setup : Setup) (s : State) (views : ℕ → View) (shared : Shared) (stamp : ℕ) : Type 0 where
  pub allowed : IsAllowed setup s (shutdown_at stamp)
  pub tied : IsTied setup (after setup s (shutdown_at stamp)) views (record shared { stamp = stamp; shut = true })

-- where all threads rest and every script is blocked, thread 0 may shut down
abbrev pub ShutdownIsAllowed : Type 0
ShutdownIsAllowed = (setup : Setup) (s : State) (views : ℕ → View) (shared : Shared) (stamp : ℕ)
    → IsTied setup s views shared → 0 < setup.threads → AreAtRest setup views shared → AreBlocked setup views → shared.shut ≡ false → shared.stamp < stamp
    → IsShut setup s views shared stamp

-- every device was destructed at its home
abbrev pub AreDestructed : Setup → (ℕ → View) → Type 0
AreDestructed setup views = (n : ℕ) → n < length setup.devices → list_any (same_dev (dev_of n)) (views (home setup (dev_of n))).part.destructed ≡ true

-- where the Shutdown came, all threads are done and every device was destructed, nothing is left to do: a run that led there is complete
abbrev pub RestIsComplete : Type 0
RestIsComplete = (setup : Setup) (s : State) (views : ℕ → View) (shared : Shared)
    → IsTied setup s views shared → 0 < setup.threads → AreDone setup views shared → shared.shut ≡ true → AreDestructed setup views
    → is_finished setup s ≡ true
