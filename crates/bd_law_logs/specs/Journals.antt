-- The registry's journal: the entries that asked the registry, and the Shutdown, in the order in which the registry answered.
use Rattle.std.specs.Prelude.{◌≡◌, ℕ, Bool, ◌||◌, ◌==◌, List, [], ◌∷◌, filter, Option, Some, None, is_some, option_and_then}
use Rattle.bd_base.specs.declared.act.Entry.{Entry}
use Rattle.bd_base.specs.declared.id.DevId.{DevId}
use Rattle.bd_base.specs.declared.setup.Setup.{Setup}
use Rattle.bd_machine.specs.declared.state.Between.{Between}
use Rattle.bd_machine.specs.declared.state.Handle.{Handle}
use Rattle.bd_machine.specs.declared.state.Registry.{Registry}
use Rattle.bd_machine.specs.Alone.{own_handles_after, own_channels_after}
use Rattle.bd_machine.specs.Changes.{registry_after}
use Rattle.bd_machine.specs.Registry.{Question, answer_to}
use Rattle.bd_machine.specs.Step.{is_shutdown}
use Rattle.bd_machine.specs.View.{asked}
use Rattle.bd_log.specs.Merge.{is_before}

-- an entry that a journal has: it asks the registry, or it is the Shutdown
abbrev pub is_event : Entry → Bool
is_event e = is_some (asked e.act) || is_shutdown e.act

abbrev pub events : List Entry → List Entry
events es = filter is_event es

-- ---- what the registry answers

-- the answer that the registry gives is the one that the entry names
abbrev pub IsAnswered : Setup → Registry → ℕ → Option Question → Type 0
IsAnswered setup registry t None = Unit {0}
IsAnswered setup registry t (Some q) = answer_to setup registry t q.event ≡ q.answer

-- the registry that an entry leaves
abbrev pub registry_next : Setup → Registry → Entry → Registry
registry_next setup registry e = registry_after setup registry e.thread (asked e.act)

-- the registry that these entries leave, one after another
abbrev pub registry_by : Setup → Registry → List Entry → Registry
registry_by setup registry [] = registry
registry_by setup registry (e ∷ es) = registry_by setup (registry_next setup registry e) es

-- from this registry on, each answer is the one that the entry names
abbrev pub IsReplay : Setup → Registry → List Entry → Type 0
IsReplay setup registry [] = Unit {0}
IsReplay setup registry (e ∷ es) = IsAnswered setup registry e.thread (asked e.act) × IsReplay setup (registry_next setup registry e) es

-- the entries of a list that come before this one, by stamp and thread
abbrev pub before : Entry → List Entry → List Entry
before e es = filter (λ x. is_before x e) es

-- ---- what had to follow

-- an entry of the journal, and what had to follow in the registry when it was asked
pub record Event : Type 0 where
  pub entry : Entry
  pub between : Option Between

abbrev pub entry_in : Event → Entry
entry_in j = j.entry

abbrev pub events_by : ℕ → List Event → List Event
events_by t js = filter (λ j. j.entry.thread == t) js

-- where there is a question, this is what has to follow in the registry
abbrev pub IsBetweenIfAny : Registry → Option Between → Option Question → Type 0
IsBetweenIfAny registry between None = Unit {0}
IsBetweenIfAny registry between (Some q) = registry.between ≡ between

-- from this registry on, each event names what had to follow when it was asked
abbrev pub IsFollowed : Setup → Registry → List Event → Type 0
IsFollowed setup registry [] = Unit {0}
IsFollowed setup registry (j ∷ js) = IsBetweenIfAny registry j.between (asked j.entry.act) × IsFollowed setup (registry_next setup registry j.entry) js

-- what has to follow in the registry that an entry asks; nothing of an entry that asks nothing
abbrev pub between_for : Registry → Entry → Option Between
between_for registry e = option_and_then (λ q. registry.between) (asked e.act)

-- the entries of a journal, each with what had to follow when it was asked, from this registry on
abbrev pub followed_from : Setup → Registry → List Entry → List Event
followed_from setup registry [] = []
followed_from setup registry (e ∷ es) = record { entry = e; between = between_for registry e } ∷ followed_from setup (registry_next setup registry e) es

-- ---- what a thread has in the registry

-- a thread's handles, after these entries of its own
abbrev pub own_handles_by : ℕ → List Handle → List Entry → List Handle
own_handles_by t handles [] = handles
own_handles_by t handles (e ∷ es) = own_handles_by t (own_handles_after t handles (asked e.act)) es

-- a thread's references to each device, after these entries of its own
abbrev pub own_channels_by : Setup → (DevId → Option ℕ) → List Entry → DevId → Option ℕ
own_channels_by setup channels [] = channels
own_channels_by setup channels (e ∷ es) = own_channels_by setup (own_channels_after setup channels (asked e.act)) es
