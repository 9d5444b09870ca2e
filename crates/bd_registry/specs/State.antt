-- The registry with its journal, which is what the journal's events leave.
use Rattle.std.specs.Prelude.{◌≡◌, ℕ, ◌<◌, Bool, List, [], ◌∷◌, ◌++◌, Some}
use Rattle.std.specs.List.{list_any}
use Rattle.bd_base.specs.declared.act.Act.{Act}
use Rattle.bd_base.specs.declared.act.Act.TheVariants as acts
use Rattle.bd_base.specs.declared.act.Entry.{Entry}
use Rattle.bd_base.specs.declared.event.Answer.{Answer}
use Rattle.bd_base.specs.declared.event.RegEvent.{RegEvent}
use Rattle.bd_base.specs.declared.journal.Start.{Start}
use Rattle.bd_base.specs.declared.setup.Setup.{Setup}
use Rattle.bd_machine.specs.declared.state.Registry.{Registry}
use Rattle.bd_machine.specs.Changes.{registry_after}
use Rattle.bd_machine.specs.Lines.{shutdown_at}
use Rattle.bd_machine.specs.Registry.{answer_to}
use Rattle.bd_machine.specs.Start.{registry_at_start}
use Rattle.bd_machine.specs.Step.{is_shutdown}
use Rattle.bd_law_logs.specs.Journals.{IsFollowed, IsReplay, followed_from, registry_by, registry_next}

-- its rows, its journal, the last stamp of the journal, and the registry that the journal leaves
pub record Registered : Type 0 where
  pub setup : Setup
  pub journal : List Entry
  pub last : ℕ
  pub state : Registry

-- a setup without its scripts and without what waits: the registry looks at no more
abbrev pub rows_of : Setup → Setup
rows_of setup = record { threads = setup.threads; devices = setup.devices; rates = setup.rates; injections = setup.injections; waiting = []; scripts = [] }

-- those rows, as the start from which a journal begins
abbrev pub start_of : Setup → Start
start_of setup = record { threads = setup.threads; devices = setup.devices; rates = setup.rates; injections = setup.injections }

-- the setup has the registry's threads, devices, rates and injections
abbrev pub HasRowsOf : Registered → Setup → Type 0
HasRowsOf r setup = start_of r.setup ≡ start_of setup

-- the registry of these rows with this journal: what the journal leaves of what there is before any event
abbrev pub registered_by : Setup → List Entry → ℕ → Registered
registered_by setup journal last = record { setup = setup; journal = journal; last = last; state = registry_by setup (registry_at_start setup) journal }

-- the row of an event
abbrev pub event_row : ℕ → ℕ → RegEvent → Answer → Entry
event_row t stamp event answer = record { stamp = stamp; thread = t; act = acts.Reg event answer }

-- the registry after an event
abbrev pub registered : Registered → ℕ → ℕ → RegEvent → Answer → Registered
registered r t stamp event answer = record {
  setup = r.setup;
  journal = r.journal ++ event_row t stamp event answer ∷ [];
  last = stamp;
  state = registry_after r.setup r.state t (Some (record { event = event; answer = answer }));
}

-- a journal has the Shutdown
abbrev pub is_shut : List Entry → Bool
is_shut journal = list_any (λ e. is_shutdown e.act) journal

-- the registry after the Shutdown, which leaves all but the journal
abbrev pub shut_at : Registered → ℕ → Registered
shut_at r stamp = record { setup = r.setup; journal = r.journal ++ shutdown_at stamp ∷ []; last = stamp; state = r.state }

-- an event with this registry's answer, or the Shutdown
abbrev pub IsRow : Setup → Registry → ℕ → Act → Type 0
IsRow setup registry t (acts.Reg event answer) = answer ≡ answer_to setup registry t event
IsRow setup registry t acts.Shutdown = Unit {0}
IsRow setup registry t _ = ⊥

-- stamps rise above this one and end at the last, and each row but the Shutdown has the answer of the registry that the rows before it leave
abbrev pub IsJournal : Setup → Registry → ℕ → List Entry → ℕ → Type 0
IsJournal setup registry stamp [] last = stamp ≡ last
IsJournal setup registry stamp (e ∷ es) last = (stamp < e.stamp) × IsRow setup registry e.thread e.act × IsJournal setup (registry_next setup registry e) e.stamp es last

-- ---- what a journal is by a setup

abbrev pub IsReplayFromStart : Setup → List Entry → Type 0
IsReplayFromStart setup journal = IsReplay setup (registry_at_start setup) journal

-- each entry names what had to follow when it was asked
abbrev pub IsFollowedFromStart : Setup → List Entry → Type 0
IsFollowedFromStart setup journal = IsFollowed setup (registry_at_start setup) (followed_from setup (registry_at_start setup) journal)

abbrev pub left_from_start : Setup → List Entry → Registry
left_from_start setup journal = registry_by setup (registry_at_start setup) journal
