-- The law of the registry's rows.
use Rattle.std.specs.Prelude.{◌≡◌, ℕ, List, Some}
use Rattle.bd_base.specs.declared.act.Entry.{Entry}
use Rattle.bd_base.specs.declared.event.RegEvent.{RegEvent}
use Rattle.bd_base.specs.declared.setup.Setup.{Setup}
use Rattle.bd_machine.specs.declared.state.Registry.{Registry}
use Rattle.bd_machine.specs.Changes.{registry_after}
use Rattle.bd_machine.specs.Registry.{Question, answer_to}
use Rattle.bd_machine.specs.Start.{registry_at_start}
use Rattle.bd_law_logs.specs.Journals.{IsReplay, registry_by}
use Rattle.bd_registry.specs.State.{start_of}

-- two setups have the same registry: at the start, in what it answers, in what an answer changes, in what is a replay, and in what a journal leaves
pub record HaveSameRegistry (a b : Setup) : Type 0 where
  pub start : registry_at_start a ≡ registry_at_start b
  pub answers : (registry : Registry) (t : ℕ) (event : RegEvent) → answer_to a registry t event ≡ answer_to b registry t event
  pub changes : (registry : Registry) (t : ℕ) (q : Question) → registry_after a registry t (Some q) ≡ registry_after b registry t (Some q)
  pub replay : (registry : Registry) (es : List Entry) → IsReplay a registry es → IsReplay b registry es
  pub leaves : (registry : Registry) (es : List Entry) → registry_by a registry es ≡ registry_by b registry es

-- so it is where their threads, devices, rates and injections are the same, as those of a setup and of its rows
abbrev pub RowsAreEnough : Type 0
RowsAreEnough = (a b : Setup) → start_of a ≡ start_of b → HaveSameRegistry a b
