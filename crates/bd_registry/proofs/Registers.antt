-- What holds of every registry's journal.
use Rattle.std.proofs.Common.{◌≡◌, ℕ, List}
use Rattle.bd_base.specs.declared.act.Entry.{Entry}
use Rattle.bd_base.specs.declared.setup.Setup.{Setup}
use Rattle.bd_machine.specs.Start.{registry_at_start}
use Rattle.bd_log.specs.Log.{IsWithin}
use Rattle.bd_log.specs.Merge.{IsOrdered, Rises}
use Rattle.bd_law_logs.specs.Journals.{IsFollowed, IsReplay, events, followed_from, registry_by}
use Rattle.bd_law_logs.proofs.OwnFollow.{ordered_rising}
use Rattle.bd_registry.specs.declared.names.Names.{Names}
use Rattle.bd_registry.specs.declared.tables.Tables.{Tables}
use Rattle.bd_registry.specs.Registered.{IsRegistered}
use Rattle.bd_registry.specs.State.{HasRowsOf, Registered, registered_by}
use Rattle.bd_registry.proofs.Alike.{leaves_alike, replay_alike}
use Rattle.bd_registry.proofs.Journals.{followed_as_asked, journal_events, journal_replays, journal_rises, journal_within}

-- the journal is in order, and by any setup with the registry's rows it is a replay that leaves what the registry is
pub record IsInOrder (r : Registered) : Type 0 where
  pub rises : Rises r.journal
  pub ordered : IsOrdered r.journal
  pub within : IsWithin r.last r.journal
  pub events : events r.journal ≡ r.journal
  pub replay : (setup : Setup) → HasRowsOf r setup → IsReplay setup (registry_at_start setup) r.journal
  pub followed : (setup : Setup) → HasRowsOf r setup → IsFollowed setup (registry_at_start setup) (followed_from setup (registry_at_start setup) r.journal)
  pub leaves : (setup : Setup) → HasRowsOf r setup → registry_by setup (registry_at_start setup) r.journal ≡ r.state

pub in_order : (setup : Setup) (journal : List Entry) (last : ℕ) (places : Names) (tables : Tables) → IsRegistered places tables (registered_by setup journal last) → IsInOrder (registered_by setup journal last)
in_order setup journal last places tables is = record {
  rises = journal_rises setup (registry_at_start setup) 0 last journal is.journal;
  ordered = ordered_rising journal (journal_rises setup (registry_at_start setup) 0 last journal is.journal);
  within = journal_within setup (registry_at_start setup) 0 last journal is.journal;
  events = journal_events setup (registry_at_start setup) 0 last journal is.journal;
  replay = λ other alike. replay_alike setup other alike journal (journal_replays setup (registry_at_start setup) 0 last journal is.journal);
  followed = λ other alike. followed_as_asked other (registry_at_start other) journal;
  leaves = λ other alike. leaves_alike setup other alike journal;
}
