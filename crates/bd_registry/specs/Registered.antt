-- What holds of every registry.
use Rattle.bd_machine.specs.Start.{registry_at_start}
use Rattle.bd_registry.specs.declared.names.Names.{Names}
use Rattle.bd_registry.specs.declared.tables.Tables.{Tables}
use Rattle.bd_registry.specs.Names.{AreNamed}
use Rattle.bd_registry.specs.State.{Registered, IsJournal}
use Rattle.bd_registry.specs.Tables.{Agrees}

-- its journal's rows are in order and have the registry's answers, its tables say what they leave, and its names are those of its devices
pub record IsRegistered (places : Names) (table : Tables) (r : Registered) : Type 0 where
  pub journal : IsJournal r.setup (registry_at_start r.setup) 0 r.journal r.last
  pub tables : Agrees table r.state
  pub names : AreNamed places r.setup
