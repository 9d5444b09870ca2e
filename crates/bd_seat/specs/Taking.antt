-- What a turn did, taken over into the thread's own log and into the registry that it was lent.
use Rattle.std.specs.Prelude.{◌≡◌, ◌+◌, ◌≤◌, Bool, ◌||◌, List, [], ◌++◌, length, is_some}
use Rattle.bd_base.specs.declared.act.Act.{Act}
use Rattle.bd_base.specs.declared.act.Entry.{Entry}
use Rattle.bd_machine.specs.Step.{is_shutdown}
use Rattle.bd_machine.specs.View.{asked}
use Rattle.bd_log.specs.Log.{Written}
use Rattle.bd_law_logs.specs.Journals.{events, registry_by}
use Rattle.bd_registry.specs.State.{Registered}

-- the act asks the registry, or is the Shutdown
abbrev pub is_event_act : Act → Bool
is_event_act act = is_some (asked act) || is_shutdown act

-- the log has these entries more
pub record Appends (log : Written) (added : List Entry) (log' : Written) : Type 0 where
  pub thread : log'.thread ≡ log.thread
  pub entries : log'.entries ≡ log.entries ++ added
  pub last : log'.last ≡ log.last + length added

-- the same, and none of them asks the registry, or is the Shutdown
pub record AppendsAlone (log : Written) (added : List Entry) (log' : Written) : Type 0 where
  pub log_is : Appends log added log'
  pub none_asks : events added ≡ []

-- the log has these entries more, and the registry answered the events among them as they say: its journal has them too, and it is what they leave
pub record TakesOver (log : Written) (registry : Registered) (added : List Entry) (log' : Written) (registry' : Registered) : Type 0 where
  pub log_is : Appends log added log'
  pub setup : registry'.setup ≡ registry.setup
  pub journal : registry'.journal ≡ registry.journal ++ events added
  pub state : registry'.state ≡ registry_by registry.setup registry.state added
  pub within : registry'.last ≤ log'.last
