-- What an answer of the registry makes of a thread.
use Rattle.std.specs.Prelude.{ℕ, List, [], Option}
use Rattle.bd_base.specs.declared.event.RegEvent.{RegEvent}
use Rattle.bd_base.specs.declared.event.RegEvent.TheVariants as events
use Rattle.bd_base.specs.declared.id.DevId.{DevId}
use Rattle.bd_base.specs.declared.setup.Setup.{Setup}
use Rattle.bd_machine.specs.BlockMap.{below}
use Rattle.bd_machine.specs.Registry.{made}

-- the channels that a get makes on a thread with these, where the event is one
abbrev pub made_by : Setup → (DevId → Option ℕ) → RegEvent → List DevId
made_by setup channels (events.GetChannel dev) = made channels (below setup dev)
made_by setup channels _ = []
