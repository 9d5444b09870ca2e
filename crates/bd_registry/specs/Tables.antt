-- The tables of the registry.
use Rattle.std.specs.Prelude.{◌≡◌, length}
use Rattle.bd_base.specs.declared.event.RegEvent.{RegEvent}
use Rattle.bd_base.specs.declared.event.RegEvent.TheVariants as events
use Rattle.bd_machine.specs.declared.state.Registry.{Registry}
use Rattle.bd_rule_channels.specs.Counts.{Has}
use Rattle.bd_registry.specs.declared.tables.Part.{Part}
use Rattle.bd_registry.specs.declared.tables.Part.TheVariants.{OfHandles, OfChannels, OfDevices}
use Rattle.bd_registry.specs.declared.tables.Tables.{Tables}
use Rattle.bd_registry.specs.Handles.{Keeps}

-- the tables say what the registry is
pub record Agrees (tables : Tables) (registry : Registry) : Type 0 where
  pub handles : Keeps tables.handles registry.handles
  pub next : length tables.handles.devices ≡ registry.next
  pub channels : Has tables.channels registry.channels
  pub devices : tables.devices ≡ registry.devices
  pub between : tables.between ≡ registry.between

-- the table that an event is about
abbrev pub part_of : RegEvent → Part
part_of (events.Open name write) = OfHandles
part_of (events.Close id) = OfHandles
part_of (events.Claim id kind) = OfHandles
part_of (events.GetChannel dev) = OfChannels
part_of (events.PutChannel dev closing) = OfChannels
part_of (events.DropChannel dev) = OfChannels
part_of _ = OfDevices
