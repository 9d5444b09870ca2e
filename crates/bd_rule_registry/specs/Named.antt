-- The device that an event names.
use Rattle.std.specs.Prelude.{ℕ, Option, None}
use Rattle.bd_base.specs.declared.event.RegEvent.{RegEvent}
use Rattle.bd_base.specs.declared.event.RegEvent.TheVariants as events
use Rattle.bd_base.specs.declared.setup.Setup.{Setup}
use Rattle.bd_machine.specs.Registry.{device_named}

-- the place of the device that an open, a removal or a resize names; none where there is no such device, and for every other event
abbrev pub named_by : Setup → RegEvent → Option ℕ
named_by setup (events.Open name write) = device_named setup name
named_by setup (events.BeginRemove name) = device_named setup name
named_by setup (events.BeginResize name blocks) = device_named setup name
named_by setup _ = None
