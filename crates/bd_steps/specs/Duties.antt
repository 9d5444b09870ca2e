-- What a thread owes and an event does: a channel whose count came to zero is dropped, and so on; and what is removed after Shutdown.
use Rattle.std.specs.Prelude.{ℕ, Bool, true, false, cond, ◌&&◌, ◌==◌, List, length, find, Option, Some, None}
use Rattle.bd_base.specs.declared.event.RegEvent.{RegEvent}
use Rattle.bd_base.specs.declared.event.RegEvent.TheVariants as events
use Rattle.bd_base.specs.declared.device.DevRow.{DevRow}
use Rattle.bd_base.specs.declared.id.DevId.{DevId}
use Rattle.bd_base.specs.declared.setup.Setup.{Setup}
use Rattle.bd_machine.specs.declared.state.Owed.{Owed}
use Rattle.bd_machine.specs.declared.state.Owed.TheVariants as owes
use Rattle.bd_machine.specs.declared.state.Part.{Part}
use Rattle.bd_machine.specs.declared.state.Registry.{Registry}
use Rattle.bd_machine.specs.BlockMap.{row_of}
use Rattle.bd_machine.specs.Registry.{is_live}

-- an event does it: any but the end of a device, and its growth
abbrev pub is_duty : Owed → Bool
is_duty (owes.Destruct dev) = false
is_duty (owes.Grow dev blocks) = false
is_duty _ = true

-- the registry is wanted for it: an event does it, or follows it
abbrev pub is_pending : Owed → Bool
is_pending (owes.Destruct dev) = false
is_pending _ = true

-- a device's content is to grow
abbrev pub is_growth : Owed → Bool
is_growth (owes.Grow dev blocks) = true
is_growth _ = false

abbrev pub growth_of : Option Owed → Option (DevId × ℕ)
growth_of (Some (owes.Grow dev blocks)) = Some (dev, blocks)
growth_of _ = None

-- the first device whose content is to grow, and to how many blocks
abbrev pub growth_owed : List Owed → Option (DevId × ℕ)
growth_owed owed = growth_of (find is_growth owed)

abbrev pub removal_of : Option DevRow → Option RegEvent
removal_of None = None
removal_of (Some row) = Some (events.BeginRemove row.name)

-- the thread owes nothing, and it took no remove event
abbrev pub owes_nothing : Part → Bool
owes_nothing part = (length part.owed == 0) && (length part.gone == 0)

-- the removal of a device that is left, after Shutdown on thread 0
abbrev pub removal_after : Setup → Registry → ℕ → Bool → DevId → Option RegEvent
removal_after setup registry me shut dev = cond (shut && (me == 0) && is_live registry dev) (removal_of (row_of setup dev)) None

-- the event that does it
abbrev pub event_of : Setup → Owed → Option RegEvent
event_of setup (owes.Drop dev) = Some (events.DropChannel dev)
event_of setup (owes.Put dev) = Some (events.PutChannel dev false)
event_of setup (owes.Close id) = Some (events.Close id)
event_of setup (owes.Remove dev) = removal_of (row_of setup dev)
event_of setup (owes.Report dev) = Some (events.Destructed dev)
event_of setup (owes.EndResize dev) = Some (events.EndResize dev)
event_of setup (owes.Destruct dev) = None
event_of setup (owes.Grow dev blocks) = None

abbrev pub duty_of : Setup → Option Owed → Option RegEvent
duty_of setup None = None
duty_of setup (Some owed) = event_of setup owed

-- the event of the first duty
abbrev pub duty_owed : Setup → List Owed → Option RegEvent
duty_owed setup owed = duty_of setup (find is_duty owed)
