-- What has to follow at the registry at once.
use Rattle.std.specs.Prelude.{ℕ, cond, ◌==◌, Option, Some, None}
use Rattle.bd_base.specs.declared.event.RegEvent.{RegEvent}
use Rattle.bd_base.specs.declared.event.RegEvent.TheVariants as events
use Rattle.bd_base.specs.declared.id.HandleId.{HandleId}
use Rattle.bd_machine.specs.declared.state.Between.{Between}
use Rattle.bd_machine.specs.declared.state.Between.TheVariants.{Opening, Closing}

-- the channel that has to follow an open of this thread
abbrev pub get_due : ℕ → Option Between → Option RegEvent
get_due me (Some (Opening u dev)) = cond (u == me) (Some (events.GetChannel dev)) None
get_due me _ = None

-- the close of this handle, where it has to follow a put of this thread
abbrev pub close_due : HandleId → ℕ → Option Between → Option RegEvent
close_due id me (Some (Closing u dev)) = cond (u == me) (Some (events.Close id)) None
close_due id me _ = None
