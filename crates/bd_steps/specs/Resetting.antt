-- What a reset asks of the registry next, and which events are asked alone.
use Rattle.std.specs.Prelude.{Bool, true, false, cond, List, [], ◌∷◌, ◌++◌, Option, Some, None, is_some}
use Rattle.bd_base.specs.declared.event.RegEvent.{RegEvent}
use Rattle.bd_base.specs.declared.event.RegEvent.TheVariants as events
use Rattle.bd_base.specs.declared.id.DevId.{DevId}
use Rattle.bd_base.specs.declared.id.ReqId.{ReqId}
use Rattle.bd_machine.specs.declared.state.OpenRequest.{OpenRequest}
use Rattle.bd_machine.specs.declared.state.Part.{Part}
use Rattle.bd_machine.specs.declared.state.Resetting.{Resetting}
use Rattle.bd_machine.specs.declared.state.Stage.{Stage}
use Rattle.bd_machine.specs.declared.state.Stage.TheVariants as stages
use Rattle.bd_machine.specs.Walks.{is_reset, reset_of}

-- any but the decision of an error device, which is asked in one method with the entry that follows it
abbrev pub is_asked_alone : RegEvent → Bool
is_asked_alone (events.TakeInjection dev req op) = false
is_asked_alone _ = true

-- once its drain walk ended the freezing of new channels ends, and once its thaw walk ended the reset does
abbrev pub event_at : DevId → Stage → Option RegEvent
event_at dev stages.Drained = Some (events.EndReset dev)
event_at dev stages.Thawed = Some (events.FinishReset dev)
event_at dev _ = None

-- its request, where it asks the registry for something
abbrev pub asking_one : Resetting → List ReqId
asking_one reset = cond (is_some (event_at reset.dev reset.stage)) (reset.req ∷ []) []

-- those of them that do
abbrev pub asking : List Resetting → List ReqId
asking [] = []
asking (reset ∷ resets) = asking_one reset ++ asking resets

-- one that didn't begin yet asks for that
abbrev pub event_of : DevId → ReqId → Option Resetting → Option RegEvent
event_of dev req None = Some (events.BeginReset dev req)
event_of dev req (Some reset) = event_at reset.dev reset.stage

-- what the request asks of the registry next, where it is a reset and is here
abbrev pub reset_event : Part → ReqId → Option OpenRequest → Option RegEvent
reset_event part req None = None
reset_event part req (Some r) = cond (is_reset r.op) (event_of r.dev req (reset_of part req)) None
