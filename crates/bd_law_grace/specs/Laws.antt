-- The law of drain times.
use Rattle.std.specs.Prelude.{◌≡◌, false, List, [], ◌∷◌, ◌++◌, Some}
use Rattle.bd_base.specs.declared.act.Act.TheVariants as acts
use Rattle.bd_base.specs.declared.act.Entry.{Entry}
use Rattle.bd_base.specs.declared.id.DevId.{DevId}
use Rattle.bd_base.specs.declared.id.ReqId.{ReqId}
use Rattle.bd_base.specs.declared.request.AbortCause.TheVariants.{Frozen}
use Rattle.bd_base.specs.declared.setup.Setup.{Setup}
use Rattle.bd_base.specs.DevSet.{has_dev}
use Rattle.bd_machine.specs.declared.state.OpenRequest.{OpenRequest}
use Rattle.bd_machine.specs.Content.{Told}
use Rattle.bd_machine.specs.Kept.{request_here}
use Rattle.bd_machine.specs.Run.{IsRun, state_after}
use Rattle.bd_machine.specs.View.{view}
use Rattle.bd_law_grace.specs.Hard.{IsHardSince}

-- where a run ends with an abort of a request for a device's reset, and the request isn't late for the device, the thread's mark of it was made hard
-- before, and not taken since
abbrev pub GraceIsKept : Type 0
GraceIsKept = (setup : Setup) (told : Told) (es : List Entry) (e : Entry) (req : ReqId) (dev : DevId) (r : OpenRequest)
    → IsRun setup told (es ++ e ∷ []) → e.act ≡ acts.Abort req (Frozen dev)
    → request_here (view (state_after setup told es) e.thread) req ≡ Some r → has_dev r.late dev ≡ false
    → IsHardSince setup told e.thread dev es
