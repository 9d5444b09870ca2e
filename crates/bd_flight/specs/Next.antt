-- The next step of an open request, and which steps the rules let it take.
use Rattle.std.specs.Prelude.{ℕ, Bool, true, false, cond, ◌&&◌, List, [], ◌∷◌, Option, Some, None, is_none, option_map}
use Rattle.bd_base.specs.declared.id.ReqId.{ReqId}
use Rattle.bd_base.specs.declared.request.AbortCause.{AbortCause}
use Rattle.bd_base.specs.declared.request.AbortCause.TheVariants.{Named}
use Rattle.bd_base.specs.declared.setup.Setup.{Setup}
use Rattle.bd_machine.specs.declared.state.OpenRequest.{OpenRequest}
use Rattle.bd_machine.specs.Injections.{may_pend}
use Rattle.bd_machine.specs.Kept.{request_here}
use Rattle.bd_machine.specs.Limits.{next_limited}
use Rattle.bd_machine.specs.Requests.{may_cut}
use Rattle.bd_machine.specs.Same.{is_the, same_dev}
use Rattle.bd_machine.specs.View.{View}
use Rattle.bd_flight.specs.declared.next.Step.{Step}
use Rattle.bd_flight.specs.declared.next.Step.TheVariants as steps
use Rattle.bd_flight.specs.Due.{abort_due, decision_due, end_due, limit_due, may_ask, may_be_held, may_end, may_go_to, may_stop}

-- ---- the next step

abbrev pub step_if : Bool → Step → Option Step
step_if may step = cond may (Some step) None

-- the first of these steps that there is
abbrev pub first_step : List (Option Step) → Step
first_step [] = steps.Wait
first_step (None ∷ others) = first_step others
first_step (Some step ∷ others) = step

-- on its way to the cut
abbrev pub way_due : Setup → ℕ → View → ReqId → OpenRequest → List (Option Step)
way_due setup t v req r =
    option_map steps.Limit (limit_due setup t req r) ∷
    option_map steps.Inject (decision_due setup t v req r) ∷
    step_if (may_pend t req (Some r)) steps.Pend ∷ []

-- what the rules let the request do, in the order in which they are asked
abbrev pub steps_due : Setup → ℕ → View → ReqId → OpenRequest → List (Option Step)
steps_due setup t v req r =
    option_map steps.Abort (abort_due setup t v req r) ∷
    option_map steps.Complete (end_due setup t v req r) ∷
    step_if (may_cut setup t v req (Some r)) steps.Cut ∷
    step_if (may_be_held setup t v req (Some r)) steps.Hold ∷
    way_due setup t v req r

-- a request that isn't here waits
abbrev pub step_of : Setup → ℕ → View → ReqId → Option OpenRequest → Step
step_of setup t v req None = steps.Wait
step_of setup t v req (Some r) = first_step (steps_due setup t v req r)

abbrev pub next_step : Setup → ℕ → View → ReqId → Step
next_step setup t v req = step_of setup t v req (request_here v req)

-- ---- what the rules let a request do

abbrev pub is_mark : AbortCause → Bool
is_mark (Named by) = false
is_mark cause = true

-- the rules let a request that is here take this step; an abort by a mark alone, and only before its cut; it may always wait
abbrev pub may_take_here : Setup → ℕ → View → ReqId → OpenRequest → Step → Bool
may_take_here setup t v req r (steps.Abort cause) = is_mark cause && is_none r.pieces && may_stop setup t v req (Some r) cause
may_take_here setup t v req r (steps.Complete status) = may_end setup t v req (Some r) status
may_take_here setup t v req r steps.Cut = may_cut setup t v req (Some r)
may_take_here setup t v req r steps.Hold = may_be_held setup t v req (Some r)
may_take_here setup t v req r (steps.Limit dev) = is_the same_dev dev (next_limited setup r) && may_go_to setup t req r dev
may_take_here setup t v req r (steps.Inject dev) = may_ask setup t v req r dev
may_take_here setup t v req r steps.Pend = may_pend t req (Some r)
may_take_here setup t v req r steps.Wait = true

abbrev pub is_wait : Step → Bool
is_wait steps.Wait = true
is_wait _ = false

abbrev pub is_abort : Step → Bool
is_abort (steps.Abort cause) = true
is_abort _ = false

-- one that isn't here may only wait
abbrev pub may_take_of : Setup → ℕ → View → ReqId → Step → Option OpenRequest → Bool
may_take_of setup t v req step None = is_wait step
may_take_of setup t v req step (Some r) = may_take_here setup t v req r step

-- the rules let the request take this step
abbrev pub may_take : Setup → ℕ → View → ReqId → Step → Bool
may_take setup t v req step = may_take_of setup t v req step (request_here v req)
