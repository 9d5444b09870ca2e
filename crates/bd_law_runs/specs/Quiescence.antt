-- When a reset completes, no older request over its device is open on a thread over which its walks go.
use Rattle.std.specs.Prelude.{◌≡◌, ℕ, ◌<◌, Bool, true, false, not, ◌&&◌, ◌||◌, List, [], ◌∷◌, ◌++◌, Some}
use Rattle.std.specs.List.{AllByRecursion}
use Rattle.bd_base.specs.declared.act.Act.{Act}
use Rattle.bd_base.specs.declared.act.Act.TheVariants as acts
use Rattle.bd_base.specs.declared.act.Entry.{Entry}
use Rattle.bd_base.specs.declared.event.Answer.TheVariants as answers
use Rattle.bd_base.specs.declared.event.RegEvent.TheVariants as events
use Rattle.bd_base.specs.declared.id.DevId.{DevId}
use Rattle.bd_base.specs.declared.id.ReqId.{ReqId}
use Rattle.bd_base.specs.declared.setup.Setup.{Setup}
use Rattle.bd_machine.specs.Aborts.{is_below}
use Rattle.bd_machine.specs.Content.{Told}
use Rattle.bd_machine.specs.Laws.{is_complete_of, count_of}
use Rattle.bd_machine.specs.declared.state.Id.TheVariants.{Request}
use Rattle.bd_machine.specs.declared.state.Place.TheVariants.{Nowhere}
use Rattle.bd_machine.specs.Placement.{place}
use Rattle.bd_machine.specs.Run.{IsRun, state_after}
use Rattle.bd_machine.specs.Same.{same_dev, same_request}
use Rattle.bd_machine.specs.Threads.{has}
use Rattle.bd_machine.specs.Walks.{is_reset}
use Rattle.bd_machine.specs.BlockMap.{StandsOnEarlier}

-- a reset of the device is accepted
abbrev pub is_reset_accept : ReqId → DevId → Act → Bool
is_reset_accept reset dev (acts.Accept d lba handle req op count) = same_request req reset && same_dev d dev && is_reset op
is_reset_accept reset dev _ = false

-- the request is accepted, isn't a reset, and has the device below its own
abbrev pub is_accept_above : Setup → DevId → ReqId → Act → Bool
is_accept_above setup dev r (acts.Accept d lba handle req op count) = same_request req r && not (is_reset op) && is_below setup d dev
is_accept_above setup dev r _ = false

-- a reset was accepted after these entries, and is completed after those that came between
pub record Completes (setup : Setup) (told : Told) (reset : ReqId) (dev : DevId) (before : List Entry) (accept : Entry) (between : List Entry) (complete : Entry) : Type 0 where
  pub run : IsRun setup told (before ++ accept ∷ between ++ complete ∷ [])
  pub accepts : is_reset_accept reset dev accept.act ≡ true
  pub completes : is_complete_of reset complete.act ≡ true

-- where an answer names the threads over which the walks of the reset go, this thread is among them
abbrev pub names_thread : ReqId → ℕ → Act → Bool
names_thread reset t (acts.Reg (events.BeginReset d r) (answers.ResetStarted threads)) = not (same_request r reset) || has threads t
names_thread reset t (acts.Reg (events.FinishReset d) (answers.ResetFinished (Some next))) = not (same_request next.0 reset) || has next.1 t
names_thread reset t _ = true

-- on each thread over which its walks go, each request but resets that was accepted before a reset, over its device, is completed before it
abbrev pub WalksDrain : Type 0
WalksDrain = (setup : Setup) (told : Told) (reset : ReqId) (dev : DevId) (before : List Entry) (accept : Entry) (between : List Entry) (complete : Entry)
    → Completes setup told reset dev before accept between complete
    → (r : ReqId) → AllByRecursion (λ (e : Entry). names_thread reset r.thread e.act ≡ true) between
    → 0 < count_of (is_accept_above setup dev r) before → 0 < count_of (is_complete_of r) (before ++ accept ∷ between)

-- ---- quiescence

-- the request is completed by these entries, and is nowhere after them
pub record IsOver (setup : Setup) (told : Told) (r : ReqId) (es : List Entry) : Type 0 where
  pub completed : 0 < count_of (is_complete_of r) es
  pub nowhere : place (state_after setup told es) (Request r) ≡ Nowhere

-- when a reset completes, no request but resets is open that was accepted before it, over its device
abbrev pub Quiescence : Type 0
Quiescence = (setup : Setup) (told : Told) (reset : ReqId) (dev : DevId) (before : List Entry) (accept : Entry) (between : List Entry) (complete : Entry)
    → StandsOnEarlier setup → Completes setup told reset dev before accept between complete
    → (r : ReqId) → 0 < count_of (is_accept_above setup dev r) before → IsOver setup told r (before ++ accept ∷ between)
