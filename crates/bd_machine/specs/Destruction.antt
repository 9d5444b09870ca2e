-- What holds of a device that is being removed, and of one that is destructed.
use Rattle.std.specs.Prelude.{◌≡◌, ◌<◌, ◌≤◌, Bool, true, false, List, [], ◌∷◌, ◌++◌, Option, None}
use Rattle.std.specs.List.{AllByRecursion}
use Rattle.bd_base.specs.declared.act.Act.{Act}
use Rattle.bd_base.specs.declared.act.Act.TheVariants as acts
use Rattle.bd_base.specs.declared.act.Entry.{Entry}
use Rattle.bd_base.specs.declared.event.Answer.TheVariants as answers
use Rattle.bd_base.specs.declared.event.RegEvent.TheVariants as events
use Rattle.bd_base.specs.declared.id.DevId.{DevId}
use Rattle.bd_base.specs.declared.setup.Setup.{Setup}
use Rattle.bd_machine.specs.declared.state.State.{State}
use Rattle.bd_machine.specs.Aborts.{is_below}
use Rattle.bd_machine.specs.Content.{Told}
use Rattle.bd_machine.specs.Laws.{is_destruct_of, count_of}
use Rattle.bd_machine.specs.Marks.{is_removed}
use Rattle.bd_machine.specs.Registry.{is_free}
use Rattle.bd_machine.specs.Run.{IsRun, state_after}
use Rattle.bd_machine.specs.Same.{same_dev, is_the}
use Rattle.bd_machine.specs.Step.{IsAllowed, after}
use Rattle.bd_machine.specs.View.{part_of}

-- the removal of the device began
abbrev pub is_removing_of : DevId → Act → Bool
is_removing_of dev (acts.Reg event (answers.Removing d threads handles destruct)) = same_dev d dev
is_removing_of dev _ = false

-- an open or a get of a device that has this one below was answered
abbrev pub reaches : Setup → DevId → Act → Bool
reaches setup dev (acts.Reg (events.Open name write) (answers.Opened id d blocks)) = is_below setup d dev
reaches setup dev (acts.Reg (events.GetChannel d) (answers.Got fresh frozen)) = is_below setup d dev
reaches setup dev _ = false

-- the registry was told that the device is destructed
abbrev pub is_report_of : DevId → Act → Bool
is_report_of dev (acts.Reg (events.Destructed d) answer) = same_dev d dev
is_report_of dev _ = false

-- the device that an answer names as one to be destructed
abbrev pub named : Act → Option DevId
named (acts.Reg (events.Close id) (answers.Closed destruct)) = destruct
named (acts.Reg (events.DropChannel dev) (answers.Dropped what zero destruct)) = destruct
named (acts.Reg (events.BeginRemove name) (answers.Removing dev threads handles destruct)) = destruct
named (acts.Reg (events.EndResize dev) (answers.Resized handles blocks destruct)) = destruct
named _ = None

-- a request was accepted on a device that has this one below
abbrev pub is_accept_over : Setup → DevId → Act → Bool
is_accept_over setup dev (acts.Accept d lba handle req op count) = is_below setup d dev
is_accept_over setup dev _ = false

-- ---- the laws

-- a device is destructed at most once
abbrev pub DestructedAtMostOnce : Type 0
DestructedAtMostOnce = (setup : Setup) (told : Told) (es : List Entry) → IsRun setup told es → (dev : DevId) → count_of (is_destruct_of dev) es ≤ 1

-- what is destructed is being removed, with neither handle nor channel, and no resize of it is under way
abbrev pub DestructedWhereFree : Type 0
DestructedWhereFree = (setup : Setup) (s : State) (e : Entry)
    → IsAllowed setup s e → (dev : DevId) → is_destruct_of dev e.act ≡ true → is_free setup s.registry dev ≡ true

-- once its removal began, no open and no get over the device is answered but by a refusal
abbrev pub RemovedIsOutOfReach : Type 0
RemovedIsOutOfReach = (setup : Setup) (told : Told) (es : List Entry) (e : Entry)
    → IsRun setup told (es ++ e ∷ []) → (dev : DevId) → 0 < count_of (is_removing_of dev) es → reaches setup dev e.act ≡ false

-- a device that an answer names is being removed, with neither handle nor channel, and no resize of it is under way
abbrev pub NamedIsFree : Type 0
NamedIsFree = (setup : Setup) (s : State) (e : Entry)
    → IsAllowed setup s e → (dev : DevId) → is_the same_dev dev (named e.act) ≡ true → is_free setup (after setup s e).registry dev ≡ true

-- such a device stays so until the registry is told that it is destructed
abbrev pub FreeStays : Type 0
FreeStays = (setup : Setup) (s : State) (e : Entry)
    → IsAllowed setup s e → (dev : DevId) → is_report_of dev e.act ≡ false → is_free setup s.registry dev ≡ true → is_free setup (after setup s e).registry dev ≡ true

-- a request is accepted only where no device below carries a removal mark
abbrev pub AcceptedWhereUnmarked : Type 0
AcceptedWhereUnmarked = (setup : Setup) (s : State) (e : Entry)
    → IsAllowed setup s e → (dev : DevId) → is_accept_over setup dev e.act ≡ true → is_removed (part_of s e.thread) dev ≡ false

-- at a destruct no handle of the device is open, and no thread has a channel of it; afterwards no open and no get over the device is answered but by a refusal
pub record IsAfterLastClose (setup : Setup) (told : Told) (dev : DevId) (before later : List Entry) : Type 0 where
  pub free : is_free setup (state_after setup told before).registry dev ≡ true
  pub out_of_reach : AllByRecursion (λ e. reaches setup dev e.act ≡ false) later

-- a device is destructed after its last close and put
abbrev pub DestructedAfterLastClose : Type 0
DestructedAfterLastClose = (setup : Setup) (told : Told) (es : List Entry) (e : Entry) (fs : List Entry) (dev : DevId)
    → IsRun setup told (es ++ e ∷ fs) → is_destruct_of dev e.act ≡ true → IsAfterLastClose setup told dev es fs
