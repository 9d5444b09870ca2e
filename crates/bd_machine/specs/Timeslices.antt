-- The timeslices that a device's Ticks tell fit one start.
use Rattle.std.specs.Prelude.{◌≡◌, ℕ, ◌+◌, ◌≤◌, true, cond, List, [], ◌∷◌, map, Option, Some, None}
use Rattle.bd_base.specs.declared.act.Act.{Act}
use Rattle.bd_base.specs.declared.act.Act.TheVariants as acts
use Rattle.bd_base.specs.declared.act.Entry.{Entry}
use Rattle.bd_base.specs.declared.id.DevId.{DevId}
use Rattle.bd_base.specs.declared.setup.Setup.{Setup}
use Rattle.bd_machine.specs.declared.state.Limited.{Limited}
use Rattle.bd_machine.specs.declared.state.Starts.{Starts}
use Rattle.bd_machine.specs.declared.state.State.{State}
use Rattle.bd_machine.specs.BlockMap.{home}
use Rattle.bd_machine.specs.Budget.{slices_passed}
use Rattle.bd_machine.specs.Content.{Told}
use Rattle.bd_machine.specs.Limits.{limited_here}
use Rattle.bd_machine.specs.Run.{IsRun, state_after}
use Rattle.bd_machine.specs.Same.{same_dev}
use Rattle.bd_machine.specs.View.{part_of}

-- of a limited device, how many timeslices passed, and from which starts
pub record Timing : Type 0 where
  pub dev : DevId
  pub slices : ℕ
  pub starts : Option Starts

abbrev pub timing_of : Limited → Timing
timing_of l = record { dev = l.dev; slices = l.slices; starts = l.starts }

abbrev pub timings : List Limited → List Timing
timings rows = map timing_of rows

-- the timeslices of a device that an act tells
abbrev pub slices_of : DevId → Act → ℕ
slices_of dev (acts.Tick d now slices) = cond (same_dev d dev) slices 0
slices_of dev _ = 0

-- a Tick of the device comes at a moment up to which exactly the timeslices that it tells and those told before it passed from the start
abbrev pub FitsAct : DevId → ℕ → ℕ → Act → Type 0
FitsAct dev start before (acts.Tick d now slices) = same_dev d dev ≡ true → (start ≤ now) × (slices_passed start now ≡ before + slices)
FitsAct dev start before _ = Unit {0}

abbrev pub Fits : DevId → ℕ → ℕ → List Entry → Type 0
Fits dev start before [] = Unit {0}
Fits dev start before (e ∷ es) = FitsAct dev start before e.act × Fits dev start (before + slices_of dev e.act) es

-- a start that is left: any before the first Tick
abbrev pub IsAmong : ℕ → Option Starts → Type 0
IsAmong start None = Unit {0}
IsAmong start (Some s) = (s.earliest ≤ start) × (start ≤ s.latest)

abbrev pub IsLeftStart : ℕ → Option Limited → Type 0
IsLeftStart start None = Unit {0}
IsLeftStart start (Some l) = IsAmong start l.starts

-- a start that a state leaves for a device, as its home keeps it
abbrev pub IsLeftAt : Setup → State → DevId → ℕ → Type 0
IsLeftAt setup s dev start = IsLeftStart start (limited_here (part_of s (home setup dev)) dev)

-- each start that a run leaves for a device in the end fits all its Ticks
abbrev pub LeftStartsFit : Type 0
LeftStartsFit = (setup : Setup) (told : Told) (es : List Entry) → IsRun setup told es → (dev : DevId) (start : ℕ) → IsLeftAt setup (state_after setup told es) dev start → Fits dev start 0 es

-- in every run, all Ticks of a device fit one start
abbrev pub SomeStartFits : Type 0
SomeStartFits = (setup : Setup) (told : Told) (es : List Entry) → IsRun setup told es → (dev : DevId) → (start : ℕ) × Fits dev start 0 es
