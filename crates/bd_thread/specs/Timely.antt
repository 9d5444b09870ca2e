-- The moments that acts name, until when they hold requests, and the timeslices that they tell, by a thread's time.
use Rattle.std.specs.Prelude.{◌≡◌, ℕ, ◌+◌, ◌≤◌, true, false, List, [], ◌∷◌, Option, Some, None, IfSome}
use Rattle.std.specs.List.{AllByRecursion}
use Rattle.bd_base.specs.declared.act.Act.{Act}
use Rattle.bd_base.specs.declared.act.Act.TheVariants as acts
use Rattle.bd_base.specs.declared.act.Entry.{Entry}
use Rattle.bd_base.specs.declared.id.DevId.{DevId}
use Rattle.bd_machine.specs.declared.state.Limited.{Limited}
use Rattle.bd_machine.specs.declared.state.Part.{Part}
use Rattle.bd_machine.specs.Limits.{limited_here}
use Rattle.bd_machine.specs.Timeslices.{slices_of, Fits, FitsAct}
use Rattle.bd_law_held.specs.Held.{held_by, EndInTime}
use Rattle.bd_moment.specs.declared.time.Time.{Time}
use Rattle.bd_tokens.specs.Tokens.{here_in}
use Rattle.bd_thread.specs.declared.thread.Thread.{Thread}
use Rattle.bd_thread.specs.Asleep.{begun_at}

-- the moment at which a request passes limits, timeslices are told, a request is released, or a soft mark becomes hard, where the act is one of these
abbrev pub moment_named : Act → Option ℕ
moment_named (acts.Let req dev now) = Some now
moment_named (acts.Tick dev now slices) = Some now
moment_named (acts.Release req now) = Some now
moment_named (acts.Due walk now) = Some now
moment_named _ = None

-- ---- timeslices

abbrev pub slices_if : Option Limited → ℕ
slices_if None = 0
slices_if (Some l) = l.slices

-- how many of a device were told so far, as a thread keeps it
abbrev pub slices_at : Part → DevId → ℕ
slices_at part dev = slices_if (limited_here part dev)

-- how many these entries tell
abbrev pub slices_in : DevId → List Entry → ℕ
slices_in dev [] = 0
slices_in dev (e ∷ es) = slices_of dev e.act + slices_in dev es

-- ---- a thread's time

-- its time is as before, but for when the next line was met
abbrev pub KeepsTime : Time → Time → Type 0
KeepsTime old new = new ≡ record old { met = new.met }

-- this act keeps it; it names the turn's moment, where it names one; what it holds, it holds in time from that moment on; and where it tells timeslices, these
-- and those told before are just those that passed since the thread's first turn
pub record IsTimely (act : Act) (old new : Thread) : Type 0 where
  pub time : KeepsTime old.time new.time
  pub named : IfSome (moment_named act) (λ moment. moment ≡ old.time.moment)
  pub held : EndInTime old.setup.now old.time.moment (held_by (here_in old.held.items) act)
  pub fits : (dev : DevId) → FitsAct dev old.time.start (slices_at old.part dev) act

-- so it is with each of these entries, and the thread keeps how many timeslices they tell
pub record AreTimely (entries : List Entry) (old new : Thread) : Type 0 where
  pub time : KeepsTime old.time new.time
  pub named : AllByRecursion (λ e. IfSome (moment_named e.act) (λ moment. moment ≡ old.time.moment)) entries
  pub fits : (dev : DevId) → Fits dev old.time.start (slices_at old.part dev) entries
  pub slices : (dev : DevId) → slices_at new.part dev ≡ slices_at old.part dev + slices_in dev entries

-- ---- turn after turn

-- a turn of the thread began
abbrev pub HasBegun : Thread → Type 0
HasBegun t = t.time.given ≡ true

-- but for when the next line was met, its time is as before
abbrev pub HasSameTime : Thread → Thread → Type 0
HasSameTime old new = KeepsTime old.time new.time

-- its time is that of a turn that began while the clock told this moment
abbrev pub HadTurn : ℕ → Thread → Thread → Type 0
HadTurn now old new = HasSameTime (begun_at now old) new

-- the moment lies between that of the thread's first turn and that of its last
abbrev pub IsBetween : Time → ℕ → Type 0
IsBetween time moment = (time.start ≤ moment) × (moment ≤ time.moment)

-- all that the thread did goes with its time: each moment that is named lies between that of its first turn and that of its last; the timeslices that are told
-- passed since the first; it keeps how many these are; and before any turn no moment is named
pub record IsOnTime (t : Thread) (entries : List Entry) : Type 0 where
  pub order : t.time.start ≤ t.time.moment
  pub named : AllByRecursion (λ e. IfSome (moment_named e.act) (IsBetween t.time)) entries
  pub fits : (dev : DevId) → Fits dev t.time.start 0 entries
  pub slices : (dev : DevId) → slices_at t.part dev ≡ slices_in dev entries
  pub none : t.time.given ≡ false → AllByRecursion (λ e. moment_named e.act ≡ None) entries
