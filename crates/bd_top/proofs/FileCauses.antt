-- The causes of a run's faults, from those of the steps that found them.
use Rattle.std.proofs.Common.{◌≡◌, ℕ, ◌≤◌, inl, inr, List, [], ◌∷◌, Option, None, Some, refl, sym, ◌∙◌, subst, string_bytes}
use Rattle.std.specs.Prelude.{ℤ}
use Rattle.bd_base.specs.Errno.{number_of}
use Rattle.bd_base.specs.declared.request.Errno.{Errno}
use Rattle.bd_building.specs.Disks.{DiskFile, file_of, other_disks}
use Rattle.bd_building.specs.Progress.{Progress}
use Rattle.bd_building.specs.declared.building.BuildError.{BuildError}
use Rattle.bd_building.specs.declared.building.BuildError.TheVariants as builds
use Rattle.bd_config.specs.Commands.{minus}
use Rattle.bd_config.specs.declared.command.Command.{Command}
use Rattle.bd_disk_pool.specs.Closing.{KeepsCounts}
use Rattle.bd_disk_pool.proofs.EachClosed.{kept_same}
use Rattle.bd_outside.specs.Count.{Rises}
use Rattle.bd_outside.specs.File.{Told, IsAbsent}
use Rattle.bd_outside.specs.Host.{HostState, IsLater, FailsAt, Misses}
use Rattle.bd_top.specs.declared.configure.ConfigureError.{ConfigureError}
use Rattle.bd_top.specs.declared.configure.ConfigureError.TheVariants as config_nos
use Rattle.bd_top.specs.declared.fault.Fault.{Fault}
use Rattle.bd_top.specs.declared.fault.Fault.TheVariants as faults
use Rattle.bd_top.specs.declared.files.ReadError.{ReadError}
use Rattle.bd_top.specs.declared.files.ReadError.TheVariants as errors
use Rattle.bd_top.specs.declared.inputs.ScriptError.{ScriptError}
use Rattle.bd_top.specs.declared.inputs.ScriptError.TheVariants as script_nos
use Rattle.bd_top.specs.Configure.{CauseBy, CommandsCause, IsRefused}
use Rattle.bd_top.specs.Disks.{AreDisksOf, BeginsWith, IsNamed, MayHave, MayGive, Opens}
use Rattle.bd_top.specs.Fault.{IsFaultOf, IsScriptFault, config_fault}
use Rattle.bd_top.specs.Files.{IsRead, IsTooLong, ReadCause}
use Rattle.bd_top.specs.Opening.{AreDone, DoingCause, IsBuildFault, IsStep, IsStepRefused}
use Rattle.bd_top.specs.Run.{AreCommands, FileCause, IsConfigured, IsDevices, IsDue, IsNoText, IsWanted, ScriptCause}
use Rattle.bd_top.proofs.ConfigureLemmas.{cause_by}
use Rattle.bd_top.proofs.FileLemmas.{later_same, fails_from, misses_from}

-- ---- states of a host

pub later_kept : (a b c : HostState) → IsLater a b → KeepsCounts b c → IsLater a c
later_kept a b c p q = record {
  told = λ name. q.told name ∙ p.told name;
  faults = λ name. subst (λ (f : List ℕ → ℕ). a.faults name ≤ f name) (sym q.faults) (p.faults name);
  absences = λ name. subst (λ (f : List ℕ → ℕ). a.absences name ≤ f name) (sym q.absences) (p.absences name);
}

fails_kept : (a b c : HostState) (name : List ℕ) → FailsAt a b name → KeepsCounts b c → FailsAt a c name
fails_kept a b c name p q = subst (λ (f : List ℕ → ℕ). Rises (a.faults name) (f name)) (sym q.faults) p

misses_kept : (a b c : HostState) (name : List ℕ) → Misses a b name → KeepsCounts b c → Misses a c name
misses_kept a b c name p q = subst (λ (f : List ℕ → ℕ). Rises (a.absences name) (f name)) (sym q.absences) p

-- ---- what is told

absent_at : (t u : Told) → t ≡ u → IsAbsent t → IsAbsent u
absent_at t u e absent = subst IsAbsent e absent

have_at : (t u : Told) (size blocks : ℕ) → t ≡ u → MayHave t size blocks → MayHave u size blocks
have_at t u size blocks e may = subst (λ (x : Told). MayHave x size blocks) e may

pub give_at : (t u : List ℕ → Told) (file : Option DiskFile) (blocks : ℕ) → ((name : List ℕ) → t name ≡ u name) → MayGive t file blocks → MayGive u file blocks
give_at t u None blocks same may = may
give_at t u (Some file) blocks same may = have_at (t file.name) (u file.name) file.size blocks (same file.name) may

begins_at : (t u : List ℕ → Told) (file : Option DiskFile) (disks : List ℕ) → ((name : List ℕ) → t name ≡ u name) → BeginsWith t file disks → BeginsWith u file disks
begins_at t u None disks same may = tt
begins_at t u (Some file) [] same may = may
begins_at t u (Some file) (blocks ∷ disks) same may = have_at (t file.name) (u file.name) file.size blocks (same file.name) may

pub disks_at : (t u : List ℕ → Told) (commands : List Command) (disks : List ℕ) → ((name : List ℕ) → t name ≡ u name) → AreDisksOf t commands disks → AreDisksOf u commands disks
disks_at t u [] disks same are = are
disks_at t u (command ∷ commands) disks same are = (begins_at t u (file_of command) disks same are.0, disks_at t u commands (other_disks (file_of command) disks) same are.1)

pub refused_at : (threads : ℕ) (t u : List ℕ → Told) (commands : List Command) (index : ℕ) (code : ℤ) → ((name : List ℕ) → t name ≡ u name) → IsRefused threads t commands index code → IsRefused threads u commands index code
refused_at threads t u commands index code same is = record { disks = is.disks; may = disks_at t u commands is.disks same is.may; errno = is.errno; first = is.first; is = is.is }

pub step_at : (t u : List ℕ → Told) (progress : Progress) (index : ℕ) (command : Command) (next : Progress) → ((name : List ℕ) → t name ≡ u name) → IsStep t progress index command next → IsStep u progress index command next
step_at t u progress index command next same is = record { blocks = is.blocks; may = give_at t u (file_of command) is.blocks same is.may; is = is.is }

pub step_refused_at : (t u : List ℕ → Told) (progress : Progress) (index : ℕ) (command : Command) (place : ℕ) (code : ℤ) → ((name : List ℕ) → t name ≡ u name)
    → IsStepRefused t progress index command place code → IsStepRefused u progress index command place code
step_refused_at t u progress index command place code same is = record { blocks = is.blocks; may = give_at t u (file_of command) is.blocks same is.may; errno = is.errno; first = is.first; is = is.is }

-- ---- a file that was due

module _ (old mid end new : HostState) (name config jobs : List ℕ) (threads : ℕ) (due : IsDue old config jobs threads name) (later : IsLater old mid) (kept : KeepsCounts end new) where
  abbrev MissesNow : List ℕ → Type 0
  MissesNow text = IsWanted old config jobs threads text × IsAbsent (old.told text) × Misses old new text

  abbrev FailsNow : List ℕ → Type 0
  FailsNow text = IsWanted old config jobs threads text × FailsAt old new text

  abbrev TooLongNow : List ℕ → Type 0
  TooLongNow text = IsDue old config jobs threads text × IsTooLong (old.told text)

  -- the fault of a file that wasn't read
  pub of_read : (why : ReadError) (fault : Fault) → ReadCause mid end name why → IsFaultOf name why fault → FileCause old new config jobs threads fault
  of_read errors.Absent faults.Usage cause is = absurd is
  of_read errors.Absent (faults.NoFile text) cause is = subst MissesNow (sym is) (inl due, absent_at (mid.told name) (old.told name) (later.told name) cause.0, misses_kept old end new name (misses_from old mid end name later cause.1) kept)
  of_read errors.Absent (faults.TooLong text) cause is = absurd is
  of_read errors.Absent (faults.ReadFault text) cause is = absurd is
  of_read errors.Absent faults.ConfigText cause is = absurd is
  of_read errors.Absent (faults.ConfigShape place) cause is = absurd is
  of_read errors.Absent (faults.Method index code) cause is = absurd is
  of_read errors.Absent (faults.JobText line) cause is = absurd is
  of_read errors.Absent faults.WriteFault cause is = absurd is
  of_read errors.Absent faults.OutOfMemory cause is = tt
  of_read errors.TooLong faults.Usage cause is = absurd is
  of_read errors.TooLong (faults.NoFile text) cause is = absurd is
  of_read errors.TooLong (faults.TooLong text) cause is = subst TooLongNow (sym is) (due, subst IsTooLong (later.told name) cause)
  of_read errors.TooLong (faults.ReadFault text) cause is = absurd is
  of_read errors.TooLong faults.ConfigText cause is = absurd is
  of_read errors.TooLong (faults.ConfigShape place) cause is = absurd is
  of_read errors.TooLong (faults.Method index code) cause is = absurd is
  of_read errors.TooLong (faults.JobText line) cause is = absurd is
  of_read errors.TooLong faults.WriteFault cause is = absurd is
  of_read errors.TooLong faults.OutOfMemory cause is = tt
  of_read errors.Failed faults.Usage cause is = absurd is
  of_read errors.Failed (faults.NoFile text) cause is = absurd is
  of_read errors.Failed (faults.TooLong text) cause is = absurd is
  of_read errors.Failed (faults.ReadFault text) cause is = subst FailsNow (sym is) (inl due, fails_kept old end new name (fails_from old mid end name later cause) kept)
  of_read errors.Failed faults.ConfigText cause is = absurd is
  of_read errors.Failed (faults.ConfigShape place) cause is = absurd is
  of_read errors.Failed (faults.Method index code) cause is = absurd is
  of_read errors.Failed (faults.JobText line) cause is = absurd is
  of_read errors.Failed faults.WriteFault cause is = absurd is
  of_read errors.Failed faults.OutOfMemory cause is = tt
  of_read errors.OutOfMemory faults.Usage cause is = absurd is
  of_read errors.OutOfMemory (faults.NoFile text) cause is = absurd is
  of_read errors.OutOfMemory (faults.TooLong text) cause is = absurd is
  of_read errors.OutOfMemory (faults.ReadFault text) cause is = absurd is
  of_read errors.OutOfMemory faults.ConfigText cause is = absurd is
  of_read errors.OutOfMemory (faults.ConfigShape place) cause is = absurd is
  of_read errors.OutOfMemory (faults.Method index code) cause is = absurd is
  of_read errors.OutOfMemory (faults.JobText line) cause is = absurd is
  of_read errors.OutOfMemory faults.WriteFault cause is = absurd is
  of_read errors.OutOfMemory faults.OutOfMemory cause is = tt

-- the fault of a configuration that wasn't read
pub of_bytes : (old new : HostState) (config jobs : List ℕ) (threads : ℕ) (why : ReadError) (fault : Fault) → ReadCause old new config why → IsFaultOf config why fault → FileCause old new config jobs threads fault
of_bytes old new config jobs threads why fault cause is = of_read old old new new config config jobs threads (inl refl) (later_same old) (kept_same new) why fault cause is

-- the fault of a configuration whose bytes ask for no commands
pub of_config : (old new : HostState) (config jobs : List ℕ) (threads : ℕ) (bytes : List ℕ) (why : ConfigureError) → IsRead (old.told config) bytes → CommandsCause bytes why
    → FileCause old new config jobs threads (config_fault why)
of_config old new config jobs threads bytes why read cause = go why (cause_by (IsRefused threads old.told) bytes why cause)
  where
    go : (no : ConfigureError) → CauseBy (IsRefused threads old.told) bytes no → FileCause old new config jobs threads (config_fault no)
    go config_nos.OutOfMemory cause = tt
    go config_nos.Text cause = record { bytes = bytes; read = read; outside = cause }
    go (config_nos.Shape place) cause = record { bytes = bytes; read = read; outside = cause }
    go (config_nos.Method index code) cause = record { bytes = bytes; read = read; outside = cause }

-- the fault of a script that gives no scripts
module _ (old mid end new : HostState) (config jobs : List ℕ) (threads : ℕ) (made : IsConfigured threads old.told (old.told config)) (later : IsLater old mid) (kept : KeepsCounts end new) where
  pub of_script : (why : ScriptError) (fault : Fault) → ScriptCause mid end jobs threads why → IsScriptFault jobs why fault → FileCause old new config jobs threads fault
  of_script (script_nos.File why) fault cause is = of_read old mid end new jobs config jobs threads (inr (refl, made)) later kept why fault cause is
  of_script (script_nos.Text line) fault cause is = subst (FileCause old new config jobs threads) (sym is) (made, subst (λ (t : Told). IsNoText threads t line) (later.told jobs) cause)
  of_script script_nos.OutOfMemory fault cause is = subst (FileCause old new config jobs threads) (sym is) tt

-- ---- commands that weren't done

-- a cause with more after it, and with more before it
module _ (a b c d : HostState) (N M : List ℕ → Type 0) (R S : ℕ → ℤ → Type 0) (later : IsLater a b) (kept : KeepsCounts c d) (names : (name : List ℕ) → N name → M name) (refusals : (index : ℕ) (code : ℤ) → R index code → S index code) where
  pub doing_from : (fault : Fault) → DoingCause b c N R fault → DoingCause a d M S fault
  doing_from faults.Usage cause = absurd cause
  doing_from (faults.NoFile text) cause = (names (string_bytes text) cause.0, absent_at (b.told (string_bytes text)) (a.told (string_bytes text)) (later.told (string_bytes text)) cause.1, misses_kept a c d (string_bytes text) (misses_from a b c (string_bytes text) later cause.2) kept)
  doing_from (faults.TooLong text) cause = absurd cause
  doing_from (faults.ReadFault text) cause = (names (string_bytes text) cause.0, fails_kept a c d (string_bytes text) (fails_from a b c (string_bytes text) later cause.1) kept)
  doing_from faults.ConfigText cause = absurd cause
  doing_from (faults.ConfigShape place) cause = absurd cause
  doing_from (faults.Method index code) cause = refusals index code cause
  doing_from (faults.JobText line) cause = absurd cause
  doing_from faults.WriteFault cause = absurd cause
  doing_from faults.OutOfMemory cause = tt

-- the fault of a disk that wasn't opened
module _ (old new : HostState) (file : DiskFile) (R : ℕ → ℤ → Type 0) where
  abbrev MissesDisk : List ℕ → Type 0
  MissesDisk text = IsNamed (Some file) text × IsAbsent (old.told text) × Misses old new text

  abbrev FailsDisk : List ℕ → Type 0
  FailsDisk text = IsNamed (Some file) text × FailsAt old new text

  pub of_absent : (fault : Fault) → IsAbsent (old.told file.name) → Misses old new file.name → IsFaultOf file.name errors.Absent fault → DoingCause old new (IsNamed (Some file)) R fault
  of_absent faults.Usage absent misses is = absurd is
  of_absent (faults.NoFile text) absent misses is = subst MissesDisk (sym is) (refl, absent, misses)
  of_absent (faults.TooLong text) absent misses is = absurd is
  of_absent (faults.ReadFault text) absent misses is = absurd is
  of_absent faults.ConfigText absent misses is = absurd is
  of_absent (faults.ConfigShape place) absent misses is = absurd is
  of_absent (faults.Method index code) absent misses is = absurd is
  of_absent (faults.JobText line) absent misses is = absurd is
  of_absent faults.WriteFault absent misses is = absurd is
  of_absent faults.OutOfMemory absent misses is = tt

  pub of_failed : (fault : Fault) → FailsAt old new file.name → IsFaultOf file.name errors.Failed fault → DoingCause old new (IsNamed (Some file)) R fault
  of_failed faults.Usage fails is = absurd is
  of_failed (faults.NoFile text) fails is = absurd is
  of_failed (faults.TooLong text) fails is = absurd is
  of_failed (faults.ReadFault text) fails is = subst FailsDisk (sym is) (refl, fails)
  of_failed faults.ConfigText fails is = absurd is
  of_failed (faults.ConfigShape place) fails is = absurd is
  of_failed (faults.Method index code) fails is = absurd is
  of_failed (faults.JobText line) fails is = absurd is
  of_failed faults.WriteFault fails is = absurd is
  of_failed faults.OutOfMemory fails is = tt

-- the fault of a command that is refused
pub of_build : (old new : HostState) (N : List ℕ → Type 0) (R : ℕ → ℤ → Type 0) (no : BuildError) (fault : Fault) → ((index : ℕ) (errno : Errno) → no ≡ builds.Refused index errno → R index (minus (number_of errno)))
    → IsBuildFault no fault → DoingCause old new N R fault
of_build old new N R builds.OutOfMemory fault refusals is = subst (DoingCause old new N R) (sym is) tt
of_build old new N R (builds.Refused index errno) fault refusals is = subst (DoingCause old new N R) (sym is) (refusals index errno refl)

-- the fault of a configuration's commands
module _ (old mid new : HostState) (config jobs : List ℕ) (threads : ℕ) (commands : List Command) (are : AreCommands (old.told config) commands) (later : IsLater old mid) where
  wanted : (name : List ℕ) → Opens commands name → IsWanted old config jobs threads name
  wanted name opens = inr (commands, are, opens)

  pub of_doing : (fault : Fault) → DoingCause mid new (Opens commands) (IsRefused threads mid.told commands) fault → FileCause old new config jobs threads fault
  of_doing faults.Usage cause = absurd cause
  of_doing (faults.NoFile text) cause = (wanted (string_bytes text) cause.0, absent_at (mid.told (string_bytes text)) (old.told (string_bytes text)) (later.told (string_bytes text)) cause.1, misses_from old mid new (string_bytes text) later cause.2)
  of_doing (faults.TooLong text) cause = absurd cause
  of_doing (faults.ReadFault text) cause = (wanted (string_bytes text) cause.0, fails_from old mid new (string_bytes text) later cause.1)
  of_doing faults.ConfigText cause = absurd cause
  of_doing (faults.ConfigShape place) cause = absurd cause
  of_doing (faults.Method index code) cause =
      record {
        bytes = are.bytes;
        read = are.read;
        outside = inr (record { commands = commands; asks = are.asks; why = refused_at threads mid.told old.told commands index code later.told cause });
      }
  of_doing (faults.JobText line) cause = absurd cause
  of_doing faults.WriteFault cause = absurd cause
  of_doing faults.OutOfMemory cause = tt

-- the devices of a configuration's commands
pub devices_of : (old mid : HostState) (config : List ℕ) (threads : ℕ) (commands : List Command) (devices : Progress) → AreCommands (old.told config) commands → IsLater old mid → AreDone mid.told threads commands devices
    → IsDevices threads old.told (old.told config) devices
devices_of old mid config threads commands devices are later done = record {
  bytes = are.bytes;
  read = are.read;
  disks = done.disks;
  means = record { commands = commands; asks = are.asks; made = done.is };
  opened = disks_at mid.told old.told commands done.disks later.told done.may;
}
