-- What a call that ends with Ok did, and why another one ends.
use Rattle.std.specs.Prelude.{◌≡◌, ℕ, ◌<◌, ◌≤◌, Bool, true, false, List, [], ◌∷◌, ◌++◌, length, Option, None, Some, ◌⊎◌, string_bytes}
use Rattle.std.specs.Io.KnownBytes.{Appends}
use Rattle.bd_base.specs.declared.act.Entry.{Entry}
use Rattle.bd_base.specs.declared.id.DevId.{DevId}
use Rattle.bd_base.specs.declared.id.ReqId.{ReqId}
use Rattle.bd_base.specs.declared.job.Script.{Script}
use Rattle.bd_base.specs.declared.setup.Setup.{Setup}
use Rattle.bd_law_runs.specs.Ledger.{KeepsBudget}
use Rattle.bd_law_runs.specs.Quiescence.{IsOver, is_accept_above, is_reset_accept}
use Rattle.bd_machine.specs.Content.{Told as Contents}
use Rattle.bd_machine.specs.Destruction.{IsAfterLastClose}
use Rattle.bd_machine.specs.Laws.{IsCompletedOnce, count_of, is_complete_of, is_destruct_of}
use Rattle.bd_machine.specs.Lines.{GoesAsFar}
use Rattle.bd_machine.specs.Run.{IsCompleteRun}
use Rattle.bd_machine.specs.Users.{dev_of}
use Rattle.bd_building.specs.Progress.{Progress}
use Rattle.bd_config.specs.Config.{IsConfig}
use Rattle.bd_config.specs.declared.command.Command.{Command}
use Rattle.bd_jobs.specs.Generated.{generated}
use Rattle.bd_jobs.specs.ScriptGrammar.{scripts_of, IsFirstOutside}
use Rattle.bd_node.specs.Times.{AreHoldsWithin}
use Rattle.bd_outside.specs.Clock.{Moments}
use Rattle.bd_outside.specs.File.{Told, IsAbsent, Content}
use Rattle.bd_outside.specs.Host.{HostState, FailsAt, Misses}
use Rattle.bd_outside.specs.Sink.{SinkState, Fails}
use Rattle.bd_report.specs.Report.{report_of}
use Rattle.bd_report.specs.Writing.{AppendsPrefix}
use Rattle.bd_top.specs.declared.fault.Fault.{Fault}
use Rattle.bd_top.specs.declared.fault.Fault.TheVariants.{Usage, NoFile, TooLong, ReadFault, ConfigText, ConfigShape, Method, JobText, WriteFault, OutOfMemory}
use Rattle.bd_top.specs.declared.configure.ConfigureError.{ConfigureError}
use Rattle.bd_top.specs.declared.configure.ConfigureError.TheVariants as config_nos
use Rattle.bd_top.specs.declared.inputs.ScriptError.{ScriptError}
use Rattle.bd_top.specs.declared.inputs.ScriptError.TheVariants as script_nos
use Rattle.bd_top.specs.Configure.{Configures, ConfiguresAnyhow, ConfigureCause, ConfigureCauseAnyhow}
use Rattle.bd_top.specs.Disks.{AreDisksOf, Opens}
use Rattle.bd_top.specs.DiskRows.{TellDisks}
use Rattle.bd_top.specs.Exercise.{IsExercise}
use Rattle.bd_top.specs.Fault.{config_fault}
use Rattle.bd_top.specs.Files.{IsRead, IsTooLong, max_file, ReadCause}
use Rattle.bd_top.specs.Setup.{setup_of}
use Rattle.bd_top.specs.Words.{Arguments, Asked, Run, Exercise, Generate, asked_of}

-- ---- a history

-- the script of each thread goes as far as it can: at the Shutdown it is at its end or at a line that waits,
-- and the lines before that one are exactly those that were done
abbrev pub GoAsFar : Setup → Contents → List Entry → Type 0
GoAsFar setup contents trace = (t : ℕ) → t < setup.threads → GoesAsFar setup contents trace t

-- each request that was accepted is completed once, on its own thread
abbrev pub AreCompletedOnce : List Entry → Type 0
AreCompletedOnce trace = (r : ReqId) → IsCompletedOnce r trace

-- each device of the setup is destructed once
abbrev pub AreDestructedOnce : Setup → List Entry → Type 0
AreDestructedOnce setup trace = (n : ℕ) → n < length setup.devices → count_of (is_destruct_of (dev_of n)) trace ≡ 1

-- where a device is destructed, its last close and put came before
abbrev pub AreAfterLastClose : Setup → Contents → List Entry → Type 0
AreAfterLastClose setup contents trace = (dev : DevId) (before : List Entry) (e : Entry) (after : List Entry)
    → trace ≡ before ++ e ∷ after → is_destruct_of dev e.act ≡ true → IsAfterLastClose setup contents dev before after

-- each device keeps the budget of its limits
abbrev pub AreBudgetsKept : Setup → List Entry → Type 0
AreBudgetsKept setup trace = (dev : DevId) → KeepsBudget setup dev trace

-- where a reset is completed, each request but resets that was accepted before the reset, over its device, is over
abbrev pub AreOverAtResets : Setup → Contents → List Entry → Type 0
AreOverAtResets setup contents trace =
    (reset : ReqId) (dev : DevId) (before : List Entry) (accept : Entry) (between : List Entry) (complete : Entry) (after : List Entry)
    → trace ≡ before ++ accept ∷ between ++ complete ∷ after → is_reset_accept reset dev accept.act ≡ true → is_complete_of reset complete.act ≡ true
    → (r : ReqId) → 0 < count_of (is_accept_above setup dev r) before → IsOver setup contents r (before ++ accept ∷ between)

-- ---- Ok

-- the bytes of the configuration make these devices for this number of threads, as far as the host tells its file,
-- with the disks that were opened, which have as many blocks as the host tells of their files
pub record IsDevices (threads : ℕ) (told : List ℕ → Told) (config : Told) (devices : Progress) : Type 0 where
  pub bytes : List ℕ
  pub read : IsRead config bytes
  pub disks : List ℕ
  pub means : Configures threads bytes disks devices
  pub opened : AreDisksOf told means.commands disks

-- the bytes of the script give these scripts of this number of threads
pub record IsScript (threads : ℕ) (jobs : Told) (scripts : List Script) : Type 0 where
  pub bytes : List ℕ
  pub read : IsRead jobs bytes
  pub means : scripts_of threads bytes ≡ Some scripts

-- the two files mean this setup: the devices of the one, the scripts of the other
pub record IsMeant (threads : ℕ) (told : List ℕ → Told) (config jobs : Told) (setup : Setup) : Type 0 where
  pub devices : Progress
  pub scripts : List Script
  pub of_config : IsDevices threads told config devices
  pub of_jobs : IsScript threads jobs scripts
  pub is : setup ≡ setup_of threads devices scripts

-- the bytes of the script are outside the grammar, and the line of this number is the first outside
pub record IsNoText (threads : ℕ) (jobs : Told) (line : ℕ) : Type 0 where
  pub bytes : List ℕ
  pub read : IsRead jobs bytes
  pub outside : IsFirstOutside threads bytes line

-- this setup was played by a clock that tells its moments, if it tells any, where its disks told these contents: this is the history, and this its
-- report, with a line for each command where it is full
pub record IsPlayed (range : Option Moments) (setup : Setup) (contents : Contents) (full : Bool) (trace : List Entry) (report : List ℕ) : Type 0 where
  pub complete : IsCompleteRun setup contents trace
  pub scripts : GoAsFar setup contents trace
  pub once : AreCompletedOnce trace
  pub destructed : AreDestructedOnce setup trace
  pub last_close : AreAfterLastClose setup contents trace
  pub budgets : AreBudgetsKept setup trace
  pub quiesces : AreOverAtResets setup contents trace
  pub holds : AreHoldsWithin range setup trace
  pub says : report ≡ report_of full setup trace

-- the two files were played, with a full report, over what the disks told at their opening; what the host then keeps of the disks is
-- that run's
pub record AreFilesPlayed (range : Option Moments) (arguments : Arguments) (old new : HostState) (trace : List Entry) (report : List ℕ) : Type 0 where
  pub setup : Setup
  pub meant : IsMeant arguments.playing.threads old.told (old.told arguments.config) (old.told arguments.jobs) setup
  pub contents : Contents
  pub played : IsPlayed range setup contents true trace report
  pub disks : TellDisks old.told contents setup trace old.openings new.openings

-- the built-in configuration, which has no aio device, was played with the generated script, with a report that isn't full
pub record IsExercised (range : Option Moments) (numbers threads : ℕ) (trace : List Entry) (report : List ℕ) : Type 0 where
  pub setup : Setup
  pub meant : IsExercise numbers threads setup
  pub played : IsPlayed range setup [] false trace report

-- nothing was played, and the text is the generated script
pub record IsGenerated (numbers threads : ℕ) (trace : List Entry) (text : List ℕ) : Type 0 where
  pub nothing : trace ≡ []
  pub says : text ≡ generated numbers threads

-- what is asked was done: this is the history, and this the text to be written
abbrev pub IsDone : Option Moments → Asked → HostState → HostState → List Entry → List ℕ → Type 0
IsDone range (Run arguments) old new trace text = AreFilesPlayed range arguments old new trace text
IsDone range (Exercise numbers playing) old new trace text = IsExercised range numbers playing.threads trace text
IsDone range (Generate numbers threads) old new trace text = IsGenerated numbers threads trace text

-- what the words ask was done, by a clock that tells its moments, if it tells any, and the output gained the text
pub record IsRun (range : Option Moments) (words : List (List ℕ)) (old new : HostState) (trace : List Entry) (before after : SinkState) : Type 0 where
  pub asked : Asked
  pub named : asked_of words ≡ Some asked
  pub text : List ℕ
  pub done : IsDone range asked old new trace text
  pub output : Appends before.written after.written text

-- ---- faults

-- the bytes of the configuration make some devices, as far as the host tells its file
abbrev pub IsConfigured : ℕ → (List ℕ → Told) → Told → Type 0
IsConfigured threads told config = (devices : Progress) × IsDevices threads told config devices

-- the bytes of the configuration make no devices, and this is why
pub record IsOutside (threads : ℕ) (told : List ℕ → Told) (config : Told) (why : ConfigureError) : Type 0 where
  pub bytes : List ℕ
  pub read : IsRead config bytes
  pub outside : ConfigureCause threads told bytes why

-- the bytes of the configuration ask for these commands, as far as the host tells its file
pub record AreCommands (config : Told) (commands : List Command) : Type 0 where
  pub bytes : List ℕ
  pub read : IsRead config bytes
  pub asks : IsConfig bytes commands

-- the bytes of the configuration ask for a disk over the file of this name
abbrev pub AsksForDisk : Told → List ℕ → Type 0
AsksForDisk config name = (commands : List Command) × AreCommands config commands × Opens commands name

-- the file of this name was due to be read: the configuration first, and the script only once the configuration makes its devices
abbrev pub IsDue : HostState → List ℕ → List ℕ → ℕ → List ℕ → Type 0
IsDue host config jobs threads name = (name ≡ config) ⊎ ((name ≡ jobs) × IsConfigured threads host.told (host.told config))

-- the file of this name was due to be read, or to be opened as a disk of the configuration
abbrev pub IsWanted : HostState → List ℕ → List ℕ → ℕ → List ℕ → Type 0
IsWanted host config jobs threads name = IsDue host config jobs threads name ⊎ AsksForDisk (host.told config) name

-- why a file gives no scripts of this number of threads
abbrev pub ScriptCause : HostState → HostState → List ℕ → ℕ → ScriptError → Type 0
ScriptCause old new jobs threads (script_nos.File why) = ReadCause old new jobs why
ScriptCause old new jobs threads (script_nos.Text line) = IsNoText threads (old.told jobs) line
ScriptCause old new jobs threads script_nos.OutOfMemory = Unit {0}

-- the fault comes from one of two files: the configuration, or where that makes its devices the script of this number of threads;
-- or from a file that the configuration asks to be opened as a disk
abbrev pub FileCause : HostState → HostState → List ℕ → List ℕ → ℕ → Fault → Type 0
FileCause old new config jobs threads Usage = ⊥
FileCause old new config jobs threads (NoFile name) =
    IsWanted old config jobs threads (string_bytes name) × IsAbsent (old.told (string_bytes name)) × Misses old new (string_bytes name)
FileCause old new config jobs threads (TooLong name) = IsDue old config jobs threads (string_bytes name) × IsTooLong (old.told (string_bytes name))
FileCause old new config jobs threads (ReadFault name) = IsWanted old config jobs threads (string_bytes name) × FailsAt old new (string_bytes name)
FileCause old new config jobs threads ConfigText = IsOutside threads old.told (old.told config) config_nos.Text
FileCause old new config jobs threads (ConfigShape place) = IsOutside threads old.told (old.told config) (config_nos.Shape place)
FileCause old new config jobs threads (Method index code) = IsOutside threads old.told (old.told config) (config_nos.Method index code)
FileCause old new config jobs threads (JobText line) = IsConfigured threads old.told (old.told config) × IsNoText threads (old.told jobs) line
FileCause old new config jobs threads WriteFault = ⊥
FileCause old new config jobs threads OutOfMemory = Unit {0}

-- why what is asked isn't done: a fault of the files, where some are named, or out of memory
abbrev pub AskedCause : Asked → HostState → HostState → Fault → Type 0
AskedCause (Run arguments) old new fault = FileCause old new arguments.config arguments.jobs arguments.playing.threads fault
AskedCause (Exercise numbers playing) old new fault = fault ≡ OutOfMemory
AskedCause (Generate numbers threads) old new fault = fault ≡ OutOfMemory

-- the words name two files, and one of them gives this fault
pub record IsOfFiles (words : List (List ℕ)) (old new : HostState) (fault : Fault) : Type 0 where
  pub arguments : Arguments
  pub named : asked_of words ≡ Some (Run arguments)
  pub of_file : FileCause old new arguments.config arguments.jobs arguments.playing.threads fault

-- what the words ask was done, and the output failed, after a prefix of the text
pub record IsCutOff (range : Option Moments) (words : List (List ℕ)) (old new : HostState) (before after : SinkState) : Type 0 where
  pub asked : Asked
  pub named : asked_of words ≡ Some asked
  pub trace : List Entry
  pub text : List ℕ
  pub done : IsDone range asked old new trace text
  pub prefix : AppendsPrefix before.written after.written text
  pub failed : Fails before after

-- when each fault comes, by the host and the output before and after the call; out of memory is the one free answer
abbrev pub Cause : Option Moments → List (List ℕ) → HostState → HostState → SinkState → SinkState → Fault → Type 0
Cause range words old new before after Usage = asked_of words ≡ None
Cause range words old new before after WriteFault = IsCutOff range words old new before after
Cause range words old new before after OutOfMemory = Unit {0}
Cause range words old new before after (NoFile name) = IsOfFiles words old new (NoFile name)
Cause range words old new before after (TooLong name) = IsOfFiles words old new (TooLong name)
Cause range words old new before after (ReadFault name) = IsOfFiles words old new (ReadFault name)
Cause range words old new before after ConfigText = IsOfFiles words old new ConfigText
Cause range words old new before after (ConfigShape place) = IsOfFiles words old new (ConfigShape place)
Cause range words old new before after (Method index code) = IsOfFiles words old new (Method index code)
Cause range words old new before after (JobText line) = IsOfFiles words old new (JobText line)

-- ---- what is in form

-- the host tells a configuration in the one file, which makes devices whatever blocks its disks may have, and in the other
-- a script in the grammar. Where it tells the disks' files too, their blocks are those of the files
pub record AreFilesInForm (arguments : Arguments) (host : HostState) : Type 0 where
  pub config : List ℕ
  pub config_told : host.told arguments.config ≡ Content config
  pub config_short : length config ≤ max_file
  pub config_means : ConfiguresAnyhow arguments.playing.threads host.told config
  pub jobs : List ℕ
  pub jobs_told : host.told arguments.jobs ≡ Content jobs
  pub jobs_short : length jobs ≤ max_file
  pub scripts : List Script
  pub jobs_mean : scripts_of arguments.playing.threads jobs ≡ Some scripts

-- the files that are named are in form
abbrev pub IsAskedInForm : Asked → HostState → Type 0
IsAskedInForm (Run arguments) host = AreFilesInForm arguments host
IsAskedInForm (Exercise numbers playing) host = Unit {0}
IsAskedInForm (Generate numbers threads) host = Unit {0}

-- the words are in the grammar, and the files that they name in form
pub record AreInForm (words : List (List ℕ)) (host : HostState) : Type 0 where
  pub asked : Asked
  pub named : asked_of words ≡ Some asked
  pub files : IsAskedInForm asked host

-- no file is named
abbrev pub NamesNoFile : Asked → Type 0
NamesNoFile (Run arguments) = ⊥
NamesNoFile (Exercise numbers playing) = Unit {0}
NamesNoFile (Generate numbers threads) = Unit {0}

-- ---- files of which one is outside its form

-- the bytes of a configuration make no devices, whatever blocks its disks may have, and the fault says why
pub record IsConfigWrong (threads : ℕ) (told : List ℕ → Told) (config : List ℕ) (fault : Fault) : Type 0 where
  pub why : ConfigureError
  pub cause : ConfigureCauseAnyhow threads told config why
  pub known : ¬ (why ≡ config_nos.OutOfMemory)
  pub is : fault ≡ config_fault why

-- the bytes of a configuration make devices, whatever blocks its disks may have, the script is told, and the fault names its
-- first line outside the grammar
pub record IsScriptWrong (threads : ℕ) (told : List ℕ → Told) (config : List ℕ) (jobs : Told) (fault : Fault) : Type 0 where
  pub means : ConfiguresAnyhow threads told config
  pub bytes : List ℕ
  pub told_jobs : jobs ≡ Content bytes
  pub short : length bytes ≤ max_file
  pub line : ℕ
  pub first : IsNoText threads jobs line
  pub is : fault ≡ JobText line

-- the words name two files, the host tells the configuration, and the fault is the first thing that is wrong with what the two say
pub record IsWrong (words : List (List ℕ)) (host : HostState) (fault : Fault) : Type 0 where
  pub arguments : Arguments
  pub named : asked_of words ≡ Some (Run arguments)
  pub config : List ℕ
  pub told : host.told arguments.config ≡ Content config
  pub short : length config ≤ max_file
  pub wrong : IsConfigWrong arguments.playing.threads host.told config fault
      ⊎ IsScriptWrong arguments.playing.threads host.told config (host.told arguments.jobs) fault

-- ---- what doesn't fail

-- no count rose: the host neither failed nor missed a file, and the output didn't fail
pub record NothingFails (old new : HostState) (before after : SinkState) : Type 0 where
  pub host : (name : List ℕ) → ¬ FailsAt old new name
  pub files : (name : List ℕ) → ¬ Misses old new name
  pub output : ¬ Fails before after

-- ---- what a fault leaves

-- the output is as before, but for a fault of the output itself
abbrev pub WritesNothing : SinkState → SinkState → Fault → Type 0
WritesNothing old new WriteFault = Unit {0}
WritesNothing old new Usage = new ≡ old
WritesNothing old new (NoFile name) = new ≡ old
WritesNothing old new (TooLong name) = new ≡ old
WritesNothing old new (ReadFault name) = new ≡ old
WritesNothing old new ConfigText = new ≡ old
WritesNothing old new (ConfigShape place) = new ≡ old
WritesNothing old new (Method index code) = new ≡ old
WritesNothing old new (JobText line) = new ≡ old
WritesNothing old new OutOfMemory = new ≡ old
