-- Where what the words name is in form and nothing fails, a call ends well unless it is out of memory.
use Rattle.std.proofs.Common.{◌≡◌, ℕ, ◌+◌, ◌≤◌, ◌<◌, inl, inr, List, [], ◌∷◌, ◌++◌, length, take, drop, Option, None, Some, refl, sym, ◌∙◌, ap, subst, arith, string_bytes}
use Rattle.std.specs.Prelude.{ℤ, option_map}
use Rattle.std.proofs.lemmas.List.{take-append-drop}
use Rattle.bd_base.specs.declared.job.Script.{Script}
use Rattle.bd_jobs.specs.ScriptGrammar.{commands_from, commands_of, scripts_below, scripts_of, IsFirstOutside, text_lines}
use Rattle.bd_jobs.proofs.ReadLemmas.{from-append, from-none}
use Rattle.bd_outside.specs.Clock.{Moments}
use Rattle.bd_outside.specs.File.{Told, Content}
use Rattle.bd_outside.specs.Host.{HostState}
use Rattle.bd_outside.specs.Sink.{SinkState}
use Rattle.bd_top.specs.declared.configure.ConfigureError.{ConfigureError}
use Rattle.bd_top.specs.declared.configure.ConfigureError.TheVariants as config_nos
use Rattle.bd_top.specs.declared.fault.Fault.{Fault}
use Rattle.bd_top.specs.declared.fault.Fault.TheVariants as faults
use Rattle.bd_top.specs.Configure.{ConfiguresAnyhow, ConfigureCause, IsRefused}
use Rattle.bd_top.specs.Files.{IsRead, IsTooLong, max_file}
use Rattle.bd_top.specs.Run.{AreInForm, AreFilesInForm, IsAskedInForm, Cause, FileCause, IsDue, IsNoText, IsOutside, NothingFails}
use Rattle.bd_top.specs.Words.{Arguments, Asked, Run, asked_of}
use Rattle.bd_top.proofs.ConfigureLemmas.{nothing_wrong, not_refused}

-- ---- what is read of a file that is told

pub read_told : (t : Told) (file bytes : List ℕ) → t ≡ Content file → IsRead t bytes → bytes ≡ file
read_told t file bytes e read =
    let P : Told → Type 0 = λ u. IsRead u bytes in
    let known : IsRead (Content file) bytes = subst P e read in
    known.whole

-- ---- no other fault

config_inside : (threads : ℕ) (told : List ℕ → Told) (t : Told) (file : List ℕ) (why : ConfigureError) → t ≡ Content file → ConfiguresAnyhow threads told file → IsOutside threads told t why → why ≡ config_nos.OutOfMemory
config_inside threads told t file why e means out =
    let P : List ℕ → Type 0 = λ bytes. ConfigureCause threads told bytes why in
    nothing_wrong (IsRefused threads told) file means.commands means.asks (λ index code. not_refused threads told means.commands index code means.made) why
    (subst P (read_told t file out.bytes e out.read) out.outside)

-- a fault of a configuration's bytes isn't out of memory
pub text_is_no_memory : config_nos.Text ≡ config_nos.OutOfMemory → ⊥
text_is_no_memory e = cc

pub shape_is_no_memory : (place : ℕ) → config_nos.Shape place ≡ config_nos.OutOfMemory → ⊥
shape_is_no_memory place e = cc

pub method_is_no_memory : (index : ℕ) (code : ℤ) → config_nos.Method index code ≡ config_nos.OutOfMemory → ⊥
method_is_no_memory index code e = cc

pub not_too_long : (t : Told) (file : List ℕ) → t ≡ Content file → length file ≤ max_file → IsTooLong t → ⊥
not_too_long t file e short long =
    let above : max_file < length file = subst IsTooLong e long in
    omega arith

-- no line of a script in the grammar is the first outside
none_outside : (threads : ℕ) (bytes : List ℕ) (scripts : List Script) (line : ℕ) → scripts_of threads bytes ≡ Some scripts → IsFirstOutside threads bytes line → ⊥
none_outside threads bytes scripts line mean first =
    let lines : List (List ℕ) = text_lines bytes in
    let parted : commands_of threads (take line lines ++ drop line lines) ≡ commands_of threads lines = ap (commands_of threads) (take-append-drop line lines) in
    let none : commands_of threads lines ≡ None =
    sym parted
    ∙ from-append threads (Some []) 1 (take line lines) (drop line lines)
    ∙ ap (λ s. commands_from threads s (1 + length (take line lines)) (drop line lines)) first.outside
    ∙ from-none threads (1 + length (take line lines)) (drop line lines) in
    let both : Some scripts ≡ None = sym mean ∙ ap (option_map (λ commands. scripts_below commands threads)) none in
    absurd (cc)

pub script_inside : (threads : ℕ) (t : Told) (file : List ℕ) (scripts : List Script) (line : ℕ) → t ≡ Content file → scripts_of threads file ≡ Some scripts → IsNoText threads t line → ⊥
script_inside threads t file scripts line e mean out =
    let P : List ℕ → Type 0 = λ bytes. IsFirstOutside threads bytes line in
    none_outside threads file scripts line mean (subst P (read_told t file out.bytes e out.read) out.outside)

module _ (asked : Arguments) (old new : HostState) (before after : SinkState) (form : AreFilesInForm asked old) (quiet : NothingFails old new before after) where
  -- neither of the two files is too long
  none_too_long : (name : List ℕ) → IsDue old asked.config asked.jobs asked.playing.threads name → IsTooLong (old.told name) → ⊥
  none_too_long name (inl e) long = not_too_long (old.told name) form.config (ap old.told e ∙ form.config_told) form.config_short long
  none_too_long name (inr due) long = not_too_long (old.told name) form.jobs (ap old.told due.0 ∙ form.jobs_told) form.jobs_short long

  -- nothing is wrong with the bytes of the configuration
  config_gives_none : (why : ConfigureError) → IsOutside asked.playing.threads old.told (old.told asked.config) why → why ≡ config_nos.OutOfMemory
  config_gives_none why out = config_inside asked.playing.threads old.told (old.told asked.config) form.config why form.config_told form.config_means out

  -- nor with those of the script
  script_gives_none : (line : ℕ) → IsNoText asked.playing.threads (old.told asked.jobs) line → ⊥
  script_gives_none line out = script_inside asked.playing.threads (old.told asked.jobs) form.jobs form.scripts line form.jobs_told form.jobs_mean out

  -- neither file gives a fault
  pub file_gives_none : (fault : Fault) → FileCause old new asked.config asked.jobs asked.playing.threads fault → fault ≡ faults.OutOfMemory
  file_gives_none faults.Usage cause = absurd cause
  file_gives_none (faults.NoFile name) cause = absurd (quiet.files (string_bytes name) cause.2)
  file_gives_none (faults.TooLong name) cause = absurd (none_too_long (string_bytes name) cause.0 cause.1)
  file_gives_none (faults.ReadFault name) cause = absurd (quiet.host (string_bytes name) cause.1)
  file_gives_none faults.WriteFault cause = absurd cause
  file_gives_none faults.ConfigText cause = absurd (text_is_no_memory (config_gives_none config_nos.Text cause))
  file_gives_none (faults.ConfigShape place) cause = absurd (shape_is_no_memory place (config_gives_none (config_nos.Shape place) cause))
  file_gives_none (faults.Method index code) cause = absurd (method_is_no_memory index code (config_gives_none (config_nos.Method index code) cause))
  file_gives_none (faults.JobText line) cause = absurd (script_gives_none line cause.1)
  file_gives_none faults.OutOfMemory cause = refl

-- words that are in the grammar are no usage fault
pub not_usage : (words : List (List ℕ)) (asked : Asked) → asked_of words ≡ Some asked → asked_of words ≡ None → ⊥
not_usage words asked named none =
    let both : Some asked ≡ None = sym named ∙ none in
    absurd (cc)

module _ (words : List (List ℕ)) (old new : HostState) (before after : SinkState) (form : AreInForm words old) (quiet : NothingFails old new before after) where
  -- files of which this fault is known are in form
  in_form : (asked : Asked) (named : Arguments) → Some asked ≡ Some (Run named) → IsAskedInForm asked old → AreFilesInForm named old
  in_form asked named both files =
      let same : asked ≡ Run named = cc in
      subst (λ (a : Asked). IsAskedInForm a old) same files

  of_files : (named : Arguments) (fault : Fault) → asked_of words ≡ Some (Run named) → FileCause old new named.config named.jobs named.playing.threads fault → fault ≡ faults.OutOfMemory
  of_files named fault is cause =
      file_gives_none named old new before after (in_form form.asked named (sym form.named ∙ is) form.files) quiet fault cause

  -- the cause of a fault is out of memory
  pub only_memory : (range : Option Moments) (fault : Fault) → Cause range words old new before after fault → fault ≡ faults.OutOfMemory
  only_memory range faults.Usage cause = absurd (not_usage words form.asked form.named cause)
  only_memory range (faults.NoFile name) cause = of_files cause.arguments (faults.NoFile name) cause.named cause.of_file
  only_memory range (faults.TooLong name) cause = of_files cause.arguments (faults.TooLong name) cause.named cause.of_file
  only_memory range (faults.ReadFault name) cause = of_files cause.arguments (faults.ReadFault name) cause.named cause.of_file
  only_memory range faults.WriteFault cause = absurd (quiet.output cause.failed)
  only_memory range faults.ConfigText cause = of_files cause.arguments faults.ConfigText cause.named cause.of_file
  only_memory range (faults.ConfigShape place) cause = of_files cause.arguments (faults.ConfigShape place) cause.named cause.of_file
  only_memory range (faults.Method index code) cause = of_files cause.arguments (faults.Method index code) cause.named cause.of_file
  only_memory range (faults.JobText line) cause = of_files cause.arguments (faults.JobText line) cause.named cause.of_file
  only_memory range faults.OutOfMemory cause = refl
