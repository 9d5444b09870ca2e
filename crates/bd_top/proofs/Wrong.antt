-- Where one thing is wrong with two files and nothing fails, a run answers it unless it is out of memory.
use Rattle.std.proofs.Common.{◌≡◌, ℕ, ◌+◌, ◌-◌, ◌≤◌, ◌<◌, Bool, true, false, nat_le, ◌⊎◌, inl, inr, List, [], ◌∷◌, ◌++◌, length, take, drop, Option, None, Some, refl, sym, ◌∙◌, ap, subst, arith, string_bytes}
use Rattle.std.specs.Prelude.{Result, Ok, Err, IfErr, MatchResult}
use Rattle.std.specs.Result.{IsErr}
use Rattle.std.proofs.lemmas.Bool.Decides.{nat_tests}
use Rattle.std.proofs.lemmas.List.{take-append-drop, take-take}
use Rattle.bd_base.specs.declared.act.Entry.{Entry}
use Rattle.bd_config.specs.Config.{IsConfig}
use Rattle.bd_jobs.specs.ScriptGrammar.{commands_from, commands_of, scripts_of, IsFirstOutside, text_lines}
use Rattle.bd_jobs.proofs.ReadLemmas.{from-append, from-none}
use Rattle.bd_outside.specs.Clock.{Moments}
use Rattle.bd_outside.specs.File.{Told, Content}
use Rattle.bd_outside.specs.Host.{HostState}
use Rattle.bd_outside.specs.Sink.{SinkState}
use Rattle.bd_building.specs.Progress.{Progress}
use Rattle.bd_top.specs.declared.configure.ConfigureError.{ConfigureError}
use Rattle.bd_top.specs.declared.configure.ConfigureError.TheVariants as config_nos
use Rattle.bd_top.specs.declared.fault.Fault.{Fault}
use Rattle.bd_top.specs.declared.fault.Fault.TheVariants as faults
use Rattle.bd_top.specs.Configure.{ConfigureCause, ConfigureCauseAnyhow, IsRefused, IsRefusedAnyhow}
use Rattle.bd_top.specs.Fault.{config_fault}
use Rattle.bd_top.specs.Files.{IsTooLong}
use Rattle.bd_top.specs.Run.{AreFilesPlayed, Cause, FileCause, IsConfigWrong, IsConfigured, IsDevices, IsDone, IsDue, IsMeant, IsNoText, IsOutside, IsScriptWrong, IsWrong, NothingFails}
use Rattle.bd_top.specs.Words.{Arguments, Asked, Run, asked_of}
use Rattle.bd_top.proofs.ConfigureLemmas.{nothing_wrong, not_refused, not_refused_anyhow}
use Rattle.bd_top.proofs.InForm.{not_usage, read_told, not_too_long, script_inside, text_is_no_memory, shape_is_no_memory, method_is_no_memory}
use Rattle.bd_top.proofs.OneCause.{one_cause, refused_once}

-- an error, of which this is known
pub of_error : {T E : Type 0} (Q : T → Type 0) (P : E → Type 0) (r : Result T E) → IsErr r → IfErr r P → MatchResult r Q P
of_error Q P (Ok x) is h = absurd (cc)
of_error Q P (Err e) is h = h

-- ---- one line of a script

-- lines outside the grammar stay outside with more lines after them
outside_further : (threads m k : ℕ) (lines : List (List ℕ)) → m ≤ k → commands_of threads (take m lines) ≡ None → commands_of threads (take k lines) ≡ None
outside_further threads m k lines le none =
    let first : List (List ℕ) = take m (take k lines) in
    let same : first ≡ take m lines = take-take m k lines le in
    let parted : commands_of threads (first ++ drop m (take k lines)) ≡ commands_of threads (take k lines) = ap (commands_of threads) (take-append-drop m (take k lines)) in
    sym parted
    ∙ from-append threads (Some []) 1 first (drop m (take k lines))
    ∙ ap (λ s. commands_from threads s (1 + length first) (drop m (take k lines))) (ap (commands_of threads) same ∙ none)
    ∙ from-none threads (1 + length first) (drop m (take k lines))

not_outside_before : (threads m n : ℕ) (bytes : List ℕ) → m < n → IsFirstOutside threads bytes m → IsFirstOutside threads bytes n → ⊥
not_outside_before threads m n bytes lt p q =
    let none : commands_of threads (take (n - 1) (text_lines bytes)) ≡ None = outside_further threads m (n - 1) (text_lines bytes) (omega arith) p.outside in
    let both : None ≡ Some q.before.0 = sym none ∙ q.before.1 in
    absurd (cc)

outside_once : (threads m n : ℕ) (bytes : List ℕ) → IsFirstOutside threads bytes m → IsFirstOutside threads bytes n → m ≡ n
outside_once threads m n bytes p q = go (nat_le m n) (nat_le n m) refl refl
  where
    go : (a b : Bool) → nat_le m n ≡ a → nat_le n m ≡ b → m ≡ n
    go true true e f = grind (arith, nat_tests, e, f)
    go true false e f = absurd (not_outside_before threads m n bytes (grind (arith, nat_tests, e, f)) p q)
    go false b e f = absurd (not_outside_before threads n m bytes (grind (arith, nat_tests, e, f)) q p)

text_once : (threads m n : ℕ) (t : Told) (file : List ℕ) → t ≡ Content file → IsNoText threads t m → IsNoText threads t n → m ≡ n
text_once threads m n t file e p q =
    let same : p.bytes ≡ q.bytes = read_told t file p.bytes e p.read ∙ sym (read_told t file q.bytes e q.read) in
    outside_once threads m n p.bytes p.outside (subst (λ (bytes : List ℕ). IsFirstOutside threads bytes n) (sym same) q.outside)

-- ---- one thing

same_fault : (threads : ℕ) (told : List ℕ → Told) (config : List ℕ) (why given : ConfigureError) → ConfigureCauseAnyhow threads told config why → ¬ (why ≡ config_nos.OutOfMemory) → ConfigureCause threads told config given
    → (config_fault given ≡ config_fault why) ⊎ (config_fault given ≡ faults.OutOfMemory)
same_fault threads told config why given cause known other = go (one_cause (IsRefusedAnyhow threads told) (IsRefused threads told) (refused_once threads told) config why given cause other)
  where
    go : (why ≡ given) ⊎ ((why ≡ config_nos.OutOfMemory) ⊎ (given ≡ config_nos.OutOfMemory)) → (config_fault given ≡ config_fault why) ⊎ (config_fault given ≡ faults.OutOfMemory)
    go (inl e) = inl (sym (ap config_fault e))
    go (inr (inl e)) = absurd (known e)
    go (inr (inr e)) = inr (ap config_fault e)

outside_bytes : (threads : ℕ) (told : List ℕ → Told) (t : Told) (config : List ℕ) (why : ConfigureError) → t ≡ Content config → IsOutside threads told t why → ConfigureCause threads told config why
outside_bytes threads told t config why e out = subst (λ (bytes : List ℕ). ConfigureCause threads told bytes why) (read_told t config out.bytes e out.read) out.outside

module _ (words : List (List ℕ)) (host : HostState) (fault : Fault) (wrong : IsWrong words host fault) where
  abbrev threads : ℕ
  threads = wrong.arguments.playing.threads

  abbrev config_told : Told
  config_told = host.told wrong.arguments.config

  abbrev jobs_told : Told
  jobs_told = host.told wrong.arguments.jobs

  -- a configuration that makes devices isn't what is wrong
  no_devices : (devices : Progress) → IsConfigWrong threads host.told wrong.config fault → IsDevices threads host.told config_told devices → ⊥
  no_devices devices bad is =
      let P : List ℕ → Type 0 = λ bytes. IsConfig bytes is.means.commands in
      bad.known
      (nothing_wrong (IsRefusedAnyhow threads host.told) wrong.config is.means.commands (subst P (read_told config_told wrong.config is.bytes wrong.told is.read) is.means.asks)
      (λ index code. not_refused_anyhow threads host.told is.means.commands index code is.disks devices is.opened is.means.made) bad.why bad.cause)

  -- of a configuration that makes devices the bytes have no cause
  no_cause : (why : ConfigureError) → IsScriptWrong threads host.told wrong.config jobs_told fault → IsOutside threads host.told config_told why → why ≡ config_nos.OutOfMemory
  no_cause why bad out =
      nothing_wrong (IsRefused threads host.told) wrong.config bad.means.commands bad.means.asks
      (λ index code. not_refused threads host.told bad.means.commands index code bad.means.made) why (outside_bytes threads host.told config_told wrong.config why wrong.told out)

  of_config : (given : ConfigureError) → (given ≡ config_nos.OutOfMemory → ⊥) → IsOutside threads host.told config_told given → config_fault given ≡ fault
  of_config given some out = go wrong.wrong
    where
      one : (bad : IsConfigWrong threads host.told wrong.config fault) → (config_fault given ≡ config_fault bad.why) ⊎ (config_fault given ≡ faults.OutOfMemory) → config_fault given ≡ fault
      one bad (inl e) = e ∙ sym bad.is
      one bad (inr e) = absurd (some (memory given e))
        where
          memory : (why : ConfigureError) → config_fault why ≡ faults.OutOfMemory → why ≡ config_nos.OutOfMemory
          memory config_nos.OutOfMemory e = refl
          memory config_nos.Text e = absurd (cc)
          memory (config_nos.Shape place) e = absurd (cc)
          memory (config_nos.Method index code) e = absurd (cc)

      go : IsConfigWrong threads host.told wrong.config fault ⊎ IsScriptWrong threads host.told wrong.config jobs_told fault → config_fault given ≡ fault
      go (inl bad) = one bad (same_fault threads host.told wrong.config bad.why given bad.cause bad.known (outside_bytes threads host.told config_told wrong.config given wrong.told out))
      go (inr bad) = absurd (some (no_cause given bad out))

  of_script : (line : ℕ) → IsConfigured threads host.told config_told → IsNoText threads jobs_told line → faults.JobText line ≡ fault
  of_script line made outside = go wrong.wrong
    where
      go : IsConfigWrong threads host.told wrong.config fault ⊎ IsScriptWrong threads host.told wrong.config jobs_told fault → faults.JobText line ≡ fault
      go (inl bad) = absurd (no_devices made.0 bad made.1)
      go (inr bad) = ap faults.JobText (text_once threads line bad.line jobs_told bad.bytes bad.told_jobs outside bad.first) ∙ sym bad.is

  too_long : (name : List ℕ) → IsDue host wrong.arguments.config wrong.arguments.jobs threads name → IsTooLong (host.told name) → ⊥
  too_long name (inl e) long = not_too_long (host.told name) wrong.config (ap host.told e ∙ wrong.told) wrong.short long
  too_long name (inr due) long = go wrong.wrong
    where
      go : IsConfigWrong threads host.told wrong.config fault ⊎ IsScriptWrong threads host.told wrong.config jobs_told fault → ⊥
      go (inl bad) = no_devices due.1.0 bad due.1.1
      go (inr bad) = not_too_long (host.told name) bad.bytes (ap host.told due.0 ∙ bad.told_jobs) bad.short long

  module _ (new : HostState) (before after : SinkState) (quiet : NothingFails host new before after) where
    of_file : (given : Fault) → FileCause host new wrong.arguments.config wrong.arguments.jobs threads given → (given ≡ fault) ⊎ (given ≡ faults.OutOfMemory)
    of_file faults.Usage cause = absurd cause
    of_file (faults.NoFile name) cause = absurd (quiet.files (string_bytes name) cause.2)
    of_file (faults.TooLong name) cause = absurd (too_long (string_bytes name) cause.0 cause.1)
    of_file (faults.ReadFault name) cause = absurd (quiet.host (string_bytes name) cause.1)
    of_file faults.ConfigText cause = inl (of_config config_nos.Text text_is_no_memory cause)
    of_file (faults.ConfigShape place) cause = inl (of_config (config_nos.Shape place) (shape_is_no_memory place) cause)
    of_file (faults.Method index code) cause = inl (of_config (config_nos.Method index code) (method_is_no_memory index code) cause)
    of_file (faults.JobText line) cause = inl (of_script line cause.0 cause.1)
    of_file faults.WriteFault cause = absurd cause
    of_file faults.OutOfMemory cause = inr refl

    same_arguments : (named : Arguments) → asked_of words ≡ Some (Run named) → named ≡ wrong.arguments
    same_arguments named is =
        let both : Some (Run named) ≡ Some (Run wrong.arguments) = sym is ∙ wrong.named in
        cc

    of_files : (named : Arguments) (given : Fault) → asked_of words ≡ Some (Run named) → FileCause host new named.config named.jobs named.playing.threads given → (given ≡ fault) ⊎ (given ≡ faults.OutOfMemory)
    of_files named given is cause = of_file given (subst (λ (a : Arguments). FileCause host new a.config a.jobs a.playing.threads given) (same_arguments named is) cause)

    -- the cause of the answer is that one thing, or out of memory
    pub only_this : (range : Option Moments) (given : Fault) → Cause range words host new before after given → (given ≡ fault) ⊎ (given ≡ faults.OutOfMemory)
    only_this range faults.Usage cause = absurd (not_usage words (Run wrong.arguments) wrong.named cause)
    only_this range (faults.NoFile name) cause = of_files cause.arguments (faults.NoFile name) cause.named cause.of_file
    only_this range (faults.TooLong name) cause = of_files cause.arguments (faults.TooLong name) cause.named cause.of_file
    only_this range (faults.ReadFault name) cause = of_files cause.arguments (faults.ReadFault name) cause.named cause.of_file
    only_this range faults.ConfigText cause = of_files cause.arguments faults.ConfigText cause.named cause.of_file
    only_this range (faults.ConfigShape place) cause = of_files cause.arguments (faults.ConfigShape place) cause.named cause.of_file
    only_this range (faults.Method index code) cause = of_files cause.arguments (faults.Method index code) cause.named cause.of_file
    only_this range (faults.JobText line) cause = of_files cause.arguments (faults.JobText line) cause.named cause.of_file
    only_this range faults.WriteFault cause = absurd (quiet.output cause.failed)
    only_this range faults.OutOfMemory cause = inr refl

    -- nor were the two files played
    not_played : (range : Option Moments) (trace : List Entry) (report : List ℕ) → AreFilesPlayed range wrong.arguments host new trace report → ⊥
    not_played range trace report played = go played.meant wrong.wrong
      where
        of_jobs : (bad : IsScriptWrong threads host.told wrong.config jobs_told fault) (setup : IsMeant threads host.told config_told jobs_told played.setup) → IsNoText threads jobs_told bad.line → ⊥
        of_jobs bad meant out = script_inside threads jobs_told bad.bytes meant.scripts bad.line bad.told_jobs
            (ap (scripts_of threads) (sym (read_told jobs_told bad.bytes meant.of_jobs.bytes bad.told_jobs meant.of_jobs.read)) ∙ meant.of_jobs.means) out

        go : IsMeant threads host.told config_told jobs_told played.setup → IsConfigWrong threads host.told wrong.config fault ⊎ IsScriptWrong threads host.told wrong.config jobs_told fault → ⊥
        go meant (inl bad) = no_devices meant.devices bad meant.of_config
        go meant (inr bad) = of_jobs bad meant bad.first

    -- so what is asked wasn't done
    pub not_done : (range : Option Moments) (asked : Asked) (trace : List Entry) (text : List ℕ) → asked_of words ≡ Some asked → IsDone range asked host new trace text → ⊥
    not_done range asked trace text named done =
        let both : Some asked ≡ Some (Run wrong.arguments) = sym named ∙ wrong.named in
        let same : asked ≡ Run wrong.arguments = cc in
        not_played range trace text (subst (λ (a : Asked). IsDone range a host new trace text) same done)
