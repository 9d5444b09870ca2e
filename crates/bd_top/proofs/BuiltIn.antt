-- The built-in configuration is read as what it is meant to be, and makes its devices.
use Rattle.std.proofs.Common.{◌≡◌, ◌∙◌, ℕ, inl, inr, List, [], ◌∷◌, Option, None, Some, codes, string_bytes, ap, subst, sym, refl}
use Rattle.std.specs.Prelude.{ℤ, Result, Ok, Err}
use Rattle.serde_json.specs.Data.{Data, null}
use Rattle.serde_json.specs.Read.{read}
use Rattle.serde_json.proofs.OnLiterals.{serde_json_on_literals}
use Rattle.bd_base.specs.declared.request.Errno.{Errno}
use Rattle.bd_building.specs.Progress.{Progress, configured, nothing_yet}
use Rattle.bd_config.specs.Config.{IsConfig, HasShape, AsksFor}
use Rattle.bd_config.proofs.Exact.{config_once}
use Rattle.bd_config.specs.Shape.{subsystems_of}
use Rattle.bd_config.specs.declared.command.Command.{Command}
use Rattle.bd_config.specs.declared.command.Command.TheVariants.{Malloc, Passthru}
use Rattle.bd_outside.specs.File.{Told}
use Rattle.bd_outside.specs.Host.{HostState}
use Rattle.bd_top.specs.declared.configure.ConfigureError.{ConfigureError}
use Rattle.bd_top.specs.declared.configure.ConfigureError.TheVariants.{OutOfMemory, Text, Shape, Method}
use Rattle.bd_top.specs.declared.fault.Fault.{Fault}
use Rattle.bd_top.specs.declared.fault.Fault.TheVariants as faults
use Rattle.bd_top.specs.Configure.{CommandsCause, Configures, IsRefused}
use Rattle.bd_top.specs.Disks.{AreDisksOf, Opens}
use Rattle.bd_top.specs.Opening.{AreDone, DoingCause}
use Rattle.bd_top.specs.Exercise.{built_in}
use Rattle.bd_top.proofs.ConfigureLemmas.{cause_by, nothing_wrong}
use Rattle.bd_top.proofs.NoDisks.{kinds_fine, AreNoneAio}
use Rattle.bd_top.proofs.InForm.{text_is_no_memory, shape_is_no_memory, method_is_no_memory}

-- a device M in memory, and a passthru P over it
abbrev commands : List Command
commands = Malloc (codes "M") 1024 512 0 128 ∷ Passthru (codes "M") (codes "P") ∷ []

abbrev value_or : Option Data → Data
value_or None = null
value_or (Some value) = value

abbrev value : Data
value = value_or (read built_in)

abbrev subsystems_or : Option (List Data) → List Data
subsystems_or None = []
subsystems_or (Some subsystems) = subsystems

abbrev subsystems : List Data
subsystems = subsystems_or (subsystems_of value)

reads : read built_in ≡ Some value
unfolding serde_json_on_literals
reads = refl

shape : HasShape value subsystems
unfolding serde_json_on_literals
shape = record { found = refl; each = refl }

asks : AsksFor value commands
unfolding serde_json_on_literals
asks = record { subsystems = subsystems; shape = shape; each = refl }

is_config : IsConfig built_in commands
unfolding serde_json_on_literals
is_config = record { value = value; json = record { utf8 = (built_in, (refl, refl)); reads = reads }; asks = asks }

abbrev devices_or : Progress → Result Progress (ℕ × Errno) → Progress
devices_or other (Ok devices) = devices
devices_or other (Err refusal) = other

abbrev devices : ℕ → Progress
devices threads = devices_or (nothing_yet threads) (configured threads commands [])

made : (threads : ℕ) → configured threads commands [] ≡ Ok (devices threads)
made threads = refl

-- no command is refused: none is done yet
abbrev NotRefused : List Command → ℕ → ℤ → Type 0
NotRefused _ _ _ = ⊥

never : (index : ℕ) (code : ℤ) → NotRefused commands index code → ⊥
never index code refused = refused

-- nothing but want of memory keeps it from being read as its commands
pub nothing_wrong_with_it : (why : ConfigureError) → CommandsCause built_in why → why ≡ OutOfMemory
nothing_wrong_with_it why cause = nothing_wrong NotRefused built_in commands is_config never why (cause_by NotRefused built_in why cause)

pub is_text : CommandsCause built_in Text → ⊥
is_text cause = text_is_no_memory (nothing_wrong_with_it Text cause)

pub has_shape : (place : ℕ) → CommandsCause built_in (Shape place) → ⊥
has_shape place cause = shape_is_no_memory place (nothing_wrong_with_it (Shape place) cause)

pub has_commands : (index : ℕ) (code : ℤ) → CommandsCause built_in (Method index code) → ⊥
has_commands index code cause = method_is_no_memory index code (nothing_wrong_with_it (Method index code) cause)

-- ---- its commands

no_disks : (told : List ℕ → Told) (disks : List ℕ) → AreDisksOf told commands disks → disks ≡ []
no_disks told disks are = are.1.1

-- its commands open no file, and make the devices
pub makes : (told : List ℕ → Told) (threads : ℕ) (read : List Command) (devices : Progress) → IsConfig built_in read → AreDone told threads read devices → Configures threads built_in [] devices
makes told threads read devices asks done =
    let same : read ≡ commands = config_once built_in read commands asks is_config in
    let are : AreDisksOf told commands done.disks = subst (λ (cs : List Command). AreDisksOf told cs done.disks) same done.may in
    record {
      commands = read;
      asks = asks;
      made = ap (configured threads read) (sym (no_disks told done.disks are)) ∙ done.is;
    }

-- none of its devices is an aio device
pub none_aio : (threads : ℕ) (other : Progress) → Configures threads built_in [] other → AreNoneAio other.setup.devices
none_aio threads other is =
    let same : is.commands ≡ commands = config_once built_in is.commands commands is.asks is_config in
    let both : ◌≡◌ {A = Result Progress (ℕ × Errno)} (Ok (devices threads)) (Ok other) = sym (made threads) ∙ ap (λ (cs : List Command). configured threads cs []) (sym same) ∙ is.made in
    let one : devices threads ≡ other = ap (devices_or other) both in
    subst (λ (d : Progress). AreNoneAio d.setup.devices) one (kinds_fine (devices threads).setup.devices (refl, (refl, tt)))

refused_never : (told : List ℕ → Told) (threads index : ℕ) (code : ℤ) → IsRefused threads told commands index code → ⊥
refused_never told threads index code is =
    let none : is.disks ≡ [] = no_disks told is.disks is.may in
    let both : ◌≡◌ {A = Result Progress (ℕ × Errno)} (Ok (devices threads)) (Err (index, is.errno)) = sym (made threads) ∙ ap (configured threads commands) (sym none) ∙ is.first in
    absurd (cc)

opens_none : (name : List ℕ) → Opens commands name → ⊥
opens_none name (inl is) = is
opens_none name (inr (inl is)) = is
opens_none name (inr (inr is)) = is

module _ (old new : HostState) (threads : ℕ) where
  only_memory_of : (fault : Fault) → DoingCause old new (Opens commands) (IsRefused threads old.told commands) fault → fault ≡ faults.OutOfMemory
  only_memory_of faults.Usage cause = absurd cause
  only_memory_of (faults.NoFile name) cause = absurd (opens_none (string_bytes name) cause.0)
  only_memory_of (faults.TooLong name) cause = absurd cause
  only_memory_of (faults.ReadFault name) cause = absurd (opens_none (string_bytes name) cause.0)
  only_memory_of faults.ConfigText cause = absurd cause
  only_memory_of (faults.ConfigShape place) cause = absurd cause
  only_memory_of (faults.Method index code) cause = absurd (refused_never old.told threads index code cause)
  only_memory_of (faults.JobText line) cause = absurd cause
  only_memory_of faults.WriteFault cause = absurd cause
  only_memory_of faults.OutOfMemory cause = refl

  -- nothing but want of memory keeps them from being done
  pub is_done : (read : List Command) (fault : Fault) → IsConfig built_in read → DoingCause old new (Opens read) (IsRefused threads old.told read) fault → fault ≡ faults.OutOfMemory
  is_done read fault asks cause =
      let P : List Command → Type 0 = λ cs. DoingCause old new (Opens cs) (IsRefused threads old.told cs) fault in
      only_memory_of fault (subst P (config_once built_in read commands asks is_config) cause)
