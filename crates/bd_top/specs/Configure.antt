-- The devices that the bytes of a configuration make, or the first thing that is wrong with them.
use Rattle.std.specs.Prelude.{◌≡◌, ℕ, ℤ, ◌⊎◌, List, Ok, Err}
use Rattle.serde_json.specs.Data.{Data}
use Rattle.bd_base.specs.Errno.{number_of}
use Rattle.bd_base.specs.declared.request.Errno.{Errno}
use Rattle.bd_config.specs.Commands.{minus}
use Rattle.bd_config.specs.Config.{IsJson, IsConfig, IsShapeError, IsMethodError}
use Rattle.bd_config.specs.declared.command.Command.{Command}
use Rattle.bd_building.specs.Progress.{Progress, configured}
use Rattle.bd_outside.specs.File.{Told}
use Rattle.bd_top.specs.declared.configure.ConfigureError.{ConfigureError}
use Rattle.bd_top.specs.declared.configure.ConfigureError.TheVariants.{OutOfMemory, Text, Shape, Method}
use Rattle.bd_top.specs.Disks.{AreDisksOf}

-- the bytes are a configuration whose commands come to these devices where the disks that they open have these blocks, in order
pub record Configures (threads : ℕ) (bytes : List ℕ) (disks : List ℕ) (devices : Progress) : Type 0 where
  pub commands : List Command
  pub asks : IsConfig bytes commands
  pub made : configured threads commands disks ≡ Ok devices

-- the same, whatever blocks the disks may have by what the host tells of their files; the devices may differ by them
pub record ConfiguresAnyhow (threads : ℕ) (told : List ℕ → Told) (bytes : List ℕ) : Type 0 where
  pub commands : List Command
  pub asks : IsConfig bytes commands
  pub made : (disks : List ℕ) → AreDisksOf told commands disks → (devices : Progress) × (configured threads commands disks ≡ Ok devices)

-- the bytes are the text of no JSON value
abbrev pub IsNoJson : List ℕ → Type 0
IsNoJson bytes = (value : Data) → ¬ IsJson bytes value

-- ---- refused commands

-- of these commands the one of this index is the first that is refused as they are done, with the number of this errno below zero,
-- where their disks have blocks that they may have
pub record IsRefused (threads : ℕ) (told : List ℕ → Told) (commands : List Command) (index : ℕ) (code : ℤ) : Type 0 where
  pub disks : List ℕ
  pub may : AreDisksOf told commands disks
  pub errno : Errno
  pub first : configured threads commands disks ≡ Err (index, errno)
  pub is : code ≡ minus (number_of errno)

-- the same, whatever blocks their disks may have
pub record IsRefusedAnyhow (threads : ℕ) (told : List ℕ → Told) (commands : List Command) (index : ℕ) (code : ℤ) : Type 0 where
  pub errno : Errno
  pub first : (disks : List ℕ) → AreDisksOf told commands disks → configured threads commands disks ≡ Err (index, errno)
  pub is : code ≡ minus (number_of errno)

-- the bytes are a configuration, of whose commands this one is refused so
pub record IsUndone (Refused : List Command → ℕ → ℤ → Type 0) (bytes : List ℕ) (index : ℕ) (code : ℤ) : Type 0 where
  pub commands : List Command
  pub asks : IsConfig bytes commands
  pub why : Refused commands index code

-- ---- causes

-- why bytes ask for no commands; out of memory is the one free answer
abbrev pub CommandsCause : List ℕ → ConfigureError → Type 0
CommandsCause bytes OutOfMemory = Unit {0}
CommandsCause bytes Text = IsNoJson bytes
CommandsCause bytes (Shape place) = IsShapeError bytes place
CommandsCause bytes (Method index code) = IsMethodError bytes index code

-- why bytes configure no devices: no text; a wrong shape; the first command that can't be read; else the first that is refused so
abbrev pub CauseBy : (List Command → ℕ → ℤ → Type 0) → List ℕ → ConfigureError → Type 0
CauseBy Refused bytes OutOfMemory = Unit {0}
CauseBy Refused bytes Text = IsNoJson bytes
CauseBy Refused bytes (Shape place) = IsShapeError bytes place
CauseBy Refused bytes (Method index code) = IsMethodError bytes index code ⊎ IsUndone Refused bytes index code

-- why bytes configure no devices, where disks have blocks that they may have by what the host tells
abbrev pub ConfigureCause : ℕ → (List ℕ → Told) → List ℕ → ConfigureError → Type 0
ConfigureCause threads told bytes why = CauseBy (IsRefused threads told) bytes why

-- why they configure none, whatever blocks the disks may have
abbrev pub ConfigureCauseAnyhow : ℕ → (List ℕ → Told) → List ℕ → ConfigureError → Type 0
ConfigureCauseAnyhow threads told bytes why = CauseBy (IsRefusedAnyhow threads told) bytes why
