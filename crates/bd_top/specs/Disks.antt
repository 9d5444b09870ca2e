-- The disks that a configuration's commands open, and how many blocks they may have.
use Rattle.std.specs.Prelude.{◌≡◌, ℕ, ◌/◌, ◌⊎◌, List, [], ◌∷◌, length, Option, None, Some}
use Rattle.bd_building.specs.Disks.{DiskFile, file_of, other_disks}
use Rattle.bd_config.specs.declared.command.Command.{Command}
use Rattle.bd_outside.specs.File.{Told, Untold, NoFile, Content}

-- a disk of blocks of this size over a file may have this number of blocks: the whole ones of the file, where the host tells it
abbrev pub MayHave : Told → ℕ → ℕ → Type 0
MayHave Untold size blocks = Unit {0}
MayHave NoFile size blocks = Unit {0}
MayHave (Content file) size blocks = blocks ≡ length file / size

-- the disk of a command that opens this file may have this number of blocks; 0 where it opens none
abbrev pub MayGive : (List ℕ → Told) → Option DiskFile → ℕ → Type 0
MayGive told None blocks = blocks ≡ 0
MayGive told (Some file) blocks = MayHave (told file.name) file.size blocks

-- the first of these disks may be that of a command which opens this file
abbrev pub BeginsWith : (List ℕ → Told) → Option DiskFile → List ℕ → Type 0
BeginsWith told None disks = Unit {0}
BeginsWith told (Some file) [] = ⊥
BeginsWith told (Some file) (blocks ∷ disks) = MayHave (told file.name) file.size blocks

-- the disks that these commands open may have these blocks, in order, by what the host tells of their files
abbrev pub AreDisksOf : (List ℕ → Told) → List Command → List ℕ → Type 0
AreDisksOf told [] disks = disks ≡ []
AreDisksOf told (command ∷ commands) disks = BeginsWith told (file_of command) disks × AreDisksOf told commands (other_disks (file_of command) disks)

-- the file has this name
abbrev pub IsNamed : Option DiskFile → List ℕ → Type 0
IsNamed None name = ⊥
IsNamed (Some file) name = name ≡ file.name

-- one of these commands opens the file of this name
abbrev pub Opens : List Command → List ℕ → Type 0
Opens [] name = ⊥
Opens (command ∷ commands) name = IsNamed (file_of command) name ⊎ Opens commands name
