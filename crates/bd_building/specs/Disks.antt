-- Which commands open a file as a disk, and how many blocks each disk has.
use Rattle.std.specs.Prelude.{ℕ, List, [], ◌∷◌, Option, None, Some}
use Rattle.bd_config.specs.declared.command.Command.{Command}
use Rattle.bd_config.specs.declared.command.Command.TheVariants as commands

-- a file that is opened as a disk of blocks of this many bytes
pub record DiskFile : Type 0 where
  pub name : List ℕ
  pub size : ℕ

-- the file that a command opens
abbrev pub file_of : Command → Option DiskFile
file_of (commands.Aio name file size depth) = Some (record { name = file; size = size })
file_of _ = None

-- the blocks of the disk of a command that opens this file, the first of disks with these blocks; 0 where it opens none
abbrev pub own_blocks : Option DiskFile → List ℕ → ℕ
own_blocks None disks = 0
own_blocks (Some file) [] = 0
own_blocks (Some file) (blocks ∷ disks) = blocks

-- the disks of the commands after it
abbrev pub other_disks : Option DiskFile → List ℕ → List ℕ
other_disks None disks = disks
other_disks (Some file) [] = []
other_disks (Some file) (blocks ∷ disks) = disks
