use Rattle.std.proofs.Common.{◌≡◌, drop}
use Rattle.bd_outside.specs.File.{file_of}
use Rattle.bd_outside.proofs.mem_host.find.Given as goal

abbrev pub invariant-loop-file : goal.invariant-loop-file
invariant-loop-file l = file_of l.name l.files ≡ file_of l.name (drop l.file-index l.files)
