-- References of a thread that a get changes.
use Rattle.std.specs.Prelude.{ℕ, Some}
use Rattle.bd_base.specs.declared.id.DevId.{DevId}
use Rattle.bd_machine.specs.Changes.{Count}

-- a channel that has so many references
abbrev pub count_of : DevId × ℕ → Count
count_of c = record { dev = c.0; count = Some c.1 }
