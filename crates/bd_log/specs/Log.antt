-- A thread's log.
use Rattle.std.specs.Prelude.{◌≡◌, ℕ, ◌+◌, ◌<◌, ◌≤◌, List, [], ◌∷◌, length}
use Rattle.std.specs.List.{AllByRecursion}
use Rattle.bd_base.specs.declared.act.Act.{Act}
use Rattle.bd_base.specs.declared.act.Entry.{Entry}
use Rattle.bd_log.specs.declared.log.LogError.{LogError}
use Rattle.bd_log.specs.declared.log.LogError.TheVariants.{OutOfMemory, StampsSpent}
use Rattle.bd_log.specs.Merge.{Part, IsPart}

pub record Written : Type 0 where
  pub thread : ℕ
  -- those that were not handed out
  pub entries : List Entry
  -- the greatest stamp that was pushed or met, 0 at first
  pub last : ℕ
  -- how many entries there is memory for
  pub capacity : ℕ

-- no stamp is above the last
abbrev pub IsWithin : ℕ → List Entry → Type 0
IsWithin last entries = AllByRecursion (λ x. x.stamp ≤ last) entries

-- what holds of every log
abbrev pub IsLog : ℕ → ℕ → List Entry → Type 0
IsLog thread last entries = IsPart (record { thread = thread; entries = entries }) × IsWithin last entries

-- the log as one part
abbrev pub log_part : Written → Part
log_part log = record { thread = log.thread; entries = log.entries }

-- the entry that a push makes
abbrev pub entry_of : Written → Act → Entry
entry_of log act = record { stamp = log.last + 1; thread = log.thread; act = act }

-- why a push is refused: the room is spent, or the last stamp is the greatest number
abbrev pub IsCause : LogError → Written → Type 0
IsCause OutOfMemory log = log.capacity ≤ length log.entries
IsCause (StampsSpent n) log = (n ≡ log.last) × (log.last ≡ 340282366920938463463374607431768211455)

-- the acts of these entries as entries of a thread, with the stamps after this one
abbrev pub stamped : ℕ → ℕ → List Entry → List Entry
stamped thread last [] = []
stamped thread last (x ∷ xs) = record { stamp = last + 1; thread = thread; act = x.act } ∷ stamped thread (last + 1) xs

-- why a push of so many is refused: the room doesn't suffice, or they would pass the greatest stamp
abbrev pub IsCauseOfMany : LogError → Written → ℕ → Type 0
IsCauseOfMany OutOfMemory log count = log.capacity < length log.entries + count
IsCauseOfMany (StampsSpent n) log count = (n ≡ log.last) × (340282366920938463463374607431768211455 < log.last + count)
