-- The list of entries, to which every thread adds.
use Rattle.std.specs.Prelude.{ℕ, ◌+◌, nat_lt, cond, List, [], ◌∷◌, ◌++◌, length}
use Rattle.bd_base.specs.declared.act.Act.{Act}
use Rattle.bd_base.specs.declared.act.Entry.{Entry}

-- the entry of a thread with this stamp
abbrev pub entry_at : ℕ → ℕ → Act → Entry
entry_at thread stamp act = record { stamp = stamp; thread = thread; act = act }

-- the list with one act more, by the next stamp
abbrev pub longer : ℕ → List Entry → Act → List Entry
longer thread entries act = entries ++ entry_at thread (length entries + 1) act ∷ []

-- one above as many entries as these and above another stamp
abbrev pub next_stamp : ℕ → ℕ → ℕ
next_stamp count last = cond (nat_lt count last) last count + 1
