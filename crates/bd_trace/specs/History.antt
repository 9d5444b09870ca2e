-- The text of a history.
use Rattle.std.specs.Prelude.{ℕ, List, ◌++◌, length, codes, decimal, flat_map}
use Rattle.bd_base.specs.declared.act.Entry.{Entry}
use Rattle.bd_trace.specs.Acts.{act_words}

-- an entry's line: its stamp, its thread and its act
unfoldable pub entry_line : Entry → List ℕ
entry_line entry = decimal entry.stamp ++ codes " " ++ decimal entry.thread ++ codes " " ++ act_words entry.act ++ codes "\n"

-- the first line: how many entries follow
abbrev pub head_line : ℕ → List ℕ
head_line entries = codes "history" ++ codes " " ++ decimal entries ++ codes "\n"

-- how many entries a history has, and then each, in their order
abbrev pub history_text : List Entry → List ℕ
history_text entries = head_line (length entries) ++ flat_map entry_line entries
