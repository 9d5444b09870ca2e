-- The list of entries, after one more.
use Rattle.std.proofs.Common.{◌≡◌, ℕ, ◌+◌, List, [], ◌∷◌, length}
use Rattle.std.proofs.lemmas.List.{length-append}
use Rattle.bd_base.specs.declared.act.Act.{Act}
use Rattle.bd_base.specs.declared.act.Entry.{Entry}
use Rattle.bd_links.specs.Entries.{entry_at, longer}

pub length-longer : (n : ℕ) (es : List Entry) (act : Act) → length (longer n es act) ≡ length es + 1
length-longer n es act = length-append es (entry_at n (length es + 1) act ∷ [])
