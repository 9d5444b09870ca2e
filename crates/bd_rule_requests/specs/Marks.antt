-- The rows in which a thread keeps its marks.
use Rattle.std.specs.Prelude.{Bool, ◌&&◌, ◌||◌}
use Rattle.bd_base.specs.declared.dev_set.DevSet.{DevSet}
use Rattle.bd_base.specs.declared.id.DevId.{DevId}
use Rattle.bd_base.specs.DevSet.{has_dev}
use Rattle.bd_machine.specs.declared.state.FreezeMark.{FreezeMark}
use Rattle.bd_machine.specs.declared.state.Marking.{Marking}
use Rattle.bd_machine.specs.Marks.{is_hard_mark, is_soft_mark}

-- a freeze mark, hard or soft, or a removal mark is set
abbrev pub carries_any : Marking → Bool
carries_any mark = (is_hard_mark mark.frozen || is_soft_mark mark.frozen) || mark.removed

abbrev pub carries_mark : DevId × Marking → Bool
carries_mark row = carries_any row.1

-- this freeze mark of a device stops a request that is late for these devices
abbrev pub freezes : FreezeMark → DevSet → DevId → Bool
freezes frozen late dev = is_hard_mark frozen || (is_soft_mark frozen && has_dev late dev)
