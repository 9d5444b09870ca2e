-- The words of a line for values that have a few cases.
use Rattle.std.specs.Prelude.{ℕ, Bool, true, false, List, codes}
use Rattle.bd_base.specs.declared.act.ApplyEnd.{ApplyEnd}
use Rattle.bd_base.specs.declared.act.ApplyEnd.TheVariants as ends
use Rattle.bd_base.specs.declared.event.Dropped.{Dropped}
use Rattle.bd_base.specs.declared.event.Dropped.TheVariants.{Kept, Gone, Last}
use Rattle.bd_base.specs.declared.request.Decision.{Decision}
use Rattle.bd_base.specs.declared.request.Decision.TheVariants.{Pass, Fail, Pend, Corrupt}
use Rattle.bd_base.specs.declared.request.WalkKind.{WalkKind}
use Rattle.bd_base.specs.declared.request.WalkKind.TheVariants.{Freeze, Drain, Thaw, Removal}

abbrev pub flag_word : Bool → List ℕ
flag_word true = codes "yes"
flag_word false = codes "no"

-- whether an open is for writing too, as a script has it
abbrev pub mode_word : Bool → List ℕ
mode_word true = codes "w"
mode_word false = codes "r"

abbrev pub end_word : ApplyEnd → List ℕ
end_word ends.Done = codes "done"
end_word ends.Fault = codes "fault"

abbrev pub drop_word : Dropped → List ℕ
drop_word Kept = codes "kept"
drop_word Gone = codes "gone"
drop_word Last = codes "last"

abbrev pub decision_word : Decision → List ℕ
decision_word Pass = codes "pass"
decision_word Fail = codes "fail"
decision_word Pend = codes "pend"
decision_word Corrupt = codes "corrupt"

abbrev pub walk_word : WalkKind → List ℕ
walk_word Freeze = codes "freeze"
walk_word Drain = codes "drain"
walk_word Thaw = codes "thaw"
walk_word Removal = codes "removal"
