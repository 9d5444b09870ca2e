-- The law of verdicts.
use Rattle.std.specs.Prelude.{◌≡◌, List}
use Rattle.bd_base.specs.declared.act.Entry.{Entry}
use Rattle.bd_base.specs.declared.setup.Setup.{Setup}
use Rattle.bd_judge.specs.declared.judging.Verdict.{Verdict}
use Rattle.bd_judge.specs.Judge.{IsVerdict}

-- one verdict at most is right of a history
abbrev pub VerdictIsDetermined : Type 0
VerdictIsDetermined = (setup : Setup) (entries : List Entry) (v w : Verdict) → IsVerdict setup entries v → IsVerdict setup entries w → v ≡ w
