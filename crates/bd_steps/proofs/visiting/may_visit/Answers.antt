use Rattle.std.proofs.Common.{sym, ◌∙◌, ap, is_none}
use Rattle.bd_steps.proofs.Refused.{none_by}
use Rattle.bd_steps.proofs.visiting.may_visit.Goals as goal

pub returns : goal.returns
returns g c = none_by c.is_none.result c.refused_visit.result (sym c.is_none.ensures) ∙ ap is_none c.refused_visit.ensures
