use Rattle.std.proofs.Common.{◌∙◌, rules}
use Rattle.std.proofs.lemmas.Fn.{filter_same}
use Rattle.bd_jobs.specs.Held.{has_line}
use Rattle.bd_jobs.proofs.read.with_lines.Goals as goal

pub returns : goal.returns
returns c = c.from_vec.ensures ∙ filter_same _ has_line _ (λ x b f' t. search rules) _ _ c.retain.ensures.filtered
