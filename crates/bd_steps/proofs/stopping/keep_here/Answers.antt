use Rattle.std.proofs.Common.{ℕ, not, rules}
use Rattle.std.proofs.lemmas.Fn.{filter_same}
use Rattle.bd_base.specs.declared.act.Token.{Token}
use Rattle.bd_steps.specs.Stopping.{is_request}
use Rattle.bd_steps.proofs.stopping.keep_here.Goals as goal

pub returns : goal.returns
returns c = filter_same _ (λ (x : ℕ × Token). not (is_request c.args.req x.1)) _ (λ x b f' t. search rules) _ _ c.retain.ensures.filtered
