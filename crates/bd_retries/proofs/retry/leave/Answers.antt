use Rattle.std.proofs.Common.{ℕ, not, rules}
use Rattle.std.proofs.lemmas.Fn.{filter_same}
use Rattle.bd_base.specs.declared.id.ReqId.{ReqId}
use Rattle.bd_machine.specs.Same.{same_request}
use Rattle.bd_retries.proofs.retry.leave.Goals as goal

pub returns : goal.returns
returns c = filter_same _ (λ (p : ReqId × ℕ). not (same_request p.0 c.args.req)) _ (λ x b f' t. search rules) _ _ c.retain.ensures.filtered
