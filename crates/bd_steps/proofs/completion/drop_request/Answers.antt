use Rattle.std.proofs.Common.{◌∙◌, ap}
use Rattle.std.specs.List.{range_with_len}
use Rattle.bd_steps.specs.Completions.{gone}
use Rattle.bd_steps.proofs.completion.drop_request.Goals as goal

pub returns : goal.returns
returns c = c.drop_pieces.ensures ∙ ap (gone c.args.req (range_with_len 0 c.args.n)) c.let_go.ensures.gone
