use Rattle.std.proofs.Common.{◌≡◌, ◌-◌}
use Rattle.std.specs.List.{range_with_len}
use Rattle.bd_tokens.specs.Tokens.{here_in}
use Rattle.bd_steps.specs.Completions.{gone}
use Rattle.bd_steps.proofs.completion.drop_pieces.Given as goal

-- what is here without the pieces that are left is what is here without all
abbrev pub invariant-loop-k : goal.invariant-loop-k
invariant-loop-k l = gone l.req (range_with_len l.k (l.n - l.k)) (here_in l.tokens.items) ≡ gone l.req (range_with_len 0 l.n) (here_in l.fn.tokens.items)
