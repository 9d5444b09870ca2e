use Rattle.std.proofs.Common.{◌≡◌, ℕ, ◌-◌, ◌++◌, map}
use Rattle.std.specs.List.{range_with_len}
use Rattle.bd_retries.specs.Channels.{pieces_named}
use Rattle.bd_retries.proofs.retry.join.Given as goal

-- what came so far, and then the pieces that are left, is all
abbrev pub invariant-loop-k : goal.invariant-loop-k
invariant-loop-k l = l.pieces.items ++ map (λ (k : ℕ). (l.req, k)) (range_with_len l.k (l.n - l.k)) ≡ l.fn.pieces.items ++ pieces_named l.req l.n
