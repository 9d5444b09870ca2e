use Rattle.std.proofs.Common.{◌≡◌, ◌-◌, ◌++◌, map}
use Rattle.std.specs.List.{range_with_len}
use Rattle.bd_steps.specs.Pieces.{piece_to, pieces_to}
use Rattle.bd_steps.proofs.pieces.send_pieces.Given as goal

-- what is to be put so far, and then the pieces that are left, is all
abbrev pub invariant-loop-k : goal.invariant-loop-k
invariant-loop-k l = l.outbox.items ++ map (piece_to l.to l.req) (range_with_len l.k (l.n - l.k)) ≡ l.fn.outbox.items ++ pieces_to l.to l.req l.n
