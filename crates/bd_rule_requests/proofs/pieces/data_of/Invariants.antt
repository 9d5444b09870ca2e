use Rattle.std.proofs.Common.{◌≡◌, ◌-◌, map}
use Rattle.std.specs.List.{range_with_len}
use Rattle.bd_machine.specs.Completion.{both_bytes, data_of}
use Rattle.bd_machine.specs.Kept.{piece_here, pieces_here}
use Rattle.bd_rule_requests.proofs.pieces.data_of.Given as goal

-- the bytes so far, and then those of the pieces that are left, are all
abbrev pub invariant-loop-k : goal.invariant-loop-k
invariant-loop-k g l = both_bytes l.bytes (data_of (map (piece_here (g.S.Sees.view_of l.seen) l.req) (range_with_len l.k (l.n - l.k)))) ≡ data_of (pieces_here (g.S.Sees.view_of l.seen) l.req l.n)
