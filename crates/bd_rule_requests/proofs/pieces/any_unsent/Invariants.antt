use Rattle.std.proofs.Common.{◌≡◌, ◌-◌, map}
use Rattle.std.specs.List.{list_any, range_with_len}
use Rattle.bd_machine.specs.Completion.{waits_unsent}
use Rattle.bd_machine.specs.Kept.{piece_here, pieces_here}
use Rattle.bd_rule_requests.proofs.pieces.any_unsent.Given as goal

abbrev pub invariant-loop-k : goal.invariant-loop-k
invariant-loop-k g l = list_any waits_unsent (map (piece_here (g.S.Sees.view_of l.seen) l.req) (range_with_len l.k (l.n - l.k))) ≡ list_any waits_unsent (pieces_here (g.S.Sees.view_of l.seen) l.req l.n)
