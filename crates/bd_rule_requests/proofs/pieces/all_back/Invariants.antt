use Rattle.std.proofs.Common.{◌≡◌, ◌-◌, map}
use Rattle.std.specs.List.{list_all, range_with_len}
use Rattle.bd_machine.specs.Completion.{is_back}
use Rattle.bd_machine.specs.Kept.{piece_here, pieces_here}
use Rattle.bd_rule_requests.proofs.pieces.all_back.Given as goal

abbrev pub invariant-loop-k : goal.invariant-loop-k
invariant-loop-k g l = list_all is_back (map (piece_here (g.S.Sees.view_of l.seen) l.req) (range_with_len l.k (l.n - l.k))) ≡ list_all is_back (pieces_here (g.S.Sees.view_of l.seen) l.req l.n)
