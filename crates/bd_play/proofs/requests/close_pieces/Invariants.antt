use Rattle.std.proofs.Common.{◌≡◌, ◌-◌, map}
use Rattle.std.specs.List.{range_with_len}
use Rattle.bd_machine.specs.Kept.{piece_here, pieces_here}
use Rattle.bd_machine.specs.Requests.{pieces_closed}
use Rattle.bd_machine.specs.Step.{moved}
use Rattle.bd_machine.specs.View.{view}
use Rattle.bd_play.proofs.requests.close_pieces.Given as goal

abbrev pub invariant-loop-k : goal.invariant-loop-k
invariant-loop-k l = moved l.side.thread (pieces_closed l.req l.k (map (piece_here (view l.side.state.now l.side.thread) l.req) (range_with_len l.k (l.n - l.k)))) l.tokens ≡ moved l.side.thread (pieces_closed l.req 0 (pieces_here (view l.side.state.now l.side.thread) l.req l.n)) l.fn.tokens
