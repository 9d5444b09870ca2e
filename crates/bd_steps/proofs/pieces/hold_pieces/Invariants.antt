use Rattle.std.proofs.Common.{◌≡◌, drop}
use Rattle.bd_machine.specs.Alone.{held_after}
use Rattle.bd_machine.specs.Requests.{pieces_made}
use Rattle.bd_tokens.specs.Tokens.{here_in}
use Rattle.bd_steps.proofs.pieces.hold_pieces.Given as goal

-- what is here with the pieces that are left is what is here with all
abbrev pub invariant-loop-extent : goal.invariant-loop-extent
invariant-loop-extent l = held_after (pieces_made l.setup l.req l.r l.k (drop l.extent-index l.extents)) (here_in l.tokens.items) ≡ held_after (pieces_made l.setup l.req l.r 0 l.extents) (here_in l.fn.tokens.items)
