use Rattle.std.proofs.Common.{◌≡◌, drop}
use Rattle.bd_machine.specs.Requests.{pieces_made}
use Rattle.bd_machine.specs.Step.{moved}
use Rattle.bd_play.proofs.requests.make_pieces.Given as goal

abbrev pub invariant-loop-extent : goal.invariant-loop-extent
invariant-loop-extent l = moved l.side.thread (pieces_made l.side.setup.now l.req l.r l.k (drop l.extent-index l.extents)) l.tokens ≡ moved l.side.thread (pieces_made l.side.setup.now l.req l.r 0 l.extents) l.fn.tokens
