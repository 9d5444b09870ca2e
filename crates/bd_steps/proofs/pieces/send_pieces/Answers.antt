use Rattle.std.proofs.Common.{◌-◌, ◌+◌, ◌<◌, map, ap, arith}
use Rattle.std.specs.List.{range_with_len}
use Rattle.bd_steps.specs.Pieces.{piece_to}
use Rattle.bd_steps.proofs.Left.{left_from}
use Rattle.bd_machine.proofs.Moving.{moved_on}
use Rattle.bd_steps.proofs.pieces.send_pieces.Goals as goal

pub loop-k-preserved : goal.loop-k-preserved
loop-k-preserved c =
    let k = c.loop-k.k in
    let n = c.args.n in
    let less : k < n = omega (arith, c.loop-k-test.true, c.loop-k.auto.k-end) in
    let piece = piece_to c.args.to c.args.req in
    moved_on c.loop-k.outbox.items c.push_back.new.self.items (piece k) (map piece (range_with_len k (n - k))) (map piece (range_with_len (k + 1) (n - (k + 1)))) _
    c.in_ok-push_back.ensures.items (ap (map piece) (left_from k n less)) c.loop-k.invariant
