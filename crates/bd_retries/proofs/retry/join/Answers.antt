use Rattle.std.proofs.Common.{ℕ, ◌-◌, ◌+◌, ◌<◌, map, ap, arith}
use Rattle.std.specs.List.{range_with_len}
use Rattle.bd_base.specs.declared.id.ReqId.{ReqId}
use Rattle.bd_retries.proofs.Left.{left_from}
use Rattle.bd_machine.proofs.Moving.{moved_on}
use Rattle.bd_retries.proofs.retry.join.Goals as goal

pub loop-k-preserved : goal.loop-k-preserved
loop-k-preserved c =
    let k = c.loop-k.k in
    let n = c.args.n in
    let less : k < n = omega (arith, c.loop-k-test.true, c.loop-k.auto.k-end) in
    let piece : ℕ → ReqId × ℕ = λ j. (c.args.req, j) in
    moved_on c.loop-k.pieces.items c.push_back.new.self.items (piece k) (map piece (range_with_len k (n - k))) (map piece (range_with_len (k + 1) (n - (k + 1)))) _
    c.in_ok-push_back.ensures.items (ap (map piece) (left_from k n less)) c.loop-k.invariant
