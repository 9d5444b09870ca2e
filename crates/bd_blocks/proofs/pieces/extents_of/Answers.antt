use Rattle.std.proofs.Common.{◌+◌, ◌-◌, arith}
use Rattle.bd_blocks.specs.Cuts.{extents_left}
use Rattle.bd_blocks.proofs.Cutting.{next_piece}
use Rattle.bd_machine.proofs.Moving.{moved_on}
use Rattle.bd_blocks.proofs.pieces.extents_of.Goals as goal

pub loop-left-preserved : goal.loop-left-preserved
loop-left-preserved c =
    let setup = c.args.setup.now in
    let dev = c.args.dev in
    let first = c.loop-left.first in
    let left = c.loop-left.left in
    let count = c.in_ok-count.count in
    let within = c.in_ok-count.ensures.within in
    record {
      all = moved_on c.loop-left.found c.push.new.self (record { first = first; count = count }) (extents_left setup dev first left) (extents_left setup dev (first + count) (left - count)) _
          c.in_ok-push.ensures.ok (next_piece setup dev first count left c.in_ok-count.ensures) c.loop-left.invariant.all;
      end = omega (arith, within, c.loop-left.invariant.end);
    }
