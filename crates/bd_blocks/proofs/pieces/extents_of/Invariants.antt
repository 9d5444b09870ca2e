use Rattle.std.proofs.Common.{◌≡◌, ◌+◌, ◌++◌}
use Rattle.bd_blocks.specs.Cuts.{extents_left}
use Rattle.bd_blocks.proofs.pieces.extents_of.Given as goal

abbrev pub decreases-loop-left : goal.decreases-loop-left
decreases-loop-left l = l.left

-- the pieces that were found, and then those that are left, are all
abbrev pub invariant-loop-left : goal.invariant-loop-left
invariant-loop-left l = record {
  all : l.found ++ extents_left l.setup l.dev l.first l.left ≡ extents_left l.setup l.dev l.lba l.fn.count;
  end : l.first + l.left ≡ l.lba + l.fn.count;
}
