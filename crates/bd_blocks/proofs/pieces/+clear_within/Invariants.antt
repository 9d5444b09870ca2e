use Rattle.bd_blocks.proofs.pieces.+clear_within.Given as goal

-- each step leaves one fewer
abbrev pub decreases-clear_within : goal.decreases-clear_within
decreases-clear_within l = l.left
