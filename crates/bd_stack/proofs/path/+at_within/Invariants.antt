use Rattle.bd_stack.proofs.path.+at_within.Given as goal

-- each step leaves one fewer
abbrev pub decreases-at_within : goal.decreases-at_within
decreases-at_within l = l.left
