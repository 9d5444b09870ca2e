use Rattle.std.proofs.Common.{ℕ, ◌<◌, get_or}
use Rattle.bd_log.specs.Merge.{Part}
use Rattle.bd_log.proofs.firsts.by_thread_len.Given as goal

-- the parts so far stand in order
abbrev pub invariant-loop-place : goal.invariant-loop-place
invariant-loop-place l = (i j : ℕ) (d : Part) → i < j → j < l.place → (get_or l.parts i d).thread < (get_or l.parts j d).thread
