use Rattle.std.proofs.Common.{◌≡◌, ◌++◌, drop}
use Rattle.bd_steps.proofs.stopping.add_all.Given as goal

-- the ids so far, and then those that are left, are all
abbrev pub invariant-loop-req : goal.invariant-loop-req
invariant-loop-req l = l.ids ++ drop l.req-index l.more ≡ l.fn.ids ++ l.more
