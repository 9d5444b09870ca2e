use Rattle.std.proofs.Common.{◌≡◌, ◌++◌, drop}
use Rattle.bd_steps.specs.Stopping.{open_over}
use Rattle.bd_steps.proofs.stopping.add_open.Given as goal

-- the ids so far, and then those of the ones that are left, are all
abbrev pub invariant-loop-place : goal.invariant-loop-place
invariant-loop-place l = l.ids ++ open_over l.setup l.dev (drop l.place l.requests) ≡ l.fn.ids ++ open_over l.setup l.dev l.requests
