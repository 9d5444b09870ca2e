use Rattle.std.proofs.Common.{◌≡◌, drop}
use Rattle.bd_rule_walks.specs.Counted.{any_counted}
use Rattle.bd_rule_walks.proofs.waits.any_counted.Given as goal

-- those before it aren't, so that the rest decides
abbrev pub invariant-loop-number : goal.invariant-loop-number
invariant-loop-number l = any_counted l.setup l.dev l.number (drop l.number l.counts) ≡ any_counted l.setup l.dev 0 l.counts
