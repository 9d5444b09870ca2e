use Rattle.std.proofs.Common.{◌≡◌, ◌≤◌, drop, min}
use Rattle.bd_raid.specs.Raid.{least_of}
use Rattle.bd_raid.proofs.layout.least.Given as goal

-- the least so far and the least that is left
abbrev pub invariant-loop-size : goal.invariant-loop-size
invariant-loop-size l = record {
  least : min l.least (least_of (drop l.size-index l.sizes)) ≡ least_of l.sizes;
  fits : l.least ≤ 18446744073709551615;
}
