use Rattle.std.proofs.Common.{◌≡◌, map, take}
use Rattle.bd_report.proofs.counter.sizes_of.Given as goal

abbrev pub invariant-loop-row : goal.invariant-loop-row
invariant-loop-row l = l.sizes ≡ map (λ row. row.size) (take l.row-index l.devices)
