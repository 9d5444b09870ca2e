use Rattle.std.proofs.Common.{◌≡◌, drop}
use Rattle.bd_outside.specs.Memory.{fails_of}
use Rattle.bd_outside.proofs.mem_host.fails_of.Given as goal

abbrev pub invariant-loop-row : goal.invariant-loop-row
invariant-loop-row l = fails_of l.name l.rows ≡ fails_of l.name (drop l.row-index l.rows)
