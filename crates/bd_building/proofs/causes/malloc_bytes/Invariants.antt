use Rattle.std.proofs.Common.{◌≡◌, take}
use Rattle.bd_building.specs.Made.{malloc_bytes}
use Rattle.bd_building.proofs.causes.malloc_bytes.Given as goal

abbrev pub invariant-loop-row : goal.invariant-loop-row
invariant-loop-row l = l.bytes ≡ malloc_bytes (take l.row-index l.rows)
