use Rattle.std.proofs.Common.{◌≡◌}
use Rattle.bd_building.specs.Rows.{parts_of}
use Rattle.bd_building.proofs.parts.parts_of.Given as goal

abbrev pub invariant-loop-i : goal.invariant-loop-i
invariant-loop-i l = l.rows.items ≡ parts_of l.group l.name l.base l.blocks l.i
