use Rattle.std.proofs.Common.{◌≡◌, length}
use Rattle.std.specs.Vec.Iter.{into_iter_items, into_iter_len}
use Rattle.bd_building.specs.Made.{registered}
use Rattle.bd_building.proofs.made.register.Given as goal

abbrev pub invariant-loop-row : goal.invariant-loop-row
invariant-loop-row l = record {
  rest : registered l.devices (into_iter_items l.row-iterator) ≡ registered l.initial.devices (into_iter_items l.initial.row-iterator);
  counted : into_iter_len l.row-iterator ≡ length (into_iter_items l.row-iterator);
}
