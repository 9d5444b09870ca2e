use Rattle.std.proofs.Common.{◌≡◌, ◌+◌, ◌<◌, length}
use Rattle.bd_machine.specs.BlockMap.{below}
use Rattle.bd_devices.proofs.refusals.is_high.Given as goal

abbrev pub invariant-loop-lower : goal.invariant-loop-lower
invariant-loop-lower l = record {
  few : l.layers < 64;
  all : l.layers + length l._lower-iterator ≡ length (below l.setup l.fn.dev);
}
