use Rattle.std.proofs.Common.{◌≡◌, ◌+◌, length}
use Rattle.bd_machine.specs.Registry.{malloc_bytes_at}
use Rattle.bd_rule_registry.proofs.Sums.{total}
use Rattle.bd_rule_registry.proofs.resize.passes_memory.Given as goal

abbrev pub invariant-loop-n : goal.invariant-loop-n
invariant-loop-n g l = record {
  count : l.count ≡ length l.setup.devices;
  left : l.left + total (malloc_bytes_at l.setup (g.R.Records.registry_of l.registry) l.dev l.blocks) l.n ≡ 1073741824;
}
