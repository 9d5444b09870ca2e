use Rattle.std.proofs.Common.{◌≡◌, ◌-◌, ◌++◌, [], length, filter_map}
use Rattle.std.specs.List.{range_with_len}
use Rattle.bd_machine.specs.BlockMap.{row_of}
use Rattle.bd_machine.specs.Start.{base_if_here, bases_at_start}
use Rattle.bd_machine.specs.Users.{dev_of}
use Rattle.bd_blocks.proofs.start.bases_at_start.Given as goal

abbrev pub invariant-loop-n : goal.invariant-loop-n
invariant-loop-n l = record {
  count : l.count ≡ length l.setup.devices;
  all : l.bases ++ filter_map (λ n. base_if_here l.setup [] l.thread (dev_of n) (row_of l.setup (dev_of n))) (range_with_len l.n (l.count - l.n)) ≡ bases_at_start l.setup [] l.thread;
}
