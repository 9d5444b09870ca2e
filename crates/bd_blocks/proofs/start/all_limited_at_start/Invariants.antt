use Rattle.std.proofs.Common.{◌≡◌, ◌&&◌, ◌==◌, filter, map, length}
use Rattle.bd_machine.specs.BlockMap.{home}
use Rattle.bd_machine.specs.Limits.{is_limited}
use Rattle.bd_machine.specs.Start.{limited_at_start}
use Rattle.bd_machine.specs.Users.{devices}
use Rattle.bd_blocks.proofs.start.all_limited_at_start.Given as goal

abbrev pub invariant-loop-n : goal.invariant-loop-n
invariant-loop-n l = record {
  count : l.count ≡ length l.setup.devices;
  found : l.found ≡ map (limited_at_start l.setup) (filter (λ dev. is_limited l.setup dev && (home l.setup dev == l.thread)) (devices l.n));
}
