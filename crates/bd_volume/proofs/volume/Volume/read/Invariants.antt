use Rattle.std.proofs.Common.{◌≡◌, ◌-◌, ◌≤◌, take, drop}
use Rattle.std.specs.List.{concat}
use Rattle.bd_volume.proofs.volume.Volume.read.Given as goal

abbrev pub invariant-loop-done : goal.invariant-loop-done
invariant-loop-done l = (l.done ≤ l.count) × (l.bytes.items ≡ concat (take l.done (drop l.lba l.self.blocks)))

abbrev pub decreases-loop-done : goal.decreases-loop-done
decreases-loop-done l = l.count - l.done
