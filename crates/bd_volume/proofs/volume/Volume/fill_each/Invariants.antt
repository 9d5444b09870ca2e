use Rattle.std.proofs.Common.{◌≡◌, ◌-◌, ◌<◌, ◌≤◌, take, drop}
use Rattle.bd_pages.specs.Bytes.{written}
use Rattle.bd_pages.specs.Fills.{filled}
use Rattle.bd_volume.proofs.volume.Volume.fill_each.Given as goal

abbrev pub invariant-loop-done : goal.invariant-loop-done
invariant-loop-done l =
    (0 < l.done)
    × (l.done ≤ l.count)
    × (l.self.cluster ≡ l.fn.self.cluster)
    × (l.self.blocks ≡ written l.lba (filled l.fn.fill l.number (take l.done (drop l.lba l.fn.self.blocks))) l.fn.self.blocks)

abbrev pub decreases-loop-done : goal.decreases-loop-done
decreases-loop-done l = l.count - l.done
