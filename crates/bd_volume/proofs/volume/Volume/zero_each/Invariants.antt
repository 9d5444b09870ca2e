use Rattle.std.proofs.Common.{◌≡◌, ◌-◌, ◌≤◌, take, drop}
use Rattle.bd_pages.specs.Bytes.{written}
use Rattle.bd_pages.specs.Pages.{zeroed}
use Rattle.bd_volume.proofs.volume.Volume.zero_each.Given as goal

abbrev pub invariant-loop-done : goal.invariant-loop-done
invariant-loop-done l =
    (l.done ≤ l.count)
    × (l.self.cluster ≡ l.fn.self.cluster)
    × (l.self.blocks ≡ written l.lba (zeroed (take l.done (drop l.lba l.fn.self.blocks))) l.fn.self.blocks)

abbrev pub decreases-loop-done : goal.decreases-loop-done
decreases-loop-done l = l.count - l.done
