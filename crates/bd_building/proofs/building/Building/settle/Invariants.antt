use Rattle.std.proofs.Common.{◌≡◌, length}
use Rattle.bd_building.specs.Progress.{settled}
use Rattle.bd_building.proofs.building.Building.settle.Given as goal

abbrev pub invariant-loop-place : goal.invariant-loop-place
invariant-loop-place l = settled l.self ≡ settled l.initial.self

abbrev pub decreases-loop-place : goal.decreases-loop-place
decreases-loop-place l = length l.self.waiting
