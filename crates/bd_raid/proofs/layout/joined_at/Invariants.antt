use Rattle.std.proofs.Common.{◌≡◌, drop}
use Rattle.bd_raid.specs.Raid.{joined_from}
use Rattle.bd_raid.proofs.layout.joined_at.Given as goal

-- what is left of the way leads to the same place
abbrev pub invariant-loop-member : goal.invariant-loop-member
invariant-loop-member l = joined_from l.strip l.member (drop l.member l.sizes) l.left ≡ joined_from l.strip 0 l.sizes l.block
