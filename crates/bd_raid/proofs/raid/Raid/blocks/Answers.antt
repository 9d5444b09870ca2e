use Rattle.std.proofs.Common.{sym, ◌<◌, ◌^◌, subst, ℕ, List}
use Rattle.bd_raid.proofs.Sets.{blocks_fit}
use Rattle.bd_raid.specs.Raid.{used_of_all}
use Rattle.bd_raid.proofs.raid.Raid.blocks.Goals as goal

pub used_of_all-requires-clause-fits : goal.used_of_all-requires-clause-fits
used_of_all-requires-clause-fits c = subst (λ (xs : List ℕ). used_of_all c.self.inside.strip xs < 2 ^ 64) (sym c.as_slice-else-self.ensures.value) (blocks_fit _ c.self.invariant)
