use Rattle.std.proofs.Common.{◌≡◌, drop}
use Rattle.bd_tables.specs.Under.{set_from, set_of}
use Rattle.bd_tables.proofs.under.Under.of.Given as goal

abbrev pub invariant-loop-dev : goal.invariant-loop-dev
invariant-loop-dev l = set_from l.set (drop l.dev-index l.devices) ≡ set_of l.devices
