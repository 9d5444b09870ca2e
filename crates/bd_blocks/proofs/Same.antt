-- When two devices are the same.
use Rattle.std.proofs.Common.{refl, eq-eqb}
use Rattle.bd_machine.specs.Same.{same_dev}
use Rattle.bd_machine.proofs.Tables.{IsSame, dev_exact}

pub dev_same : IsSame same_dev
dev_same = record { exact = dev_exact; same_self = λ a. eq-eqb a.0 a.0 refl }
