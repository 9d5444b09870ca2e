-- Two handles are the same where their numbers are.
use Rattle.std.proofs.Common.{◌≡◌, true, refl, ap, eqb-true, eq-eqb}
use Rattle.bd_base.specs.declared.id.HandleId.{HandleId}
use Rattle.bd_machine.specs.Same.{same_handle}
use Rattle.bd_machine.proofs.Tables.{IsSame}

handle_exact : (a b : HandleId) → same_handle a b ≡ true → a ≡ b
handle_exact a b h = ap (λ n. let id : HandleId = record { 0 = n } in id) (eqb-true a.0 b.0 h)

pub handle_same : IsSame same_handle
handle_same = record { exact = handle_exact; same_self = λ a. eq-eqb a.0 a.0 refl }
