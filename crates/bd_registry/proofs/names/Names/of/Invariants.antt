use Rattle.std.proofs.Common.{◌≡◌, ℕ, List, take}
use Rattle.std.specs.List.{position}
use Rattle.bd_base.specs.Name.{same_name}
use Rattle.bd_registry.specs.Names.{place_of_name}
use Rattle.bd_registry.proofs.names.Names.of.Given as goal

abbrev pub invariant-loop-place : goal.invariant-loop-place
invariant-loop-place l = (q : List ℕ) → place_of_name l.names q ≡ position (λ row. same_name row.name q) (take l.place l.rows)
