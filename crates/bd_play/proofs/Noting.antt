-- A change of a part after the part was written.
use Rattle.std.proofs.Common.{◌≡◌, ℕ, zero, suc, List, [], ◌∷◌, set, refl, ap}
use Rattle.bd_machine.specs.Table.{change_at}

pub changed_after_set : {X : Type 0} (f : X → X) (xs : List X) (i : ℕ) (x : X) → change_at i f (set xs i x) ≡ set xs i (f x)
changed_after_set f [] zero x = refl
changed_after_set f [] (suc i) x = refl
changed_after_set f (y ∷ ys) zero x = refl
changed_after_set f (y ∷ ys) (suc i) x = ap (λ zs. y ∷ zs) (changed_after_set f ys i x)
