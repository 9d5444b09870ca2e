-- An element of a list, by its place, changed.
use Rattle.std.proofs.Common.{◌≡◌, ℕ, zero, suc, ◌<◌, ◌≤◌, List, [], ◌∷◌, length, get_or, set, refl, ap, arith}
use Rattle.bd_machine.specs.Table.{change_at}

pub set_at : {X : Type 0} (f : X → X) (xs : List X) (i : ℕ) (d y : X) → i < length xs → y ≡ f (get_or xs i d) → set xs i y ≡ change_at i f xs
set_at f [] i d y h e = absurd (omega arith)
set_at f (x ∷ xs) zero d y h e = ap (λ z. let ys : List _ = z ∷ xs in ys) e
set_at f (x ∷ xs) (suc i) d y h e = ap (λ zs. x ∷ zs) (set_at f xs i d y (omega arith) e)

pub none_at : {X : Type 0} (f : X → X) (xs : List X) (i : ℕ) → length xs ≤ i → xs ≡ change_at i f xs
none_at f [] zero h = refl
none_at f [] (suc i) h = refl
none_at f (x ∷ xs) zero h = absurd (omega arith)
none_at f (x ∷ xs) (suc i) h = ap (λ zs. x ∷ zs) (none_at f xs i (omega arith))
