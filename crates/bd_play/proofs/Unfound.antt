-- A list that has no item that passes a test has no first one to change.
use Rattle.std.proofs.Common.{◌≡◌, Bool, true, false, cond, List, [], ◌∷◌, find, Some, None, refl, ap}
use Rattle.bd_machine.specs.Table.{change_first}

pub unfound : {X : Type 0} (is : X → Bool) (f : X → X) (xs : List X) → find is xs ≡ None → change_first is f xs ≡ xs
unfound is f [] e = refl
unfound is f (x ∷ xs) e = go (is x) e (unfound is f xs)
  where
    go : (b : Bool) → cond b (Some x) (find is xs) ≡ None → (find is xs ≡ None → change_first is f xs ≡ xs) → cond b (f x ∷ xs) (x ∷ change_first is f xs) ≡ x ∷ xs
    go true q ih = cc
    go false q ih = ap (λ zs. x ∷ zs) (ih q)
