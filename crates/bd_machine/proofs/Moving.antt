-- A loop that puts one item after another behind a list.
use Rattle.std.proofs.Common.{◌≡◌, List, [], ◌∷◌, ◌++◌, sym, ◌∙◌, ap}
use Rattle.std.proofs.lemmas.List.{append_assoc}

pub moved_on : {X : Type 0} (xs now : List X) (y : X) (left next total : List X) → now ≡ xs ++ y ∷ [] → left ≡ y ∷ next → xs ++ left ≡ total → now ++ next ≡ total
moved_on xs now y left next total p e h = ap (λ ys. ys ++ next) p ∙ append_assoc xs (y ∷ []) next ∙ ap (λ ys. xs ++ ys) (sym e) ∙ h
