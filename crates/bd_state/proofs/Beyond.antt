-- Parts of threads that there aren't.
use Rattle.std.proofs.Common.{◌≡◌, ℕ, zero, suc, ◌≤◌, false, List, [], ◌∷◌, length, get_or, refl, ◌∙◌, ap, arith}
use Rattle.std.specs.List.{list_any}
use Rattle.bd_base.specs.declared.id.DevId.{DevId}
use Rattle.bd_base.specs.declared.setup.Setup.{Setup}
use Rattle.bd_machine.specs.declared.state.Part.{Part}
use Rattle.bd_machine.specs.declared.state.State.{State}
use Rattle.bd_machine.specs.BlockMap.{below}
use Rattle.bd_machine.specs.Marks.{has_any_mark, has_mark}
use Rattle.bd_machine.specs.View.{blank_part, part_of}

beyond : {X : Type 0} (xs : List X) (i : ℕ) (d : X) → length xs ≤ i → get_or xs i d ≡ d
beyond [] i d h = refl
beyond (x ∷ xs) zero d h = absurd (omega arith)
beyond (x ∷ xs) (suc i) d h = let h' : length xs ≤ i = omega arith in beyond xs i d h'

pub part_beyond : (s : State) (t : ℕ) → length s.parts ≤ t → part_of s t ≡ blank_part
part_beyond s t h = beyond s.parts t blank_part h

none_marked : (devs : List DevId) → list_any (has_mark blank_part) devs ≡ false
none_marked [] = refl
none_marked (d ∷ ds) = none_marked ds

-- and no device carries a mark there
pub unmarked_beyond : (setup : Setup) (s : State) (t : ℕ) (dev : DevId) → length s.parts ≤ t → has_any_mark setup (part_of s t) dev ≡ false
unmarked_beyond setup s t dev h = ap (λ (part : Part). has_any_mark setup part dev) (part_beyond s t h) ∙ none_marked (below setup dev)
