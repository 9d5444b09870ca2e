-- Moves one after another.
use Rattle.std.proofs.Common.{◌≡◌, ℕ, List, [], ◌∷◌, ◌++◌, refl}
use Rattle.bd_machine.specs.declared.state.Id.{Id}
use Rattle.bd_machine.specs.declared.state.Tracked.{Tracked}
use Rattle.bd_machine.specs.Same.{same_id}
use Rattle.bd_machine.specs.Step.{moved, place_after}
use Rattle.bd_machine.specs.Table.{write}
use Rattle.bd_machine.specs.View.{Move}

pub moved_append : (t : ℕ) (ms ns : List Move) (tokens : List (Id × Tracked)) → moved t (ms ++ ns) tokens ≡ moved t ns (moved t ms tokens)
moved_append t [] ns tokens = refl
moved_append t (m ∷ ms) ns tokens = moved_append t ms ns (write same_id tokens m.id (record { place = place_after t m.going; kept = m.kept }))
