-- What is due, by the news that a token has.
use Rattle.std.proofs.Common.{◌≡◌, ℕ, Bool, true, false, ◌&&◌, ◌||◌, ◌==◌, List, [], ◌∷◌, Option, Some, None, refl, ◌∙◌, ap}
use Rattle.std.specs.List.{list_any}
use Rattle.bd_machine.specs.declared.state.Due.{Due}
use Rattle.bd_machine.specs.declared.state.News.{News}
use Rattle.bd_machine.specs.declared.state.Part.{Part}
use Rattle.bd_machine.specs.Messages.{is_due}
use Rattle.bd_rule_requests.specs.Due.{is_due_by}

never : (b : Bool) → (b && false) ≡ false
never true = refl
never false = refl

none_due : (to : ℕ) (due : List Due) → list_any (is_due_by to None) due ≡ false
none_due to [] = refl
none_due to (d ∷ ds) = ap (λ (b : Bool). b || list_any (is_due_by to None) ds) (never (d.receiver == to)) ∙ none_due to ds

pub due_is : (part : Part) (to : ℕ) (sent : Option News) → list_any (is_due_by to sent) part.due ≡ is_due part to sent
due_is part to None = none_due to part.due
due_is part to (Some sent) = refl
