-- What is due without the news that were put.
use Rattle.std.proofs.Common.{◌≡◌, ℕ, suc, Bool, true, false, cond, ◌&&◌, ◌==◌, List, [], ◌∷◌, ◌++◌, take, drop, Option, Some, None, refl, ◌∙◌, ap}
use Rattle.std.specs.List.{position}
use Rattle.bd_machine.specs.declared.state.Due.{Due}
use Rattle.bd_machine.specs.declared.state.News.{News}
use Rattle.bd_machine.specs.Messages.{due_after}
use Rattle.bd_machine.specs.Table.{without_first}
use Rattle.bd_rule_requests.specs.Due.{is_due_by}
use Rattle.bd_rule_effects.proofs.Firsts.{remove_found, none_to_remove}

never : (b : Bool) → (b && false) ≡ false
never true = refl
never false = refl

none_goes : (to : ℕ) (due : List Due) → without_first (is_due_by to None) due ≡ due
none_goes to [] = refl
none_goes to (d ∷ ds) = ap (λ (b : Bool). cond b ds (d ∷ without_first (is_due_by to None) ds)) (never (d.receiver == to)) ∙ ap (λ xs. d ∷ xs) (none_goes to ds)

after_is : (to : ℕ) (sent : Option News) (due : List Due) → without_first (is_due_by to sent) due ≡ due_after to sent due
after_is to None due = none_goes to due
after_is to (Some sent) due = refl

pub due_found : (to : ℕ) (sent : Option News) (due : List Due) (i : ℕ) → position (is_due_by to sent) due ≡ Some i → take i due ++ drop (suc i) due ≡ due_after to sent due
due_found to sent due i e = remove_found (is_due_by to sent) due i e ∙ after_is to sent due

pub due_missed : (to : ℕ) (sent : Option News) (due : List Due) → position (is_due_by to sent) due ≡ None → due ≡ due_after to sent due
due_missed to sent due e = none_to_remove (is_due_by to sent) due e ∙ after_is to sent due
