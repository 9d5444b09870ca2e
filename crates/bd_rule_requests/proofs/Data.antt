-- Data of several pieces, one behind another.
use Rattle.std.proofs.Common.{◌≡◌, ℕ, List, [], Option, Some, None, refl, ap}
use Rattle.std.proofs.lemmas.List.{append_assoc, append-nil}
use Rattle.bd_machine.specs.Completion.{both_bytes}

pub both_assoc : (a b c : Option (List ℕ)) → both_bytes (both_bytes a b) c ≡ both_bytes a (both_bytes b c)
both_assoc (Some a) (Some b) (Some c) = ap (λ (x : List ℕ). Some x) (append_assoc a b c)
both_assoc (Some a) (Some b) None = refl
both_assoc (Some a) None (Some c) = refl
both_assoc (Some a) None None = refl
both_assoc None (Some b) (Some c) = refl
both_assoc None (Some b) None = refl
both_assoc None None (Some c) = refl
both_assoc None None None = refl

pub both_none : (a : Option (List ℕ)) → both_bytes (Some []) a ≡ a
both_none (Some a) = refl
both_none None = refl

pub both_end : (a : Option (List ℕ)) → both_bytes a (Some []) ≡ a
both_end (Some a) = ap (λ (x : List ℕ). Some x) (append-nil a)
both_end None = refl
