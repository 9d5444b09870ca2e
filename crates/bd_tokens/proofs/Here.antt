-- From what the map has at a key to what is here of a token.
use Rattle.std.proofs.Common.{◌≡◌, cond, List, [], ◌∷◌, Option, Some, refl, sym, ◌∙◌, ap}
use Rattle.std.specs.Map.{lookup}
use mathlib.Core.Path.{fun_ext}
use Rattle.bd_machine.specs.declared.state.Id.{Id}
use Rattle.bd_machine.specs.declared.state.Kept.{Kept}
use Rattle.bd_machine.specs.Same.{same_id}
use Rattle.bd_tokens.specs.declared.key.Key.{Key}
use Rattle.bd_tokens.specs.Keys.{same_key, same_id-symm}
use Rattle.bd_tokens.specs.Tokens.{items_of, here_in, Sets}

abbrev pub key : Id → Key
key id = record { id = id }

-- what is here of a token is what the map has at its key
pub here_at : (entries : List (Key × Kept)) (id : Id) → here_in (items_of entries) id ≡ lookup (same_key (key id)) entries
here_at [] id = refl
here_at (e ∷ es) id = ap (λ b. cond b (Some e.1) (here_in (items_of es) id)) (same_id-symm e.0.id id) ∙ ap (λ o. cond (same_id id e.0.id) (Some e.1) o) (here_at es id)

pub sets : (old new : List (Key × Kept)) (id : Id) (o : Option Kept) → ((q : Key) → lookup (same_key q) new ≡ cond (same_key (key id) q) o (lookup (same_key q) old)) → Sets (items_of old) (items_of new) id o
sets old new id o updated = fun_ext (λ (j : Id). here_at new j ∙ updated (key j) ∙ ap (λ x. cond (same_id id j) o x) (sym (here_at old j)))

-- the same entries in another order
pub stays_here : (old new : List (Key × Kept)) → ((q : Key) → lookup (same_key q) new ≡ lookup (same_key q) old) → here_in (items_of new) ≡ here_in (items_of old)
stays_here old new same = fun_ext (λ (j : Id). here_at new j ∙ same (key j) ∙ sym (here_at old j))
