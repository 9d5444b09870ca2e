-- What is asked of each place, and of each entry of the map, is asked of each token that is held.
use Rattle.std.proofs.Common.{◌≡◌, ℕ, ◌&&◌, ◌==◌, Bool, List, [], ◌∷◌, length, Option, Some, None, refl, sym, ◌∙◌, ap, ap₂, arith}
use Rattle.std.specs.List.{list_all}
use Rattle.std.proofs.lemmas.Bool.Decides.{nat_tests}
use Rattle.std.proofs.lemmas.List.Folds.{list_all-append}
use Rattle.bd_base.specs.declared.id.WalkId.{WalkId}
use Rattle.bd_base.specs.declared.setup.Setup.{Setup}
use Rattle.bd_machine.specs.declared.state.Id.{Id}
use Rattle.bd_machine.specs.declared.state.Kept.{Kept}
use Rattle.bd_machine.specs.declared.state.Part.{Part}
use Rattle.bd_tokens.specs.declared.key.Key.{Key}
use Rattle.bd_tokens.specs.Pended.{are_own_pended, is_entry_pended, is_own_pended, is_row_pended}
use Rattle.bd_tokens.specs.Places.{items_in, items_with}
use Rattle.bd_tokens.specs.Tokens.{items_of}
use Rattle.bd_tokens.specs.Walks.{items_of_walks, unplaced_with}

module _ (setup : Setup) (part : Part) (me : ℕ) where
  by_rows : (rows : List (Option (Id × Kept))) → list_all (is_row_pended setup part me) rows ≡ are_own_pended setup part me (items_in rows)
  by_rows [] = refl
  by_rows (None ∷ rows) = by_rows rows
  by_rows (Some item ∷ rows) = ap (λ (b : Bool). is_own_pended setup part me item.0 item.1 && b) (by_rows rows)

  by_entries : (entries : List (Key × Kept)) → list_all (is_entry_pended setup part me) entries ≡ are_own_pended setup part me (items_of entries)
  by_entries [] = refl
  by_entries (e ∷ entries) = ap (λ (b : Bool). is_own_pended setup part me e.0.id e.1 && b) (by_entries entries)

  pub by_both : (rows : List (Option (Id × Kept))) (unplaced : List (Id × Kept))
      → list_all (is_row_pended setup part me) rows && are_own_pended setup part me unplaced ≡ are_own_pended setup part me (items_with rows unplaced)
  by_both rows unplaced =
      ap (λ (a : Bool). a && are_own_pended setup part me unplaced) (by_rows rows)
      ∙ sym (list_all-append (λ item. is_own_pended setup part me item.0 item.1) (items_in rows) unplaced)

  -- no walk is
  by_walks : (walks : List (WalkId × Kept)) → (length walks == 0) ≡ are_own_pended setup part me (items_of_walks walks)
  by_walks [] = refl
  by_walks (x ∷ walks) = let n : ℕ = length walks in grind (arith, nat_tests)

  pub by_unplaced : (walks : List (WalkId × Kept)) (entries : List (Key × Kept))
      → (length walks == 0) && list_all (is_entry_pended setup part me) entries ≡ are_own_pended setup part me (unplaced_with walks entries)
  by_unplaced walks entries =
      ap₂ (λ (a b : Bool). a && b) (by_walks walks) (by_entries entries)
      ∙ sym (list_all-append (λ item. is_own_pended setup part me item.0 item.1) (items_of_walks walks) (items_of entries))
