-- Content that is filled in: the bases that are found, and those that change.
use Rattle.std.proofs.Common.{◌≡◌, ℕ, Bool, true, false, cond, List, [], ◌∷◌, map, Some, refl, sym, ◌∙◌, ap, subst}
use Rattle.std.specs.Prelude.{find}
use Rattle.std.specs.Option.{option_map}
use Rattle.bd_base.specs.declared.act.ApplyEnd.{ApplyEnd}
use Rattle.bd_base.specs.declared.act.ApplyEnd.TheVariants as ends
use Rattle.bd_base.specs.declared.id.DevId.{DevId}
use Rattle.bd_machine.specs.declared.state.Base.{Base}
use Rattle.bd_machine.specs.declared.state.Content.{Content}
use Rattle.bd_machine.specs.declared.state.OpenPiece.{OpenPiece}
use Rattle.bd_machine.specs.Effect.{content_after}
use Rattle.bd_machine.specs.Homes.{is_base, applied, base_grown, content_grown}
use Rattle.bd_machine.specs.Table.{change_first}
use Rattle.bd_machine.proofs.Tables.{dev_exact}
use Rattle.bd_law_disks.proofs.Fields.{filled_base}

module _ (fill : DevId → Content → Content) where
  -- the first base of a device is found, filled in
  pub find_filled : (dev : DevId) (bs : List Base) → find (is_base dev) (map (filled_base fill) bs) ≡ option_map (filled_base fill) (find (is_base dev) bs)
  find_filled dev [] = refl
  find_filled dev (b ∷ bs) = go (is_base dev b) (find_filled dev bs)
    where
      go : (c : Bool) → find (is_base dev) (map (filled_base fill) bs) ≡ option_map (filled_base fill) (find (is_base dev) bs)
          → cond c (Some (filled_base fill b)) (find (is_base dev) (map (filled_base fill) bs))
          ≡ option_map (filled_base fill) (cond c (Some b) (find (is_base dev) bs))
      go true h = refl
      go false h = h

  -- the first base of a device changes, filled in before or after
  pub change_filled : (dev : DevId) (f g : Base → Base) → ((b : Base) → is_base dev b ≡ true → f (filled_base fill b) ≡ filled_base fill (g b))
      → (bs : List Base) → change_first (is_base dev) f (map (filled_base fill) bs) ≡ map (filled_base fill) (change_first (is_base dev) g bs)
  change_filled dev f g h [] = refl
  change_filled dev f g h (b ∷ bs) = go (is_base dev b) refl (change_filled dev f g h bs)
    where
      go : (c : Bool) → is_base dev b ≡ c → change_first (is_base dev) f (map (filled_base fill) bs) ≡ map (filled_base fill) (change_first (is_base dev) g bs)
          → cond c (f (filled_base fill b) ∷ map (filled_base fill) bs) (filled_base fill b ∷ change_first (is_base dev) f (map (filled_base fill) bs))
          ≡ map (filled_base fill) (cond c (g b ∷ bs) (b ∷ change_first (is_base dev) g bs))
      go true e r = ap (λ x. x ∷ map (filled_base fill) bs) (h b e)
      go false e r = ap (λ xs. filled_base fill b ∷ xs) r

  -- ---- a device whose content stays as it is

  module _ (dev : DevId) (stays : (x : Content) → fill dev x ≡ x) where
    content_stays : (b : Base) → is_base dev b ≡ true → (x : Content) → fill b.dev x ≡ x
    content_stays b e x = subst (λ (d : DevId). fill d x ≡ x) (sym (dev_exact b.dev dev e)) (stays x)

    pub find_stays : (bs : List Base) → find (is_base dev) (map (filled_base fill) bs) ≡ find (is_base dev) bs
    find_stays [] = refl
    find_stays (b ∷ bs) = go (is_base dev b) refl (find_stays bs)
      where
        go : (c : Bool) → is_base dev b ≡ c → find (is_base dev) (map (filled_base fill) bs) ≡ find (is_base dev) bs
            → cond c (Some (filled_base fill b)) (find (is_base dev) (map (filled_base fill) bs)) ≡ cond c (Some b) (find (is_base dev) bs)
        go true e h = ap (λ (x : Content). Some (record b { content = x })) (content_stays b e b.content)
        go false e h = h

    pub applied_stays : (end : ApplyEnd) (p : OpenPiece) (b : Base) → is_base dev b ≡ true
        → applied end p (filled_base fill b) ≡ filled_base fill (applied end p b)
    applied_stays ends.Done p b e = ap (λ (x : Content). applied ends.Done p (record b { content = x })) (content_stays b e b.content)
        ∙ ap (λ (x : Content). record (applied ends.Done p b) { content = x }) (sym (content_stays b e (content_after b.content p)))
    applied_stays ends.Fault p b e = refl

    pub grown_stays : (blocks : ℕ) (b : Base) → is_base dev b ≡ true → base_grown blocks (filled_base fill b) ≡ filled_base fill (base_grown blocks b)
    grown_stays blocks b e = ap (λ (x : Content). base_grown blocks (record b { content = x })) (content_stays b e b.content)
        ∙ ap (λ (x : Content). record b { content = x }) (sym (content_stays b e (content_grown blocks b.content)))
