-- What disks told at their opening, as a thread sees it at the start.
use Rattle.std.proofs.Common.{◌≡◌, ℕ, zero, suc, ◌+◌, ◌<◌, ◌==◌, ◌&&◌, Bool, true, false, cond, List, [], ◌∷◌, length, map, Option, Some, None, refl, sym, ◌∙◌, ap, ap₂, subst, eqb-true, zero-add, arith}
use Rattle.std.specs.List.{cons_option, filter_map, range_with_len, slice_get}
use Rattle.std.specs.Option.{option_map}
use Rattle.std.specs.Prelude.{slice_index_or}
use Rattle.std.proofs.lemmas.Bool.{and_parts}
use Rattle.std.proofs.lemmas.List.FromFn.{get_or-range_with_len, length-range_with_len}
use Rattle.std.proofs.lemmas.Option.{get_or_from_slice_get, same_Some, slice_get-get_or, slice_get-map}
use Rattle.bd_base.specs.declared.device.DevRow.{DevRow}
use Rattle.bd_base.specs.declared.id.DevId.{DevId}
use Rattle.bd_base.specs.declared.setup.Setup.{Setup}
use Rattle.bd_machine.specs.declared.state.Base.{Base}
use Rattle.bd_machine.specs.declared.state.Content.{Content}
use Rattle.bd_machine.specs.BlockMap.{home, is_aio, is_base_kind, row_of}
use Rattle.bd_machine.specs.Content.{Told, content_told}
use Rattle.bd_machine.specs.Start.{base_at_start, base_if_here}
use Rattle.bd_machine.specs.Users.{dev_of}
use Rattle.bd_machine.specs.View.{View}
use Rattle.bd_disks.specs.Holding.{content_in}
use Rattle.bd_disks.specs.Rows.{disk_of}
use Rattle.bd_outside.specs.Disk.{DiskState}
use Rattle.bd_disks.specs.Contents.{contents_of, content_if}
use Rattle.bd_law_disks.specs.Told.{told_base, told_view, AreBasesLowest}
use Rattle.bd_law_disks.proofs.Start.{start_is_told}
use Rattle.bd_turns.specs.Laws.{view_at_start}
use Rattle.bd_node.specs.Disks.{blocks_in, disks_at, told_at, told_of}

-- ---- told by content

-- what a disk holds is blocks or untold
blocks_again : (o : Option DiskState) → content_told (blocks_in (content_if o)) ≡ content_if o
blocks_again None = refl
blocks_again (Some disk) = go disk.block_size disk.blocks disk.content
  where
    go : (size n : ℕ) (o : Option (List ℕ)) → content_told (blocks_in (content_in size n o)) ≡ content_in size n o
    go size n None = refl
    go size n (Some bytes) = refl

told_here : {D : Type 0} (state : D → DiskState) (setup : Setup) (disks : List (List (DevId × D))) (n : ℕ) → n < length setup.devices
    → slice_index_or (told_of state setup disks) n None ≡ told_at state setup disks n
told_here state setup disks n lt =
    let f : ℕ → Option (List (List ℕ)) = told_at state setup disks in
    let ns : List ℕ = range_with_len 0 (length setup.devices) in
    let at : slice_get ns n ≡ Some n =
    slice_get-get_or ns n 0 (subst (λ (k : ℕ). n < k) (sym (length-range_with_len 0 (length setup.devices))) lt)
    ∙ ap (λ (k : ℕ). Some k) (get_or-range_with_len 0 (length setup.devices) n 0 lt ∙ zero-add n) in
    get_or_from_slice_get (map f ns) n (f n) None (slice_get-map f ns n ∙ ap (option_map f) at)

-- ---- only the content of its own bases is told in a part

module _ (F G : Base → Base) (h : ℕ → Option Base) where
  same_from : (k a : ℕ) → ((n : ℕ) → n < a + k → option_map F (h n) ≡ option_map G (h n)) → map F (filter_map h (range_with_len a k)) ≡ map G (filter_map h (range_with_len a k))
  same_from zero a all = refl
  same_from (suc k) a all = go (h a) (all a (omega arith)) (same_from k (a + 1) (λ n lt. all n (omega arith)))
    where
      go : (o : Option Base) → option_map F o ≡ option_map G o → map F (filter_map h (range_with_len (a + 1) k)) ≡ map G (filter_map h (range_with_len (a + 1) k))
          → map F (cons_option o (filter_map h (range_with_len (a + 1) k))) ≡ map G (cons_option o (filter_map h (range_with_len (a + 1) k)))
      go None e rest = rest
      go (Some b) e rest = ap₂ (λ (x : Base) (xs : List Base). x ∷ xs) (same_Some (F b) (G b) e) rest

module _ (setup : Setup) (t : ℕ) (f g : DevId → Content) (agree : (n : ℕ) → n < length setup.devices → home setup (dev_of n) ≡ t → f (dev_of n) ≡ g (dev_of n)) where
  one_same : (n : ℕ) → n < length setup.devices
      → option_map (told_base setup f) (base_if_here setup [] t (dev_of n) (row_of setup (dev_of n))) ≡ option_map (told_base setup g) (base_if_here setup [] t (dev_of n) (row_of setup (dev_of n)))
  one_same n lt = of_row (row_of setup (dev_of n))
    where
      here : (row : DevRow) (b : Bool) → (is_base_kind row.kind && (home setup (dev_of n) == t)) ≡ b
          → option_map (told_base setup f) (cond b (Some (base_at_start [] (dev_of n) row)) None) ≡ option_map (told_base setup g) (cond b (Some (base_at_start [] (dev_of n) row)) None)
      here row true e =
          let at : home setup (dev_of n) ≡ t = eqb-true (home setup (dev_of n)) t (and_parts (is_base_kind row.kind) (home setup (dev_of n) == t) e).1 in
          ap (λ (x : Content). let b : Base = record (base_at_start [] (dev_of n) row) { content = cond (is_aio setup (dev_of n)) x (base_at_start [] (dev_of n) row).content } in Some b) (agree n lt at)
      here row false e = refl

      of_row : (o : Option DevRow) → option_map (told_base setup f) (base_if_here setup [] t (dev_of n) o) ≡ option_map (told_base setup g) (base_if_here setup [] t (dev_of n) o)
      of_row None = refl
      of_row (Some row) = here row (is_base_kind row.kind && (home setup (dev_of n) == t)) refl

  pub told_alike : told_view setup f (view_at_start setup [] t) ≡ told_view setup g (view_at_start setup [] t)
  told_alike =
      ap (λ (bs : List Base). let v : View = record (view_at_start setup [] t) { part = record (view_at_start setup [] t).part { bases = bs } } in v)
      (same_from (told_base setup f) (told_base setup g) (λ n. base_if_here setup [] t (dev_of n) (row_of setup (dev_of n))) (length setup.devices) 0 (λ n lt. one_same n (omega arith)))

-- **at the start a thread sees what its own disks tell**
pub opened_view : {D : Type 0} (state : D → DiskState) (setup : Setup) (disks : List (List (DevId × D))) (t : ℕ) (own : List (DevId × D))
    → AreBasesLowest setup → disks_at disks t ≡ own
    → view_at_start setup (told_of state setup disks) t ≡ told_view setup (contents_of state own) (view_at_start setup [] t)
opened_view {D} state setup disks t own lowest at =
    let told : Told = told_of state setup disks in
    start_is_told setup told t lowest
    ∙ told_alike setup t (λ dev. content_told (slice_index_or told dev.0 None)) (contents_of state own)
    (λ n lt here.
    ap content_told (told_here state setup disks n lt)
    ∙ blocks_again (option_map state (disk_of (dev_of n) (disks_at disks (home setup (dev_of n)))))
    ∙ ap (λ (k : ℕ). contents_of state (disks_at disks k) (dev_of n)) here
    ∙ ap (λ (ds : List (DevId × D)). contents_of state ds (dev_of n)) at)
