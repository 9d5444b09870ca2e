-- What the disks of a run told at its start, and the base devices that stand on nothing.
use Rattle.std.proofs.Common.{◌≡◌, ℕ, ◌<◌, ◌%◌, true, List, [], length, map, Option, Some, None, refl, sym, ◌∙◌, ap, subst, zero-add}
use Rattle.std.specs.List.{range_with_len, slice_get}
use Rattle.std.specs.Option.{option_map}
use Rattle.std.specs.Prelude.{slice_index_or}
use Rattle.std.proofs.lemmas.List.FromFn.{get_or-range_with_len, length-range_with_len}
use Rattle.std.proofs.lemmas.Option.{get_or_from_slice_get, slice_get-get_or, slice_get-map}
use Rattle.bd_base.specs.declared.device.DevRow.{DevRow}
use Rattle.bd_base.specs.declared.id.DevId.{DevId}
use Rattle.bd_base.specs.declared.setup.Setup.{Setup}
use Rattle.bd_building.specs.AioDevices.{AreBasesAlone}
use Rattle.bd_disks.specs.Holding.{content_in, content_of}
use Rattle.bd_disks.specs.Rows.{disk_of}
use Rattle.bd_machine.specs.BlockMap.{base_of_row, has_kind, home, is_base_kind, row_of}
use Rattle.bd_machine.specs.Content.{content_told}
use Rattle.bd_node.specs.Disks.{blocks_in, told_at, told_of}
use Rattle.bd_disk_pool.specs.Covering.{AreApart, Begun, IsAtHome}
use Rattle.bd_disk_pool.proofs.Lists.{found}
use Rattle.bd_outside.specs.Disk.{DiskState}
use Rattle.bd_disks.specs.Contents.{contents_of, content_if}
use Rattle.bd_law_disks.specs.Told.{AreBasesLowest}

-- base devices that stand on nothing by the rows of their setup do so by their numbers
pub bases_lowest : (setup : Setup) → AreBasesAlone setup → AreBasesLowest setup
bases_lowest setup alone dev = go (row_of setup dev) refl
  where
    go : (o : Option DevRow) → row_of setup dev ≡ o → has_kind is_base_kind o ≡ true → base_of_row o ≡ None
    go None at is = refl
    go (Some row) at is = alone dev.0 row at is

-- what a disk holds is blocks or untold
told_again : (disk : DiskState) → content_told (blocks_in (content_of disk)) ≡ content_of disk
told_again disk = go disk.block_size disk.blocks disk.content
  where
    go : (size n : ℕ) (o : Option (List ℕ)) → content_told (blocks_in (content_in size n o)) ≡ content_in size n o
    go size n None = refl
    go size n (Some bytes) = refl

told_by_number : {D : Type 0} (state : D → DiskState) (setup : Setup) (disks : List (List (DevId × D))) (n : ℕ) → n < length setup.devices
    → slice_index_or (told_of state setup disks) n None ≡ told_at state setup disks n
told_by_number state setup disks n lt =
    let f : ℕ → Option (List (List ℕ)) = told_at state setup disks in
    let ns : List ℕ = range_with_len 0 (length setup.devices) in
    let at : slice_get ns n ≡ Some n =
    slice_get-get_or ns n 0 (subst (λ (k : ℕ). n < k) (sym (length-range_with_len 0 (length setup.devices))) lt)
    ∙ ap (λ (k : ℕ). Some k) (get_or-range_with_len 0 (length setup.devices) n 0 lt ∙ zero-add n) in
    get_or_from_slice_get (map f ns) n (f n) None (slice_get-map f ns n ∙ ap (option_map f) at)

-- **what is told of a device at the start is what its disk held as it was opened**
pub told_at_home : {D : Type 0} (state : D → DiskState) (setup : Setup) (disks : List (List (DevId × D))) (b : Begun) → b.dev.0 < length setup.devices
    → b.dev.0 % length disks ≡ home setup b.dev
    → (at : IsAtHome state disks b)
    → AreApart (map (λ (r : DevId × D). r.0) at.own)
    → content_told (slice_index_or (told_of state setup disks) b.dev.0 None) ≡ content_of b.disk
told_at_home {D = D} state setup disks b lt here at apart =
    let own : slice_index_or disks (home setup b.dev) [] ≡ at.own =
    ap (λ (t : ℕ). slice_index_or disks t []) (sym here) ∙ get_or_from_slice_get disks (b.dev.0 % length disks) at.own [] at.there in
    let disk : disk_of b.dev at.own ≡ Some at.row.1 = subst (λ (d : DevId). disk_of d at.own ≡ Some at.row.1) at.device (found at.own at.row apart at.among) in
    ap content_told (told_by_number state setup disks b.dev.0 lt)
    ∙ ap (λ (ds : List (DevId × D)). content_told (blocks_in (contents_of state ds b.dev))) own
    ∙ ap (λ (o : Option D). content_told (blocks_in (content_if (option_map state o)))) disk
    ∙ ap (λ (d : DiskState). content_told (blocks_in (content_of d))) at.same
    ∙ told_again b.disk
