-- What disks hold once one of them served a piece, and that the thread went on over it.
use Rattle.std.proofs.Common.{◌≡◌, ℕ, Bool, true, false, cond, List, Option, Some, Result, Ok, Err, OnOk, refl, sym, ◌∙◌, ap, subst}
use Rattle.std.specs.Option.{option_map}
use mathlib.Core.Path.{fun_ext}
use Rattle.bd_base.specs.declared.act.ApplyEnd.{ApplyEnd}
use Rattle.bd_base.specs.declared.id.DevId.{DevId}
use Rattle.bd_disks.specs.Rows.{ChangesDisk, Does}
use Rattle.bd_disks.proofs.Contents.{content_then, read_is}
use Rattle.bd_machine.specs.declared.state.Content.{Content}
use Rattle.bd_machine.specs.declared.state.OpenPiece.{OpenPiece}
use Rattle.bd_machine.specs.Homes.{content_by, read_by}
use Rattle.bd_machine.specs.Same.{same_dev}
use Rattle.bd_machine.proofs.Tables.{dev_exact}
use Rattle.bd_outside.specs.Disk.{DiskState}
use Rattle.bd_disks.specs.Contents.{contents_of, content_if}
use Rattle.bd_storage.proofs.Served.{changed_here, piece_is_on, unchanged_else}
use Rattle.bd_thread.specs.declared.links.Links.{Links}
use Rattle.bd_thread.specs.declared.thread.Thread.{Thread}
use Rattle.bd_thread.specs.Disks.{piece_on_disk}
use Rattle.bd_thread.specs.Given.{contents_once, IsReadBy, ServesOver}
use Rattle.bd_thread.specs.Over.{WentOver}
use Rattle.bd_thread.specs.Seen.{block_size}
use Rattle.bd_law_disks.specs.Told.{contents_after}

no_both : {Q : Type 0} → true ≡ false → Q
no_both e = cc

-- two devices that differ do so whichever is named first
other_way : (a b : DevId) → same_dev a b ≡ false → same_dev b a ≡ false
other_way a b ne = go (same_dev b a) refl
  where
    go : (s : Bool) → same_dev b a ≡ s → s ≡ false
    go false e = refl
    go true e = no_both (sym e ∙ ap (λ (d : DevId). same_dev d a) (dev_exact b a e) ∙ sym (ap (λ (d : DevId). same_dev a d) (dev_exact b a e)) ∙ ne)

module _ {D : Type 0} (state : D → DiskState) (size : ℕ) (p : OpenPiece) (end : ApplyEnd) (read : Option (List ℕ)) (ds ds' : List (DevId × D))
    (did : ChangesDisk p.base (λ old new. Does size p end read (state old) (state new)) ds ds') where
  abbrev So : D → D → Type 0
  So old new = Does size p end read (state old) (state new)

  -- the disk that served the piece holds what it leaves
  content_here : contents_of state ds' p.base ≡ content_by end (contents_of state ds p.base) p
  content_here =
      let c = changed_here p.base So ds ds' did in
      ap (λ (o : Option D). content_if (option_map state o)) c.3
      ∙ content_then size p end read (state c.0) (state c.1) c.4
      ∙ ap (λ (o : Option D). content_by end (content_if (option_map state o)) p) (sym c.2)

  -- and the piece read what it held
  read_here : read ≡ read_by end size (contents_of state ds p.base) p
  read_here =
      let c = changed_here p.base So ds ds' did in
      read_is size p end read (state c.0) (state c.1) c.4
      ∙ ap (λ (o : Option D). read_by end size (content_if (option_map state o)) p) (sym c.2)

  -- the others hold what they held
  contents_are : contents_of state ds' ≡ contents_after p.base end p (contents_of state ds)
  contents_are = fun_ext at
    where
      at : (d : DevId) → contents_of state ds' d ≡ contents_after p.base end p (contents_of state ds) d
      at d = go (same_dev d p.base) refl
        where
          go : (s : Bool) → same_dev d p.base ≡ s → contents_of state ds' d ≡ cond s (content_by end (contents_of state ds d) p) (contents_of state ds d)
          go true e = subst (λ (x : DevId). contents_of state ds' x ≡ content_by end (contents_of state ds x) p) (sym (dev_exact d p.base e)) content_here
          go false e = ap (λ (o : Option D). content_if (option_map state o)) (unchanged_else p.base So d ds ds' (other_way d p.base e) did)

-- the disk did what the piece that is next asks, and the thread took it
pub one_over : {D E : Type 0} (state : D → DiskState) (dev : DevId) (p : OpenPiece) (end : ApplyEnd) (read : Option (List ℕ)) (size : ℕ) (ds ds' : List (DevId × D)) (t : Thread) (a : Links) (t' : Thread) (a' : Links) (result : Result Bool E)
    → Some p ≡ piece_on_disk t dev
    → size ≡ block_size t dev
    → ChangesDisk p.base (λ old new. Does size p end read (state old) (state new)) ds ds'
    → OnOk result (ServesOver dev end read t a t' a')
    → OnOk result (WentOver (contents_of state ds) (contents_of state ds') t a t' a')
one_over state dev p end read size ds ds' t a t' a' (Err e) next sized did serves = tt
one_over state dev p end read size ds ds' t a t' a' (Ok done) next sized did serves =
    let on : p.base ≡ dev = piece_is_on t dev p (sym next) in
    let reads : read ≡ read_by end (block_size t dev) (contents_of state ds dev) p =
    read_here state size p end read ds ds' did
    ∙ ap (λ (n : ℕ). read_by end n (contents_of state ds p.base) p) sized
    ∙ ap (λ (d : DevId). read_by end (block_size t dev) (contents_of state ds d) p) on
    in
    let went : WentOver (contents_of state ds) (contents_once dev end (piece_on_disk t dev) (contents_of state ds)) t a t' a' =
    serves (contents_of state ds) (subst (λ (o : Option OpenPiece). IsReadBy end read (block_size t dev) (contents_of state ds dev) o) next reads)
    in
    let then : contents_once dev end (piece_on_disk t dev) (contents_of state ds) ≡ contents_of state ds' =
    ap (λ (o : Option OpenPiece). contents_once dev end o (contents_of state ds)) (sym next)
    ∙ ap (λ (d : DevId). contents_after d end p (contents_of state ds)) (sym on)
    ∙ sym (contents_are state size p end read ds ds' did)
    in
    subst (λ (c : DevId → Content). WentOver (contents_of state ds) c t a t' a') then went
