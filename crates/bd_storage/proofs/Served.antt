-- What the disks did when one of them served a piece.
use Rattle.std.proofs.Common.{◌≡◌, ℕ, Bool, true, false, cond, ◌&&◌, List, [], ◌∷◌, ◌++◌, map, find, Option, Some, None, option_and_then, refl, sym, ◌∙◌, ap, ap₂, subst}
use Rattle.std.specs.Option.{option_map}
use Rattle.bd_base.specs.declared.act.ApplyEnd.{ApplyEnd}
use Rattle.bd_base.specs.declared.id.DevId.{DevId}
use Rattle.bd_base.specs.declared.id.ReqId.{ReqId}
use Rattle.bd_base.specs.declared.setup.Setup.{Setup}
use Rattle.bd_disks.specs.Done.{AreDoneBy, DidPiecesIf}
use Rattle.bd_disks.specs.Rows.{disk_of, is_row, ChangesDisk, ChangesRow, Does}
use Rattle.bd_disks.proofs.Done.{did_none}
use Rattle.bd_steps.specs.Serving.{first_of, id_if_on, may_hold}
use Rattle.bd_home.specs.Serving.{first_at}
use Rattle.bd_machine.specs.declared.state.Id.{Id}
use Rattle.bd_machine.specs.declared.state.Id.TheVariants as ids
use Rattle.bd_machine.specs.declared.state.OpenPiece.{OpenPiece}
use Rattle.bd_machine.specs.BlockMap.{is_aio, size_of}
use Rattle.bd_machine.specs.Homes.{is_base, is_home}
use Rattle.bd_machine.specs.Kept.{as_piece}
use Rattle.bd_machine.specs.Same.{same_dev}
use Rattle.bd_machine.proofs.Tables.{dev_exact}
use Rattle.bd_outside.specs.Disk.{DiskState}
use Rattle.bd_law_served.specs.Served.{served_if, ServedPiece}
use Rattle.bd_thread.specs.declared.thread.Thread.{Thread}
use Rattle.bd_thread.specs.Disks.{piece_on_disk}
use Rattle.bd_tokens.specs.Tokens.{here_in}

-- ---- a disk that changed, and the others

module _ {D : Type 0} (dev : DevId) (So : D → D → Type 0) where
  abbrev Here : List (DevId × D) → List (DevId × D) → Type 0
  Here old new = (a : D) × (b : D) × (disk_of dev old ≡ Some a) × (disk_of dev new ≡ Some b) × So a b

  pub changed_here : (old new : List (DevId × D)) → ChangesDisk dev So old new → Here old new
  changed_here [] new h = absurd h
  changed_here (row ∷ rows) [] h = absurd h
  changed_here (row ∷ rows) (next ∷ new) h = go (λ c. changed_here rows new c) (is_row dev row) refl h
    where
      go : (ChangesDisk dev So rows new → Here rows new) → (b : Bool) → is_row dev row ≡ b → ChangesRow b So row next (new ≡ rows) (ChangesDisk dev So rows new) → Here (row ∷ rows) (next ∷ new)
      go others true e c =
          let is : is_row dev next ≡ true = ap (λ (d : DevId). same_dev d dev) c.0 ∙ e in
          (row.1, next.1, ap (λ (b : Bool). cond b (Some row.1) (disk_of dev rows)) e, ap (λ (b : Bool). cond b (Some next.1) (disk_of dev new)) is, c.1)
      go others false e c =
          let r = others c.1 in
          let is : is_row dev next ≡ false = ap (λ (x : DevId × D). is_row dev x) c.0 ∙ e in
          (r.0, r.1, ap (λ (b : Bool). cond b (Some row.1) (disk_of dev rows)) e ∙ r.2, ap (λ (b : Bool). cond b (Some next.1) (disk_of dev new)) is ∙ r.3, r.4)

  pub unchanged_else : (other : DevId) (old new : List (DevId × D)) → same_dev dev other ≡ false → ChangesDisk dev So old new → disk_of other new ≡ disk_of other old
  unchanged_else other [] new ne h = absurd h
  unchanged_else other (row ∷ rows) [] ne h = absurd h
  unchanged_else other (row ∷ rows) (next ∷ new) ne h = go (λ c. unchanged_else other rows new ne c) (is_row dev row) refl h
    where
      go : (ChangesDisk dev So rows new → disk_of other new ≡ disk_of other rows) → (b : Bool) → is_row dev row ≡ b → ChangesRow b So row next (new ≡ rows) (ChangesDisk dev So rows new) → disk_of other (next ∷ new) ≡ disk_of other (row ∷ rows)
      go others true e c =
          let is : row.0 ≡ dev = dev_exact row.0 dev e in
          let old-no : is_row other row ≡ false = ap (λ (d : DevId). same_dev d other) is ∙ ne in
          let new-no : is_row other next ≡ false = ap (λ (d : DevId). same_dev d other) c.0 ∙ old-no in
          ap (λ (b : Bool). cond b (Some next.1) (disk_of other new)) new-no
          ∙ ap (disk_of other) c.2
          ∙ sym (ap (λ (b : Bool). cond b (Some row.1) (disk_of other rows)) old-no)
      go others false e c =
          ap (λ (x : DevId × D). cond (is_row other x) (Some x.1) (disk_of other new)) c.0
          ∙ ap (λ (o : Option D). cond (is_row other row) (Some row.1) o) (others c.1)

  pub same_devices : (old new : List (DevId × D)) → ChangesDisk dev So old new → map (λ (row : DevId × D). row.0) new ≡ map (λ (row : DevId × D). row.0) old
  same_devices [] new h = absurd h
  same_devices (row ∷ rows) [] h = absurd h
  same_devices (row ∷ rows) (next ∷ new) h = go (λ c. same_devices rows new c) (is_row dev row) h
    where
      go : (ChangesDisk dev So rows new → map (λ (r : DevId × D). r.0) new ≡ map (λ (r : DevId × D). r.0) rows) → (b : Bool) → ChangesRow b So row next (new ≡ rows) (ChangesDisk dev So rows new)
          → next.0 ∷ map (λ (r : DevId × D). r.0) new ≡ row.0 ∷ map (λ (r : DevId × D). r.0) rows
      go others true c = ap₂ (λ (d : DevId) (ds : List DevId). d ∷ ds) c.0 (ap (λ (rs : List (DevId × D)). map (λ (r : DevId × D). r.0) rs) c.2)
      go others false c = ap₂ (λ (d : DevId) (ds : List DevId). d ∷ ds) (ap (λ (r : DevId × D). r.0) c.0) (others c.1)

-- ---- one piece

none_some : {X : Type 0} {Q : Type 0} {x : X} → None ≡ Some x → Q
none_some e = cc

some_same : {X : Type 0} {x y : X} → Some x ≡ Some y → x ≡ y
some_same e = cc

-- the piece that is next on a device's disk is of this device
pub piece_is_on : (t : Thread) (dev : DevId) (p : OpenPiece) → piece_on_disk t dev ≡ Some p → p.base ≡ dev
piece_is_on t dev p next = by_guard (is_home t.setup.now t.me dev && is_aio t.setup.now dev && may_hold t.setup.now dev (find (is_base dev) t.part.bases)) next
  where
    piece_of : Option Id → Option OpenPiece
    piece_of due = option_and_then (λ (id : Id). as_piece (here_in t.held.items id)) due

    by_piece : (q : ReqId × ℕ) (o : Option OpenPiece) → as_piece (here_in t.held.items (ids.Piece q.0 q.1)) ≡ o → piece_of (id_if_on dev q o) ≡ Some p → p.base ≡ dev
    by_piece q None e h = none_some h
    by_piece q (Some r) e h = by_base (same_dev r.base dev) refl h
      where
        by_base : (b : Bool) → same_dev r.base dev ≡ b → piece_of (cond b (Some (ids.Piece q.0 q.1)) None) ≡ Some p → p.base ≡ dev
        by_base true on is = subst (λ (x : OpenPiece). x.base ≡ dev) (some_same (sym e ∙ is)) (dev_exact r.base dev on)
        by_base false on is = none_some is

    by_first : (o : Option (ReqId × ℕ)) → piece_of (first_of dev (here_in t.held.items) o) ≡ Some p → p.base ≡ dev
    by_first None h = none_some h
    by_first (Some q) h = by_piece q (as_piece (here_in t.held.items (ids.Piece q.0 q.1))) refl h

    by_guard : (b : Bool) → piece_of (cond b (first_of dev (here_in t.held.items) (first_at (find (is_base dev) t.part.bases))) None) ≡ Some p → p.base ≡ dev
    by_guard true h = by_first (first_at (find (is_base dev) t.part.bases)) h
    by_guard false h = none_some h

-- the disk of a device did one piece
module _ {D : Type 0} (state : D → DiskState) (setup : Setup) (dev : DevId) (p : OpenPiece) (end : ApplyEnd) (read : Option (List ℕ)) (ds ds' : List (DevId × D))
    (did : ChangesDisk dev (λ old new. Does (size_of setup dev) p end read (state old) (state new)) ds ds') where
  abbrev So : D → D → Type 0
  So old new = Does (size_of setup dev) p end read (state old) (state new)

  abbrev one : List ServedPiece
  one = served_if end (Some p)

  here : DidPiecesIf (size_of setup dev) one (option_map state (disk_of dev ds)) (option_map state (disk_of dev ds'))
  here =
      let c = changed_here dev So ds ds' did in
      subst (λ (o : Option D). DidPiecesIf (size_of setup dev) one (option_map state o) (option_map state (disk_of dev ds'))) (sym c.2)
      (subst (λ (o : Option D). DidPiecesIf (size_of setup dev) one (Some (state c.0)) (option_map state o)) (sym c.3) (state c.1, read, c.4, refl))

  pub one_done : AreDoneBy state setup (λ other. cond (same_dev dev other) one [] ++ []) ds ds'
  one_done = record { devices = same_devices dev So ds ds' did; pieces_are = λ other aio. at other (same_dev dev other) refl }
    where
      at : (other : DevId) (b : Bool) → same_dev dev other ≡ b → DidPiecesIf (size_of setup other) (cond b one [] ++ []) (option_map state (disk_of other ds)) (option_map state (disk_of other ds'))
      at other true same = subst (λ (d : DevId). DidPiecesIf (size_of setup d) one (option_map state (disk_of d ds)) (option_map state (disk_of d ds'))) (dev_exact dev other same) here
      at other false ne =
          subst (λ (o : Option D). DidPiecesIf (size_of setup other) [] (option_map state (disk_of other ds)) (option_map state o)) (sym (unchanged_else dev So other ds ds' ne did))
          (did_none (size_of setup other) (option_map state (disk_of other ds)))
