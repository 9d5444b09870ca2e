-- A thread with its disks: not at all, one piece, by itself, and one way after the other.
use Rattle.std.proofs.Common.{◌≡◌, ℕ, ◌+◌, Bool, true, false, not, cond, List, [], ◌∷◌, ◌++◌, length, Option, Some, None, option_and_then, Result, Ok, Err, IfOk, OnOk, refl, sym, ◌∙◌, ap, subst, append_assoc, append-nil}
use Rattle.std.specs.List.{AllByRecursion}
use Rattle.std.specs.Option.{option_map}
use Rattle.std.proofs.lemmas.List.{append_cancel_left}
use Rattle.bd_base.specs.declared.act.Act.{Act}
use Rattle.bd_base.specs.declared.act.Act.TheVariants as acts
use Rattle.bd_base.specs.declared.act.ApplyEnd.{ApplyEnd}
use Rattle.bd_base.specs.declared.act.Entry.{Entry}
use Rattle.bd_base.specs.declared.id.DevId.{DevId}
use Rattle.bd_base.specs.declared.setup.Setup.{Setup}
use Rattle.bd_disks.specs.Rows.{disk_of, ChangesDisk, Does}
use Rattle.bd_links.specs.Entries.{entry_at}
use Rattle.bd_machine.specs.declared.state.Id.{Id}
use Rattle.bd_machine.specs.declared.state.Id.TheVariants as ids
use Rattle.bd_machine.specs.declared.state.OpenPiece.{OpenPiece}
use Rattle.bd_machine.specs.BlockMap.{is_aio, size_of}
use Rattle.bd_machine.specs.Kept.{as_piece}
use Rattle.bd_machine.specs.Same.{same_dev}
use Rattle.bd_law_logs.specs.Journals.{events}
use Rattle.bd_outside.specs.Disk.{DiskState}
use Rattle.bd_law_served.specs.Served.{served_if, served_over, ServedPiece}
use Rattle.bd_law_served.proofs.Over.{over_serves_on, own_serves_none}
use Rattle.bd_disks.specs.Contents.{contents_of}
use Rattle.bd_disks.specs.Done.{AreDoneBy, DidPiecesIf}
use Rattle.bd_storage.specs.Served.{served_of, WentAloneWithDisks, WentWithDisks}
use Rattle.bd_storage.proofs.Contents.{one_over}
use Rattle.bd_disks.proofs.Done.{did_none, done_none, done_then, done_same}
use Rattle.bd_storage.proofs.Served.{one_done, piece_is_on}
use Rattle.bd_thread.specs.declared.links.Links.{Links}
use Rattle.bd_thread.specs.declared.thread.Thread.{Thread}
use Rattle.bd_thread.specs.Acted.{is_own, Acted, AreOf}
use Rattle.bd_thread.specs.Disks.{disk_due, piece_on_disk}
use Rattle.bd_thread.specs.Given.{ServesAs, ServesAsBy, ServesOver}
use Rattle.bd_thread.specs.Over.{WentOver}
use Rattle.bd_thread.specs.Seen.{block_size, local, number_of, setup_of}
use Rattle.bd_thread.specs.Work.{ActedAlone, AsksNothing}
use Rattle.bd_thread.proofs.Alone.{alone_then}
use Rattle.bd_thread.proofs.Over.{acted_over, over_none, over_then}
use Rattle.bd_law_disks.specs.Told.{is_on_disk}
use Rattle.bd_tokens.specs.Tokens.{here_in}

-- ---- what a thread did by itself

is_not : (b : Bool) → not b ≡ true → b ≡ false
is_not true h = cc
is_not false h = refl

not_on_disk : (setup : Setup) (act : Act) → is_own setup act ≡ true → is_on_disk setup act ≡ false
not_on_disk setup (acts.Apply req k dev end) h = is_not (is_aio setup dev) h
not_on_disk setup _ h = refl

none_on_disk : (setup : Setup) (es : List Entry) → AreOf is_own setup es → AllByRecursion (λ e. is_on_disk setup e.act ≡ false) es
none_on_disk setup [] h = tt
none_on_disk setup (e ∷ es) h = (not_on_disk setup e.act h.0, none_on_disk setup es h.1)

module _ {D : Type 0} (state : D → DiskState) where
  -- ---- the way on, by the entries that were added

  with_by : (x : List (DevId × D)) (o : Thread) (a : Links) (y : List (DevId × D)) (n : Thread) (c : Links) → WentOver (contents_of state x) (contents_of state y) o a n c
      → (es : List Entry) → c.entries ≡ a.entries ++ es → AreDoneBy state (setup_of o) (served_of state x o a es) x y → WentWithDisks state x o a y n c
  with_by x o a y n c g es added done = record {
    went = g;
    done = subst (λ (fs : List Entry). AreDoneBy state (setup_of o) (served_of state x o a fs) x y) (append_cancel_left a.entries es g.entries (sym added ∙ g.added)) done;
  }

  pub with_none : (x : List (DevId × D)) (t : Thread) (links : Links) → WentWithDisks state x t links x t links
  with_none x t links = with_by x t links x t links (over_none (contents_of state x) t links) [] (sym (append-nil links.entries)) (done_none state (setup_of t) x)

  pub with_then : (x : List (DevId × D)) (o : Thread) (a : Links) (y : List (DevId × D)) (m : Thread) (b : Links) (z : List (DevId × D)) (n : Thread) (c : Links)
      → WentWithDisks state x o a y m b → WentWithDisks state y m b z n c → WentWithDisks state x o a z n c
  with_then x o a y m b z n c g h =
      let setup : Setup = setup_of o in
      let first : DevId → List ServedPiece = served_of state x o a g.went.entries in
      let next : DevId → List ServedPiece = λ dev. served_over setup (number_of o) dev (contents_of state y) (local m b) h.went.entries in
      let there : AreDoneBy state setup next y z =
      subst (λ (t : ℕ). AreDoneBy state setup (λ dev. served_over setup t dev (contents_of state y) (local m b) h.went.entries) y z) g.went.me
      (subst (λ (s : Setup). AreDoneBy state s (λ dev. served_over s (number_of m) dev (contents_of state y) (local m b) h.went.entries) y z) (ap (λ s. s.now) g.went.setup) h.done)
      in
      with_by x o a z n c (over_then (contents_of state x) (contents_of state y) (contents_of state z) o a m b n c g.went h.went) (g.went.entries ++ h.went.entries)
      (h.went.added ∙ ap (λ (es : List Entry). es ++ h.went.entries) g.went.added ∙ append_assoc a.entries g.went.entries h.went.entries)
      (done_same state setup (λ dev. first dev ++ next dev) (served_of state x o a (g.went.entries ++ h.went.entries)) x z
      (λ dev. sym (over_serves_on setup (number_of o) dev (contents_of state x) (contents_of state y) (local o a) (local m b) g.went.entries h.went.entries g.went.leads))
      (done_then state setup first next x y z g.done there))

  -- no disk served where a thread went on by itself
  with_own : (x : List (DevId × D)) (o : Thread) (a : Links) (n : Thread) (c : Links) → Acted o a n c → WentWithDisks state x o a x n c
  with_own x o a n c g = with_by x o a x n c (acted_over (contents_of state x) o a n c g) g.entries g.added (record { devices = refl; pieces_are = at })
    where
      at : (dev : DevId) → is_aio (setup_of o) dev ≡ true
          → DidPiecesIf (size_of (setup_of o) dev) (served_of state x o a g.entries dev) (option_map state (disk_of dev x)) (option_map state (disk_of dev x))
      at dev aio =
          subst (λ (pieces : List ServedPiece). DidPiecesIf (size_of (setup_of o) dev) pieces (option_map state (disk_of dev x)) (option_map state (disk_of dev x)))
          (sym (own_serves_none (setup_of o) (contents_of state x) (number_of o) dev (local o a) g.entries aio (none_on_disk (setup_of o) g.entries g.acts)))
          (did_none (size_of (setup_of o) dev) (option_map state (disk_of dev x)))

  -- ---- a turn

  -- **the disks served, and then the thread went on by itself**
  pub turn_with : (x : List (DevId × D)) (o : Thread) (a : Links) (y : List (DevId × D)) (m : Thread) (b : Links) (n : Thread) (c : Links)
      → WentWithDisks state x o a y m b → Acted m b n c → WentWithDisks state x o a y n c
  turn_with x o a y m b n c g h = with_then x o a y m b y n c g (with_own y m b n c h)

  -- so, and neither asked the registry
  pub turn_alone_with : (x : List (DevId × D)) (o : Thread) (a : Links) (y : List (DevId × D)) (m : Thread) (b : Links) (n : Thread) (c : Links)
      → WentWithDisks state x o a y m b → AsksNothing a b → ActedAlone m b n c → WentAloneWithDisks state x o a y n c
  turn_alone_with x o a y m b n c g first h =
      let both : WentWithDisks state x o a y n c = turn_with x o a y m b n c g h.acted in
      let none : AsksNothing a c = alone_then a b c first (record { registry = h.registry; entries = h.acted.entries; added = h.acted.added; none_asks = h.none_asks }) in
      record {
        went = both;
        registry = none.registry;
        none_asks = ap events (append_cancel_left a.entries both.went.entries none.entries (sym both.went.added ∙ none.added)) ∙ none.none_asks;
      }

  -- ---- one piece

  -- the disk did what the piece asks that is next, and the thread took it
  pub one_with : {E : Type 0} (dev : DevId) (p : OpenPiece) (end : ApplyEnd) (read : Option (List ℕ)) (size : ℕ) (ds ds' : List (DevId × D)) (t : Thread) (a : Links) (t' : Thread) (a' : Links) (result : Result Bool E)
      → Some p ≡ piece_on_disk t dev
      → size ≡ block_size t dev
      → ChangesDisk p.base (λ old new. Does size p end read (state old) (state new)) ds ds'
      → OnOk result (ServesOver dev end read t a t' a')
      → IfOk result (ServesAs dev end read t a t' a')
      → OnOk result (WentWithDisks state ds t a ds' t' a')
  one_with dev p end read size ds ds' t a t' a' (Err e) next sized did over serves = tt
  one_with {E = E} dev p end read size ds ds' t a t' a' (Ok done) next sized did over serves = by_due (disk_due t dev) refl serves
    where
      piece_of : Option Id → Option OpenPiece
      piece_of due = option_and_then (λ (id : Id). as_piece (here_in t.held.items id)) due

      went : WentOver (contents_of state ds) (contents_of state ds') t a t' a'
      went = one_over {E = E} state dev p end read size ds ds' t a t' a' (Ok done) next sized did over

      none : Some p ≡ None → WentWithDisks state ds t a ds' t' a'
      none e = cc

      did_here : ChangesDisk dev (λ old new. Does (block_size t dev) p end read (state old) (state new)) ds ds'
      did_here =
          subst (λ (d : DevId). ChangesDisk d (λ old new. Does (block_size t dev) p end read (state old) (state new)) ds ds') (piece_is_on t dev p (sym next))
          (subst (λ (n : ℕ). ChangesDisk p.base (λ old new. Does n p end read (state old) (state new)) ds ds') sized did)

      by_due : (due : Option Id) → disk_due t dev ≡ due → ServesAsBy dev end read t a t' a' done due → WentWithDisks state ds t a ds' t' a'
      by_due None e h = none (next ∙ ap piece_of e)
      by_due (Some (ids.Piece req k)) e h =
          with_by ds t a ds' t' a' went (entry_at (number_of t) (length a.entries + 1) (acts.Apply req k dev end) ∷ []) (ap (λ (l : Links). l.entries) h.1.links)
          (subst (λ (o : Option OpenPiece). AreDoneBy state (setup_of t) (λ other. cond (same_dev dev other) (served_if end o) [] ++ []) ds ds') (next ∙ ap piece_of e)
          (one_done state (setup_of t) dev p end read ds ds' did_here))
      by_due (Some (ids.Request req)) e h = absurd h
      by_due (Some (ids.Walk walk)) e h = absurd h
      by_due (Some (ids.Notice sender receiver number)) e h = absurd h
