-- Content that is filled in: the guards of each act, and what it changes.
use Rattle.std.proofs.Common.{◌≡◌, ℕ, ◌+◌, ◌==◌, ◌&&◌, Bool, true, false, cond, List, [], ◌∷◌, map, Option, Some, None, is_none, refl, sym, ◌∙◌, ap}
use Rattle.std.specs.Option.{option_map}
use Rattle.bd_base.specs.declared.act.Act.{Act}
use Rattle.bd_base.specs.declared.act.Act.TheVariants as acts
use Rattle.bd_base.specs.declared.act.ApplyEnd.{ApplyEnd}
use Rattle.bd_base.specs.declared.act.Token.{Token}
use Rattle.bd_base.specs.declared.act.Token.TheVariants as tokens
use Rattle.bd_base.specs.declared.id.DevId.{DevId}
use Rattle.bd_base.specs.declared.id.ReqId.{ReqId}
use Rattle.bd_base.specs.declared.setup.Setup.{Setup}
use Rattle.bd_machine.specs.declared.guard.TheConstants.{HEAD_OF_QUEUE, END_ALLOWED, QUEUE_FULL, MAY_DESTRUCT, CONTENT_DIGEST}
use Rattle.bd_machine.specs.declared.state.Base.{Base}
use Rattle.bd_machine.specs.declared.state.Content.{Content}
use Rattle.bd_machine.specs.declared.state.Id.{Id}
use Rattle.bd_machine.specs.declared.state.Kept.{Kept}
use Rattle.bd_machine.specs.declared.state.Kept.TheVariants as keeps
use Rattle.bd_machine.specs.declared.state.OpenPiece.{OpenPiece}
use Rattle.bd_machine.specs.declared.state.Part.{Part}
use Rattle.bd_machine.specs.declared.state.Progress.{Progress}
use Rattle.bd_machine.specs.declared.state.Progress.TheVariants.{Held, Out, Served}
use Rattle.bd_machine.specs.BlockMap.{home, is_aio, is_malloc, size_of, depth_of}
use Rattle.bd_machine.specs.Guards.{guards, change, change_by, noted, prior_by}
use Rattle.bd_machine.specs.Grace.{softened}
use Rattle.bd_machine.specs.Marks.{with_until}
use Rattle.bd_machine.specs.Homes.{base_grown, bases_grown, change_grow, is_base, base_here, is_first_at, is_on_base, is_done_or, holds_at_most, is_too_many, is_digest_at, may_destruct, change_applied, applied, without_last}
use Rattle.bd_machine.specs.Kept.{request_here, piece_here, walk_here}
use Rattle.bd_machine.specs.Messages.{bases_took, queued, taken_by, arrived_walk, closed_notice, here_with, progress_took}
use Rattle.bd_machine.specs.Table.{change_first, write}
use Rattle.bd_machine.specs.View.{View, Came, id_of}
use Rattle.bd_law_disks.specs.Laws.{GuardsAreSame, OwnChangeIsSame}
use Rattle.bd_law_disks.specs.Told.{is_on_disk}
use Rattle.bd_law_disks.proofs.Fields.{with_moves, with_bases, filled_base, filled, filled_view, filled_change, stopped_filled, came_filled, walked_filled, visit_filled, notice_filled, reg_filled, remarked_filled, ended_filled}
use Rattle.bd_law_disks.proofs.Bases.{find_filled, change_filled, find_stays, applied_stays, grown_stays}

module _ (fill : DevId → Content → Content) where
  -- ---- guards

  apply_guards : (setup : Setup) (t : ℕ) (v : View) (req : ReqId) (k : ℕ) (dev : DevId) (end : ApplyEnd) (came : Came)
      → guards setup t (filled_view fill v) (acts.Apply req k dev end) came ≡ guards setup t v (acts.Apply req k dev end) came
  apply_guards setup t v req k dev end came = ap by (find_filled fill dev v.part.bases) ∙ go (base_here v dev)
    where
      by : Option Base → List (ℕ × Bool)
      by b = (HEAD_OF_QUEUE, (home setup dev == t) && is_first_at req k b && is_on_base dev (piece_here v req k) && holds_at_most (depth_of setup dev) b) ∷
          (END_ALLOWED, is_done_or (is_aio setup dev) end) ∷ []

      go : (b : Option Base) → by (option_map (filled_base fill) b) ≡ by b
      go None = refl
      go (Some b) = refl

  refuse_guards : (setup : Setup) (t : ℕ) (v : View) (req : ReqId) (k : ℕ) (dev : DevId) (came : Came)
      → guards setup t (filled_view fill v) (acts.NoMem req k dev) came ≡ guards setup t v (acts.NoMem req k dev) came
  refuse_guards setup t v req k dev came = ap by (find_filled fill dev v.part.bases) ∙ go (base_here v dev)
    where
      by : Option Base → List (ℕ × Bool)
      by b = (QUEUE_FULL, (home setup dev == t) && is_on_base dev (piece_here v req k) && is_too_many req k (depth_of setup dev) b) ∷ []

      go : (b : Option Base) → by (option_map (filled_base fill) b) ≡ by b
      go None = refl
      go (Some b) = refl

  destruct_guards : (setup : Setup) (t : ℕ) (v : View) (dev : DevId) (digest : Option (List ℕ)) (came : Came)
      → (is_malloc setup dev ≡ true → (x : Content) → fill dev x ≡ x)
      → guards setup t (filled_view fill v) (acts.Destruct dev digest) came ≡ guards setup t v (acts.Destruct dev digest) came
  destruct_guards setup t v dev digest came h =
      ap (λ (b : Bool). (MAY_DESTRUCT, may_destruct setup t v came dev) ∷ (CONTENT_DIGEST, b) ∷ []) (go (is_malloc setup dev) h)
    where
      go : (b : Bool) → (b ≡ true → (x : Content) → fill dev x ≡ x)
          → cond b (is_digest_at (base_here (filled_view fill v) dev) digest) (is_none digest)
          ≡ cond b (is_digest_at (base_here v dev) digest) (is_none digest)
      go true h = ap (λ (b : Option Base). is_digest_at b digest) (find_stays fill dev (h refl) v.part.bases)
      go false h = refl

  pub guards_filled : (setup : Setup) (t : ℕ) (v : View) (act : Act) (came : Came)
      → ((dev : DevId) → is_malloc setup dev ≡ true → (x : Content) → fill dev x ≡ x)
      → guards setup t (filled_view fill v) act came ≡ guards setup t v act came
  guards_filled setup t v (acts.Apply req k dev end) came h = apply_guards setup t v req k dev end came
  guards_filled setup t v (acts.NoMem req k dev) came h = refuse_guards setup t v req k dev came
  guards_filled setup t v (acts.Destruct dev digest) came h = destruct_guards setup t v dev digest came (h dev)
  guards_filled setup t v _ came h = refl

  -- ---- changes

  apply_change : (setup : Setup) (v : View) (req : ReqId) (k : ℕ) (dev : DevId) (end : ApplyEnd) → ((x : Content) → fill dev x ≡ x)
      → change_applied (filled_view fill v) req k dev end (size_of setup dev) (piece_here v req k) (base_here (filled_view fill v) dev)
      ≡ filled_change fill (change_applied v req k dev end (size_of setup dev) (piece_here v req k) (base_here v dev))
  apply_change setup v req k dev end stays =
      ap (change_applied (filled_view fill v) req k dev end (size_of setup dev) (piece_here v req k)) (find_stays fill dev stays v.part.bases)
      ∙ go (piece_here v req k) (base_here v dev)
    where
      go : (x : Option OpenPiece) (y : Option Base)
          → change_applied (filled_view fill v) req k dev end (size_of setup dev) x y
          ≡ filled_change fill (change_applied v req k dev end (size_of setup dev) x y)
      go None y = refl
      go (Some p) None = refl
      go (Some p) (Some b) =
          ap (with_bases (change_applied v req k dev end (size_of setup dev) (Some p) (Some b)).moves v.part)
          (change_filled fill dev (applied end p) (applied end p) (applied_stays fill dev stays end p) v.part.bases)

  took_bases : (p : OpenPiece) (progress : Progress) (req : ReqId) (k : ℕ) (bs : List Base)
      → bases_took p progress req k (map (filled_base fill) bs) ≡ map (filled_base fill) (bases_took p progress req k bs)
  took_bases p Out req k bs = change_filled fill p.base (queued req k) (queued req k) (λ b e. refl) bs
  took_bases p Held req k bs = refl
  took_bases p Served req k bs = refl

  taken_change : (setup : Setup) (t : ℕ) (what : Token) (p : Part) (x : Option Kept) (id : Id)
      → taken_by setup t what (filled fill p) x id ≡ filled_change fill (taken_by setup t what p x id)
  taken_change setup t what p None id = refl
  taken_change setup t (tokens.Request req) p (Some (keeps.Request r)) id =
      ap (with_moves (here_with id (keeps.Request r))) (came_filled fill setup req r r.trip p)
  taken_change setup t (tokens.Piece req k) p (Some (keeps.Piece q)) id =
      ap (with_bases (here_with id (keeps.Piece (record q { progress = progress_took q.progress }))) p) (took_bases q q.progress req k p.bases)
  taken_change setup t (tokens.Walk walk) p (Some (keeps.Walk w)) id = walked_filled fill t walk (arrived_walk w) p
  taken_change setup t what p (Some (keeps.Notice told)) id = notice_filled fill setup t told p (closed_notice id told)
  taken_change setup t _ p _ id = refl

  grown_bases : (setup : Setup) (dev : DevId) (blocks : ℕ) → (is_aio setup dev ≡ false → (x : Content) → fill dev x ≡ x) → (bs : List Base)
      → bases_grown setup dev blocks (map (filled_base fill) bs) ≡ map (filled_base fill) (bases_grown setup dev blocks bs)
  grown_bases setup dev blocks stays bs = go (is_aio setup dev) stays
    where
      go : (c : Bool) → (c ≡ false → (x : Content) → fill dev x ≡ x)
          → cond c (map (filled_base fill) bs) (change_first (is_base dev) (base_grown blocks) (map (filled_base fill) bs))
          ≡ map (filled_base fill) (cond c bs (change_first (is_base dev) (base_grown blocks) bs))
      go true s = refl
      go false s = change_filled fill dev (base_grown blocks) (base_grown blocks) (grown_stays fill dev (s refl) blocks) bs

  changed_by : (setup : Setup) (t : ℕ) (v : View) (act : Act) (came : Came)
      → ((req : ReqId) (k : ℕ) (dev : DevId) (end : ApplyEnd) → act ≡ acts.Apply req k dev end → (x : Content) → fill dev x ≡ x)
      → ((dev : DevId) → is_aio setup dev ≡ false → (x : Content) → fill dev x ≡ x)
      → change_by setup t (filled_view fill v) act came ≡ filled_change fill (change_by setup t v act came)
  changed_by setup t v (acts.Took source number what) came h g =
      taken_change setup t what (record v.part { taken = write ◌==◌ v.part.taken source (number + 1) }) came.message (id_of source t number what)
  changed_by setup t v (acts.Reg event a) came h g = reg_filled fill setup t v came event a
  changed_by setup t v (acts.Apply req k dev end) came h g = apply_change setup v req k dev end (h req k dev end refl)
  changed_by setup t v (acts.NoMem req k dev) came h g =
      ap (with_bases (change_by setup t v (acts.NoMem req k dev) came).moves v.part)
      (change_filled fill dev without_last without_last (λ b e. refl) v.part.bases)
  changed_by setup t v (acts.Abort req cause) came h g =
      ap (with_moves (change_by setup t v (acts.Abort req cause) came).moves) (stopped_filled fill setup v.part req (request_here v req))
  changed_by setup t v (acts.Visit walk dev kind) came h g = visit_filled fill setup t v walk dev kind (walk_here v walk)
  changed_by setup t v (acts.Grow dev blocks) came h g =
      ap (with_bases [] (change_grow setup v dev blocks).part) (grown_bases setup dev blocks (g dev) v.part.bases)
  changed_by setup t v (acts.Grace walk until) came h g = ap (with_moves []) (remarked_filled fill (softened walk v.part.prior) (with_until until) v.part)
  changed_by setup t v (acts.Due walk now) came h g = ap (with_moves []) (ended_filled fill walk now v.part)
  changed_by setup t v _ came h g = refl

  pub change_filled_in : (setup : Setup) (t : ℕ) (v : View) (act : Act) (came : Came)
      → ((req : ReqId) (k : ℕ) (dev : DevId) (end : ApplyEnd) → act ≡ acts.Apply req k dev end → (x : Content) → fill dev x ≡ x)
      → ((dev : DevId) → is_aio setup dev ≡ false → (x : Content) → fill dev x ≡ x)
      → change setup t (filled_view fill v) act came ≡ filled_change fill (change setup t v act came)
  change_filled_in setup t v act came h g = ap (noted (prior_by v act)) (changed_by setup t v act came h g)

-- ---- content that is told

abbrev pub told_fill : Setup → (DevId → Content) → DevId → Content → Content
told_fill setup contents dev x = cond (is_aio setup dev) (contents dev) x

-- a device that is no aio device keeps its content
pub fill_stays : (setup : Setup) (contents : DevId → Content) (dev : DevId) → is_aio setup dev ≡ false → (x : Content) → told_fill setup contents dev x ≡ x
fill_stays setup contents dev h x = ap (λ (b : Bool). cond b (contents dev) x) h

pub guards_are_same : GuardsAreSame
guards_are_same setup contents t v act came apart =
    guards_filled (told_fill setup contents) setup t v act came (λ dev h. fill_stays setup contents dev (apart dev h))

pub own_change_is_same : OwnChangeIsSame
own_change_is_same setup contents t v act came own =
    change_filled_in (told_fill setup contents) setup t v act came (λ req k dev end e. fill_stays setup contents dev (sym (ap (is_on_disk setup) e) ∙ own)) (fill_stays setup contents)
