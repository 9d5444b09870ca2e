-- Apply, by the local rules.
use Rattle.std.proofs.Common.{◌≡◌, ℕ, ◌+◌, Bool, true, cond, ◌&&◌, ◌==◌, List, Option, Some, None, refl, sym, ◌∙◌, ap, subst, eq-eqb, eqb-true, is_some}
use Rattle.std.specs.List.{find}
use Rattle.std.specs.Option.{option_map}
use Rattle.std.proofs.lemmas.Bool.{and_from, and_parts}
use Rattle.bd_base.specs.declared.act.Act.TheVariants as acts
use Rattle.bd_base.specs.declared.act.ApplyEnd.{ApplyEnd}
use Rattle.bd_base.specs.declared.id.DevId.{DevId}
use Rattle.bd_base.specs.declared.id.ReqId.{ReqId}
use Rattle.bd_base.specs.declared.setup.Setup.{Setup}
use Rattle.bd_home.specs.Fitting.{fits_at}
use Rattle.bd_home.specs.Serving.{can_serve}
use Rattle.bd_machine.specs.declared.state.Base.{Base}
use Rattle.bd_machine.specs.declared.state.Id.{Id}
use Rattle.bd_machine.specs.declared.state.Id.TheVariants.{Piece}
use Rattle.bd_machine.specs.declared.state.Kept.{Kept}
use Rattle.bd_machine.specs.declared.state.Kept.TheVariants as keeps
use Rattle.bd_machine.specs.declared.state.OpenPiece.{OpenPiece}
use Rattle.bd_machine.specs.declared.state.Part.{Part}
use Rattle.bd_machine.specs.declared.state.Registry.{Registry}
use Rattle.bd_machine.specs.BlockMap.{home, is_aio, row_of, size_of}
use Rattle.bd_machine.specs.Kept.{as_piece}
use Rattle.bd_machine.specs.Guards.{noted}
use Rattle.bd_machine.specs.Homes.{applied, change_applied, is_base, is_done_or, is_first_at, is_home, is_on_base, served}
use Rattle.bd_machine.specs.Same.{same_id, same_dev}
use Rattle.bd_machine.specs.Table.{change_first}
use Rattle.bd_turns.specs.Local.{Local, carried_local}
use Rattle.bd_turns.specs.declared.queue.Message.{Message}
use Rattle.bd_links.specs.Entries.{entry_at}
use Rattle.bd_thread.specs.Seen.{local_at, untaken}
use Rattle.bd_steps.specs.Serving.{may_hold}
use Rattle.bd_thread.proofs.Going.{Steps, steps, still_shut}

-- a base that can serve a piece is the piece's own
pub serves_own : (size : ℕ) (dev : DevId) (base : Option Base) (q : OpenPiece) → can_serve size dev base q ≡ true → same_dev q.base dev ≡ true
serves_own size dev base q ready = (and_parts (fits_at size base q) (same_dev q.base dev) ready).1

pub at_home : (setup : Setup) (t : ℕ) (dev : DevId) → is_home setup t dev ≡ true → home setup dev ≡ t
at_home setup t dev h = eqb-true (home setup dev) t (and_parts (is_some (row_of setup dev)) (home setup dev == t) h).1

module _ (setup : Setup) (t : ℕ) (part : Part) (here : Id → Option Kept) (registry : Registry) (shut : Bool) (stamp : ℕ) (queues : ℕ → List Message) (req : ReqId) (k : ℕ) (dev : DevId) (end : ApplyEnd) where
  abbrev pub more_here : OpenPiece → Id → Option Kept
  more_here p = λ j. cond (same_id (Piece req k) j) (Some (keeps.Piece p)) (here j)

  abbrev pub part_with : List Base → Part
  part_with bases = record part { bases = bases }

  abbrev after_apply : List Base → (Id → Option Kept) → Local
  after_apply bases more = local_at t (untaken (part_with bases)) more registry shut (stamp + 1) queues

  -- a piece q that is here, and a base b
  apply_one : (q : OpenPiece) (b : Base)
      → home setup dev ≡ t
      → find (is_base dev) part.bases ≡ Some b
      → is_first_at req k (Some b) ≡ true
      → here (Piece req k) ≡ Some (keeps.Piece q)
      → same_dev q.base dev ≡ true
      → may_hold setup dev (Some b) ≡ true
      → is_done_or (is_aio setup dev) end ≡ true
      → Steps setup t (local_at t part here registry shut stamp queues) (acts.Apply req k dev end)
      (after_apply (change_first (is_base dev) (applied end q) part.bases) (more_here (served end (size_of setup dev) q b)))
  apply_one q b home-is found first is on holds allowed =
      let l : Local = local_at t part here registry shut stamp queues in
      let l' : Local = after_apply (change_first (is_base dev) (applied end q) part.bases) (more_here (served end (size_of setup dev) q b)) in
      let step : Option Kept → Option Base → Local = λ o c. carried_local setup t l (entry_at t (stamp + 1) (acts.Apply req k dev end)) (noted None (change_applied l.view req k dev end (size_of setup dev) (as_piece o) c)) in
      let at : Bool = home setup dev == t in
      let is_next : Bool = at && is_first_at req k (find (is_base dev) part.bases) in
      let is_on : Bool = is_on_base dev (as_piece (here (Piece req k))) in
      steps setup t l l' (acts.Apply req k dev end) refl refl (
        and_from (is_next && is_on) (may_hold setup dev (find (is_base dev) part.bases))
            (and_from is_next is_on
            (and_from at (is_first_at req k (find (is_base dev) part.bases)) (eq-eqb (home setup dev) t home-is) (ap (is_first_at req k) found ∙ first))
            (ap (λ (o : Option Kept). is_on_base dev (as_piece o)) is ∙ on))
            (ap (may_hold setup dev) found ∙ holds),
        (allowed, tt),
      )
      (ap (λ (o : Option Kept). step o (find (is_base dev) part.bases)) is
      ∙ ap (step (Some (keeps.Piece q))) found
      ∙ ap (λ (s : Bool). local_at t (untaken (part_with (change_first (is_base dev) (applied end q) part.bases))) (more_here (served end (size_of setup dev) q b)) registry s (stamp + 1) queues) (still_shut shut))

  apply_of : (c : Option Base) (q : OpenPiece) (size : ℕ) (piece : OpenPiece) (bases : List Base) (more : Id → Option Kept)
      → find (is_base dev) part.bases ≡ c
      → home setup dev ≡ t
      → size ≡ size_of setup dev
      → is_first_at req k c ≡ true
      → here (Piece req k) ≡ Some (keeps.Piece q)
      → same_dev q.base dev ≡ true
      → may_hold setup dev c ≡ true
      → is_done_or (is_aio setup dev) end ≡ true
      → bases ≡ change_first (is_base dev) (applied end q) part.bases
      → option_map (served end size q) c ≡ Some piece
      → more ≡ more_here piece
      → Steps setup t (local_at t part here registry shut stamp queues) (acts.Apply req k dev end) (after_apply bases more)
  apply_of None q size piece bases more found home-is size-is first is on holds allowed bases-are piece-is more-is = cc
  apply_of (Some b) q size piece bases more found home-is size-is first is on holds allowed bases-are piece-is more-is =
      let l : Local = local_at t part here registry shut stamp queues in
      let act = acts.Apply req k dev end in
      let all : List Base = change_first (is_base dev) (applied end q) part.bases in
      let kept : more_here (served end (size_of setup dev) q b) ≡ more =
      ap (λ (n : ℕ). more_here (served end n q b)) (sym size-is) ∙ ap more_here (some_same piece-is) ∙ sym more-is in
      subst (λ (m : Id → Option Kept). Steps setup t l act (after_apply bases m)) kept
      (subst (λ (bs : List Base). Steps setup t l act (after_apply bs (more_here (served end (size_of setup dev) q b)))) (sym bases-are)
      (apply_one q b home-is found first is on holds allowed))
    where
      some_same : {X : Type 0} {x y : X} → Some x ≡ Some y → x ≡ y
      some_same e = cc

  -- **Apply**
  pub apply_steps : (q : OpenPiece) (size : ℕ) (piece : OpenPiece) (bases : List Base) (more : Id → Option Kept)
      → home setup dev ≡ t
      → size ≡ size_of setup dev
      → is_first_at req k (find (is_base dev) part.bases) ≡ true
      → here (Piece req k) ≡ Some (keeps.Piece q)
      → same_dev q.base dev ≡ true
      → may_hold setup dev (find (is_base dev) part.bases) ≡ true
      → is_done_or (is_aio setup dev) end ≡ true
      → bases ≡ change_first (is_base dev) (applied end q) part.bases
      → option_map (served end size q) (find (is_base dev) part.bases) ≡ Some piece
      → more ≡ more_here piece
      → Steps setup t (local_at t part here registry shut stamp queues) (acts.Apply req k dev end) (after_apply bases more)
  apply_steps q size piece bases more = apply_of (find (is_base dev) part.bases) q size piece bases more refl
