-- A thread goes on over what its disks hold.
use Rattle.std.proofs.Common.{◌≡◌, ℕ, ◌≤◌, ◌&&◌, ◌==◌, nat_lt, Bool, true, false, cond, List, [], ◌∷◌, Option, Some, None, is_some, refl, sym, ◌∙◌, ap, ap₂, subst}
use Rattle.std.specs.List.{count_by}
use Rattle.std.proofs.lemmas.Bool.{and_parts}
use Rattle.bd_base.specs.declared.act.Act.{Act}
use Rattle.bd_base.specs.declared.act.Act.TheVariants as acts
use Rattle.bd_base.specs.declared.act.ApplyEnd.{ApplyEnd}
use Rattle.bd_base.specs.declared.act.Entry.{Entry}
use Rattle.bd_base.specs.declared.id.DevId.{DevId}
use Rattle.bd_base.specs.declared.id.ReqId.{ReqId}
use Rattle.bd_base.specs.declared.setup.Setup.{Setup}
use Rattle.bd_machine.specs.declared.guard.TheConstants.{UNBUILT, IN_ORDER}
use Rattle.bd_machine.specs.declared.state.Base.{Base}
use Rattle.bd_machine.specs.declared.state.Content.{Content}
use Rattle.bd_machine.specs.declared.state.OpenPiece.{OpenPiece}
use Rattle.bd_machine.specs.BlockMap.{depth_of, home, is_aio}
use Rattle.bd_machine.specs.Guards.{guards, change, is_built}
use Rattle.bd_machine.specs.Homes.{base_here, holds_at_most, is_base, is_first_at, is_on_base}
use Rattle.bd_machine.specs.Kept.{piece_here}
use Rattle.bd_machine.specs.View.{View, Came, Change}
use Rattle.bd_machine.proofs.Acts.{Passes, passed}
use Rattle.bd_turns.proofs.Allowed.{all_pass}
use Rattle.bd_turns.specs.Local.{Local, Leads, came_local, change_local, carried_local, local_after, refusal_local}
use Rattle.bd_law_disks.specs.Laws.{OverGoesOn, OverIsTold, OverKeepsBases, OwnIsOver}
use Rattle.bd_law_disks.specs.Over.{LeadsOver, change_over, contents_over, contents_then, local_over, piece_by_disk}
use Rattle.bd_law_disks.specs.Told.{told_local, told_view, told_change, is_on_disk, IsOnce}
use Rattle.bd_law_disks.proofs.Acts.{own_change_is_same}
use Rattle.bd_law_disks.proofs.Disk.{disk_change_is_told}
use Rattle.bd_law_disks.proofs.Kept.{bases_stay}
use Rattle.bd_law_disks.proofs.Steps.{refusal_is_same}

-- ---- an act

based : (req : ReqId) (k : ℕ) (b : Option Base) → is_first_at req k b ≡ true → is_some b ≡ true
based req k None h = cc
based req k (Some b) h = refl

placed : (dev : DevId) (p : Option OpenPiece) → is_on_base dev p ≡ true → is_some p ≡ true
placed dev None h = cc
placed dev (Some p) h = refl

-- where an Apply may be made, its base and its piece are here
here : (setup : Setup) (t : ℕ) (v : View) (req : ReqId) (k : ℕ) (dev : DevId) (end : ApplyEnd) (came : Came)
    → Passes (guards setup t v (acts.Apply req k dev end) came)
    → (is_some (base_here v dev) ≡ true) × (is_some (piece_here v req k) ≡ true)
here setup t v req k dev end came h =
    let first = (passed (guards setup t v (acts.Apply req k dev end) came) h).0 in
    let at_home : Bool = (home setup dev == t) && is_first_at req k (base_here v dev) in
    let all = and_parts (at_home && is_on_base dev (piece_here v req k)) (holds_at_most (depth_of setup dev) (base_here v dev)) first in
    let most = and_parts at_home (is_on_base dev (piece_here v req k)) all.0 in
    (based req k (base_here v dev) (and_parts (home setup dev == t) (is_first_at req k (base_here v dev)) most.0).1, placed dev (piece_here v req k) most.1)

change_told : (setup : Setup) (contents : DevId → Content) (t : ℕ) (v : View) (act : Act) (came : Came) → ((dev : DevId) → IsOnce dev v.part.bases)
    → Passes (guards setup t v act came)
    → change setup t (told_view setup contents v) act came
    ≡ told_change setup (contents_over act (piece_by_disk setup v act) contents)
    (change_over setup contents act (piece_by_disk setup v act) (change setup t v act came))
change_told setup contents t v (acts.Apply req k dev end) came once h = go (is_aio setup dev) refl
  where
    of_piece : (x : Option OpenPiece) → piece_here v req k ≡ x → is_some x ≡ true → is_aio setup dev ≡ true
        → change setup t (told_view setup contents v) (acts.Apply req k dev end) came
        ≡ told_change setup (contents_over (acts.Apply req k dev end) x contents)
        (change_over setup contents (acts.Apply req k dev end) x (change setup t v (acts.Apply req k dev end) came))
    of_piece None e some aio = cc
    of_piece (Some p) e some aio = disk_change_is_told setup contents t v came req k dev end p aio (once dev) (here setup t v req k dev end came h).0 e

    go : (b : Bool) → is_aio setup dev ≡ b → change setup t (told_view setup contents v) (acts.Apply req k dev end) came
        ≡ told_change setup (contents_over (acts.Apply req k dev end) (cond b (piece_here v req k) None) contents)
        (change_over setup contents (acts.Apply req k dev end) (cond b (piece_here v req k) None) (change setup t v (acts.Apply req k dev end) came))
    go true e = of_piece (piece_here v req k) refl (here setup t v req k dev end came h).1 e
    go false e = own_change_is_same setup contents t v (acts.Apply req k dev end) came e
change_told setup contents t v act came once h = own_change_is_same setup contents t v act came refl

-- ---- an entry

act_passes : (setup : Setup) (t : ℕ) (l : Local) (e : Entry)
    → refusal_local setup t l e ≡ None → Passes (guards setup t l.view e.act (came_local setup t l e.act))
act_passes setup t l e h =
    let gs : List (ℕ × Bool) = guards setup t l.view e.act (came_local setup t l e.act) in
    all_pass gs (passed ((UNBUILT, is_built e.act) ∷ (IN_ORDER, nat_lt l.shared.stamp e.stamp) ∷ gs) h).1.1

entry_told : (setup : Setup) (contents : DevId → Content) (t : ℕ) (l : Local) (e : Entry) → ((dev : DevId) → IsOnce dev l.view.part.bases)
    → refusal_local setup t l e ≡ None
    → local_after setup t (told_local setup contents l) e ≡ told_local setup (contents_then setup contents l e) (local_over setup t contents l e)
unfolding local_after local_over
entry_told setup contents t l e once h =
    ap (carried_local setup t (told_local setup contents l) e)
    (change_told setup contents t l.view e.act (came_local setup t l e.act) once (act_passes setup t l e h))

bases_over : (setup : Setup) (contents : DevId → Content) (t : ℕ) (l : Local) (e : Entry) (dev : DevId)
    → count_by (is_base dev) (local_over setup t contents l e).view.part.bases ≡ count_by (is_base dev) l.view.part.bases
unfolding local_over
bases_over setup contents t l e dev =
    go e.act (piece_by_disk setup l.view e.act) (change_local setup t l e.act) (bases_stay setup t l.view e.act (came_local setup t l e.act) dev)
  where
    go : (act : Act) (x : Option OpenPiece) (c : Change) → count_by (is_base dev) c.part.bases ≡ count_by (is_base dev) l.view.part.bases
        → count_by (is_base dev) (change_over setup contents act x c).part.bases ≡ count_by (is_base dev) l.view.part.bases
    go (acts.Apply req k d end) (Some p) c h = h
    go (acts.Apply req k d end) None c h = h
    go _ x c h = h

-- an own entry
no_piece : (setup : Setup) (v : View) (act : Act) → is_on_disk setup act ≡ false → piece_by_disk setup v act ≡ None
no_piece setup v (acts.Apply req k dev end) h = ap (λ (b : Bool). cond b (piece_here v req k) None) h
no_piece setup v _ h = refl

none_over : (setup : Setup) (contents : DevId → Content) (act : Act) (c : Change) → change_over setup contents act None c ≡ c
none_over setup contents (acts.Apply req k dev end) c = refl
none_over setup contents _ c = refl

none_then : (contents : DevId → Content) (act : Act) → contents_over act None contents ≡ contents
none_then contents (acts.Apply req k dev end) = refl
none_then contents _ = refl

own_over : (setup : Setup) (contents : DevId → Content) (t : ℕ) (l : Local) (e : Entry) → is_on_disk setup e.act ≡ false
    → local_after setup t l e ≡ local_over setup t contents l e
unfolding local_after local_over
own_over setup contents t l e h =
    ap (carried_local setup t l e) (sym (none_over setup contents e.act (change_local setup t l e.act))
    ∙ sym (ap (λ (x : Option OpenPiece). change_over setup contents e.act x (change_local setup t l e.act)) (no_piece setup l.view e.act h)))

own_then : (setup : Setup) (contents : DevId → Content) (l : Local) (e : Entry) → is_on_disk setup e.act ≡ false → contents ≡ contents_then setup contents l e
own_then setup contents l e h = sym (none_then contents e.act)
    ∙ sym (ap (λ (x : Option OpenPiece). contents_over e.act x contents) (no_piece setup l.view e.act h))

-- ---- entries

pub over_keeps_bases : OverKeepsBases
over_keeps_bases setup contents t l [] contents' l' h dev = ap (λ (x : Local). count_by (is_base dev) x.view.part.bases) (sym h.1)
over_keeps_bases setup contents t l (e ∷ es) contents' l' h dev =
    over_keeps_bases setup (contents_then setup contents l e) t (local_over setup t contents l e) es contents' l' h.3 dev ∙ bases_over setup contents t l e dev

pub over_is_told : OverIsTold
over_is_told setup contents t l [] contents' l' apart once h = ap₂ (λ (c : DevId → Content) (x : Local). told_local setup c x) h.0 h.1
over_is_told setup contents t l (e ∷ es) contents' l' apart once h = (
  h.0,
  h.1,
  refusal_is_same setup contents t l e apart ∙ h.2,
  subst (λ (x : Local). Leads setup t x es (told_local setup contents' l')) (sym (entry_told setup contents t l e once h.2))
      (over_is_told setup (contents_then setup contents l e) t (local_over setup t contents l e) es contents' l' apart
      (λ dev. subst (λ (n : ℕ). n ≤ 1) (sym (bases_over setup contents t l e dev)) (once dev)) h.3),
)

pub own_is_over : OwnIsOver
own_is_over setup contents t l [] l' own h = (refl, h)
own_is_over setup contents t l (e ∷ es) l' own h = (
  h.0,
  h.1,
  h.2,
  subst (λ (x : DevId → Content). LeadsOver setup t x (local_over setup t contents l e) es contents l') (own_then setup contents l e own.0)
      (own_is_over setup contents t (local_over setup t contents l e) es l' own.1
      (subst (λ (x : Local). Leads setup t x es l') (own_over setup contents t l e own.0) h.3)),
)

pub over_goes_on : OverGoesOn
over_goes_on setup t first next last l l' l'' [] fs h k =
    subst (λ (x : DevId → Content). LeadsOver setup t x l fs last l'') (sym h.0) (subst (λ (x : Local). LeadsOver setup t next x fs last l'') (sym h.1) k)
over_goes_on setup t first next last l l' l'' (e ∷ es) fs h k =
    (h.0, h.1, h.2, over_goes_on setup t (contents_then setup first l e) next last (local_over setup t first l e) l' l'' es fs h.3 k)
