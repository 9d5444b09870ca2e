-- What a thread serves over what its disks hold.
use Rattle.std.proofs.Common.{◌≡◌, ℕ, ◌≤◌, Bool, true, false, cond, List, [], ◌∷◌, ◌++◌, refl, sym, ◌∙◌, ap, ap₂, subst, append_assoc}
use Rattle.bd_base.specs.declared.act.Act.{Act}
use Rattle.bd_base.specs.declared.act.Act.TheVariants as acts
use Rattle.bd_base.specs.declared.id.DevId.{DevId}
use Rattle.bd_base.specs.declared.setup.Setup.{Setup}
use Rattle.bd_machine.specs.declared.state.Content.{Content}
use Rattle.bd_machine.specs.BlockMap.{is_aio}
use Rattle.bd_machine.specs.Kept.{piece_here}
use Rattle.bd_machine.specs.Same.{same_dev}
use Rattle.bd_machine.specs.View.{View}
use Rattle.bd_machine.proofs.Tables.{dev_exact}
use Rattle.bd_law_disks.specs.Over.{LeadsOver, contents_then, local_over}
use Rattle.bd_law_disks.specs.Told.{is_on_disk, told_view}
use Rattle.bd_law_disks.proofs.Over.{over_is_told, over_keeps_bases}
use Rattle.bd_turns.specs.Local.{Local}
use Rattle.bd_law_served.specs.Laws.{OverServesAsTold, OverServesOn, OwnServesNone}
use Rattle.bd_law_served.specs.Served.{served_by, served_if, served_led, served_over, ServedPiece}

-- ---- where the content is told

-- a piece that is served is seen as it is without what is told
told_serves : (setup : Setup) (contents : DevId → Content) (dev : DevId) (v : View) (act : Act) → served_by dev (told_view setup contents v) act ≡ served_by dev v act
told_serves setup contents dev v (acts.Apply req k on end) = refl
told_serves setup contents dev v _ = refl

pub over_serves_as_told : OverServesAsTold
over_serves_as_told setup contents t dev l [] contents' l' apart once h = refl
over_serves_as_told setup contents t dev l (e ∷ es) contents' l' apart once h =
    ap₂ (λ (xs ys : List ServedPiece). xs ++ ys) (told_serves setup contents dev l.view e.act) (
    ap (λ (x : Local). served_led setup t dev x es)
    (over_is_told setup contents t l (e ∷ []) (contents_then setup contents l e) (local_over setup t contents l e) apart once first).3
    ∙ over_serves_as_told setup (contents_then setup contents l e) t dev (local_over setup t contents l e) es contents' l' apart
    (λ on. subst (λ (n : ℕ). n ≤ 1) (sym (over_keeps_bases setup contents t l (e ∷ []) (contents_then setup contents l e) (local_over setup t contents l e) first on)) (once on))
    h.3)
  where
    -- the first entry alone
    first : LeadsOver setup t contents l (e ∷ []) (contents_then setup contents l e) (local_over setup t contents l e)
    first = (h.0, h.1, h.2, (refl, refl))

-- ---- without disks

own_serves : (setup : Setup) (dev : DevId) (v : View) (act : Act) → is_aio setup dev ≡ true → is_on_disk setup act ≡ false → served_by dev v act ≡ []
own_serves setup dev v (acts.Apply req k on end) aio own = go (same_dev on dev) refl
  where
    go : (b : Bool) → same_dev on dev ≡ b → cond b (served_if end (piece_here v req k)) [] ≡ []
    go true e = let bad : true ≡ false = sym (ap (is_aio setup) (dev_exact on dev e) ∙ aio) ∙ own in cc
    go false e = refl
own_serves setup dev v _ aio own = refl

pub own_serves_none : OwnServesNone
own_serves_none setup contents t dev l [] aio own = refl
own_serves_none setup contents t dev l (e ∷ es) aio own =
    ap₂ (λ (xs ys : List ServedPiece). xs ++ ys) (own_serves setup dev l.view e.act aio own.0)
    (own_serves_none setup (contents_then setup contents l e) t dev (local_over setup t contents l e) es aio own.1)

-- ---- in parts

pub over_serves_on : OverServesOn
over_serves_on setup t dev contents contents' l l' [] fs h = ap₂ (λ (c : DevId → Content) (x : Local). served_over setup t dev c x fs) h.0 h.1
over_serves_on setup t dev contents contents' l l' (e ∷ es) fs h =
    ap (λ (xs : List ServedPiece). served_by dev l.view e.act ++ xs)
    (over_serves_on setup t dev (contents_then setup contents l e) contents' (local_over setup t contents l e) l' es fs h.3)
    ∙ sym (append_assoc (served_by dev l.view e.act) (served_over setup t dev (contents_then setup contents l e) (local_over setup t contents l e) es) (served_over setup t dev contents' l' fs))
