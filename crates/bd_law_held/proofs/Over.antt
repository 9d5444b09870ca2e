-- What a thread holds over what its disks hold: as it is told, by itself, and one way after the other.
use Rattle.std.proofs.Common.{◌≡◌, ℕ, ◌≤◌, false, List, [], ◌∷◌, ◌++◌, refl, sym, ◌∙◌, ap, ap₂, subst, append_assoc}
use Rattle.std.specs.List.{AllByRecursion}
use Rattle.bd_base.specs.declared.act.Act.{Act}
use Rattle.bd_base.specs.declared.act.Entry.{Entry}
use Rattle.bd_base.specs.declared.id.DevId.{DevId}
use Rattle.bd_base.specs.declared.setup.Setup.{Setup}
use Rattle.bd_machine.specs.declared.state.Content.{Content}
use Rattle.bd_law_disks.specs.Over.{LeadsOver, contents_then, local_over}
use Rattle.bd_law_disks.specs.Told.{is_on_disk}
use Rattle.bd_law_disks.proofs.Over.{over_is_told, over_keeps_bases, own_is_over}
use Rattle.bd_turns.specs.Local.{Leads, Local, local_after}
use Rattle.bd_law_held.specs.Laws.{OverHoldsAsTold}
use Rattle.bd_law_held.specs.Held.{held_by, held_led, held_over, Holding}

-- ---- where the content is told

pub over_holds_as_told : OverHoldsAsTold
over_holds_as_told setup contents t l [] contents' l' apart once h = refl
over_holds_as_told setup contents t l (e ∷ es) contents' l' apart once h =
    ap (λ (xs : List Holding). held_by l.view.here e.act ++ xs) (
    ap (λ (x : Local). held_led setup t x es)
    (over_is_told setup contents t l (e ∷ []) (contents_then setup contents l e) (local_over setup t contents l e) apart once first).3
    ∙ over_holds_as_told setup (contents_then setup contents l e) t (local_over setup t contents l e) es contents' l' apart
    (λ on. subst (λ (n : ℕ). n ≤ 1) (sym (over_keeps_bases setup contents t l (e ∷ []) (contents_then setup contents l e) (local_over setup t contents l e) first on)) (once on))
    h.3)
  where
    -- the first entry alone
    first : LeadsOver setup t contents l (e ∷ []) (contents_then setup contents l e) (local_over setup t contents l e)
    first = (h.0, h.1, h.2, (refl, refl))

-- ---- in parts

-- what is held by the local rules in two parts is held in one
pub led_on : (setup : Setup) (t : ℕ) (l l' : Local) (es fs : List Entry) → Leads setup t l es l' → held_led setup t l (es ++ fs) ≡ held_led setup t l es ++ held_led setup t l' fs
led_on setup t l l' [] fs h = ap (λ (x : Local). held_led setup t x fs) h
led_on setup t l l' (e ∷ es) fs h =
    ap (λ (xs : List Holding). held_by l.view.here e.act ++ xs) (led_on setup t (local_after setup t l e) l' es fs h.3)
    ∙ sym (append_assoc (held_by l.view.here e.act) (held_led setup t (local_after setup t l e) es) (held_led setup t l' fs))

-- and so it is over what the disks hold
pub over_on : (setup : Setup) (t : ℕ) (contents contents' : DevId → Content) (l l' : Local) (es fs : List Entry)
    → LeadsOver setup t contents l es contents' l' → held_over setup t contents l (es ++ fs) ≡ held_over setup t contents l es ++ held_over setup t contents' l' fs
over_on setup t contents contents' l l' [] fs h = ap₂ (λ (c : DevId → Content) (x : Local). held_over setup t c x fs) h.0 h.1
over_on setup t contents contents' l l' (e ∷ es) fs h =
    ap (λ (xs : List Holding). held_by l.view.here e.act ++ xs)
    (over_on setup t (contents_then setup contents l e) contents' (local_over setup t contents l e) l' es fs h.3)
    ∙ sym (append_assoc (held_by l.view.here e.act) (held_over setup t (contents_then setup contents l e) (local_over setup t contents l e) es) (held_over setup t contents' l' fs))

-- ---- without disks

-- what no disk does is held over what the disks hold as by the local rules
pub own_held_over : (setup : Setup) (contents : DevId → Content) (t : ℕ) (l : Local) (es : List Entry) (l' : Local) → AllByRecursion (λ e. is_on_disk setup e.act ≡ false) es → Leads setup t l es l'
    → held_led setup t l es ≡ held_over setup t contents l es
own_held_over setup contents t l [] l' own h = refl
own_held_over setup contents t l (e ∷ es) l' own h =
    ap (λ (xs : List Holding). held_by l.view.here e.act ++ xs) (
    own_held_over setup contents t (local_after setup t l e) es l' own.1 h.3
    ∙ ap₂ (λ (c : DevId → Content) (x : Local). held_over setup t c x es) (sym first.0) (sym first.1))
  where
    -- the first entry alone
    leads : LeadsOver setup t contents l (e ∷ []) contents (local_after setup t l e)
    leads = own_is_over setup contents t l (e ∷ []) (local_after setup t l e) (own.0, tt) (h.0, h.1, h.2, refl)

    first : (contents_then setup contents l e ≡ contents) × (local_over setup t contents l e ≡ local_after setup t l e)
    first = leads.3
