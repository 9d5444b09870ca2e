-- A handle that is left may be closed; where a thread has nothing to end; and which devices are left after Shutdown.
use Rattle.std.proofs.Common.{◌≡◌, ◌⊎◌, inl, inr, ℕ, zero, suc, ◌+◌, ◌<◌, ◌≤◌, Bool, true, false, cond, not, ◌&&◌, ◌==◌, List, [], ◌∷◌, length, find, Option, Some, None, is_some, refl, sym, ◌∙◌, ap, subst, eqb-true, arith}
use Rattle.std.specs.List.{filter, list_any, slice_get}
use Rattle.std.proofs.lemmas.Bool.{and_parts, cases_lt}
use Rattle.bd_base.specs.declared.device.DevRow.{DevRow}
use Rattle.bd_base.specs.declared.id.DevId.{DevId}
use Rattle.bd_base.specs.declared.id.HandleId.{HandleId}
use Rattle.bd_blocks.specs.Digests.{digest_due}
use Rattle.bd_machine.specs.declared.state.Handle.{Handle}
use Rattle.bd_machine.specs.declared.state.Owed.{Owed}
use Rattle.bd_machine.specs.declared.state.Owed.TheVariants as owes
use Rattle.bd_machine.specs.Admission.{is_gone}
use Rattle.bd_machine.specs.BlockMap.{is_malloc, row_of}
use Rattle.bd_machine.specs.Homes.{has_destructed, is_base, is_called_for, is_home}
use Rattle.bd_machine.specs.Registry.{is_live, is_on}
use Rattle.bd_machine.specs.Same.{same_handle, same_owed}
use Rattle.bd_machine.specs.View.{View}
use Rattle.bd_rule_view.specs.Came.{came_free}
use Rattle.bd_thread.specs.declared.links.Links.{Links}
use Rattle.bd_thread.specs.declared.thread.Thread.{Thread}
use Rattle.bd_steps.specs.Duties.{removal_of}
use Rattle.bd_thread.specs.Endings.{is_left, left_on, owes_nothing}
use Rattle.bd_thread.specs.Lines.{if_asked, may_close}
use Rattle.bd_thread.specs.Seen.{view_of}
use Rattle.bd_thread.specs.Waits.{NoDestruct, NoRemoval, NoRemovalFrom, NoRemovalOn, NothingOwn}

-- ---- a handle that is left

some_same : {X : Type 0} {x y : X} → Some x ≡ Some y → x ≡ y
some_same e = cc

-- what was found is such a one
pub found_is : {X : Type 0} (is : X → Bool) (xs : List X) (x : X) → find is xs ≡ Some x → is x ≡ true
found_is is [] x h = cc
found_is is (y ∷ ys) x h = go (is y) refl h (found_is is ys x)
  where
    go : (b : Bool) → is y ≡ b → cond b (Some y) (find is ys) ≡ Some x → (find is ys ≡ Some x → is x ≡ true) → is x ≡ true
    go true m e rest = ap is (sym (some_same e)) ∙ m
    go false m e rest = rest e

-- what is left on a device may be closed
pub left_may : (dev : DevId) (t : Thread) (links : Links) (h : Handle) → left_on dev t links ≡ Some h → may_close t links h ≡ true
left_may dev t links h left =
    (and_parts (is_gone t.part h.id) (may_close t links h) (found_is (is_left t links) (filter (is_on dev) (view_of t links).handles) h left)).1

-- of none that are such, none is found
found_none : {X : Type 0} (is : X → Bool) (xs : List X) → ((x : X) → is x ≡ false) → find is xs ≡ None
found_none is [] h = refl
found_none is (x ∷ xs) h = ap (λ b. cond b (Some x) (find is xs)) (h x) ∙ found_none is xs h

-- where no remove event was taken, none is
pub none_left : (dev : DevId) (t : Thread) (links : Links) → length t.part.gone ≡ 0 → left_on dev t links ≡ None
none_left dev t links none =
    found_none (is_left t links) (filter (is_on dev) (view_of t links).handles) (λ h. ap (λ b. b && may_close t links h) (none_gone h.id t.part.gone none))
  where
    none_gone : (id : HandleId) (gone : List HandleId) → length gone ≡ 0 → list_any (same_handle id) gone ≡ false
    none_gone id [] e = refl
    none_gone id (x ∷ xs) e = absurd (omega (arith, e))

-- ---- where nothing is owed

none_of : (is : Owed → Bool) (owed : List Owed) → length owed ≡ 0 → list_any is owed ≡ false
none_of is [] h = refl
none_of is (o ∷ os) h = absurd (omega (arith, h))

-- what isn't called for doesn't go
stays : (home called fresh shown : Bool) → called ≡ false → home && called && fresh && shown ≡ false
stays true false fresh shown h = refl
stays false called fresh shown h = refl
stays true true fresh shown h = cc

-- a thread that owes nothing has no device to destruct
pub undestructed : (t : Thread) (links : Links) → (length t.part.owed == 0) ≡ true → NoDestruct t links
undestructed t links none dev less =
    let setup = t.setup.now in
    let v : View = view_of t links in
    let told = none_of (same_owed (owes.Destruct dev)) t.part.owed (eqb-true (length t.part.owed) 0 none) in
    stays (is_home setup t.me dev) (is_called_for v (came_free true) dev) (not (has_destructed v dev)) (is_some (digest_due (is_malloc setup dev) (find (is_base dev) t.part.bases))) (ap (λ b. b && true) told)

-- one that took no remove event either has no handle to close
pub nothing_own : (t : Thread) (links : Links) → owes_nothing t ≡ true → NothingOwn t links
nothing_own t links h =
    let parts = and_parts (length t.part.owed == 0) (length t.part.gone == 0) h in
    record {
      handle = λ dev known less. none_left dev t links (eqb-true (length t.part.gone) 0 parts.1);
      device = undestructed t links parts.0;
    }

-- ---- after Shutdown

-- a device that the setup doesn't have is none to remove
none_beyond : (rows : List DevRow) (n : ℕ) → length rows ≤ n → slice_get rows n ≡ None
none_beyond [] n h = refl
none_beyond (r ∷ rs) zero h = absurd (omega (arith, h))
none_beyond (r ∷ rs) (suc n) h = none_beyond rs n (omega (arith, h))

pub no_removal_beyond : (t : Thread) (links : Links) → NoRemovalFrom (length t.setup.now.devices) t links
no_removal_beyond t links dev h =
    go (links.shut && (t.me == 0) && is_live links.registry.state dev) (none_beyond t.setup.now.devices dev.0 h)
  where
    go : (b : Bool) → row_of t.setup.now dev ≡ None → if_asked t links (cond b (removal_of (row_of t.setup.now dev)) None) ≡ None
    go true e = ap (λ (o : Option DevRow). if_asked t links (removal_of o)) e
    go false e = refl

-- before the Shutdown, or on another thread, none is
pub no_removal_now : (t : Thread) (links : Links) → (links.shut && (t.me == 0)) ≡ false → NoRemoval t links
no_removal_now t links h dev from = go links.shut (t.me == 0) h
  where
    go : (shut first : Bool) → (shut && first) ≡ false → if_asked t links (cond (shut && first && is_live links.registry.state dev) (removal_of (row_of t.setup.now dev)) None) ≡ None
    go true true e = cc
    go true false e = refl
    go false first e = refl

-- one device more
pub no_removal_from : (n m : ℕ) (t : Thread) (links : Links) → n ≡ m + 1 → NoRemovalFrom n t links → NoRemovalOn (record { 0 = m }) t links → NoRemovalFrom m t links
no_removal_from n m t links e above on dev h = go (cases_lt dev.0 n)
  where
    go : (dev.0 < n) ⊎ (n ≤ dev.0) → NoRemovalOn dev t links
    go (inl less) = let same : m ≡ dev.0 = omega (arith, e, h, less) in subst (λ (k : ℕ). NoRemovalOn (record { 0 = k }) t links) same on
    go (inr more) = above dev more
