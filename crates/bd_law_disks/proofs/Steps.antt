-- Entries of own acts lead on in the same way, whatever is told.
use Rattle.std.proofs.Common.{◌≡◌, ℕ, Bool, false, List, [], ◌∷◌, sym, ◌∙◌, ap, subst, nat_lt}
use Rattle.bd_base.specs.declared.act.Entry.{Entry}
use Rattle.bd_base.specs.declared.id.DevId.{DevId}
use Rattle.bd_base.specs.declared.setup.Setup.{Setup}
use Rattle.bd_machine.specs.declared.guard.TheConstants.{UNBUILT, IN_ORDER}
use Rattle.bd_machine.specs.declared.state.Content.{Content}
use Rattle.bd_machine.specs.Guards.{is_built}
use Rattle.bd_machine.specs.Step.{first_failing}
use Rattle.bd_turns.specs.Local.{Local, Leads, came_local, refusal_local, carried_local, local_after}
use Rattle.bd_law_disks.specs.Laws.{OwnStepsAreSame}
use Rattle.bd_law_disks.specs.Told.{told_local, is_on_disk, IsMemoryApart}
use Rattle.bd_law_disks.proofs.Acts.{guards_are_same, own_change_is_same}

module _ (setup : Setup) (contents : DevId → Content) (t : ℕ) where
  -- an entry is refused for the same reason
  pub refusal_is_same : (l : Local) (e : Entry) → IsMemoryApart setup → refusal_local setup t (told_local setup contents l) e ≡ refusal_local setup t l e
  refusal_is_same l e apart =
      ap (λ (gs : List (ℕ × Bool)). first_failing ((UNBUILT, is_built e.act) ∷ (IN_ORDER, nat_lt l.shared.stamp e.stamp) ∷ gs))
      (guards_are_same setup contents t l.view e.act (came_local setup t l e.act) apart)

  -- what a thread sees and shares after an own entry
  pub own_after : (l : Local) (e : Entry) → is_on_disk setup e.act ≡ false
      → local_after setup t (told_local setup contents l) e ≡ told_local setup contents (local_after setup t l e)
  unfolding local_after
  own_after l e own = ap (carried_local setup t (told_local setup contents l) e)
      (own_change_is_same setup contents t l.view e.act (came_local setup t l e.act) own)

pub own_steps_are_same : OwnStepsAreSame
own_steps_are_same setup contents t l [] now apart own leads = ap (told_local setup contents) leads
own_steps_are_same setup contents t l (e ∷ es) now apart own leads = (
  leads.0,
  leads.1,
  refusal_is_same setup contents t l e apart ∙ leads.2,
  subst (λ (x : Local). Leads setup t x es (told_local setup contents now)) (sym (own_after setup contents t l e own.0))
      (own_steps_are_same setup contents t (local_after setup t l e) es now apart own.1 leads.3),
)
