-- What a thread did over what its disks hold, in any setup: its entries, its registry and whether the Shutdown came.
use Rattle.std.proofs.Common.{◌≡◌, ℕ, ◌+◌, ◌<◌, Bool, true, false, ◌||◌, List, [], ◌∷◌, refl, sym, ◌∙◌, ap, ap₂, subst, arith}
use Rattle.std.specs.List.{AllByRecursion}
use Rattle.bd_base.specs.declared.act.Act.{Act}
use Rattle.bd_base.specs.declared.act.Entry.{Entry}
use Rattle.bd_base.specs.declared.id.DevId.{DevId}
use Rattle.bd_base.specs.declared.setup.Setup.{Setup}
use Rattle.bd_machine.specs.declared.state.Content.{Content}
use Rattle.bd_machine.specs.declared.state.Registry.{Registry}
use Rattle.bd_machine.specs.Changes.{registry_after}
use Rattle.bd_machine.specs.Step.{is_shutdown}
use Rattle.bd_machine.specs.View.{asked}
use Rattle.bd_law_logs.specs.Journals.{registry_by, registry_next, IsAnswered, IsReplay}
use Rattle.bd_law_logs.specs.Turning.{AreRestamped}
use Rattle.bd_law_logs.proofs.Turning.{turn_is_accepted}
use Rattle.bd_law_threads.specs.Course.{acts_of, restamped}
use Rattle.bd_law_disks.specs.Over.{contents_then, local_over, LeadsOver}
use Rattle.bd_turns.specs.Local.{local_after, Leads, Local}

or_false : (b : Bool) → b || false ≡ b
or_false true = refl
or_false false = refl

-- ---- entries, one by one

-- the entries of a thread leave it whether the Shutdown came
pub over_shut : (setup : Setup) (t : ℕ) (contents : DevId → Content) (l : Local) (es : List Entry) (contents' : DevId → Content) (l' : Local)
    → LeadsOver setup t contents l es contents' l' → l'.shared.shut ≡ l.shared.shut
unfolding local_over
over_shut setup t contents l [] contents' l' h = ap (λ (x : Local). x.shared.shut) (sym h.1)
over_shut setup t contents l (e ∷ es) contents' l' h = over_shut setup t (contents_then setup contents l e) (local_over setup t contents l e) es contents' l' h.3 ∙ one
  where
    one : (local_over setup t contents l e).shared.shut ≡ l.shared.shut
    one = ap (λ b. l.shared.shut || b) h.1 ∙ or_false l.shared.shut

-- they are the thread's, and none is the Shutdown
pub over_threads : (setup : Setup) (t : ℕ) (contents : DevId → Content) (l : Local) (es : List Entry) (contents' : DevId → Content) (l' : Local)
    → LeadsOver setup t contents l es contents' l' → AllByRecursion (λ e. e.thread ≡ t) es
over_threads setup t contents l [] contents' l' h = tt
over_threads setup t contents l (e ∷ es) contents' l' h = (h.0, over_threads setup t (contents_then setup contents l e) (local_over setup t contents l e) es contents' l' h.3)

pub over_no_shutdown : (setup : Setup) (t : ℕ) (contents : DevId → Content) (l : Local) (es : List Entry) (contents' : DevId → Content) (l' : Local)
    → LeadsOver setup t contents l es contents' l' → AllByRecursion (λ e. is_shutdown e.act ≡ false) es
over_no_shutdown setup t contents l [] contents' l' h = tt
over_no_shutdown setup t contents l (e ∷ es) contents' l' h = (h.1, over_no_shutdown setup t (contents_then setup contents l e) (local_over setup t contents l e) es contents' l' h.3)

-- ---- the registry

-- what an entry leaves of the registry
next_is : (setup : Setup) (t : ℕ) (contents : DevId → Content) (l : Local) (e : Entry) → e.thread ≡ t → (local_over setup t contents l e).shared.registry ≡ registry_next setup l.shared.registry e
unfolding local_over
next_is setup t contents l e thread = ap (λ (n : ℕ). registry_after setup l.shared.registry n (asked e.act)) (sym thread)

-- it is what the entries leave
pub over_registry : (setup : Setup) (t : ℕ) (contents : DevId → Content) (l : Local) (es : List Entry) (contents' : DevId → Content) (l' : Local)
    → LeadsOver setup t contents l es contents' l' → l'.shared.registry ≡ registry_by setup l.shared.registry es
over_registry setup t contents l [] contents' l' h = ap (λ (x : Local). x.shared.registry) (sym h.1)
over_registry setup t contents l (e ∷ es) contents' l' h =
    over_registry setup t (contents_then setup contents l e) (local_over setup t contents l e) es contents' l' h.3
    ∙ ap (λ (r : Registry). registry_by setup r es) (next_is setup t contents l e h.0)

-- ---- its answers

-- the same entries with the stamps from 1 on
restamp : (setup : Setup) (t last : ℕ) (l l' : Local) (es : List Entry) → Leads setup t l es l' → AreRestamped es (restamped t last (acts_of es))
restamp setup t last l l' [] h = tt
restamp setup t last l l' (e ∷ es) h = (sym h.0, refl, above last, restamp setup t (last + 1) (local_after setup t l e) l' es h.3)
  where
    above : (n : ℕ) → 0 < n + 1
    above n = omega arith

-- a replay doesn't look at stamps
replay_as : (setup : Setup) (registry : Registry) (es fs : List Entry) → AreRestamped es fs → IsReplay setup registry fs → IsReplay setup registry es
replay_as setup registry [] [] same h = tt
replay_as setup registry [] (f ∷ fs) same h = absurd same
replay_as setup registry (e ∷ es) [] same h = absurd same
replay_as setup registry (e ∷ es) (f ∷ fs) same h = (
  subst (λ (n : ℕ). IsAnswered setup registry n (asked e.act)) same.0 (subst (λ (act : Act). IsAnswered setup registry f.thread (asked act)) same.1 h.0),
  replay_as setup (registry_next setup registry e) es fs same.3
      (subst (λ (r : Registry). IsReplay setup r fs) (ap₂ (λ (n : ℕ) (act : Act). registry_after setup registry n (asked act)) same.0 same.1) h.1),
)

-- the registry that the thread has for itself gives the answers that the entries name
leads_replay : (setup : Setup) (t : ℕ) (l l' : Local) (es : List Entry) → Leads setup t l es l' → IsReplay setup l.shared.registry es
leads_replay setup t l l' es h =
    let same : AreRestamped es (restamped t 0 (acts_of es)) = restamp setup t 0 l l' es h in
    replay_as setup l.shared.registry es (restamped t 0 (acts_of es)) same (turn_is_accepted setup t l l' es (restamped t 0 (acts_of es)) h same).1.replay

-- so it is over what disks hold: each entry is let through as the local rules let it
pub over_replay : (setup : Setup) (t : ℕ) (contents : DevId → Content) (l : Local) (es : List Entry) (contents' : DevId → Content) (l' : Local)
    → LeadsOver setup t contents l es contents' l' → IsReplay setup l.shared.registry es
over_replay setup t contents l [] contents' l' h = tt
over_replay setup t contents l (e ∷ es) contents' l' h =
    let one : IsReplay setup l.shared.registry (e ∷ []) = leads_replay setup t l (local_after setup t l e) (e ∷ []) (h.0, h.1, h.2, refl) in (
      one.0,
      subst (λ (r : Registry). IsReplay setup r es) (next_is setup t contents l e h.0)
          (over_replay setup t (contents_then setup contents l e) (local_over setup t contents l e) es contents' l' h.3),
    )
