-- A registry after an event.
use Rattle.std.proofs.Common.{◌≡◌, ℕ, ◌+◌, ◌-◌, ◌<◌, List, [], ◌∷◌, ◌++◌, length, take, Some, refl, sym, ◌∙◌, ap, subst, arith}
use Rattle.std.proofs.lemmas.List.{take_at, length-append}
use Rattle.bd_base.specs.declared.act.Entry.{Entry}
use Rattle.bd_base.specs.declared.event.Answer.{Answer}
use Rattle.bd_base.specs.declared.event.RegEvent.{RegEvent}
use Rattle.bd_base.specs.declared.setup.Setup.{Setup}
use Rattle.bd_machine.specs.declared.state.Registry.{Registry}
use Rattle.bd_machine.specs.Changes.{registry_after}
use Rattle.bd_machine.specs.Lines.{shutdown_at}
use Rattle.bd_machine.specs.Registry.{answer_to}
use Rattle.bd_machine.specs.Start.{registry_at_start}
use Rattle.bd_registry.specs.declared.names.Names.{Names}
use Rattle.bd_registry.specs.declared.tables.Tables.{Tables}
use Rattle.bd_law_logs.specs.Journals.{registry_by}
use Rattle.bd_registry.specs.Registered.{IsRegistered}
use Rattle.bd_registry.specs.State.{Registered, IsJournal, event_row, registered, registered_by, shut_at}
use Rattle.bd_registry.specs.Tables.{Agrees}
use Rattle.bd_registry.proofs.Journals.{journal_more, state_more}

module _ (setup : Setup) (before : List Entry) (last t stamp : ℕ) (event : RegEvent) (answer : Answer) (journal : List Entry) (more : journal ≡ before ++ event_row t stamp event answer ∷ []) where
  abbrev r : Registered
  r = registered_by setup before last

  state_after : registry_by setup (registry_at_start setup) journal ≡ registry_after setup r.state t (Some (record { event = event; answer = answer }))
  state_after =
      ap (λ (es : List Entry). registry_by setup (registry_at_start setup) es) more
      ∙ state_more setup (registry_at_start setup) before (event_row t stamp event answer)

  pub registered_after : registered_by setup journal stamp ≡ registered r t stamp event answer
  registered_after = λ i. record { setup = setup; journal = more i; last = stamp; state = state_after i }

  pub is_registered_after : (places : Names) (old new : Tables) → IsRegistered places old r → last < stamp → answer ≡ answer_to setup r.state t event
      → Agrees new (registry_after setup r.state t (Some (record { event = event; answer = answer }))) → IsRegistered places new (registered_by setup journal stamp)
  is_registered_after places old new is less answered agrees = record {
    journal = subst (λ (es : List Entry). IsJournal setup (registry_at_start setup) 0 es stamp) (sym more)
        (journal_more setup (registry_at_start setup) 0 last before (event_row t stamp event answer) is.journal less answered);
    tables = subst (λ (s : Registry). Agrees new s) (sym state_after) agrees;
    names = is.names;
  }

-- a registry after the Shutdown
module _ (setup : Setup) (before : List Entry) (last stamp : ℕ) (journal : List Entry) (more : journal ≡ before ++ shutdown_at stamp ∷ []) where
  state_still : registry_by setup (registry_at_start setup) journal ≡ (registered_by setup before last).state
  state_still = ap (λ (es : List Entry). registry_by setup (registry_at_start setup) es) more ∙ state_more setup (registry_at_start setup) before (shutdown_at stamp)

  pub registered_shut : registered_by setup journal stamp ≡ shut_at (registered_by setup before last) stamp
  registered_shut = λ i. record { setup = setup; journal = more i; last = stamp; state = state_still i }

  pub is_registered_shut : (places : Names) (tables : Tables) → IsRegistered places tables (registered_by setup before last) → last < stamp → IsRegistered places tables (registered_by setup journal stamp)
  is_registered_shut places tables is less = record {
    journal = subst (λ (es : List Entry). IsJournal setup (registry_at_start setup) 0 es stamp) (sym more)
        (journal_more setup (registry_at_start setup) 0 last before (shutdown_at stamp) is.journal less tt);
    tables = subst (λ (s : Registry). Agrees tables s) (sym state_still) is.tables;
    names = is.names;
  }

-- the same rows before the last
pub before_last : {X : Type 0} (xs es : List X) (e : X) → xs ≡ es ++ e ∷ [] → take (length xs - 1) xs ≡ es
before_last xs es e h =
    ap (λ zs. take (length zs - 1) zs) h
    ∙ ap (λ (n : ℕ). take n (es ++ e ∷ [])) (less (length es) (length (es ++ e ∷ [])) (length-append es (e ∷ [])))
    ∙ take_at es (e ∷ []) (length es) refl
  where
    less : (n m : ℕ) → m ≡ n + 1 → m - 1 ≡ n
    less n m h = omega arith

pub is_registered_still : (setup : Setup) (before journal : List Entry) (last : ℕ) → journal ≡ before → (places : Names) (old new : Tables) → IsRegistered places old (registered_by setup before last)
    → Agrees new (registered_by setup before last).state → IsRegistered places new (registered_by setup journal last)
is_registered_still setup before journal last e places old new is agrees =
    subst (λ (es : List Entry). IsRegistered places new (registered_by setup es last)) (sym e) (record { journal = is.journal; tables = agrees; names = is.names })
