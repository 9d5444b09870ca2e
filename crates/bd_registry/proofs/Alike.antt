-- Setups with the same rows have the same registry.
use Rattle.std.proofs.Common.{◌≡◌, ℕ, [], List, Some, sym, ◌∙◌, ap, subst}
use Rattle.bd_base.specs.declared.act.Entry.{Entry}
use Rattle.bd_base.specs.declared.event.RegEvent.{RegEvent}
use Rattle.bd_base.specs.declared.journal.Start.{Start}
use Rattle.bd_base.specs.declared.setup.Setup.{Setup}
use Rattle.bd_machine.specs.declared.state.Registry.{Registry}
use Rattle.bd_machine.specs.Changes.{registry_after}
use Rattle.bd_machine.specs.Registry.{Question, answer_to}
use Rattle.bd_machine.specs.Start.{registry_at_start}
use Rattle.bd_law_logs.specs.Journals.{IsReplay, registry_by}
use Rattle.bd_registry.specs.Laws.{RowsAreEnough}
use Rattle.bd_registry.specs.State.{rows_of, start_of}
use Rattle.bd_registry.proofs.Journals.{by_same, replay_same}
use Rattle.bd_registry.proofs.Rows.{answer_of_rows, changes_of_rows, start_of_rows}

module _ (a b : Setup) (alike : start_of a ≡ start_of b) where
  rows_same : rows_of a ≡ rows_of b
  rows_same =
      ap (λ (s : Start). let x : Setup = record { threads = s.threads; devices = s.devices; rates = s.rates; injections = s.injections; waiting = []; scripts = [] } in x) alike

  answers : (r : Registry) (t : ℕ) (event : RegEvent) → answer_to a r t event ≡ answer_to b r t event
  answers r t event = sym (answer_of_rows a r t event) ∙ ap (λ (s : Setup). answer_to s r t event) rows_same ∙ answer_of_rows b r t event

  changes : (r : Registry) (t : ℕ) (q : Question) → registry_after a r t (Some q) ≡ registry_after b r t (Some q)
  changes r t q = sym (changes_of_rows a r t q) ∙ ap (λ (s : Setup). registry_after s r t (Some q)) rows_same ∙ changes_of_rows b r t q

  start_same : registry_at_start a ≡ registry_at_start b
  start_same = sym (start_of_rows a) ∙ ap registry_at_start rows_same ∙ start_of_rows b

  pub replay_alike : (es : List Entry) → IsReplay a (registry_at_start a) es → IsReplay b (registry_at_start b) es
  replay_alike es h = subst (λ (r : Registry). IsReplay b r es) start_same (replay_same a b answers changes (registry_at_start a) es h)

  pub leaves_alike : (es : List Entry) → registry_by b (registry_at_start b) es ≡ registry_by a (registry_at_start a) es
  leaves_alike es = sym (by_same a b answers changes (registry_at_start a) es ∙ ap (λ (r : Registry). registry_by b r es) start_same)

pub rows_are_enough : RowsAreEnough
rows_are_enough a b alike = record {
  start = start_same a b alike;
  answers = answers a b alike;
  changes = changes a b alike;
  replay = replay_same a b (answers a b alike) (changes a b alike);
  leaves = by_same a b (answers a b alike) (changes a b alike);
}
