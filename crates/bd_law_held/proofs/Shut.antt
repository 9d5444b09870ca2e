-- What a thread held in the merge of logs that were shut down at rest is what its rows say, before the Shutdown and after it.
use Rattle.std.proofs.Common.{◌≡◌, ℕ, ◌<◌, Bool, true, false, cond, ◌==◌, List, [], ◌∷◌, ◌++◌, refl, sym, ◌∙◌, ap, ap₂, subst, append-nil}
use Rattle.bd_base.specs.declared.act.Entry.{Entry}
use Rattle.bd_base.specs.declared.setup.Setup.{Setup}
use Rattle.bd_machine.specs.declared.state.State.{State}
use Rattle.bd_machine.specs.Content.{Told}
use Rattle.bd_machine.specs.Lines.{shutdown_at}
use Rattle.bd_machine.specs.Run.{after_all}
use Rattle.bd_machine.specs.Start.{start, registry_at_start}
use Rattle.bd_machine.specs.Step.{after}
use Rattle.bd_machine.specs.View.{View}
use Rattle.bd_turns.specs.Laws.{view_at_start, shared_at_start}
use Rattle.bd_turns.specs.Local.{Shared}
use Rattle.bd_turns.proofs.Start.{start_is_tied}
use Rattle.bd_law_logs.specs.Rows.{Row, entries, Accepts}
use Rattle.bd_law_logs.specs.Fits.{Fits, IsMergeOf}
use Rattle.bd_law_logs.specs.Laws.{AreShut}
use Rattle.bd_law_logs.proofs.Complete as merging
use Rattle.bd_law_logs.proofs.Complete.{shutdown_row, AreSplit}
use Rattle.bd_law_logs.proofs.Meeting.{part}
use Rattle.bd_law_logs.proofs.Merged.{AreRows, fit, playable_by, to_play_at_start}
use Rattle.bd_law_logs.proofs.Played.{ArePlayed, IsPlayable}
use Rattle.bd_law_held.specs.Held.{held_at, held_from, held_on, Holding}
use Rattle.bd_law_held.proofs.Rows.{played_holds, held_from_on}

module _ (setup : Setup) (told : Told) (logs : ℕ → List Row) (journal merged : List Entry) (sh : AreShut setup told logs journal) (fits : Fits setup (registry_at_start setup) logs journal) (merge : IsMergeOf logs merged) where
  -- the rows of the merge
  abbrev m : AreRows logs merged
  m = merging.m setup told logs journal merged sh fits merge

  -- those before the Shutdown and those after it
  abbrev sides : AreSplit sh.stamp sh.firsts sh.seconds (merging.m setup told logs journal merged sh fits merge).rows
  sides = merging.sides setup told logs journal merged sh fits merge

  abbrev first_rows : List Row
  first_rows = (merging.sides setup told logs journal merged sh fits merge).before_it

  abbrev last_rows : List Row
  last_rows = (merging.sides setup told logs journal merged sh fits merge).after_it

  -- where the first rows lead
  abbrev early : ArePlayed setup false (start setup told) (registry_at_start setup) first_rows (shutdown_row sh.stamp ∷ last_rows) sh.marks
  early = merging.early setup told logs journal merged sh fits merge

  abbrev middle : State
  middle = after_all setup (start setup told) (entries first_rows)

  abbrev shared_shut : Shared
  shared_shut = record early.shared { stamp = sh.stamp; shut = true }

  first_playable : IsPlayable setup false (start setup told) (view_at_start setup told) (shared_at_start setup) first_rows (shutdown_row sh.stamp ∷ last_rows) sh.marks
  first_playable =
      playable_by setup false (start setup told) (view_at_start setup told) (shared_at_start setup) m.rows first_rows (shutdown_row sh.stamp ∷ last_rows) sh.marks
      (to_play_at_start setup told m.rows (fit setup (registry_at_start setup) logs journal m.rows fits sh.none_else (merging.ordered setup told logs journal merged sh fits merge) m.parts))
      sides.is (start_is_tied setup told) refl
      (λ t lt. subst (λ (rs : List Row). Accepts setup false t (view_at_start setup told t) rs (sh.marks t)) (sym (sides.firsts_are t)) (sh.to_marks t lt))

  last_playable : IsPlayable setup true (after setup middle (shutdown_at sh.stamp)) early.views shared_shut last_rows [] sh.ends
  last_playable =
      playable_by setup true (after setup middle (shutdown_at sh.stamp)) early.views shared_shut last_rows last_rows [] sh.ends (merging.to_play setup told logs journal merged sh fits merge)
      (sym (append-nil last_rows)) (merging.shut setup told logs journal merged sh fits merge).tied refl
      (λ t lt. subst (λ (v : View). Accepts setup true t v (part t last_rows) (sh.ends t)) (sym (early.playable.accepts t lt))
      (subst (λ (rs : List Row). Accepts setup true t (sh.marks t) rs (sh.ends t)) (sym (sides.seconds_are t)) (sh.to_ends t lt)))

  -- the Shutdown holds nothing
  shutdown_holds : (t : ℕ) → held_at t middle (shutdown_at sh.stamp) ≡ []
  shutdown_holds t = go (0 == t) []
    where
      go : (b : Bool) (none : List Holding) → cond b none none ≡ none
      go true none = refl
      go false none = refl

  pub shut_holds : (t : ℕ) → t < setup.threads
      → held_from setup t (start setup told) merged
      ≡ held_on setup false t (view_at_start setup told t) (sh.firsts t) ++ held_on setup true t (sh.marks t) (sh.seconds t)
  shut_holds t lt =
      ap (held_from setup t (start setup told)) (sym (merging.entries_are setup told logs journal merged sh fits merge))
      ∙ held_from_on setup t (start setup told) (entries first_rows) (shutdown_at sh.stamp ∷ entries last_rows)
      ∙ ap₂ (λ (xs ys : List Holding). xs ++ ys)
      (played_holds setup false (start setup told) (view_at_start setup told) (shared_at_start setup) first_rows (shutdown_row sh.stamp ∷ last_rows) sh.marks first_playable t lt
      ∙ ap (held_on setup false t (view_at_start setup told t)) (sides.firsts_are t))
      (ap (λ (xs : List Holding). xs ++ held_from setup t (after setup middle (shutdown_at sh.stamp)) (entries last_rows)) (shutdown_holds t)
      ∙ played_holds setup true (after setup middle (shutdown_at sh.stamp)) early.views shared_shut last_rows [] sh.ends last_playable t lt
      ∙ ap₂ (λ (v : View) (rs : List Row). held_on setup true t v rs) (early.playable.accepts t lt) (sides.seconds_are t))
