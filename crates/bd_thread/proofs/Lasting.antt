-- A thread on which no soft mark lasts until some moment.
use Rattle.std.proofs.Common.{◌≡◌, ℕ, false, cond, List, [], ◌∷◌, find, Some, None, refl, ◌∙◌, ap}
use Rattle.std.specs.List.{list_any}
use Rattle.std.proofs.lemmas.Bool.{or_parts}
use Rattle.bd_base.specs.declared.id.DevId.{DevId}
use Rattle.bd_machine.specs.declared.state.FreezeMark.{FreezeMark}
use Rattle.bd_machine.specs.declared.state.FreezeMark.TheVariants as marks
use Rattle.bd_machine.specs.declared.state.Marking.{Marking}
use Rattle.bd_machine.specs.declared.state.Part.{Part}
use Rattle.bd_thread.specs.declared.links.Links.{Links}
use Rattle.bd_thread.specs.declared.thread.Thread.{Thread}
use Rattle.bd_thread.specs.Grace.{ended_walk, is_due, is_due_by, lasts, lasts_at, NoDue}
use Rattle.bd_thread.proofs.Gracing.{none_due}

not_due : (part : Part) (now : ℕ) (mark : FreezeMark) → lasts mark ≡ false → is_due_by part now (ended_walk now mark) ≡ false
not_due part now marks.Not e = refl
not_due part now marks.Hard e = refl
not_due part now (marks.Soft walk time None) e = refl
not_due part now (marks.Soft walk time (Some until)) e = cc

none_found : (part : Part) (now : ℕ) (rows : List (DevId × Marking)) → list_any lasts_at rows ≡ false → find (is_due part now) rows ≡ None
none_found part now [] e = refl
none_found part now (row ∷ rows) e =
    let parts = or_parts (lasts_at row) (list_any lasts_at rows) e in
    ap (λ b. cond b (Some row) (find (is_due part now) rows)) (not_due part now row.1.frozen parts.0) ∙ none_found part now rows parts.1

-- none may become hard
pub none_lasts : (t : Thread) (links : Links) → list_any lasts_at t.part.marked ≡ false → NoDue t links
none_lasts t links none = none_due t.part t.time.moment (none_found t.part t.time.moment t.part.marked none)
