-- What a thread held in a run is what its rows say, row by row.
use Rattle.std.proofs.Common.{◌≡◌, ℕ, ◌<◌, Bool, true, false, cond, ◌==◌, List, [], ◌∷◌, ◌++◌, refl, sym, ◌∙◌, ap, ap₂, subst, append_assoc, append-nil}
use Rattle.bd_base.specs.declared.act.Entry.{Entry}
use Rattle.bd_base.specs.declared.setup.Setup.{Setup}
use Rattle.bd_machine.specs.declared.state.State.{State}
use Rattle.bd_machine.specs.Run.{after_all}
use Rattle.bd_machine.specs.Step.{after}
use Rattle.bd_machine.specs.View.{View, view}
use Rattle.bd_turns.specs.Local.{Shared}
use Rattle.bd_law_logs.specs.Rows.{Row, entries, view_after, Accepts}
use Rattle.bd_law_logs.proofs.Meeting.{part}
use Rattle.bd_law_logs.proofs.Played.{ArePlayed, IsPlayable, are_played}
use Rattle.bd_law_held.specs.Held.{held_at, held_by, held_from, held_on, Holding}

-- ---- rows in parts

-- what is seen after rows
abbrev seen_after : Setup → Bool → ℕ → View → List Row → View
seen_after setup shut t v [] = v
seen_after setup shut t v (r ∷ rs) = seen_after setup shut t (view_after setup shut t v r) rs

-- rows that lead somewhere lead to what is seen after them
pub accepted_to : (setup : Setup) (shut : Bool) (t : ℕ) (v : View) (rows : List Row) (w : View) → Accepts setup shut t v rows w → seen_after setup shut t v rows ≡ w
accepted_to setup shut t v [] w h = h
accepted_to setup shut t v (r ∷ rs) w h = accepted_to setup shut t (view_after setup shut t v r) rs w h.4

accepts_first : (setup : Setup) (shut : Bool) (t : ℕ) (v : View) (rows more : List Row) (w : View) → Accepts setup shut t v (rows ++ more) w → Accepts setup shut t v rows (seen_after setup shut t v rows)
accepts_first setup shut t v [] more w h = refl
accepts_first setup shut t v (r ∷ rs) more w h = (h.0, h.1, h.2, h.3, accepts_first setup shut t (view_after setup shut t v r) rs more w h.4)

accepts_rest : (setup : Setup) (shut : Bool) (t : ℕ) (v : View) (rows more : List Row) (w : View) → Accepts setup shut t v (rows ++ more) w → Accepts setup shut t (seen_after setup shut t v rows) more w
accepts_rest setup shut t v [] more w h = h
accepts_rest setup shut t v (r ∷ rs) more w h = accepts_rest setup shut t (view_after setup shut t v r) rs more w h.4

held_rest : (setup : Setup) (shut : Bool) (t : ℕ) (v : View) (rows more : List Row)
    → held_on setup shut t v (rows ++ more) ≡ held_on setup shut t v rows ++ held_on setup shut t (seen_after setup shut t v rows) more
held_rest setup shut t v [] more = refl
held_rest setup shut t v (r ∷ rs) more =
    ap (λ (xs : List Holding). held_by v.here r.entry.act ++ xs) (held_rest setup shut t (view_after setup shut t v r) rs more)
    ∙ sym (append_assoc (held_by v.here r.entry.act) (held_on setup shut t (view_after setup shut t v r) rs)
    (held_on setup shut t (seen_after setup shut t (view_after setup shut t v r) rs) more))

-- what rows and more rows after them hold
pub held_rows_on : (setup : Setup) (shut : Bool) (t : ℕ) (v : View) (rows : List Row) (w : View) (more : List Row) → Accepts setup shut t v rows w
    → held_on setup shut t v (rows ++ more) ≡ held_on setup shut t v rows ++ held_on setup shut t w more
held_rows_on setup shut t v rows w more h =
    held_rest setup shut t v rows more
    ∙ ap (λ (x : View). held_on setup shut t v rows ++ held_on setup shut t x more) (accepted_to setup shut t v rows w h)

-- ---- a run in parts

pub held_from_on : (setup : Setup) (t : ℕ) (s : State) (es fs : List Entry)
    → held_from setup t s (es ++ fs) ≡ held_from setup t s es ++ held_from setup t (after_all setup s es) fs
held_from_on setup t s [] fs = refl
held_from_on setup t s (e ∷ es) fs =
    ap (λ (xs : List Holding). held_at t s e ++ xs) (held_from_on setup t (after setup s e) es fs)
    ∙ sym (append_assoc (held_at t s e) (held_from setup t (after setup s e) es) (held_from setup t (after_all setup (after setup s e) es) fs))

-- ---- the rows of all threads

-- a thread's part of rows is its part of the first, and that of the others
part_on : (t : ℕ) (x : Row) (rows : List Row) → part t (x ∷ rows) ≡ part t (x ∷ []) ++ part t rows
part_on t x rows = go (x.entry.thread == t)
  where
    go : (b : Bool) → cond b (x ∷ part t rows) (part t rows) ≡ cond b (x ∷ []) [] ++ part t rows
    go true = refl
    go false = refl

-- what the first row holds
first_held : (setup : Setup) (shut : Bool) (s : State) (t : ℕ) (v : View) (x : Row) → view s t ≡ v
    → held_at t s x.entry ≡ held_on setup shut t v (part t (x ∷ []))
first_held setup shut s t v x seen = go (x.entry.thread == t)
  where
    go : (b : Bool) → cond b (held_by (view s t).here x.entry.act) [] ≡ held_on setup shut t v (cond b (x ∷ []) [])
    go true = ap (λ (w : View). held_by w.here x.entry.act) seen ∙ sym (append-nil (held_by v.here x.entry.act))
    go false = refl

-- rows that may be played hold of each thread what the thread's part of them says
pub played_holds : (setup : Setup) (shut : Bool) (s : State) (views : ℕ → View) (shared : Shared) (rows more : List Row) (marks : ℕ → View) → IsPlayable setup shut s views shared rows more marks
    → (t : ℕ) → t < setup.threads → held_from setup t s (entries rows) ≡ held_on setup shut t (views t) (part t rows)
played_holds setup shut s views shared [] more marks playable t lt = refl
played_holds setup shut s views shared (x ∷ rows) more marks playable t lt =
    ap₂ (λ (xs ys : List Holding). xs ++ ys) (first_held setup shut s t (views t) x (playable.tied.views_are t lt))
    (played_holds setup shut (after setup s x.entry) first.views first.shared rows more marks next t lt
    ∙ ap (λ (v : View). held_on setup shut t v (part t rows)) (first.playable.accepts t lt))
    ∙ sym (ap (held_on setup shut t (views t)) (part_on t x rows) ∙ held_rest setup shut t (views t) (part t (x ∷ [])) (part t rows))
  where
    in_parts : (u : ℕ) → u < setup.threads → Accepts setup shut u (views u) (part u (x ∷ []) ++ part u rows) (marks u)
    in_parts u u_lt = subst (λ (rs : List Row). Accepts setup shut u (views u) rs (marks u)) (part_on u x rows) (playable.accepts u u_lt)

    first : ArePlayed setup shut s shared.registry (x ∷ []) (rows ++ more) (λ u. seen_after setup shut u (views u) (part u (x ∷ [])))
    first = are_played setup shut s views shared (x ∷ []) (rows ++ more) (λ u. seen_after setup shut u (views u) (part u (x ∷ []))) (record {
      tied = playable.tied;
      shut_is = playable.shut_is;
      later = playable.later;
      ordered = playable.ordered;
      within = playable.within;
      accepts = λ u u_lt. accepts_first setup shut u (views u) (part u (x ∷ [])) (part u rows) (marks u) (in_parts u u_lt);
      meets = playable.meets;
      stamped = playable.stamped;
      goes = playable.goes;
      outer = playable.outer;
      replay = playable.replay;
      finds = playable.finds;
    })

    next : IsPlayable setup shut (after setup s x.entry) first.views first.shared rows more marks
    next = record {
      tied = first.playable.tied;
      shut_is = first.playable.shut_is;
      later = first.playable.later;
      ordered = first.playable.ordered;
      within = first.playable.within;
      accepts = λ u u_lt. subst (λ (v : View). Accepts setup shut u v (part u rows) (marks u)) (sym (first.playable.accepts u u_lt))
          (accepts_rest setup shut u (views u) (part u (x ∷ [])) (part u rows) (marks u) (in_parts u u_lt));
      meets = first.playable.meets;
      stamped = first.playable.stamped;
      goes = first.playable.goes;
      outer = first.playable.outer;
      replay = first.playable.replay;
      finds = first.playable.finds;
    }
