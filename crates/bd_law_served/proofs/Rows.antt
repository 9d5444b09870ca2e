-- What a thread served in a run is what its rows say, row by row.
use Rattle.std.proofs.Common.{◌≡◌, ℕ, ◌<◌, Bool, true, false, cond, ◌==◌, List, [], ◌∷◌, ◌++◌, refl, sym, ◌∙◌, ap, ap₂, subst, append_assoc, append-nil}
use Rattle.bd_base.specs.declared.act.Entry.{Entry}
use Rattle.bd_base.specs.declared.id.DevId.{DevId}
use Rattle.bd_base.specs.declared.setup.Setup.{Setup}
use Rattle.bd_machine.specs.declared.state.State.{State}
use Rattle.bd_machine.specs.Run.{after_all}
use Rattle.bd_machine.specs.Step.{after}
use Rattle.bd_machine.specs.View.{View, view}
use Rattle.bd_turns.specs.Local.{Shared}
use Rattle.bd_law_logs.specs.Rows.{Row, entries, view_after, Accepts}
use Rattle.bd_law_logs.proofs.Meeting.{part}
use Rattle.bd_law_logs.proofs.Played.{ArePlayed, IsPlayable, are_played}
use Rattle.bd_law_served.specs.Served.{served_at, served_by, served_from, served_on, ServedPiece}

-- ---- rows in parts

-- what is seen after rows
abbrev seen_after : Setup → Bool → ℕ → View → List Row → View
seen_after setup shut t v [] = v
seen_after setup shut t v (r ∷ rs) = seen_after setup shut t (view_after setup shut t v r) rs

-- rows that lead somewhere lead to what is seen after them
pub accepted_to : (setup : Setup) (shut : Bool) (t : ℕ) (v : View) (rows : List Row) (w : View) → Accepts setup shut t v rows w → seen_after setup shut t v rows ≡ w
accepted_to setup shut t v [] w h = h
accepted_to setup shut t v (r ∷ rs) w h = accepted_to setup shut t (view_after setup shut t v r) rs w h.4

accepts_first : (setup : Setup) (shut : Bool) (t : ℕ) (v : View) (rows more : List Row) (w : View) → Accepts setup shut t v (rows ++ more) w → Accepts setup shut t v rows (seen_after setup shut t v rows)
accepts_first setup shut t v [] more w h = refl
accepts_first setup shut t v (r ∷ rs) more w h = (h.0, h.1, h.2, h.3, accepts_first setup shut t (view_after setup shut t v r) rs more w h.4)

accepts_rest : (setup : Setup) (shut : Bool) (t : ℕ) (v : View) (rows more : List Row) (w : View) → Accepts setup shut t v (rows ++ more) w → Accepts setup shut t (seen_after setup shut t v rows) more w
accepts_rest setup shut t v [] more w h = h
accepts_rest setup shut t v (r ∷ rs) more w h = accepts_rest setup shut t (view_after setup shut t v r) rs more w h.4

served_rest : (setup : Setup) (shut : Bool) (t : ℕ) (dev : DevId) (v : View) (rows more : List Row)
    → served_on setup shut t dev v (rows ++ more) ≡ served_on setup shut t dev v rows ++ served_on setup shut t dev (seen_after setup shut t v rows) more
served_rest setup shut t dev v [] more = refl
served_rest setup shut t dev v (r ∷ rs) more =
    ap (λ (xs : List ServedPiece). served_by dev v r.entry.act ++ xs) (served_rest setup shut t dev (view_after setup shut t v r) rs more)
    ∙ sym (append_assoc (served_by dev v r.entry.act) (served_on setup shut t dev (view_after setup shut t v r) rs)
    (served_on setup shut t dev (seen_after setup shut t (view_after setup shut t v r) rs) more))

-- what rows and more rows after them serve
pub served_rows_on : (setup : Setup) (shut : Bool) (t : ℕ) (dev : DevId) (v : View) (rows : List Row) (w : View) (more : List Row) → Accepts setup shut t v rows w
    → served_on setup shut t dev v (rows ++ more) ≡ served_on setup shut t dev v rows ++ served_on setup shut t dev w more
served_rows_on setup shut t dev v rows w more h =
    served_rest setup shut t dev v rows more
    ∙ ap (λ (x : View). served_on setup shut t dev v rows ++ served_on setup shut t dev x more) (accepted_to setup shut t v rows w h)

-- ---- a run in parts

pub served_from_on : (setup : Setup) (t : ℕ) (dev : DevId) (s : State) (es fs : List Entry)
    → served_from setup t dev s (es ++ fs) ≡ served_from setup t dev s es ++ served_from setup t dev (after_all setup s es) fs
served_from_on setup t dev s [] fs = refl
served_from_on setup t dev s (e ∷ es) fs =
    ap (λ (xs : List ServedPiece). served_at t dev s e ++ xs) (served_from_on setup t dev (after setup s e) es fs)
    ∙ sym (append_assoc (served_at t dev s e) (served_from setup t dev (after setup s e) es) (served_from setup t dev (after_all setup (after setup s e) es) fs))

-- ---- the rows of all threads

-- a thread's part of rows is its part of the first, and that of the others
part_on : (t : ℕ) (x : Row) (rows : List Row) → part t (x ∷ rows) ≡ part t (x ∷ []) ++ part t rows
part_on t x rows = go (x.entry.thread == t)
  where
    go : (b : Bool) → cond b (x ∷ part t rows) (part t rows) ≡ cond b (x ∷ []) [] ++ part t rows
    go true = refl
    go false = refl

-- what the first row serves
first_served : (setup : Setup) (shut : Bool) (s : State) (t : ℕ) (dev : DevId) (v : View) (x : Row) → view s t ≡ v
    → served_at t dev s x.entry ≡ served_on setup shut t dev v (part t (x ∷ []))
first_served setup shut s t dev v x seen = go (x.entry.thread == t)
  where
    go : (b : Bool) → cond b (served_by dev (view s t) x.entry.act) [] ≡ served_on setup shut t dev v (cond b (x ∷ []) [])
    go true = ap (λ (w : View). served_by dev w x.entry.act) seen ∙ sym (append-nil (served_by dev v x.entry.act))
    go false = refl

-- rows that may be played serve of each thread what the thread's part of them says
pub played_serves : (setup : Setup) (shut : Bool) (s : State) (views : ℕ → View) (shared : Shared) (rows more : List Row) (marks : ℕ → View) → IsPlayable setup shut s views shared rows more marks
    → (t : ℕ) (dev : DevId) → t < setup.threads → served_from setup t dev s (entries rows) ≡ served_on setup shut t dev (views t) (part t rows)
played_serves setup shut s views shared [] more marks playable t dev lt = refl
played_serves setup shut s views shared (x ∷ rows) more marks playable t dev lt =
    ap₂ (λ (xs ys : List ServedPiece). xs ++ ys) (first_served setup shut s t dev (views t) x (playable.tied.views_are t lt))
    (played_serves setup shut (after setup s x.entry) first.views first.shared rows more marks next t dev lt
    ∙ ap (λ (v : View). served_on setup shut t dev v (part t rows)) (first.playable.accepts t lt))
    ∙ sym (ap (served_on setup shut t dev (views t)) (part_on t x rows) ∙ served_rest setup shut t dev (views t) (part t (x ∷ [])) (part t rows))
  where
    in_parts : (u : ℕ) → u < setup.threads → Accepts setup shut u (views u) (part u (x ∷ []) ++ part u rows) (marks u)
    in_parts u u_lt = subst (λ (rs : List Row). Accepts setup shut u (views u) rs (marks u)) (part_on u x rows) (playable.accepts u u_lt)

    first : ArePlayed setup shut s shared.registry (x ∷ []) (rows ++ more) (λ u. seen_after setup shut u (views u) (part u (x ∷ [])))
    first = are_played setup shut s views shared (x ∷ []) (rows ++ more) (λ u. seen_after setup shut u (views u) (part u (x ∷ []))) (record {
      tied = playable.tied;
      shut_is = playable.shut_is;
      later = playable.later;
      ordered = playable.ordered;
      within = playable.within;
      accepts = λ u u_lt. accepts_first setup shut u (views u) (part u (x ∷ [])) (part u rows) (marks u) (in_parts u u_lt);
      meets = playable.meets;
      stamped = playable.stamped;
      goes = playable.goes;
      outer = playable.outer;
      replay = playable.replay;
      finds = playable.finds;
    })

    next : IsPlayable setup shut (after setup s x.entry) first.views first.shared rows more marks
    next = record {
      tied = first.playable.tied;
      shut_is = first.playable.shut_is;
      later = first.playable.later;
      ordered = first.playable.ordered;
      within = first.playable.within;
      accepts = λ u u_lt. subst (λ (v : View). Accepts setup shut u v (part u rows) (marks u)) (sym (first.playable.accepts u u_lt))
          (accepts_rest setup shut u (views u) (part u (x ∷ [])) (part u rows) (marks u) (in_parts u u_lt));
      meets = first.playable.meets;
      stamped = first.playable.stamped;
      goes = first.playable.goes;
      outer = first.playable.outer;
      replay = first.playable.replay;
      finds = first.playable.finds;
    }
