-- What a thread held in the merge of logs that fit loosely: their rows with the stamps that their messages' Puts have hold the same.
use Rattle.std.proofs.Common.{◌≡◌, ℕ, Bool, true, false, List, [], ◌∷◌, ◌++◌, refl, ◌∙◌, ap, ap₂}
use Rattle.bd_base.specs.declared.setup.Setup.{Setup}
use Rattle.bd_machine.specs.View.{View}
use Rattle.bd_turns.specs.Laws.{view_at_start}
use Rattle.bd_law_logs.specs.Rows.{Row, view_after}
use Rattle.bd_law_logs.specs.Loose.{put_stamps}
use Rattle.bd_law_logs.proofs.Restamped.{all_left, fits, merge_same, restamped, shut, stamps_left, view_same}
use Rattle.bd_law_held.specs.Laws.{MergeHoldsAsSeen}
use Rattle.bd_law_held.specs.Held.{held_by, held_on, Holding}
use Rattle.bd_law_held.proofs.Shut.{shut_holds}

held_same : (setup : Setup) (is_shut : Bool) (t : ℕ) (v : View) (stamps : ℕ → List ℕ) (rows : List Row)
    → held_on setup is_shut t v (restamped stamps rows) ≡ held_on setup is_shut t v rows
held_same setup is_shut t v stamps [] = refl
held_same setup is_shut t v stamps (r ∷ rs) =
    ap (λ (xs : List Holding). held_by v.here r.entry.act ++ xs)
    (ap (λ (w : View). held_on setup is_shut t w (restamped (stamps_left stamps r.entry.act) rs)) (view_same setup is_shut t v stamps r)
    ∙ held_same setup is_shut t (view_after setup is_shut t v r) (stamps_left stamps r.entry.act) rs)

pub merge_holds_as_seen : MergeHoldsAsSeen
unfolding shut
merge_holds_as_seen setup told logs journal merged sh fit merge t lt =
    shut_holds setup told (λ t. restamped (λ s. put_stamps t (logs s)) (logs t)) journal merged (shut setup told logs journal merged sh fit merge) (fits setup told logs journal merged sh fit merge)
    (merge_same setup told logs journal merged sh fit merge) t lt
    ∙ ap₂ (λ (xs ys : List Holding). xs ++ ys) (held_same setup false t (view_at_start setup told t) (λ s. put_stamps t (logs s)) (sh.firsts t))
    (held_same setup true t (sh.marks t) (all_left (λ s. put_stamps t (logs s)) (sh.firsts t)) (sh.seconds t))
