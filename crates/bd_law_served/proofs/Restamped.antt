-- What a thread served in the merge of logs that fit loosely: their rows with the stamps that their messages' Puts have serve the same.
use Rattle.std.proofs.Common.{◌≡◌, ℕ, Bool, true, false, List, [], ◌∷◌, ◌++◌, refl, ◌∙◌, ap, ap₂}
use Rattle.bd_base.specs.declared.id.DevId.{DevId}
use Rattle.bd_base.specs.declared.setup.Setup.{Setup}
use Rattle.bd_machine.specs.View.{View}
use Rattle.bd_turns.specs.Laws.{view_at_start}
use Rattle.bd_law_logs.specs.Rows.{Row, view_after}
use Rattle.bd_law_logs.specs.Loose.{put_stamps}
use Rattle.bd_law_logs.proofs.Restamped.{all_left, fits, merge_same, restamped, shut, stamps_left, view_same}
use Rattle.bd_law_served.specs.Laws.{MergeServesAsSeen}
use Rattle.bd_law_served.specs.Served.{served_by, served_on, ServedPiece}
use Rattle.bd_law_served.proofs.Shut.{shut_serves}

served_same : (setup : Setup) (is_shut : Bool) (t : ℕ) (dev : DevId) (v : View) (stamps : ℕ → List ℕ) (rows : List Row)
    → served_on setup is_shut t dev v (restamped stamps rows) ≡ served_on setup is_shut t dev v rows
served_same setup is_shut t dev v stamps [] = refl
served_same setup is_shut t dev v stamps (r ∷ rs) =
    ap (λ (xs : List ServedPiece). served_by dev v r.entry.act ++ xs)
    (ap (λ (w : View). served_on setup is_shut t dev w (restamped (stamps_left stamps r.entry.act) rs)) (view_same setup is_shut t v stamps r)
    ∙ served_same setup is_shut t dev (view_after setup is_shut t v r) (stamps_left stamps r.entry.act) rs)

pub merge_serves_as_seen : MergeServesAsSeen
unfolding shut
merge_serves_as_seen setup told logs journal merged sh fit merge t dev lt =
    shut_serves setup told (λ t. restamped (λ s. put_stamps t (logs s)) (logs t)) journal merged (shut setup told logs journal merged sh fit merge) (fits setup told logs journal merged sh fit merge)
    (merge_same setup told logs journal merged sh fit merge) t dev lt
    ∙ ap₂ (λ (xs ys : List ServedPiece). xs ++ ys) (served_same setup false t dev (view_at_start setup told t) (λ s. put_stamps t (logs s)) (sh.firsts t))
    (served_same setup true t dev (sh.marks t) (all_left (λ s. put_stamps t (logs s)) (sh.firsts t)) (sh.seconds t))
