-- One verdict at most is right of a history.
use Rattle.std.proofs.Common.{◌≡◌, ℕ, List, [], ◌∷◌, ◌++◌, Some, None, refl, sym, ◌∙◌, ap, subst}
use Rattle.bd_base.specs.declared.act.Entry.{Entry}
use Rattle.bd_base.specs.declared.setup.Setup.{Setup}
use Rattle.bd_machine.specs.declared.state.State.{State}
use Rattle.bd_machine.specs.Run.{IsRun, IsRunFrom, after_all}
use Rattle.bd_machine.specs.Start.{start}
use Rattle.bd_machine.specs.Step.{refusal, after}
use Rattle.bd_judge.specs.declared.judging.Verdict.TheVariants.{Complete, Unfinished, Illegal}
use Rattle.bd_judge.specs.Judge.{IsStopped}
use Rattle.bd_judge.specs.Laws.{VerdictIsDetermined}

-- a run has no entry that isn't allowed
runs_on : (setup : Setup) (s : State) (es : List Entry) (e : Entry) (fs : List Entry) (guard : ℕ) → IsRunFrom setup s (es ++ e ∷ fs) → refusal setup (after_all setup s es) e ≡ Some guard → ⊥
runs_on setup s [] e fs guard run refused = cc (run.0, refused)
runs_on setup s (x ∷ es) e fs guard run refused = runs_on setup (after setup s x) es e fs guard run.1 refused

run_is_not_stopped : (setup : Setup) (entries : List Entry) (guard stamp : ℕ) → IsRun setup [] entries → IsStopped setup entries guard stamp → ⊥
run_is_not_stopped setup entries guard stamp run stop =
    runs_on setup (start setup []) stop.before stop.entry stop.behind guard (subst (IsRun setup []) stop.whole run) stop.refused

-- two entries at which the same history stops
stops_once : (setup : Setup) (s : State) (es : List Entry) (e : Entry) (es' : List Entry) (fs : List Entry) (f : Entry) (fs' : List Entry) (g h : ℕ) → es ++ e ∷ es' ≡ fs ++ f ∷ fs' → IsRunFrom setup s es → IsRunFrom setup s fs → refusal setup (after_all setup s es) e ≡ Some g → refusal setup (after_all setup s fs) f ≡ Some h → (g ≡ h) × (e ≡ f)
stops_once setup s [] e es' [] f fs' g h same run run' stop stop' =
    let is : e ≡ f = cc in
    let both : Some g ≡ Some h = sym stop ∙ ap (refusal setup s) is ∙ stop' in
    (cc, is)
stops_once setup s [] e es' (y ∷ fs) f fs' g h same run run' stop stop' =
    let is : e ≡ y = cc in
    let none : refusal setup s e ≡ None = ap (refusal setup s) is ∙ run'.0 in
    cc
stops_once setup s (x ∷ es) e es' [] f fs' g h same run run' stop stop' =
    let is : f ≡ x = cc in
    let none : refusal setup s f ≡ None = ap (refusal setup s) is ∙ run.0 in
    cc
stops_once setup s (x ∷ es) e es' (y ∷ fs) f fs' g h same run run' stop stop' =
    let is : y ≡ x = cc in
    let rest : es ++ e ∷ es' ≡ fs ++ f ∷ fs' = cc in
    stops_once setup (after setup s x) es e es' fs f fs' g h rest run.1
    (subst (λ (z : Entry). IsRunFrom setup (after setup s z) fs) is run'.1) stop
    (subst (λ (z : Entry). refusal setup (after_all setup (after setup s z) fs) f ≡ Some h) is stop')

stopped_alike : (setup : Setup) (entries : List Entry) (g a h b : ℕ) → IsStopped setup entries g a → IsStopped setup entries h b → Illegal g a ≡ Illegal h b
stopped_alike setup entries g a h b p q =
    let once : (g ≡ h) × (p.entry ≡ q.entry) = stops_once setup (start setup []) p.before p.entry p.behind q.before q.entry q.behind g h (sym p.whole ∙ q.whole) p.run q.run p.refused q.refused in
    let guards : g ≡ h = once.0 in
    let stamps : a ≡ b = p.stamped ∙ ap (λ (e : Entry). e.stamp) once.1 ∙ sym q.stamped in
    cc

pub verdict_is_determined : VerdictIsDetermined
verdict_is_determined setup entries Complete Complete p q = refl
verdict_is_determined setup entries Complete Unfinished p q = cc (p.1, q.1)
verdict_is_determined setup entries Complete (Illegal h b) p q = absurd (run_is_not_stopped setup entries h b p.0 q)
verdict_is_determined setup entries Unfinished Complete p q = cc (p.1, q.1)
verdict_is_determined setup entries Unfinished Unfinished p q = refl
verdict_is_determined setup entries Unfinished (Illegal h b) p q = absurd (run_is_not_stopped setup entries h b p.0 q)
verdict_is_determined setup entries (Illegal g a) Complete p q = absurd (run_is_not_stopped setup entries g a q.0 p)
verdict_is_determined setup entries (Illegal g a) Unfinished p q = absurd (run_is_not_stopped setup entries g a q.0 p)
verdict_is_determined setup entries (Illegal g a) (Illegal h b) p q = stopped_alike setup entries g a h b p q
