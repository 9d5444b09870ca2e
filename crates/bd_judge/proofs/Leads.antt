-- A prefix of a history that is a run, and the state that it leads to.
use Rattle.std.proofs.Common.{◌≡◌, ℕ, ◌+◌, ◌<◌, List, [], ◌∷◌, ◌++◌, Some, length, take, drop, get_or, refl, sym, ◌∙◌, ap, subst, append_assoc}
use Rattle.std.proofs.lemmas.List.{take_more, take-append-drop}
use Rattle.bd_base.specs.declared.act.Entry.{Entry}
use Rattle.bd_base.specs.declared.setup.Setup.{Setup}
use Rattle.bd_machine.specs.declared.state.State.{State}
use Rattle.bd_machine.specs.Run.{IsRun, IsRunFrom, after_all, state_after}
use Rattle.bd_machine.specs.Start.{start}
use Rattle.bd_machine.specs.Step.{IsAllowed, IsStep, refusal, after}
use Rattle.bd_play.specs.Play.{Play}
use Rattle.bd_play.specs.Refusals.{Refuses}
use Rattle.bd_play.specs.declared.machine.StepError.{StepError}
use Rattle.bd_play.specs.declared.machine.StepError.TheVariants.{Illegal}
use Rattle.bd_judge.specs.Judge.{IsStopped}

-- the entries are a run, and lead to this state
pub record LeadsTo (setup : Setup) (entries : List Entry) (s : State) : Type 0 where
  pub run : IsRun setup [] entries
  pub state : s ≡ state_after setup [] entries

run_with : (setup : Setup) (s : State) (es : List Entry) (e : Entry) → IsRunFrom setup s es → IsAllowed setup (after_all setup s es) e → IsRunFrom setup s (es ++ e ∷ [])
run_with setup s [] e run allowed = (allowed, tt)
run_with setup s (x ∷ es) e run allowed = (run.0, run_with setup (after setup s x) es e run.1 allowed)

after_with : (setup : Setup) (s : State) (es : List Entry) (e : Entry) → after_all setup s (es ++ e ∷ []) ≡ after setup (after_all setup s es) e
after_with setup s [] e = refl
after_with setup s (x ∷ es) e = after_with setup (after setup s x) es e

-- one more entry that is allowed
leads_with : (setup : Setup) (es : List Entry) (e : Entry) (s s' : State) → LeadsTo setup es s → IsStep setup s e s' → LeadsTo setup (es ++ e ∷ []) s'
leads_with setup es e s s' leads step = record {
  run = run_with setup (start setup []) es e leads.run (subst (λ (x : State). IsAllowed setup x e) leads.state step.0);
  state = step.1 ∙ ap (λ (x : State). after setup x e) leads.state ∙ sym (after_with setup (start setup []) es e);
}

-- the machine of this setup, after the first entries of a history
abbrev pub IsAt : Setup → List Entry → ℕ → Play → Type 0
IsAt setup xs i m = (m.setup ≡ setup) × LeadsTo setup (take i xs) m.state

-- a step of the machine
pub step_on : (setup : Setup) (xs : List Entry) (i : ℕ) (e : Entry) (m m' : Play) → i < length xs → e ≡ get_or xs i e → IsAt setup xs i m → IsStep m.setup m.state e m'.state → m'.setup ≡ m.setup → IsAt setup xs (i + 1) m'
step_on setup xs i e m m' h is at step same = (
  same ∙ at.0,
  subst (λ (es : List Entry). LeadsTo setup es m'.state) (sym (take_more xs i e h ∙ ap (λ (x : Entry). take i xs ++ x ∷ []) (sym is)))
      (leads_with setup (take i xs) e m.state m'.state at.1 (subst (λ (x : Setup). IsStep x m.state e m'.state) at.0 step)),
)

-- the whole list is a prefix, an item, and the rest
split_at : (xs : List Entry) (i : ℕ) (e : Entry) → i < length xs → e ≡ get_or xs i e → xs ≡ take i xs ++ e ∷ drop (i + 1) xs
split_at xs i e h is =
    sym (take-append-drop (i + 1) xs)
    ∙ ap (λ (es : List Entry). es ++ drop (i + 1) xs) (take_more xs i e h ∙ ap (λ (x : Entry). take i xs ++ x ∷ []) (sym is))
    ∙ append_assoc (take i xs) (e ∷ []) (drop (i + 1) xs)

-- the machine refuses an entry
pub stops_at : (setup : Setup) (xs : List Entry) (i : ℕ) (e : Entry) (m : Play) (why : StepError) (guard stamp : ℕ) → i < length xs → e ≡ get_or xs i e → IsAt setup xs i m → Refuses m e why → why ≡ Illegal guard stamp → IsStopped setup xs guard stamp
stops_at setup xs i e m why guard stamp h is at refuses illegal =
    let refused : Refuses m e (Illegal guard stamp) = subst (Refuses m e) illegal refuses in
    record {
      before = take i xs;
      entry = e;
      behind = drop (i + 1) xs;
      whole = split_at xs i e h is;
      run = at.1.run;
      refused = subst (λ (x : State). refusal setup x e ≡ Some guard) at.1.state (subst (λ (x : Setup). refusal x m.state e ≡ Some guard) at.0 refused.0);
      stamped = refused.1;
    }
