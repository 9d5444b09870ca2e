-- The end of a line, by the local rules.
use Rattle.std.proofs.Common.{◌≡◌, ℕ, ◌+◌, Bool, true, false, not, ◌&&◌, ◌||◌, ◌==◌, List, cond, Option, Some, None, refl, sym, ◌∙◌, ap, ap₂, subst, eq-eqb}
use Rattle.std.specs.Option.{option_map, option_and_then}
use Rattle.std.proofs.lemmas.Bool.{and_from}
use Rattle.bd_base.specs.Errno.{number_of}
use Rattle.bd_base.specs.declared.act.Act.TheVariants as acts
use Rattle.bd_base.specs.declared.act.Outcome.{Outcome}
use Rattle.bd_base.specs.declared.act.Outcome.TheVariants as outcomes
use Rattle.bd_base.specs.declared.job.Job.{Job}
use Rattle.bd_base.specs.declared.job.Line.{Line}
use Rattle.bd_base.specs.declared.setup.Setup.{Setup}
use Rattle.bd_machine.specs.declared.state.Id.{Id}
use Rattle.bd_machine.specs.declared.state.Kept.{Kept}
use Rattle.bd_machine.specs.declared.state.Part.{Part}
use Rattle.bd_machine.specs.declared.state.Registry.{Registry}
use Rattle.bd_machine.specs.Asked.{next_line, outcome_by, outcome_due, job_of}
use Rattle.bd_machine.specs.Same.{same_outcome, is_the}
use Rattle.bd_machine.specs.Scripts.{change_job, is_line}
use Rattle.bd_rule_effects.specs.Lone.{lone}
use Rattle.bd_turns.specs.declared.queue.Message.{Message}
use Rattle.bd_turns.specs.Local.{Local}
use Rattle.bd_thread.specs.declared.links.Links.{Links}
use Rattle.bd_thread.specs.declared.thread.Thread.{Thread}
use Rattle.bd_moment.specs.Time.{is_asleep as is_job_asleep}
use Rattle.bd_thread.specs.Asleep.{is_line_asleep}
use Rattle.bd_thread.specs.Lines.{EndsBy, EndsLine, IsEnded}
use Rattle.bd_thread.specs.Seen.{local_at, untaken, view_of}
use Rattle.bd_thread.proofs.Going.{Steps, steps, still_shut}

outcome_self : (o : Outcome) → same_outcome o o ≡ true
outcome_self outcomes.Done = refl
outcome_self (outcomes.Errno e) = eq-eqb (number_of e) (number_of e) refl
outcome_self (outcomes.BusyOpen n) = eq-eqb n n refl
outcome_self (outcomes.Accepted r) = and_from (r.thread == r.thread) (r.seq == r.seq) (eq-eqb r.thread r.thread refl) (eq-eqb r.seq r.seq refl)

module _ (setup : Setup) (me : ℕ) (part : Part) (here : Id → Option Kept) (registry : Registry) (shut : Bool) (stamp : ℕ) (queues : ℕ → List Message) (line : Line) (outcome : Outcome) where
  abbrev old : Local
  old = local_at me part here registry shut stamp queues

  abbrev after_line : Option Job → Part
  after_line o = untaken (change_job setup (lone part) o).part

  -- the act of a line's end, where no Shutdown stands
  pub line_steps : shut ≡ false → next_line setup me part ≡ Some line → outcome_by old.view part.decided line.job ≡ Some outcome
      → Steps setup me old (acts.Script line.number outcome) (local_at me (after_line (Some line.job)) here registry shut (stamp + 1) queues)
  line_steps unshut next due =
      let after : Bool → Option Line → Local = λ b o. local_at me (after_line (option_map job_of o)) here registry b (stamp + 1) queues in
      steps setup me old (after shut (Some line)) (acts.Script line.number outcome) refl refl (
        ap (λ (o : Option Line). is_line line.number o && not shut) next ∙ and_from (line.number == line.number) (not shut) (eq-eqb line.number line.number refl) (ap not unshut),
        (
          ap (λ (o : Option Line). is_the same_outcome outcome (option_and_then (λ l. outcome_by old.view part.decided l.job) o)) next ∙ ap (is_the same_outcome outcome) due ∙ outcome_self outcome,
          tt,
        ),
      )
      (ap₂ after (still_shut shut) next)

-- where the next line has an outcome and doesn't sleep, it ended so
pub ended_by : (t : Thread) (before : Links) (new : Thread) (after : Links) (line : Line) (outcome : Outcome)
    → before.shut ≡ false
    → next_line t.setup.now t.me t.part ≡ Some line
    → is_job_asleep t.time line.job ≡ false
    → outcome_by (view_of t before) t.part.decided line.job ≡ Some outcome
    → IsEnded outcome t before new after
    → EndsLine t before new after true
ended_by t before new after line outcome unshut next awake due ended =
    subst (EndsBy t before new after true)
    (sym (ap₂ (λ a b. cond (a || b) None (outcome_due t.setup.now t.me (view_of t before))) unshut (ap (is_line_asleep t.time) next ∙ awake) ∙ ap (option_and_then (λ (l : Line). outcome_by (view_of t before) t.part.decided l.job)) next ∙ due))
    (refl, ended)
