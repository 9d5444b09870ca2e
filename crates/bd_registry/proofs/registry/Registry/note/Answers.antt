use Rattle.std.proofs.Common.{◌≡◌, ◌<◌, ◌∷◌, ◌++◌, [], Bool, true, false, ◌||◌, map, refl, ap, sym, ◌∙◌, subst}
use Rattle.bd_base.specs.declared.act.Entry.{Entry}
use Rattle.bd_base.specs.declared.event.Answer.{Answer}
use Rattle.bd_rule_channels.specs.Counts.{count_for}
use Rattle.bd_machine.specs.Changes.{counts_after}
use Rattle.bd_machine.specs.Registry.{answer_to, references}
use Rattle.bd_registry.specs.Handles.{is_of_kind}
use Rattle.bd_registry.specs.State.{Registered, event_row, is_shut, registered, registered_by}
use Rattle.bd_registry.proofs.Journals.{shut_more}
use Rattle.bd_registry.proofs.Registering.{is_registered_after, is_registered_still, registered_after}
use Rattle.bd_registry.proofs.Suiting.{answer_suits}
use Rattle.bd_registry.proofs.registry.Registry.note.Goals as goal

pub change-requires-clause-kind : goal.change-requires-clause-kind
change-requires-clause-kind c =
    subst (λ (a : Answer). is_of_kind c.args.event.now a ≡ true) (sym c.requires.answered) (answer_suits c.args.self.now.setup c.args.self.now.state c.args.thread c.args.event.now).kind

pub invariant_of-self-in-Ok : goal.invariant_of-self-in-Ok
invariant_of-self-in-Ok c =
    let setup = c.self.inside.setup in
    let journal = c.self.inside.journal.items in
    let r : Registered = registered_by setup journal c.self.inside.last in
    let is : c.args.self.now ≡ r = sym c.self.view_is in
    let more : c.push.new.self.items ≡ journal ++ event_row c.args.thread c.args.stamp c.args.event.now c.args.answer.now ∷ [] =
    c.in_ok-push.ensures.items ∙ ap (λ (e : Entry). journal ++ e ∷ []) c.in_ok-row.ensures in
    let answered = subst (λ (s : Registered). c.args.answer.now ≡ answer_to s.setup s.state c.args.thread c.args.event.now) is c.requires.answered in
    let counted = subst (λ (s : Registered). map count_for c.in_ok-counts.counts ≡ counts_after setup (references s.state c.args.thread) c.args.event.now c.args.answer.now) is c.in_ok-counts.ensures in
    let less = subst (λ (s : Registered). s.last < c.args.stamp) is c.requires.later in (
      is_registered_after setup journal c.self.inside.last c.args.thread c.args.stamp c.args.event.now c.args.answer.now c.push.new.self.items more c.self.inside.names c.self.inside.tables c.change.new.self c.self.invariant.0 less answered
          (c.in-Ok.ensures.ok setup r.state c.self.invariant.0.tables (ap (map count_for) c.as_slice.ensures ∙ counted)),
      c.self.invariant.1 ∙ still (is_shut journal) ∙ sym (ap is_shut more ∙ shut_more journal (event_row c.args.thread c.args.stamp c.args.event.now c.args.answer.now)),
    )
  where
    still : (b : Bool) → b ≡ (b || false)
    still true = refl
    still false = refl

pub invariant_of-self-in-Err : goal.invariant_of-self-in-Err
invariant_of-self-in-Err c =
    let same = c.drop_last.ensures c.self.inside.journal.items c.in_ok-row.row c.in_ok-push.ensures.items in (
      is_registered_still c.self.inside.setup c.self.inside.journal.items c.drop_last.new.journal.items c.self.inside.last same c.self.inside.names c.self.inside.tables c.change.new.self c.self.invariant.0
          (c.in-Err.ensures.err (registered_by c.self.inside.setup c.self.inside.journal.items c.self.inside.last).state c.self.invariant.0.tables),
      c.self.invariant.1 ∙ sym (ap is_shut same),
    )

pub returns-in-Ok-clause-ok : goal.returns-in-Ok-clause-ok
returns-in-Ok-clause-ok c =
    let setup = c.self.inside.setup in
    let journal = c.self.inside.journal.items in
    let more : c.push.new.self.items ≡ journal ++ event_row c.args.thread c.args.stamp c.args.event.now c.args.answer.now ∷ [] =
    c.in_ok-push.ensures.items ∙ ap (λ (e : Entry). journal ++ e ∷ []) c.in_ok-row.ensures in
    registered_after setup journal c.self.inside.last c.args.thread c.args.stamp c.args.event.now c.args.answer.now c.push.new.self.items more
    ∙ ap (λ (s : Registered). registered s c.args.thread c.args.stamp c.args.event.now c.args.answer.now) c.self.view_is
