use Rattle.std.proofs.Common.{List, drop, ap, subst, sym, ◌∙◌}
use Rattle.std.proofs.lemmas.Result.{on_ok_weaker}
use Rattle.bd_base.specs.declared.act.Entry.{Entry}
use Rattle.bd_machine.specs.declared.state.Registry.{Registry}
use Rattle.bd_machine.specs.Start.{registry_at_start}
use Rattle.bd_law_logs.specs.Journals.{registry_by, IsReplay}
use Rattle.bd_seat.proofs.Suffixes.{by_after, replay_after, whole_after}
use Rattle.bd_seat.proofs.replica.catch_up.Goals as goal

pub follow-requires : goal.follow-requires
follow-requires c =
    let lent = c.args.lent.now in
    let own = c.args.replica.now in
    let n = c.args.seen in
    let rows = c.journal-rows.ensures.rows in
    let all = c.journal-rows.ensures.replay own.setup (sym c.requires.start) in
    subst (λ (es : List Entry). IsReplay own.setup own.state es) (sym (whole_after n c.journal-rows.result.now))
    (subst (λ (es : List Entry). IsReplay own.setup own.state (drop n es)) (sym rows)
    (subst (λ (r : Registry). IsReplay own.setup r (drop n lent.journal)) (sym c.requires.state)
    (replay_after own.setup (registry_at_start own.setup) n lent.journal all)))

pub returns-clause-state : goal.returns-clause-state
returns-clause-state c =
    let lent = c.args.lent.now in
    let own = c.args.replica.now in
    let n = c.args.seen in
    let rows = c.journal-rows.ensures.rows in
    on_ok_weaker c.follow.result (λ is. is
    ∙ ap (λ (es : List Entry). registry_by own.setup own.state es) (whole_after n c.journal-rows.result.now ∙ ap (λ (es : List Entry). drop n es) rows)
    ∙ ap (λ (r : Registry). registry_by own.setup r (drop n lent.journal)) c.requires.state
    ∙ by_after own.setup (registry_at_start own.setup) n lent.journal
    ∙ c.journal-rows.ensures.leaves own.setup (sym c.requires.start)) c.follow.ensures.state
