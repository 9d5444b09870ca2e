use Rattle.std.proofs.Common.{ℕ, ◌+◌, [], ◌∷◌, ap, subst, sym, ◌∙◌}
use Rattle.bd_base.specs.declared.act.Act.{Act}
use Rattle.bd_machine.specs.View.{asked}
use Rattle.bd_law_logs.specs.Journals.{IsAnswered}
use Rattle.bd_registry.specs.State.{registered}
use Rattle.bd_law_threads.specs.Course.{restamped}
use Rattle.bd_seat.specs.Taking.{TakesOver}
use Rattle.bd_seat.proofs.TakenOver.{takes_event}
use Rattle.bd_seat.proofs.taking.take_over_event.Goals as goal

pub returns-clause-taken : goal.returns-clause-taken
returns-clause-taken c =
    let log = c.args.log.now in
    let r = c.args.registry.now in
    let event = c.in-Reg.event in
    let given = c.in_ok-_given._given in
    let stamp = c.last-last.result + 1 in
    let after = c.in_ok-_given.ensures.after ∙ ap (λ (t : ℕ). registered r t stamp event given) c.requires.me in
    let answered = subst (λ (a : Act). IsAnswered r.setup r.state c.args.me (asked a)) c.in-Reg.is c.requires.answered in
    let stamp-is = ap (λ (n : ℕ). n + 1) c.last-last.ensures in
    let pushed = c.in_ok-push.ensures in
    subst (λ (a : Act). TakesOver log r (restamped log.thread log.last (a ∷ [])) c.push.new.log c.event.new.self) (sym c.in-Reg.is)
    (takes_event log c.push.new.log r c.event.new.self event c.in-Reg.answer given stamp stamp-is (c.in_ok-_given.ensures.answer ∙ answered) after pushed.entries pushed.last pushed.thread)
