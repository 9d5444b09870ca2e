use Rattle.std.proofs.Common.{sym, ◌∙◌, ap}
use Rattle.bd_base.specs.declared.act.Act.TheVariants as acts
use Rattle.bd_machine.specs.Guards.{prior_by}
use Rattle.bd_play.specs.Words.{seen}
use Rattle.bd_play.proofs.step.prior_by.Goals as goal

pub returns-in-Reg : goal.returns-in-Reg
returns-in-Reg c =
    let prior = prior_by (seen c.args.side.now) in
    c.taken_injection.ensures c.args.side.now ∙ ap (λ a. prior (acts.Reg c.in-Reg.event a)) c.get.ensures ∙ sym (ap prior c.in-Reg.is)
