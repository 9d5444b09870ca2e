use Rattle.std.proofs.Common.{◌∙◌, ap}
use Rattle.std.specs.List.{list_any}
use Rattle.bd_machine.specs.Messages.{news_of}
use Rattle.bd_rule_requests.specs.Due.{is_due_by}
use Rattle.bd_rule_requests.proofs.Due.{due_is}
use Rattle.bd_rule_requests.proofs.messages.is_due.Goals as goal

pub returns : goal.returns
returns c =
    c.is_among.ensures
    ∙ ap (list_any (is_due_by c.args.to (news_of c.args.what.now))) c.as_slice.ensures
    ∙ due_is c.args.part.now c.args.to (news_of c.args.what.now)
