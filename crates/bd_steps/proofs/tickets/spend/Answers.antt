use Rattle.bd_steps.proofs.Spent.{spent}
use Rattle.bd_steps.proofs.tickets.spend.Goals as goal

pub returns : goal.returns
returns c = spent c.finish.result c.args.purse.now c.finish.new.self c.args.req c.finish.ensures.found c.finish.ensures.rest c.finish.ensures.none
