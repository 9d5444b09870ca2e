use Rattle.bd_thread.proofs.Injecting.{takes_acted, takes_tickets}
use Rattle.bd_thread.proofs.thread.Thread.take_decision.Goals as goal

pub returns-clause-acted : goal.returns-clause-acted
returns-clause-acted c = takes_acted c.args.self.now c.args.links.now c.tell_decision.new.self c.tell_decision.new.links c.args.req c.args.dev c.args.r c.requires.here c.requires.asked c.in_ok-tell_decision.ensures

pub returns-clause-tickets : goal.returns-clause-tickets
returns-clause-tickets c = takes_tickets c.args.self.now c.args.links.now c.tell_decision.new.self c.tell_decision.new.links c.args.req c.args.dev c.args.r c.in_ok-tell_decision.ensures
