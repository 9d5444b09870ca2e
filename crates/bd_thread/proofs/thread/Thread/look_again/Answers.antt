use Rattle.bd_thread.proofs.Looked.{look_again, look_rested, look_settled}
use Rattle.bd_thread.proofs.thread.Thread.look_again.Goals as goal

pub returns-then-rests : goal.returns-then-rests
returns-then-rests c = λ entries x keeps all first kept looks.
    look_settled entries x c.args.touched.now c.args.req c.args.self.now all first kept keeps
    (look_rested c.args.self.now c.args.links.now _ c.args.req c.args.touched.now.holds c.seen.ensures (c.rests.ensures c.if-rests.true)) looks

pub returns : goal.returns
returns c = λ entries x keeps all first kept looks.
    look_again entries x c.args.touched.now c.args.req c.args.self.now all first kept c.add.new.self c.add.ensures.holds c.add.ensures.covers c.add.ensures.named looks
