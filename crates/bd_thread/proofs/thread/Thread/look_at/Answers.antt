use Rattle.std.proofs.Common.{◌∙◌, List, subst, drop, ap}
use Rattle.bd_base.specs.declared.act.Entry.{Entry}
use Rattle.bd_touched.specs.Reach.{TakesIn}
use Rattle.bd_thread.proofs.Looked.{look_taken, take_rest}
use Rattle.bd_thread.proofs.thread.Thread.look_at.Goals as goal

pub returns-clause-looks : goal.returns-clause-looks
returns-clause-looks c = λ looks.
    let t = c.args.self.now in
    look_taken (drop c.args.before c.args.links.now.entries) c.args.touched c.take_in.new.self t
    (subst (λ (es : List Entry). TakesIn t.setup.now t.me t.part.requests es c.args.touched c.take_in.new.self)
    (take_rest c.args.before c.as_slice.result.now ∙ ap (drop c.args.before) c.as_slice.ensures) c.in_ok-take_in.ensures.taken)
    c.in_ok-take_in.ensures.keeps looks
