use Rattle.std.proofs.Common.{sym, ◌∙◌, ap}
use Rattle.bd_machine.specs.View.{View}
use Rattle.bd_steps.specs.Naming.{named_by}
use Rattle.bd_thread.proofs.Naming.{stops_named_so, stops_none_named}
use Rattle.bd_thread.proofs.thread.Thread.stop_named.Goals as goal

pub returns-in_default-clause-stops : goal.returns-in_default-clause-stops
returns-in_default-clause-stops c =
    let old = c.args.self.now in
    let none = sym (c.named_by.ensures ∙ ap (λ (v : View). named_by old.setup.now old.me v c.args.by) c.seen.ensures) ∙ c.in_default.is in
    stops_none_named c.args.by old c.args.links.now none

pub returns-clause-stops : goal.returns-clause-stops
returns-clause-stops c =
    let old = c.args.self.now in
    let due = sym (c.named_by.ensures ∙ ap (λ (v : View). named_by old.setup.now old.me v c.args.by) c.seen.ensures) ∙ c.in-Some.is in
    stops_named_so c.args.by c.in-Some.req old c.args.links.now c.stop.new.self c.stop.new.links due c.in_ok-stop.ensures.stops
