use Rattle.std.proofs.Common.{Option, ◌∙◌, ap}
use Rattle.bd_machine.specs.declared.state.OpenRequest.{OpenRequest}
use Rattle.bd_machine.specs.Kept.{request_here}
use Rattle.bd_machine.specs.View.{View}
use Rattle.bd_steps.specs.Resetting.{reset_event}
use Rattle.bd_thread.proofs.thread.Thread.event_due.Goals as goal

pub returns : goal.returns
returns c =
    c.reset_event.ensures
    ∙ ap (λ (o : Option OpenRequest). reset_event c.args.self.now.part c.args.req o) (c.request_here-here.ensures ∙ ap (λ (v : View). request_here v c.args.req) c.seen.ensures)
