use Rattle.std.proofs.Common.{codes}
use Rattle.bd_trace.specs.Fields.{blocks_field}
use Rattle.bd_trace.specs.Registry.{named_event, resize_event}
use Rattle.bd_trace.proofs.FieldLemmas.{added_after}
use Rattle.bd_trace.proofs.registry.add_resize_event.Goals as goal

pub returns : goal.returns
unfolding resize_event
returns c =
    added_after c.blocks-2.result c.args.text.now c.add_named_event.new.text c.blocks-2.new.self (named_event (codes "begin-resize") c.args.name.now)
    (blocks_field c.args.blocks) c.in_ok-add_named_event.ensures c.blocks-2.ensures
