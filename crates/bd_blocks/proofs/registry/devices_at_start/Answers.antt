use Rattle.std.proofs.Common.{◌∙◌, ◌∷◌, ◌++◌, [], List, ap}
use Rattle.bd_machine.specs.declared.state.Device.{Device}
use Rattle.bd_machine.specs.Start.{device_at_start}
use Rattle.bd_stack.proofs.Numbered.{made_more}
use Rattle.bd_blocks.proofs.registry.devices_at_start.Goals as goal

pub loop-n-preserved : goal.loop-n-preserved
loop-n-preserved c = record {
  count = c.loop-n.invariant.count;
  all = made_more (device_at_start c.args.setup.now) c.loop-n.devices c.push.new.self c.loop-n.n c.loop-n.invariant.all
      (c.in_ok-push.ensures.ok ∙ ap (λ (d : Device). let ds : List Device = d ∷ [] in c.loop-n.devices ++ ds) c.device_at_start.ensures);
}
