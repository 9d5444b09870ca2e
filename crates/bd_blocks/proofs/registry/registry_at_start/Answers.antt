use Rattle.std.proofs.Common.{◌+◌, ◌-◌, ◌<◌, ◌∙◌, ℕ, ap, sym, arith}
use Rattle.std.specs.List.{range_with_len}
use Rattle.bd_machine.specs.declared.state.Registry.{Registry}
use Rattle.bd_machine.specs.BlockMap.{below}
use Rattle.bd_machine.specs.Changes.{counts_got, counts_set}
use Rattle.bd_machine.specs.Registry.{references}
use Rattle.bd_machine.specs.Users.{dev_of}
use Rattle.bd_blocks.proofs.Left.{left_from}
use Rattle.bd_blocks.proofs.Starting.{channel_left, channel_taken}
use Rattle.bd_blocks.proofs.registry.registry_at_start.Goals as goal
use Rattle.bd_blocks.proofs.registry.registry_at_start.Goals.{then-is_limited+in_ok-get_channel, else-is_limited}

pub loop-n-preserved : goal.loop-n-preserved
loop-n-preserved c =
    let setup = c.args.setup.now in
    let n = c.loop-n.n in
    let was = c.loop-n.registry in
    let less : n < c.in-Ok.count = omega (arith, c.loop-n-test.true, c.loop-n.auto.n-end) in
    let next = left_from n c.in-Ok.count less in
    let left = range_with_len n (c.in-Ok.count - n) in
    let bs = range_with_len (n + 1) (c.in-Ok.count - (n + 1)) in
    record {
      count = c.loop-n.invariant.count;
      all = elim c.if-is_limited.branch [
        | then-is_limited+in_ok-get_channel w ↦
            channel_taken setup n left bs was c.if-is_limited.registry _ next (sym c.is_limited.ensures ∙ w.if-is_limited.true)
            (w.registry-is ∙ w.in_ok-get_channel.ensures
            ∙ ap (λ (t : ℕ). let r : Registry = record was { channels = counts_set t (counts_got (references was t) (below setup (dev_of n))) was.channels } in r) w.home.ensures)
            c.loop-n.invariant.all
        | else-is_limited w ↦ channel_left setup n left bs was c.if-is_limited.registry _ next (sym c.is_limited.ensures ∙ w.if-is_limited.false) w.registry-is c.loop-n.invariant.all
      ];
    }
