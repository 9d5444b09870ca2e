use Rattle.std.proofs.Common.{◌≡◌, drop, map}
use Rattle.bd_machine.specs.Events.{sized_due, with_due}
use Rattle.bd_rule_events.proofs.resize.tell_sizes.Given as goal

-- what is still due to the handles that are left makes what is due to all
abbrev pub invariant-loop-holder : goal.invariant-loop-holder
invariant-loop-holder l = with_due (map (sized_due l.blocks) (drop l.holder-index l.handles)) l.part ≡ with_due (map (sized_due l.blocks) l.handles) l.fn.part
