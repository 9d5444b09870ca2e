use Rattle.std.proofs.Common.{◌≡◌, drop, map}
use Rattle.bd_machine.specs.Events.{gone_due, with_due}
use Rattle.bd_rule_events.proofs.removal.tell_handles.Given as goal

-- what is still due to the handles that are left makes what is due to all
abbrev pub invariant-loop-holder : goal.invariant-loop-holder
invariant-loop-holder l = with_due (map gone_due (drop l.holder-index l.handles)) l.part ≡ with_due (map gone_due l.handles) l.fn.part
