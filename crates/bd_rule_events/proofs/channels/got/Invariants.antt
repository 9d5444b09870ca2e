use Rattle.std.proofs.Common.{◌≡◌, drop}
use Rattle.bd_machine.specs.Events.{all_born}
use Rattle.bd_rule_events.proofs.channels.got.Given as goal

-- the devices that are left make of the part what all make of it
abbrev pub invariant-loop-dev : goal.invariant-loop-dev
invariant-loop-dev l = all_born l.frozen (drop l.dev-index l.made) l.part ≡ all_born l.frozen l.made l.fn.part
