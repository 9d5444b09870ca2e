use Rattle.std.proofs.Common.{◌≡◌, drop}
use Rattle.bd_machine.specs.Events.{first_req}
use Rattle.bd_rule_events.proofs.resets.first_req.Given as goal

abbrev pub invariant-loop-reset : goal.invariant-loop-reset
invariant-loop-reset l = first_req (drop l.reset-index l.resets) l.dev l.stage ≡ first_req l.resets l.dev l.stage
