use Rattle.std.proofs.Common.{◌≡◌, ◌&&◌, not, drop, filter, map}
use Rattle.std.specs.List.{list_any}
use Rattle.bd_machine.specs.Claims.{holds, is_other_writer}
use Rattle.bd_machine.specs.Registry.{holder_of, is_on}
use Rattle.bd_rule_claims.proofs.claims.is_written_beside.Given as goal

abbrev pub invariant-loop-h : goal.invariant-loop-h
invariant-loop-h l = list_any (λ h. is_other_writer l.id.0 h && not (holds l.kind h)) (map holder_of (filter (is_on l.dev) (drop l.h-index l.handles))) ≡ list_any (λ h. is_other_writer l.id.0 h && not (holds l.kind h)) (map holder_of (filter (is_on l.dev) l.handles))
