use Rattle.std.proofs.Common.{◌≡◌, drop, filter, map}
use Rattle.std.specs.List.{list_any}
use Rattle.bd_machine.specs.Claims.{is_other_writer}
use Rattle.bd_machine.specs.Registry.{holder_of, is_on}
use Rattle.bd_rule_claims.proofs.claims.is_written_by_other.Given as goal

abbrev pub invariant-loop-h : goal.invariant-loop-h
invariant-loop-h l = list_any (is_other_writer l.id.0) (map holder_of (filter (is_on l.dev) (drop l.h-index l.handles))) ≡ list_any (is_other_writer l.id.0) (map holder_of (filter (is_on l.dev) l.handles))
