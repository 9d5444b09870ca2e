use Rattle.std.proofs.Common.{◌≡◌, ◌&&◌, ◌==◌, drop, filter, map}
use Rattle.std.specs.List.{list_any}
use Rattle.bd_machine.specs.Claims.{is_claimant}
use Rattle.bd_machine.specs.Registry.{holder_of, is_on}
use Rattle.bd_rule_claims.proofs.claims.holds_one.Given as goal

abbrev pub invariant-loop-h : goal.invariant-loop-h
invariant-loop-h l = list_any (λ h. (h.handle == l.id.0) && is_claimant h) (map holder_of (filter (is_on l.dev) (drop l.h-index l.handles))) ≡ list_any (λ h. (h.handle == l.id.0) && is_claimant h) (map holder_of (filter (is_on l.dev) l.handles))
