use Rattle.std.proofs.Common.{◌≡◌, vec_len}
use Rattle.bd_log.specs.Places.{AreMarkedUpTo}
use Rattle.bd_log.proofs.places.places_of.Given as goal

-- the parts so far are marked
abbrev pub invariant-loop-place : goal.invariant-loop-place
invariant-loop-place l = record {
  marked : AreMarkedUpTo l.place l.first l.sets.items l.parts;
  size : vec_len l.sets ≡ l.span;
}
