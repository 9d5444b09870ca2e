use Rattle.std.proofs.Common.{◌≡◌, vec_len}
use Rattle.bd_log.proofs.places.no_places.Given as goal

abbrev pub invariant-loop-stamp : goal.invariant-loop-stamp
invariant-loop-stamp l = vec_len l.sets ≡ l._stamp
