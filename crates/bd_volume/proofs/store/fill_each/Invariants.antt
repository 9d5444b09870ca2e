use Rattle.std.proofs.Common.{◌≡◌}
use Rattle.bd_pages.specs.Bytes.{written}
use Rattle.bd_pages.specs.Fills.{patterns}
use Rattle.bd_volume.proofs.store.fill_each.Given as goal

abbrev pub invariant-loop-k : goal.invariant-loop-k
invariant-loop-k l = l.bytes ≡ written l.span.at (patterns l.seed l.number l.span.size l.k) l.initial.bytes
