use Rattle.std.proofs.Common.{arith}
use Rattle.bd_thin_map.proofs.Least.{first_is}
use Rattle.bd_thin_map.proofs.users.next_free.Goals as goal

pub returns-else-counts-cluster-gt0 : goal.returns-else-counts-cluster-gt0
returns-else-counts-cluster-gt0 c = first_is c.args.counts.now c.loop-cluster.cluster c.loop-cluster.invariant.there c.loop-cluster.invariant.before (λ l. omega (arith, c.if-counts-cluster-gt0.false))

pub returns-after-loop-cluster : goal.returns-after-loop-cluster
returns-after-loop-cluster c =
    first_is c.args.counts.now c.loop-cluster.cluster c.loop-cluster.invariant.there c.loop-cluster.invariant.before (λ l. absurd (omega (arith, l, c.loop-cluster-test.false)))
