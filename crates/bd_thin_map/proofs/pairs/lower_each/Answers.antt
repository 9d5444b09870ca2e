use Rattle.std.proofs.Common.{length, arith, ◌∙◌}
use Rattle.std.proofs.lemmas.Iterator.Consumers.{YieldsList-from_rest, YieldsList-turn}
use Rattle.indexmap.specs.IndexMap.{values}
use Rattle.bd_thin_map.proofs.Totals.{count_fits}
use Rattle.bd_thin_map.proofs.pairs.lower_each.Goals as goal

pub lower-requires : goal.lower-requires
lower-requires c =
    let turn = YieldsList-turn (YieldsList-from_rest (values c.args.map.now) (c.into_iter-cluster-iterator.ensures.into_iter_gives ∙ c.values-cluster-items.ensures.rest)) c.loop-cluster.yielded _ c.loop-cluster.yielded_by _ _ c.in-Some.cluster c.in-Some.is c.next.ensures.steps in
    let fits = count_fits c.in-Some.cluster.now (length c.loop-cluster.yielded) (values c.args.map.now) turn.0 turn.1 in
    let each = c.loop-cluster.invariant.each c.in-Some.cluster.now in
    let had = c.requires c.in-Some.cluster.now in
    omega (arith, fits, each, had)
