use Rattle.std.proofs.Common.{◌≡◌, ℕ, ◌+◌, ◌<◌, List, length, count_by, nat_eq, slice_index, take, ◌++◌, ◌∷◌, [], length-set, ap, ◌∙◌, arith}
use Rattle.std.proofs.lemmas.Iterator.Consumers.{YieldsList-from_rest, YieldsList-turn}
use Rattle.std.proofs.lemmas.List.{length_push}
use Rattle.indexmap.specs.IndexMap.{values}
use Rattle.bd_thin_map.specs.Pairs.{one}
use Rattle.bd_thin_map.proofs.Totals.{count_fits, count_more, raised_at}
use Rattle.bd_thin_map.proofs.pairs.raise_each.Goals as goal

pub raise-requires-clause-there : goal.raise-requires-clause-there
raise-requires-clause-there c =
    let turn = YieldsList-turn (YieldsList-from_rest (values c.args.map.now) (c.into_iter-cluster-iterator.ensures.into_iter_gives ∙ c.values-cluster-items.ensures.rest)) c.loop-cluster.yielded _ c.loop-cluster.yielded_by _ _ c.in-Some.cluster c.in-Some.is c.next.ensures.steps in
    let fits = count_fits c.in-Some.cluster.now (length c.loop-cluster.yielded) (values c.args.map.now) turn.0 turn.1 in
    let there = c.requires.there c.in-Some.cluster.now (omega (arith, fits)) in
    omega (arith, there, c.loop-cluster.invariant.as_many)

pub raise-requires-clause-fits : goal.raise-requires-clause-fits
raise-requires-clause-fits c =
    let turn = YieldsList-turn (YieldsList-from_rest (values c.args.map.now) (c.into_iter-cluster-iterator.ensures.into_iter_gives ∙ c.values-cluster-items.ensures.rest)) c.loop-cluster.yielded _ c.loop-cluster.yielded_by _ _ c.in-Some.cluster c.in-Some.is c.next.ensures.steps in
    let fits = count_fits c.in-Some.cluster.now (length c.loop-cluster.yielded) (values c.args.map.now) turn.0 turn.1 in
    let each = c.loop-cluster.invariant.each c.in-Some.cluster.now in
    let few = c.requires.fits c.in-Some.cluster.now in
    omega (arith, fits, each, few)

pub loop-cluster-preserved : goal.loop-cluster-preserved
loop-cluster-preserved c =
    let vs : List ℕ = values c.args.map.now in
    let v : ℕ = c.in-Some.cluster.now in
    let n : ℕ = length c.loop-cluster.yielded in
    let users : List ℕ = c.loop-cluster.users in
    let turn = YieldsList-turn (YieldsList-from_rest (values c.args.map.now) (c.into_iter-cluster-iterator.ensures.into_iter_gives ∙ c.values-cluster-items.ensures.rest)) c.loop-cluster.yielded _ c.loop-cluster.yielded_by _ _ c.in-Some.cluster c.in-Some.is c.next.ensures.steps in
    let fits = count_fits v n vs turn.0 turn.1 in
    let there = c.requires.there v (omega (arith, fits)) in
    let here : v < length users = omega (arith, there, c.loop-cluster.invariant.as_many) in
    record {
      each = λ k.
          let now : slice_index c.raise.new.self k ≡ slice_index users k + one k v = ap (λ (us : List ℕ). slice_index us k) c.raise.ensures ∙ raised_at users v k here in
          let before = c.loop-cluster.invariant.each k in
          let more = count_more k v n vs turn.0 turn.1 in
          let last : count_by (nat_eq k) (take (length (c.loop-cluster.yielded ++ c.in-Some.cluster ∷ [])) vs) ≡ count_by (nat_eq k) (take (n + 1) vs) = ap (λ (m : ℕ). count_by (nat_eq k) (take m vs)) (length_push c.loop-cluster.yielded c.in-Some.cluster) in
          omega (arith, now, before, more, last);
      as_many = ap length c.raise.ensures ∙ length-set users v (slice_index users v + 1) ∙ c.loop-cluster.invariant.as_many;
    }
