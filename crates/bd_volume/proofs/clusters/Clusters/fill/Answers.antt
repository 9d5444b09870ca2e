use Rattle.std.proofs.Common.{◌≡◌, ℕ, ◌+◌, ◌≤◌, List, ◌++◌, Option, None, Some, length, take, drop, ap, subst, sym, ◌∙◌, arith}
use Rattle.bd_pages.specs.Fills.{filled}
use Rattle.indexmap.specs.IndexMap.{set_value_at}
use Rattle.bd_volume.specs.Clusters.{Placed, StandsAt, Stored, blocks_at, cluster_or}
use Rattle.bd_volume.proofs.Maps.{found_at, put_again, put_apart, put_clusters, put_here}
use Rattle.bd_volume.proofs.clusters.Clusters.fill.Goals as goal

pub fill-requires-clause-inside : goal.fill-requires-clause-inside
fill-requires-clause-inside c =
    let es : List (ℕ × Stored) = c.self.inside.map.entries in
    let place : ℕ = c.args.part.place in
    let p : Stored = c.in-Some.cluster.now in
    let is : StandsAt es place c.find-index.result = subst (λ (s : Placed). StandsAt s.entries place c.find-index.result) (sym c.self.view_is) c.find-index.ensures in
    let inside : c.args.part.at + c.args.part.count ≤ c.self.inside.cluster = subst (λ (s : Placed). c.args.part.at + c.args.part.count ≤ s.cluster) (sym c.self.view_is) c.requires.inside in
    let long : length p.blocks ≡ c.self.inside.cluster = c.self.invariant.long place p (sym (found_at es place c.find-index.result is (Some p) c.in-Some.ensures.value)) in
    omega (arith, inside, long)

pub invariant_of-self : goal.invariant_of-self
invariant_of-self c =
    let place : ℕ = c.args.part.place in
    let i : ℕ = c.find-index.result in
    let is : StandsAt c.self.inside.map.entries place i = subst (λ (s : Placed). StandsAt s.entries place i) (sym c.self.view_is) c.find-index.ensures in
    put_clusters c.self.inside.map c.in-Some.ensures.unique place i is c.in-Some.cluster.now c.in-Some.ensures.value c.fill.new.self
    c.self.inside.cluster c.self.inside.size c.self.invariant c.in-Err.ensures.long c.in-Err.ensures.size

pub invariant_of-self-in-Some : goal.invariant_of-self-in-Some
invariant_of-self-in-Some c =
    let place : ℕ = c.args.part.place in
    let i : ℕ = c.find-index.result in
    let is : StandsAt c.self.inside.map.entries place i = subst (λ (s : Placed). StandsAt s.entries place i) (sym c.self.view_is) c.find-index.ensures in
    put_clusters c.self.inside.map c.in-Some.ensures.unique place i is c.in-Some.cluster.now c.in-Some.ensures.value c.fill.new.self
    c.self.inside.cluster c.self.inside.size c.self.invariant c.in_default-fill.ensures.long c.in_default-fill.ensures.size

pub returns-in-Err-clause-apart : goal.returns-in-Err-clause-apart
returns-in-Err-clause-apart c =
    let place : ℕ = c.args.part.place in
    let i : ℕ = c.find-index.result in
    let is : StandsAt c.self.inside.map.entries place i = subst (λ (s : Placed). StandsAt s.entries place i) (sym c.self.view_is) c.find-index.ensures in
    λ q other.
    ap (λ (o : Option Stored). cluster_or c.self.inside.cluster c.self.inside.size o)
    (put_apart c.self.inside.map c.in-Some.ensures.unique place i is c.in-Some.cluster.now c.in-Some.ensures.value c.fill.new.self q other)
    ∙ ap (λ (s : Placed). blocks_at s q) c.self.view_is

pub returns-in-Some-clause-apart : goal.returns-in-Some-clause-apart
returns-in-Some-clause-apart c =
    let place : ℕ = c.args.part.place in
    let i : ℕ = c.find-index.result in
    let is : StandsAt c.self.inside.map.entries place i = subst (λ (s : Placed). StandsAt s.entries place i) (sym c.self.view_is) c.find-index.ensures in
    λ q other.
    ap (λ (o : Option Stored). cluster_or c.self.inside.cluster c.self.inside.size o)
    (put_apart c.self.inside.map c.in-Some.ensures.unique place i is c.in-Some.cluster.now c.in-Some.ensures.value c.fill.new.self q other)
    ∙ ap (λ (s : Placed). blocks_at s q) c.self.view_is

pub returns-in-Err-clause-err : goal.returns-in-Err-clause-err
returns-in-Err-clause-err c =
    let es : List (ℕ × Stored) = c.self.inside.map.entries in
    ap (λ (xs : List (ℕ × Stored)). let s : Placed = record { cluster = c.self.inside.cluster; size = c.self.inside.size; entries = xs } in s)
    (ap (λ (w : Stored). set_value_at es c.find-index.result w) c.in-Err.ensures.err
    ∙ put_again es c.find-index.result c.in-Some.cluster.now c.in-Some.ensures.value)
    ∙ c.self.view_is

pub returns-in-Some-clause-here : goal.returns-in-Some-clause-here
returns-in-Some-clause-here c =
    let place : ℕ = c.args.part.place in
    let at : ℕ = c.args.part.at in
    let n : ℕ = c.args.part.count in
    let i : ℕ = c.find-index.result in
    let es : List (ℕ × Stored) = c.self.inside.map.entries in
    let p : Stored = c.in-Some.cluster.now in
    let or : Option Stored → List (List ℕ) = λ o. cluster_or c.self.inside.cluster c.self.inside.size o in
    let is : StandsAt es place i = subst (λ (s : Placed). StandsAt s.entries place i) (sym c.self.view_is) c.find-index.ensures in
    let was : p.blocks ≡ blocks_at c.args.self.now place = ap or (found_at es place i is (Some p) c.in-Some.ensures.value) ∙ ap (λ (s : Placed). blocks_at s place) c.self.view_is in
    ap or (put_here c.self.inside.map c.in-Some.ensures.unique place i is p c.in-Some.ensures.value c.fill.new.self)
    ∙ c.in_default-fill.ensures.ok
    ∙ ap (λ (bs : List (List ℕ)). take at bs ++ filled c.args.fill c.args.number (take n (drop at bs)) ++ drop (at + n) bs) was

pub returns-clause-here : goal.returns-clause-here
returns-clause-here c =
    let place : ℕ = c.args.part.place in
    let at : ℕ = c.args.part.at in
    let n : ℕ = c.args.part.count in
    let i : ℕ = c.find-index.result in
    let es : List (ℕ × Stored) = c.self.inside.map.entries in
    let or : Option Stored → List (List ℕ) = λ o. cluster_or c.self.inside.cluster c.self.inside.size o in
    let is : StandsAt es place i = subst (λ (s : Placed). StandsAt s.entries place i) (sym c.self.view_is) c.find-index.ensures in
    let was : c.in_ok-cluster.cluster.blocks ≡ blocks_at c.args.self.now place =
    c.in_ok-cluster.ensures.blocks ∙ ap or (found_at es place i is None c.in_default.ensures.value) ∙ ap (λ (s : Placed). blocks_at s place) c.self.view_is in
    c.in_ok-put.ensures.here
    ∙ c.in_ok-fill.ensures.ok
    ∙ ap (λ (bs : List (List ℕ)). take at bs ++ filled c.args.fill c.args.number (take n (drop at bs)) ++ drop (at + n) bs) was
