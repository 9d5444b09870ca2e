use Rattle.std.proofs.Common.{ℕ, ◌+◌, ◌≤◌, List, take, drop, replicate, ap, subst, sym, ◌∙◌}
use Rattle.std.specs.List.{concat}
use Rattle.bd_volume.specs.Clusters.{Placed, StandsAt, Stored, blocks_at, cluster_or}
use Rattle.bd_volume.proofs.Maps.{none_at}
use Rattle.bd_volume.proofs.Zeros.{range_same}
use Rattle.bd_volume.proofs.clusters.Clusters.read.Goals as goal

pub returns-in_ok-bytes-in-None : goal.returns-in_ok-bytes-in-None
returns-in_ok-bytes-in-None c =
    let at : ℕ = c.args.part.at in
    let n : ℕ = c.args.part.count in
    let cluster : ℕ = c.self.inside.cluster in
    let size : ℕ = c.self.inside.size in
    let place : ℕ = c.args.part.place in
    let es : List (ℕ × Stored) = c.self.inside.map.entries in
    let is : StandsAt es place c.find.result = subst (λ (s : Placed). StandsAt s.entries place c.find.result) (sym c.self.view_is) c.find.ensures in
    let z : List ℕ = replicate size 0 in
    let inside : at + n ≤ cluster = subst (λ (s : Placed). at + n ≤ s.cluster) (sym c.self.view_is) c.requires in
    c.in_ok-bytes-in-None.ensures
    ∙ ap concat (sym (range_same at n cluster z inside))
    ∙ ap (λ o. concat (take n (drop at (cluster_or cluster size o)))) (none_at es place c.find.result is c.in-None.ensures.entry)
    ∙ ap (λ (s : Placed). concat (take n (drop at (blocks_at s c.args.part.place)))) c.self.view_is
