use Rattle.std.proofs.Common.{◌≡◌, ℕ, length, replicate, ap, subst, sym, ◌∙◌}
use Rattle.std.specs.Prelude.{Option, All}
use Rattle.bd_pages.specs.Pages.{zeroed}
use Rattle.bd_volume.specs.Clusters.{Placed, Stored, blocks_at, cluster_or}
use Rattle.bd_volume.proofs.Zeros.{even_zeroed, zeroed_zeros}
use Rattle.bd_volume.proofs.clusters.Clusters.discard.Goals as goal
use Rattle.bd_volume.proofs.clusters.Clusters.discard.Goals.{in-Some-1, in-None-1}

pub returns-in-Some-clause-here : goal.returns-in-Some-clause-here
returns-in-Some-clause-here c =
    let place : ℕ = c.args.place in
    let cluster : ℕ = c.self.inside.cluster in
    let size : ℕ = c.self.inside.size in
    let p : Stored = c.in-Some.cluster.now in
    let there = sym c.in-Some.ensures.value in
    let new : Placed = record { cluster = cluster; size = size; entries = c.swap_remove.new.self.entries } in
    let is : c.match-swap_remove.self ≡ new = elim c.match-swap_remove.branch [
      | in-Some-1 w ↦ w.self-is
      | in-None-1 w ↦ w.self-is
    ] in
    let even : All (λ b. length b ≡ size) p.blocks = λ k d lt. c.size-size.ensures.each k d lt ∙ c.size-size.ensures.value ∙ c.self.invariant.sized place p there in
    ap (λ (s : Placed). blocks_at s place) is
    ∙ ap (λ (o : Option Stored). cluster_or cluster size o) c.swap_remove.ensures.updates.1
    ∙ ap (λ (n : ℕ). replicate n (replicate size 0)) (sym (c.self.invariant.long place p there))
    ∙ even_zeroed size p.blocks even
    ∙ ap (λ (o : Option Stored). zeroed (cluster_or cluster size o)) (sym there)
    ∙ ap (λ (s : Placed). zeroed (blocks_at s place)) c.self.view_is

pub returns-in-None-clause-here : goal.returns-in-None-clause-here
returns-in-None-clause-here c =
    let place : ℕ = c.args.place in
    let cluster : ℕ = c.self.inside.cluster in
    let size : ℕ = c.self.inside.size in
    subst (λ (s : Placed). blocks_at s place ≡ zeroed (blocks_at s place)) c.self.view_is
    (subst (λ (o : Option Stored). cluster_or cluster size o ≡ zeroed (cluster_or cluster size o)) c.in-None.ensures.value (sym (zeroed_zeros cluster size)))
