use Rattle.std.proofs.Common.{◌≡◌, nat_eq, None, sym, ◌∙◌, ap}
use Rattle.std.specs.HashMap.{get}
use Rattle.bd_range.specs.Near.{cluster_of, is_other, near_at}
use Rattle.bd_range.proofs.Noted.{none_lost}
use Rattle.bd_range.proofs.near.forget_in.Goals as goal

-- a cluster with no notes
pub returns-in_default : goal.returns-in_default
returns-in_default c =
    let cluster = cluster_of c.args.key.0 in
    let none : get nat_eq c.args.near.now cluster ≡ None = ap (get nat_eq c.args.near.now) (sym c.cluster_of.ensures) ∙ sym c.in_default.ensures.value in
    λ k. ap (λ near. near_at near k) c.get_mut.follows.holds-at-none ∙ none_lost c.args.near.now (is_other c.args.key) cluster k none
