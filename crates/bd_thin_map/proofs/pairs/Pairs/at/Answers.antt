use Rattle.std.proofs.Common.{◌≡◌, sym, ap, ◌∙◌}
use Rattle.bd_thin_map.specs.Pairs.{Pairs, cluster_at}
use Rattle.bd_thin_map.proofs.Order.{order_at}
use Rattle.bd_thin_map.proofs.pairs.Pairs.at.Goals as goal

pub returns : goal.returns
returns c =
    let found : c.copied.result ≡ cluster_at c.self.inside.map.entries c.args.place = c.copied.ensures ∙ c.get.ensures.value in
    found ∙ sym (order_at c.self.inside.map.entries c.self.invariant c.args.place) ∙ ap (λ (es : Pairs). cluster_at es c.args.place) c.self.view_is
