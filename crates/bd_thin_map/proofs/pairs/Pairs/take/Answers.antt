use Rattle.std.proofs.Common.{◌≡◌, ℕ, cond, nat_eq, Option, None, sym, ap, ◌∙◌}
use Rattle.bd_thin_map.specs.Pairs.{Pairs, cluster_at, in_order, without_place}
use Rattle.bd_thin_map.proofs.Order.{order_at, order_rises, ordered, without_at, without_rises}
use Rattle.bd_thin_map.proofs.pairs.Pairs.take.Goals as goal

pub returns-clause-old : goal.returns-clause-old
returns-clause-old c =
    c.swap_remove.ensures.value ∙ sym (order_at c.self.inside.map.entries c.self.invariant c.args.place) ∙ ap (λ (es : Pairs). cluster_at es c.args.place) c.self.view_is

-- each place has what it had, but this one, which has none
pub returns-clause-rest : goal.returns-clause-rest
returns-clause-rest c =
    let old = c.self.inside.map.entries in
    let k = c.args.place in
    let same : (q : ℕ) → cluster_at c.swap_remove.new.self.entries q ≡ cluster_at (without_place k (in_order old)) q = λ q.
    c.swap_remove.ensures.updates.0 q ∙ ap (λ (o : Option ℕ). cond (nat_eq k q) None o) (sym (order_at old c.self.invariant q)) ∙ sym (without_at 0 k q (in_order old) (order_rises old)) in
    ordered c.swap_remove.new.self.entries (without_place k (in_order old)) c.swap_remove.ensures.unique (without_rises 0 k (in_order old) (order_rises old)) same
    ∙ ap (without_place k) c.self.view_is
