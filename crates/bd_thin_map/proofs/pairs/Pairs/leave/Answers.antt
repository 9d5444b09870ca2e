use Rattle.std.proofs.Common.{◌≡◌, ℕ, ◌+◌, ◌≤◌, count_by, nat_eq, slice_index, subst, sym, ap, ◌∙◌}
use Rattle.indexmap.specs.IndexMap.{values}
use Rattle.bd_thin_map.specs.Pairs.{users_in}
use Rattle.bd_thin_map.proofs.Totals.{order_users}
use Rattle.bd_thin_map.proofs.pairs.Pairs.leave.Goals as goal

pub lower_each-requires : goal.lower_each-requires
lower_each-requires c = λ k.
    let same : count_by (nat_eq k) (values c.self.inside.map) ≡ users_in k c.args.self.now = sym (order_users k c.self.inside.map.entries c.self.invariant) ∙ ap (users_in k) c.self.view_is in
    subst (λ (n : ℕ). n ≤ slice_index c.args.users.now k) (sym same) (c.requires k)

pub returns-clause-each : goal.returns-clause-each
returns-clause-each c = λ k.
    let same : count_by (nat_eq k) (values c.self.inside.map) ≡ users_in k c.args.self.now = sym (order_users k c.self.inside.map.entries c.self.invariant) ∙ ap (users_in k) c.self.view_is in
    ap (λ (n : ℕ). slice_index c.lower_each.new.users k + n) (sym same) ∙ c.lower_each.ensures.each k
