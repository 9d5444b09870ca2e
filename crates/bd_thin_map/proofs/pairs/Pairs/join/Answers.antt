use Rattle.std.proofs.Common.{◌≡◌, ℕ, ◌+◌, ◌<◌, count_by, nat_eq, slice_index, subst, sym, ap, ◌∙◌}
use Rattle.indexmap.specs.IndexMap.{values}
use Rattle.bd_thin_map.specs.Pairs.{users_in}
use Rattle.bd_thin_map.proofs.Totals.{order_users}
use Rattle.bd_thin_map.proofs.pairs.Pairs.join.Goals as goal

pub raise_each-requires-clause-there : goal.raise_each-requires-clause-there
raise_each-requires-clause-there c = λ k h.
    let same : count_by (nat_eq k) (values c.self.inside.map) ≡ users_in k c.args.self.now = sym (order_users k c.self.inside.map.entries c.self.invariant) ∙ ap (users_in k) c.self.view_is in
    c.requires.there k (subst (λ (n : ℕ). 0 < n) same h)

pub raise_each-requires-clause-fits : goal.raise_each-requires-clause-fits
raise_each-requires-clause-fits c = λ k.
    let same : count_by (nat_eq k) (values c.self.inside.map) ≡ users_in k c.args.self.now = sym (order_users k c.self.inside.map.entries c.self.invariant) ∙ ap (users_in k) c.self.view_is in
    subst (λ (n : ℕ). slice_index c.args.users.now k + n < 18446744073709551616) (sym same) (c.requires.fits k)

pub returns-clause-each : goal.returns-clause-each
returns-clause-each c = λ k.
    let same : count_by (nat_eq k) (values c.self.inside.map) ≡ users_in k c.args.self.now = sym (order_users k c.self.inside.map.entries c.self.invariant) ∙ ap (users_in k) c.self.view_is in
    c.raise_each.ensures.each k ∙ ap (λ (n : ℕ). slice_index c.args.users.now k + n) same
