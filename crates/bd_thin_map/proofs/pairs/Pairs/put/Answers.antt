use Rattle.std.proofs.Common.{◌≡◌, ℕ, ◌+◌, cond, nat_eq, Option, Some, sym, ap, ◌∙◌, arith}
use Rattle.std.proofs.lemmas.Result.{err_from_is_err_and}
use Rattle.bd_thin_map.specs.Pairs.{Pairs, cluster_at, in_order, one, one_if, users_in, with_cluster}
use Rattle.bd_thin_map.proofs.Order.{order_at, order_rises, ordered, with_at, with_rises}
use Rattle.bd_thin_map.proofs.Totals.{with_users}
use Rattle.bd_thin_map.proofs.pairs.Pairs.put.Goals as goal

pub returns-in_err-insert-clause-absent : goal.returns-in_err-insert-clause-absent
returns-in_err-insert-clause-absent c =
    let p = err_from_is_err_and c.from_residual.result c.from_residual.ensures.1 in
    rw p.1 (sym (ap (λ (es : Pairs). cluster_at es c.args.place) c.self.view_is)
    ∙ order_at c.self.inside.map.entries c.self.invariant c.args.place ∙ c.in_err-insert.ensures.absent)

pub returns-clause-old : goal.returns-clause-old
returns-clause-old c =
    c.in_ok-insert.ensures.old ∙ sym (order_at c.self.inside.map.entries c.self.invariant c.args.place) ∙ ap (λ (es : Pairs). cluster_at es c.args.place) c.self.view_is

-- each place has what it had, but this one, which has the cluster
put_is : (c : goal.In_ok-insert) → in_order c.insert.new.self.entries ≡ with_cluster c.args.place c.args.cluster (in_order c.self.inside.map.entries)
put_is c =
    let old = c.self.inside.map.entries in
    let k = c.args.place in
    let v = c.args.cluster in
    let same : (q : ℕ) → cluster_at c.insert.new.self.entries q ≡ cluster_at (with_cluster k v (in_order old)) q = λ q.
    c.in_ok-insert.ensures.updates.0 q ∙ ap (λ (o : Option ℕ). cond (nat_eq k q) (Some v) o) (sym (order_at old c.self.invariant q)) ∙ sym (with_at k v q (in_order old)) in
    ordered c.insert.new.self.entries (with_cluster k v (in_order old)) c.in_ok-insert.ensures.unique (with_rises 0 k v (omega arith) (in_order old) (order_rises old)) same

pub returns-clause-ok : goal.returns-clause-ok
returns-clause-ok c = put_is c ∙ ap (with_cluster c.args.place c.args.cluster) c.self.view_is

-- one place more has the cluster, and one less that which it had
pub returns-clause-users : goal.returns-clause-users
returns-clause-users c = λ q.
    let old = c.self.inside.map.entries in
    let k = c.args.place in
    let v = c.args.cluster in
    let new : in_order c.insert.new.self.entries ≡ with_cluster k v (in_order old) = put_is c in
    let all = with_users q k v 0 (in_order old) (order_rises old) in
    let had : cluster_at (in_order old) k ≡ c.in_ok-insert.field-0 = order_at old c.self.invariant k ∙ sym c.in_ok-insert.ensures.old in
    ap (λ (es : Pairs). users_in q es + one_if q c.in_ok-insert.field-0) new
    ∙ ap (λ (o : Option ℕ). users_in q (with_cluster k v (in_order old)) + one_if q o) (sym had)
    ∙ all ∙ ap (λ (es : Pairs). users_in q es + one q v) c.self.view_is
