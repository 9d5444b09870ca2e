use Rattle.std.proofs.Common.{◌≡◌, ℕ, ◌+◌, ◌-◌, ◌<◌, List, length, slice_index, length-set, Option, Some, None, refl, sym, ap, ◌∙◌, subst, arith}
use Rattle.std.specs.List.{position}
use Rattle.bd_thin_map.specs.Map.{IsCounted, is_of, pairs_of}
use Rattle.bd_thin_map.specs.Pairs.{Pairs, cluster_at, one, one_if, users_in, without_place}
use Rattle.bd_thin_map.specs.declared.row.Row.{Row}
use Rattle.bd_thin_map.proofs.Counted.{counted, had_users, once_in, seen, unseen}
use Rattle.bd_thin_map.proofs.Least.{used_there}
use Rattle.bd_thin_map.proofs.Rows.{put_back, read_pairs}
use Rattle.bd_thin_map.proofs.Totals.{lowered_at, without_users}
use Rattle.bd_thin_map.proofs.map.ThinMap.drop_place.Goals as goal

pub returns-in_default : goal.returns-in_default
returns-in_default c =
    let at : position (is_of c.args.dev) c.self.inside.rows.items ≡ None = ap (position (is_of c.args.dev)) (sym c.as_slice.ensures.value) ∙ sym c.place_of.ensures ∙ c.in_default.is in
    unseen c.self.inside.users c.self.inside.rows.items c.args.dev (without_place c.args.place) c.args.self.now c.self.view_is at

pub lower-requires : goal.lower-requires
lower-requires c =
    let rows : List Row = c.self.inside.rows.items in
    let at : position (is_of c.args.dev) rows ≡ Some c.in-Some.at = ap (position (is_of c.args.dev)) (sym c.as_slice.ensures.value) ∙ sym c.place_of.ensures ∙ c.in-Some.is in
    let pairs : c.index_mut-row.result.now.pairs ≡ pairs_of rows c.args.dev = read_pairs c.args.dev rows c.in-Some.at c.index_mut-row.result.now at c.index_mut-row.ensures.value in
    let had : cluster_at (pairs_of rows c.args.dev) c.args.place ≡ Some c.in-Some-take.cluster = ap (λ (es : Pairs). cluster_at es c.args.place) (sym pairs) ∙ sym c.take.ensures.old ∙ c.in-Some-take.is in
    had_users c.self.inside.users rows c.args.dev c.args.place c.in-Some-take.cluster c.self.invariant had

pub invariant_of-self : goal.invariant_of-self
invariant_of-self c =
    let users : List ℕ = c.self.inside.users in
    let rows : List Row = c.self.inside.rows.items in
    let dev = c.args.dev in
    let place = c.args.place in
    let v : ℕ = c.in-Some-take.cluster in
    let at : position (is_of dev) rows ≡ Some c.in-Some.at = ap (position (is_of dev)) (sym c.as_slice.ensures.value) ∙ sym c.place_of.ensures ∙ c.in-Some.is in
    let pairs : c.index_mut-row.result.now.pairs ≡ pairs_of rows dev = read_pairs dev rows c.in-Some.at c.index_mut-row.result.now at c.index_mut-row.ensures.value in
    let had : cluster_at (pairs_of rows dev) place ≡ Some v = ap (λ (es : Pairs). cluster_at es place) (sym pairs) ∙ sym c.take.ensures.old ∙ c.in-Some-take.is in
    let some : 0 < slice_index users v = had_users users rows dev place v c.self.invariant had in
    let left : (q : ℕ) → users_in q (without_place place (pairs_of rows dev)) + one q v ≡ users_in q (pairs_of rows dev) = λ q.
    sym (ap (λ (o : Option ℕ). users_in q (without_place place (pairs_of rows dev)) + one_if q o) had) ∙ without_users q place (pairs_of rows dev) in
    let now : (q : ℕ) → slice_index c.lower.new.self q + one q v ≡ slice_index users q = λ q.
    ap (λ (us : List ℕ). slice_index us q + one q v) c.lower.ensures ∙ lowered_at users v q some (used_there users v some) in
    let is = put_back dev (without_place place) rows c.in-Some.at c.index_mut-row.result.now c.take.new.self at c.index_mut-row.ensures.value c.take.ensures.rest in
    subst (IsCounted c.lower.new.self) (sym is) (counted users c.lower.new.self rows dev (without_place place) c.in-Some.at c.self.invariant at
    (λ q. let a = left q in let b = now q in omega (arith, a, b)) (λ q. let a = left q in let few = once_in users rows dev c.self.invariant q in omega (arith, a, few)))

pub invariant_of-self-in_default-take : goal.invariant_of-self-in_default-take
invariant_of-self-in_default-take c =
    let users : List ℕ = c.self.inside.users in
    let rows : List Row = c.self.inside.rows.items in
    let dev = c.args.dev in
    let place = c.args.place in
    let at : position (is_of dev) rows ≡ Some c.in-Some.at = ap (position (is_of dev)) (sym c.as_slice.ensures.value) ∙ sym c.place_of.ensures ∙ c.in-Some.is in
    let pairs : c.index_mut-row.result.now.pairs ≡ pairs_of rows dev = read_pairs dev rows c.in-Some.at c.index_mut-row.result.now at c.index_mut-row.ensures.value in
    let none : cluster_at (pairs_of rows dev) place ≡ None = ap (λ (es : Pairs). cluster_at es place) (sym pairs) ∙ sym c.take.ensures.old ∙ c.in_default-take.is in
    let left : (q : ℕ) → users_in q (without_place place (pairs_of rows dev)) ≡ users_in q (pairs_of rows dev) = λ q.
    let all = without_users q place (pairs_of rows dev) in let zero : one_if q (cluster_at (pairs_of rows dev) place) ≡ 0 = ap (one_if q) none in omega (arith, all, zero) in
    let is = put_back dev (without_place place) rows c.in-Some.at c.index_mut-row.result.now c.take.new.self at c.index_mut-row.ensures.value c.take.ensures.rest in
    subst (IsCounted users) (sym is) (counted users users rows dev (without_place place) c.in-Some.at c.self.invariant at
    (λ q. let same = left q in omega (arith, same)) (λ q. let same = left q in let few = once_in users rows dev c.self.invariant q in omega (arith, same, few)))

pub returns-in-Some-take : goal.returns-in-Some-take
returns-in-Some-take c =
    let users : List ℕ = c.self.inside.users in
    let rows : List Row = c.self.inside.rows.items in
    let at : position (is_of c.args.dev) rows ≡ Some c.in-Some.at = ap (position (is_of c.args.dev)) (sym c.as_slice.ensures.value) ∙ sym c.place_of.ensures ∙ c.in-Some.is in
    let is = put_back c.args.dev (without_place c.args.place) rows c.in-Some.at c.index_mut-row.result.now c.take.new.self at c.index_mut-row.ensures.value c.take.ensures.rest in
    let long : length c.lower.new.self ≡ length users = ap length c.lower.ensures ∙ length-set users c.in-Some-take.cluster (slice_index users c.in-Some-take.cluster - 1) in
    seen users c.lower.new.self rows _ c.args.dev (without_place c.args.place) c.args.self.now c.self.view_is long is

pub returns-in_default-take : goal.returns-in_default-take
returns-in_default-take c =
    let users : List ℕ = c.self.inside.users in
    let rows : List Row = c.self.inside.rows.items in
    let at : position (is_of c.args.dev) rows ≡ Some c.in-Some.at = ap (position (is_of c.args.dev)) (sym c.as_slice.ensures.value) ∙ sym c.place_of.ensures ∙ c.in-Some.is in
    let is = put_back c.args.dev (without_place c.args.place) rows c.in-Some.at c.index_mut-row.result.now c.take.new.self at c.index_mut-row.ensures.value c.take.ensures.rest in
    seen users users rows _ c.args.dev (without_place c.args.place) c.args.self.now c.self.view_is refl is
