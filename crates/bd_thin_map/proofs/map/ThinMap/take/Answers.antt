use Rattle.std.proofs.Common.{◌≡◌, ℕ, ◌+◌, ◌-◌, ◌<◌, List, length, slice_index, length-set, Option, Some, None, sym, ap, ◌∙◌, subst, arith}
use Rattle.std.proofs.lemmas.Result.{err_from_is_err_and}
use Rattle.std.specs.List.{position}
use Rattle.bd_thin_map.specs.Map.{IsCounted, MapRows, is_of, look, pairs_of}
use Rattle.bd_thin_map.specs.Pairs.{Pairs, cluster_at, one, one_if, users_in, with_cluster}
use Rattle.bd_thin_map.specs.declared.row.Row.{Row}
use Rattle.bd_thin_map.proofs.Counted.{had_users, seen, took, unseen}
use Rattle.bd_thin_map.proofs.Least.{used_there}
use Rattle.bd_thin_map.proofs.Rows.{put_back, read_pairs}
use Rattle.bd_thin_map.proofs.Taken.{users_are}
use Rattle.bd_thin_map.proofs.Totals.{lowered_at, raised_at}
use Rattle.bd_thin_map.proofs.map.ThinMap.take.Goals as goal

pub returns-in_default-clause-ok : goal.returns-in_default-clause-ok
returns-in_default-clause-ok c =
    let at : position (is_of c.args.dev) c.self.inside.rows.items ≡ None = ap (position (is_of c.args.dev)) (sym c.as_slice.ensures.value) ∙ sym c.place_of.ensures ∙ c.in_default.is in
    unseen c.self.inside.users c.self.inside.rows.items c.args.dev (with_cluster c.args.place c.args.to) c.args.self.now c.self.view_is at

pub returns-in_err-had-clause-absent : goal.returns-in_err-had-clause-absent
returns-in_err-had-clause-absent c =
    let rows : List Row = c.self.inside.rows.items in
    let at : position (is_of c.args.dev) rows ≡ Some c.in-Some.at = ap (position (is_of c.args.dev)) (sym c.as_slice.ensures.value) ∙ sym c.place_of.ensures ∙ c.in-Some.is in
    let pairs : c.index_mut-row.result.now.pairs ≡ pairs_of rows c.args.dev = read_pairs c.args.dev rows c.in-Some.at c.index_mut-row.result.now at c.index_mut-row.ensures.value in
    let p = err_from_is_err_and c.from_residual.result c.from_residual.ensures.1 in
    rw p.1 (sym (ap (λ (m : MapRows). look m c.args.dev c.args.place) c.self.view_is) ∙ ap (λ (es : Pairs). cluster_at es c.args.place) (sym pairs) ∙ c.in_err-had.ensures.absent)

-- the number of the cluster that is taken was 0, and is there
free_there : (users : List ℕ) (rows : List Row) (m : MapRows) (to : ℕ) → record { clusters = length users; rows = rows } ≡ m → to < m.clusters → to < length users
free_there users rows m to view there = let long : length users ≡ m.clusters = ap (λ (s : MapRows). s.clusters) view in omega (arith, long, there)

pub lower-requires : goal.lower-requires
lower-requires c =
    let users : List ℕ = c.self.inside.users in
    let rows : List Row = c.self.inside.rows.items in
    let at : position (is_of c.args.dev) rows ≡ Some c.in-Some.at = ap (position (is_of c.args.dev)) (sym c.as_slice.ensures.value) ∙ sym c.place_of.ensures ∙ c.in-Some.is in
    let pairs : c.index_mut-row.result.now.pairs ≡ pairs_of rows c.args.dev = read_pairs c.args.dev rows c.in-Some.at c.index_mut-row.result.now at c.index_mut-row.ensures.value in
    let had : cluster_at (pairs_of rows c.args.dev) c.args.place ≡ Some c.in-Some-had.from = ap (λ (es : Pairs). cluster_at es c.args.place) (sym pairs) ∙ sym c.in_ok-had.ensures.old ∙ c.in-Some-had.is in
    let some = had_users users rows c.args.dev c.args.place c.in-Some-had.from c.self.invariant had in
    let there = free_there users rows c.args.self.now c.args.to c.self.view_is c.requires.there in
    let now : slice_index c.raise.new.self c.in-Some-had.from ≡ slice_index users c.in-Some-had.from + one c.in-Some-had.from c.args.to = ap (λ (us : List ℕ). slice_index us c.in-Some-had.from) c.raise.ensures ∙ raised_at users c.args.to c.in-Some-had.from there in
    omega (arith, some, now)

pub invariant_of-self-in-Some-had : goal.invariant_of-self-in-Some-had
invariant_of-self-in-Some-had c =
    let users : List ℕ = c.self.inside.users in
    let raised : List ℕ = c.raise.new.self in
    let rows : List Row = c.self.inside.rows.items in
    let dev = c.args.dev in
    let place = c.args.place in
    let to = c.args.to in
    let from : ℕ = c.in-Some-had.from in
    let row : Row = c.index_mut-row.result.now in
    let at : position (is_of dev) rows ≡ Some c.in-Some.at = ap (position (is_of dev)) (sym c.as_slice.ensures.value) ∙ sym c.place_of.ensures ∙ c.in-Some.is in
    let pairs : row.pairs ≡ pairs_of rows dev = read_pairs dev rows c.in-Some.at row at c.index_mut-row.ensures.value in
    let there : to < length users = free_there users rows c.args.self.now to c.self.view_is c.requires.there in
    let free : slice_index users to ≡ 0 = users_are users rows c.args.self.now c.self.view_is c.self.invariant to ∙ c.requires.free in
    let new : c.put.new.self ≡ with_cluster place to (pairs_of rows dev) = c.in_ok-had.ensures.ok ∙ ap (with_cluster place to) pairs in
    let each : (q : ℕ) → users_in q (with_cluster place to (pairs_of rows dev)) + one_if q c.in_ok-had.had ≡ users_in q (pairs_of rows dev) + one q to = λ q.
    ap (λ (es : Pairs). users_in q es + one_if q c.in_ok-had.had) (sym new) ∙ c.in_ok-had.ensures.users q ∙ ap (λ (es : Pairs). users_in q es + one q to) pairs in
    let up : (q : ℕ) → slice_index raised q ≡ slice_index users q + one q to = λ q. ap (λ (us : List ℕ). slice_index us q) c.raise.ensures ∙ raised_at users to q there in
    let had : cluster_at (pairs_of rows dev) place ≡ Some from = ap (λ (es : Pairs). cluster_at es place) (sym pairs) ∙ sym c.in_ok-had.ensures.old ∙ c.in-Some-had.is in
    let some : 0 < slice_index raised from = (let was = had_users users rows dev place from c.self.invariant had in let u = up from in omega (arith, was, u)) in
    let down : (q : ℕ) → slice_index c.lower.new.self q + one q from ≡ slice_index raised q = λ q. ap (λ (us : List ℕ). slice_index us q + one q from) c.lower.ensures ∙ lowered_at raised from q some (used_there raised from some) in
    let now : (q : ℕ) → slice_index c.lower.new.self q + one_if q c.in_ok-had.had ≡ slice_index users q + one q to = λ q.
    ap (λ (o : Option ℕ). slice_index c.lower.new.self q + one_if q o) c.in-Some-had.is ∙ down q ∙ up q in
    let is = put_back dev (with_cluster place to) rows c.in-Some.at row c.put.new.self at c.index_mut-row.ensures.value c.in_ok-had.ensures.ok in
    subst (IsCounted c.lower.new.self) (sym is) (took users c.lower.new.self rows dev place to c.in_ok-had.had c.in-Some.at c.self.invariant at free each now)

pub invariant_of-self-in_default-had : goal.invariant_of-self-in_default-had
invariant_of-self-in_default-had c =
    let users : List ℕ = c.self.inside.users in
    let raised : List ℕ = c.raise.new.self in
    let rows : List Row = c.self.inside.rows.items in
    let dev = c.args.dev in
    let place = c.args.place in
    let to = c.args.to in
    let row : Row = c.index_mut-row.result.now in
    let at : position (is_of dev) rows ≡ Some c.in-Some.at = ap (position (is_of dev)) (sym c.as_slice.ensures.value) ∙ sym c.place_of.ensures ∙ c.in-Some.is in
    let pairs : row.pairs ≡ pairs_of rows dev = read_pairs dev rows c.in-Some.at row at c.index_mut-row.ensures.value in
    let there : to < length users = free_there users rows c.args.self.now to c.self.view_is c.requires.there in
    let free : slice_index users to ≡ 0 = users_are users rows c.args.self.now c.self.view_is c.self.invariant to ∙ c.requires.free in
    let new : c.put.new.self ≡ with_cluster place to (pairs_of rows dev) = c.in_ok-had.ensures.ok ∙ ap (with_cluster place to) pairs in
    let each : (q : ℕ) → users_in q (with_cluster place to (pairs_of rows dev)) + one_if q c.in_ok-had.had ≡ users_in q (pairs_of rows dev) + one q to = λ q.
    ap (λ (es : Pairs). users_in q es + one_if q c.in_ok-had.had) (sym new) ∙ c.in_ok-had.ensures.users q ∙ ap (λ (es : Pairs). users_in q es + one q to) pairs in
    let up : (q : ℕ) → slice_index raised q ≡ slice_index users q + one q to = λ q. ap (λ (us : List ℕ). slice_index us q) c.raise.ensures ∙ raised_at users to q there in
    let now : (q : ℕ) → slice_index raised q + one_if q c.in_ok-had.had ≡ slice_index users q + one q to = λ q.
    let none : one_if q c.in_ok-had.had ≡ 0 = ap (one_if q) c.in_default-had.is in let u = up q in omega (arith, none, u) in
    let is = put_back dev (with_cluster place to) rows c.in-Some.at row c.put.new.self at c.index_mut-row.ensures.value c.in_ok-had.ensures.ok in
    subst (IsCounted raised) (sym is) (took users raised rows dev place to c.in_ok-had.had c.in-Some.at c.self.invariant at free each now)

pub returns-in-Some-had-clause-ok : goal.returns-in-Some-had-clause-ok
returns-in-Some-had-clause-ok c =
    let users : List ℕ = c.self.inside.users in
    let rows : List Row = c.self.inside.rows.items in
    let at : position (is_of c.args.dev) rows ≡ Some c.in-Some.at = ap (position (is_of c.args.dev)) (sym c.as_slice.ensures.value) ∙ sym c.place_of.ensures ∙ c.in-Some.is in
    let is = put_back c.args.dev (with_cluster c.args.place c.args.to) rows c.in-Some.at c.index_mut-row.result.now c.put.new.self at c.index_mut-row.ensures.value c.in_ok-had.ensures.ok in
    let raised : length c.raise.new.self ≡ length users = ap length c.raise.ensures ∙ length-set users c.args.to (slice_index users c.args.to + 1) in
    let long : length c.lower.new.self ≡ length users = ap length c.lower.ensures ∙ length-set c.raise.new.self c.in-Some-had.from (slice_index c.raise.new.self c.in-Some-had.from - 1) ∙ raised in
    seen users c.lower.new.self rows _ c.args.dev (with_cluster c.args.place c.args.to) c.args.self.now c.self.view_is long is

pub returns-in_default-had-clause-ok : goal.returns-in_default-had-clause-ok
returns-in_default-had-clause-ok c =
    let users : List ℕ = c.self.inside.users in
    let rows : List Row = c.self.inside.rows.items in
    let at : position (is_of c.args.dev) rows ≡ Some c.in-Some.at = ap (position (is_of c.args.dev)) (sym c.as_slice.ensures.value) ∙ sym c.place_of.ensures ∙ c.in-Some.is in
    let is = put_back c.args.dev (with_cluster c.args.place c.args.to) rows c.in-Some.at c.index_mut-row.result.now c.put.new.self at c.index_mut-row.ensures.value c.in_ok-had.ensures.ok in
    let long : length c.raise.new.self ≡ length users = ap length c.raise.ensures ∙ length-set users c.args.to (slice_index users c.args.to + 1) in
    seen users c.raise.new.self rows _ c.args.dev (with_cluster c.args.place c.args.to) c.args.self.now c.self.view_is long is
