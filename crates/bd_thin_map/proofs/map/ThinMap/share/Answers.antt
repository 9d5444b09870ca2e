use Rattle.std.proofs.Common.{◌≡◌, ℕ, ◌+◌, ◌<◌, ◌≤◌, List, [], length, slice_index, Some, None, sym, ap, ◌∙◌, subst, arith}
use Rattle.std.specs.List.{position}
use Rattle.bd_thin_map.specs.Map.{IsCounted, MapRows, changed, is_of, pairs_of}
use Rattle.bd_thin_map.specs.Pairs.{Pairs, users_in}
use Rattle.bd_thin_map.specs.declared.row.Row.{Row}
use Rattle.bd_thin_map.proofs.Counted.{counted, counted_in, once_in, seen, shared_fits, there_in, unseen}
use Rattle.bd_thin_map.proofs.Rows.{lost_pairs, put_back, read_pairs}
use Rattle.bd_thin_map.proofs.map.ThinMap.share.Goals as goal

-- a device without a row has no pairs
pub returns-in_default-clause-ok : goal.returns-in_default-clause-ok
returns-in_default-clause-ok c =
    let rows : List Row = c.self.inside.rows.items in
    let m = c.args.self.now in
    let at : position (is_of c.args.from) rows ≡ None = ap (position (is_of c.args.from)) (sym c.as_slice.ensures.value) ∙ sym c.place_of.ensures ∙ c.in_default.is in
    let none : pairs_of m.rows c.args.from ≡ [] = sym (ap (λ (s : MapRows). pairs_of s.rows c.args.from) c.self.view_is) ∙ lost_pairs c.args.from rows at in
    c.drop_device.ensures ∙ ap (λ (es : Pairs). changed m c.args.to (λ _. es)) (sym none)

pub returns-in_default-place_of-clause-ok : goal.returns-in_default-place_of-clause-ok
returns-in_default-place_of-clause-ok c =
    let rows : List Row = c.self.inside.rows.items in
    let at : position (is_of c.args.to) rows ≡ None = ap (position (is_of c.args.to)) (sym c.as_slice-2.ensures.value) ∙ sym c.place_of-2.ensures ∙ c.in_default-place_of.is in
    unseen c.self.inside.users rows c.args.to (λ _. pairs_of c.args.self.now.rows c.args.from) c.args.self.now c.self.view_is at

pub leave-requires : goal.leave-requires
leave-requires c = λ q.
    let rows : List Row = c.self.inside.rows.items in
    let at : position (is_of c.args.to) rows ≡ Some c.in-Some-place_of.at = ap (position (is_of c.args.to)) (sym c.as_slice-2.ensures.value) ∙ sym c.place_of-2.ensures ∙ c.in-Some-place_of.is in
    let pairs : c.index_mut-row.result.now.pairs ≡ pairs_of rows c.args.to = read_pairs c.args.to rows c.in-Some-place_of.at c.index_mut-row.result.now at c.index_mut-row.ensures.value in
    subst (λ (es : Pairs). users_in q es ≤ slice_index c.self.inside.users q) (sym pairs) (counted_in c.self.inside.users rows c.args.to c.self.invariant q)

pub join-requires-clause-there : goal.join-requires-clause-there
join-requires-clause-there c = λ q h.
    let users : List ℕ = c.self.inside.users in
    let rows : List Row = c.self.inside.rows.items in
    let at : position (is_of c.args.from) rows ≡ Some c.in-Some.source = ap (position (is_of c.args.from)) (sym c.as_slice.ensures.value) ∙ sym c.place_of.ensures ∙ c.in-Some.is in
    let pairs : c.in_ok-pairs.pairs ≡ pairs_of rows c.args.from = c.in_ok-pairs.ensures ∙ read_pairs c.args.from rows c.in-Some.source c.index.result.now at c.index.ensures in
    let there = there_in users rows c.args.from c.self.invariant q (subst (λ (es : Pairs). 0 < users_in q es) pairs h) in
    let long : length c.leave.new.users ≡ length users = c.leave.ensures.as_many in
    omega (arith, there, long)

pub join-requires-clause-fits : goal.join-requires-clause-fits
join-requires-clause-fits c = λ q.
    let users : List ℕ = c.self.inside.users in
    let rows : List Row = c.self.inside.rows.items in
    let from_at : position (is_of c.args.from) rows ≡ Some c.in-Some.source = ap (position (is_of c.args.from)) (sym c.as_slice.ensures.value) ∙ sym c.place_of.ensures ∙ c.in-Some.is in
    let shared : c.in_ok-pairs.pairs ≡ pairs_of rows c.args.from = c.in_ok-pairs.ensures ∙ read_pairs c.args.from rows c.in-Some.source c.index.result.now from_at c.index.ensures in
    let at : position (is_of c.args.to) rows ≡ Some c.in-Some-place_of.at = ap (position (is_of c.args.to)) (sym c.as_slice-2.ensures.value) ∙ sym c.place_of-2.ensures ∙ c.in-Some-place_of.is in
    let pairs : c.index_mut-row.result.now.pairs ≡ pairs_of rows c.args.to = read_pairs c.args.to rows c.in-Some-place_of.at c.index_mut-row.result.now at c.index_mut-row.ensures.value in
    let left : slice_index c.leave.new.users q + users_in q (pairs_of rows c.args.to) ≡ slice_index users q = ap (λ (es : Pairs). slice_index c.leave.new.users q + users_in q es) (sym pairs) ∙ c.leave.ensures.each q in
    let few = shared_fits users rows c.args.from c.args.to c.in-Some-place_of.at c.self.invariant at q (slice_index c.leave.new.users q) left in
    let small : length rows < 9223372036854775808 = omega (arith, c.self.inside.rows.ok.0, c.self.inside.rows.ok.1, c.self.inside.rows.small) in
    subst (λ (es : Pairs). slice_index c.leave.new.users q + users_in q es < 18446744073709551616) (sym shared) (omega (arith, few, small))

pub invariant_of-self : goal.invariant_of-self
invariant_of-self c =
    let users : List ℕ = c.self.inside.users in
    let rows : List Row = c.self.inside.rows.items in
    let shares : Pairs → Pairs = λ _. pairs_of rows c.args.from in
    let from_at : position (is_of c.args.from) rows ≡ Some c.in-Some.source = ap (position (is_of c.args.from)) (sym c.as_slice.ensures.value) ∙ sym c.place_of.ensures ∙ c.in-Some.is in
    let shared : c.in_ok-pairs.pairs ≡ pairs_of rows c.args.from = c.in_ok-pairs.ensures ∙ read_pairs c.args.from rows c.in-Some.source c.index.result.now from_at c.index.ensures in
    let at : position (is_of c.args.to) rows ≡ Some c.in-Some-place_of.at = ap (position (is_of c.args.to)) (sym c.as_slice-2.ensures.value) ∙ sym c.place_of-2.ensures ∙ c.in-Some-place_of.is in
    let pairs : c.index_mut-row.result.now.pairs ≡ pairs_of rows c.args.to = read_pairs c.args.to rows c.in-Some-place_of.at c.index_mut-row.result.now at c.index_mut-row.ensures.value in
    let now : (q : ℕ) → slice_index c.join.new.users q + users_in q (pairs_of rows c.args.to) ≡ slice_index users q + users_in q (pairs_of rows c.args.from) = λ q.
    let left : slice_index c.leave.new.users q + users_in q (pairs_of rows c.args.to) ≡ slice_index users q = ap (λ (es : Pairs). slice_index c.leave.new.users q + users_in q es) (sym pairs) ∙ c.leave.ensures.each q in
    let more : slice_index c.join.new.users q ≡ slice_index c.leave.new.users q + users_in q (pairs_of rows c.args.from) = c.join.ensures.each q ∙ ap (λ (es : Pairs). slice_index c.leave.new.users q + users_in q es) shared in
    omega (arith, left, more) in
    let is = put_back c.args.to shares rows c.in-Some-place_of.at c.index_mut-row.result.now c.in_ok-pairs.pairs at c.index_mut-row.ensures.value shared in
    subst (IsCounted c.join.new.users) (sym is) (counted users c.join.new.users rows c.args.to shares c.in-Some-place_of.at c.self.invariant at now (once_in users rows c.args.from c.self.invariant))

pub returns-clause-ok : goal.returns-clause-ok
returns-clause-ok c =
    let users : List ℕ = c.self.inside.users in
    let rows : List Row = c.self.inside.rows.items in
    let m = c.args.self.now in
    let shares : Pairs → Pairs = λ _. pairs_of rows c.args.from in
    let from_at : position (is_of c.args.from) rows ≡ Some c.in-Some.source = ap (position (is_of c.args.from)) (sym c.as_slice.ensures.value) ∙ sym c.place_of.ensures ∙ c.in-Some.is in
    let shared : c.in_ok-pairs.pairs ≡ pairs_of rows c.args.from = c.in_ok-pairs.ensures ∙ read_pairs c.args.from rows c.in-Some.source c.index.result.now from_at c.index.ensures in
    let at : position (is_of c.args.to) rows ≡ Some c.in-Some-place_of.at = ap (position (is_of c.args.to)) (sym c.as_slice-2.ensures.value) ∙ sym c.place_of-2.ensures ∙ c.in-Some-place_of.is in
    let is = put_back c.args.to shares rows c.in-Some-place_of.at c.index_mut-row.result.now c.in_ok-pairs.pairs at c.index_mut-row.ensures.value shared in
    seen users c.join.new.users rows _ c.args.to shares m c.self.view_is (c.join.ensures.as_many ∙ c.leave.ensures.as_many) is
    ∙ ap (λ (es : Pairs). changed m c.args.to (λ _. es)) (ap (λ (s : MapRows). pairs_of s.rows c.args.from) c.self.view_is)
