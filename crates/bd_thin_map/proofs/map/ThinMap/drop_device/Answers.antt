use Rattle.std.proofs.Common.{◌≡◌, ℕ, ◌+◌, List, [], slice_index, Some, None, sym, ap, ◌∙◌, subst, arith}
use Rattle.std.specs.List.{position}
use Rattle.bd_thin_map.specs.Map.{IsCounted, is_of, pairs_of}
use Rattle.bd_thin_map.specs.Pairs.{Pairs, users_in}
use Rattle.bd_thin_map.specs.declared.row.Row.{Row}
use Rattle.bd_thin_map.proofs.Counted.{counted, seen, unseen}
use Rattle.bd_thin_map.proofs.Rows.{put_back, read_pairs}
use Rattle.bd_thin_map.proofs.map.ThinMap.drop_device.Goals as goal

pub returns-in_default : goal.returns-in_default
returns-in_default c =
    let at : position (is_of c.args.dev) c.self.inside.rows.items ≡ None = ap (position (is_of c.args.dev)) (sym c.as_slice.ensures.value) ∙ sym c.place_of.ensures ∙ c.in_default.is in
    unseen c.self.inside.users c.self.inside.rows.items c.args.dev (λ _. []) c.args.self.now c.self.view_is at

pub invariant_of-self : goal.invariant_of-self
invariant_of-self c =
    let users : List ℕ = c.self.inside.users in
    let rows : List Row = c.self.inside.rows.items in
    let dev = c.args.dev in
    let none : Pairs → Pairs = λ _. [] in
    let at : position (is_of dev) rows ≡ Some c.in-Some.at = ap (position (is_of dev)) (sym c.as_slice.ensures.value) ∙ sym c.place_of.ensures ∙ c.in-Some.is in
    let pairs : c.index_mut-row.result.now.pairs ≡ pairs_of rows dev = read_pairs dev rows c.in-Some.at c.index_mut-row.result.now at c.index_mut-row.ensures.value in
    let now : (q : ℕ) → slice_index c.leave.new.users q + users_in q (pairs_of rows dev) ≡ slice_index users q = λ q.
    ap (λ (es : Pairs). slice_index c.leave.new.users q + users_in q es) (sym pairs) ∙ c.leave.ensures.each q in
    let is = put_back dev none rows c.in-Some.at c.index_mut-row.result.now c.clear.new.self at c.index_mut-row.ensures.value c.clear.ensures in
    subst (IsCounted c.leave.new.users) (sym is) (counted users c.leave.new.users rows dev none c.in-Some.at c.self.invariant at (λ q. let e = now q in omega (arith, e)) (λ q. omega arith))

pub returns : goal.returns
returns c =
    let users : List ℕ = c.self.inside.users in
    let rows : List Row = c.self.inside.rows.items in
    let none : Pairs → Pairs = λ _. [] in
    let at : position (is_of c.args.dev) rows ≡ Some c.in-Some.at = ap (position (is_of c.args.dev)) (sym c.as_slice.ensures.value) ∙ sym c.place_of.ensures ∙ c.in-Some.is in
    let is = put_back c.args.dev none rows c.in-Some.at c.index_mut-row.result.now c.clear.new.self at c.index_mut-row.ensures.value c.clear.ensures in
    seen users c.leave.new.users rows _ c.args.dev none c.args.self.now c.self.view_is c.leave.ensures.as_many is
