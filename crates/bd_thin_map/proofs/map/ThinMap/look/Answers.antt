use Rattle.std.proofs.Common.{◌≡◌, [], Some, None, sym, ap, ◌∙◌}
use Rattle.std.specs.List.{position}
use Rattle.bd_thin_map.specs.Map.{MapRows, is_of, look, pairs_of}
use Rattle.bd_thin_map.specs.Pairs.{Pairs, cluster_at}
use Rattle.bd_thin_map.proofs.Rows.{lost_pairs, read_pairs}
use Rattle.bd_thin_map.proofs.map.ThinMap.look.Goals as goal

pub returns-in_err-at : goal.returns-in_err-at
returns-in_err-at c =
    let at : position (is_of c.args.dev) c.self.inside.rows.items ≡ None = ap (position (is_of c.args.dev)) (sym c.as_slice.ensures.value) ∙ sym c.place_of.ensures ∙ c.in_err-at.was in
    let none : pairs_of c.self.inside.rows.items c.args.dev ≡ [] = lost_pairs c.args.dev c.self.inside.rows.items at in
    c.from_residual.ensures ∙ sym (ap (λ (es : Pairs). cluster_at es c.args.place) none) ∙ ap (λ (m : MapRows). look m c.args.dev c.args.place) c.self.view_is

pub returns : goal.returns
returns c =
    let at : position (is_of c.args.dev) c.self.inside.rows.items ≡ Some c.in_ok-at.at = ap (position (is_of c.args.dev)) (sym c.as_slice.ensures.value) ∙ sym c.place_of.ensures ∙ c.in_ok-at.was in
    let pairs = read_pairs c.args.dev c.self.inside.rows.items c.in_ok-at.at c.index.result.now at c.index.ensures in
    c.at.ensures ∙ ap (λ (es : Pairs). cluster_at es c.args.place) pairs ∙ ap (λ (m : MapRows). look m c.args.dev c.args.place) c.self.view_is
