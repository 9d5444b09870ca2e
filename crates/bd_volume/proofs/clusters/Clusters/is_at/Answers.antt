use Rattle.std.proofs.Common.{◌≡◌, ℕ, List, Option, Some, option_map, ap, subst, sym, ◌∙◌}
use Rattle.std.proofs.lemmas.Map.Views.{exact_unsigned_eq}
use Rattle.bd_volume.specs.Clusters.{Placed, StandsAt, Stored, found}
use Rattle.bd_volume.proofs.clusters.Clusters.is_at.Goals as goal

pub returns-in-Some : goal.returns-in-Some
returns-in-Some c = λ yes.
    let es : List (ℕ × Stored) = c.self.inside.map.entries in
    let place : ℕ = c.args.place in
    let p : Stored = c.in-Some.field-0-1.now in
    let same : c.in-Some.key.now ≡ place = exact_unsigned_eq c.in-Some.key.now place yes in
    let there : found es place ≡ Some p = ap (λ (n : ℕ). found es n) (sym same) ∙ c.in-Some.ensures.value in
    subst (λ (s : Placed). StandsAt s.entries place c.args.index) c.self.view_is
    (sym c.in-Some.ensures.entry
    ∙ ap (λ (n : ℕ). Some (n, p)) same
    ∙ ap (λ (o : Option Stored). option_map (λ q. (place, q)) o) (sym there))
