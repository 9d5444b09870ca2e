use Rattle.std.proofs.Common.{◌≡◌, ℕ, List, Option, Some, option_map, ap, subst, sym, ◌∙◌, arith}
use Rattle.std.specs.Cmp.{unsigned_Decides}
use Rattle.std.proofs.lemmas.Map.Made.{lookup_key_same}
use Rattle.std.proofs.lemmas.Option.{slice_get_past}
use Rattle.bd_volume.specs.Clusters.{Placed, StandsAt, Stored}
use Rattle.bd_volume.proofs.clusters.Clusters.look_up.Goals as goal

pub returns-in-Some : goal.returns-in-Some
returns-in-Some c =
    let es : List (ℕ × Stored) = c.self.inside.map.entries in
    let place : ℕ = c.args.place in
    let p : Stored = c.in-Some.field-0-2.now in
    let e = c.in-Some.ensures in
    let same : c.in-Some.field-0-1.now ≡ place = sym (lookup_key_same unsigned_Decides place es c.in-Some.field-0-1.now (sym e.key)) in
    subst (λ (s : Placed). StandsAt s.entries place c.in-Some.index) c.self.view_is
    (e.entry ∙ ap (λ (n : ℕ). Some (n, p)) same ∙ ap (λ (o : Option Stored). option_map (λ q. (place, q)) o) e.value)

pub returns-in-None : goal.returns-in-None
returns-in-None c =
    let es : List (ℕ × Stored) = c.self.inside.map.entries in
    let place : ℕ = c.args.place in
    let end = c.len.ensures.len in
    subst (λ (s : Placed). StandsAt s.entries place c.len.result) c.self.view_is
    (slice_get_past es c.len.result (omega (arith, end)) ∙ ap (λ (o : Option Stored). option_map (λ q. (place, q)) o) c.in-None.ensures.value)
