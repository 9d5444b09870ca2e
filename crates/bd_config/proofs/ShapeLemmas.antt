-- Lists of JSON values as the lists of data that they stand for.
use Rattle.std.proofs.Common.{◌≡◌, ℕ, suc, arith, ◌+◌, ◌<◌, List, [], ◌∷◌, ◌++◌, length, drop, get_or, Some, refl, ap, sym, ◌∙◌}
use Rattle.std.proofs.Math.Seq.{drop-cons}
use Rattle.std.specs.Prelude.{map, option_map}
use Rattle.serde_json.specs.Data.{Data}
use Rattle.serde_json.specs.Find.{as_array}
use Rattle.serde_json.specs.View.{view, items_of, items_view}
use Rattle.serde_json.specs.declared.value.Value.{Value}
use Rattle.bd_config.specs.Shape.{listed, elements, calls_in, calls_or_empty, calls_of}

listed_items_of : (ds : List Data) → listed (items_of ds) ≡ ds
listed_items_of [] = refl
listed_items_of (d ∷ ds) = ap (λ more. d ∷ more) (listed_items_of ds)

-- the elements of an array are those of its list
pub elements_of_list : (d : Data) (vs : List Value) → Some (items_view vs) ≡ as_array d → Some (map view vs) ≡ elements d
elements_of_list d vs e = sym (ap Some (listed_items_of (map view vs))) ∙ ap (option_map listed) e

-- the calls of the subsystems from this one on
pub calls_from_next : (vs : List Value) (i : ℕ) (v : Value) → i < length vs → v ≡ get_or vs i v → calls_of (map view (drop i vs)) ≡ calls_or_empty (calls_in (view v)) ++ calls_of (map view (drop (i + 1) vs))
calls_from_next vs i v inside at =
    let step : suc i ≡ i + 1 = omega arith in
    let next : drop i vs ≡ v ∷ drop (i + 1) vs = drop-cons vs i v inside ∙ ap (λ j. get_or vs i v ∷ drop j vs) step ∙ ap (λ w. w ∷ drop (i + 1) vs) (sym at) in
    ap (λ ws. calls_of (map view ws)) next
