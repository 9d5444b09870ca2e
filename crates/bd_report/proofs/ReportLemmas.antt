-- What a step of a loop adds to the lists that the report is defined by.
use Rattle.std.proofs.Common.{◌≡◌, refl, sym, ap, ◌∙◌, ℕ, zero, suc, ◌+◌, ◌≤◌, min, List, [], ◌∷◌, ◌++◌, length, drop, flat_map, filter_map, Option, Some, None, arith}
use Rattle.std.specs.List.{range_with_len, cons_option}
use Rattle.std.proofs.lemmas.List.{map-id, flat_map_more}
use Rattle.std.proofs.lemmas.List.FromFn.{map-range_with_len_more}
use Rattle.bd_base.specs.declared.act.Entry.{Entry}
use Rattle.bd_base.specs.declared.device.DevRow.{DevRow}
use Rattle.bd_report.specs.declared.traffic.Traffic.{Traffic}
use Rattle.bd_report.specs.Report.{device_lines}

-- one more number at the end of a range from 0
pub range_more : (n : ℕ) → range_with_len 0 (n + 1) ≡ range_with_len 0 n ++ n ∷ []
range_more n =
    sym (map-id (range_with_len 0 (n + 1))) ∙ map-range_with_len_more (λ x. x) 0 n n (omega arith) ∙ ap (λ xs. xs ++ n ∷ []) (map-id (range_with_len 0 n))

-- what f gives of one more number
pub numbers_more : (f : ℕ → List ℕ) (base : List ℕ) (n : ℕ) → (base ++ flat_map f (range_with_len 0 n)) ++ f n ≡ base ++ flat_map f (range_with_len 0 (n + 1))
numbers_more f base n = flat_map_more f base (range_with_len 0 n) n ∙ ap (λ r. base ++ flat_map f r) (sym (range_more n))

-- an item found, or not, stands in front of what is found in the rest
pub cons_option-append : {X : Type 0} (o : Option X) (xs ys : List X) → cons_option o (xs ++ ys) ≡ cons_option o xs ++ ys
cons_option-append None xs ys = refl
cons_option-append (Some x) xs ys = refl

pub filter_map_push : {X Y : Type 0} (f : X → Option Y) (xs : List X) (x : X) → filter_map f (xs ++ x ∷ []) ≡ filter_map f xs ++ cons_option (f x) []
filter_map_push f [] x = refl
filter_map_push f (y ∷ xs) x = ap (cons_option (f y)) (filter_map_push f xs x) ∙ cons_option-append (f y) (filter_map f xs) (cons_option (f x) [])

device_lines_none : (trace : List Entry) (n : ℕ) (rows : List DevRow) → device_lines trace n rows [] ≡ []
device_lines_none trace n [] = refl
device_lines_none trace n (row ∷ rows) = refl

-- past the end of the devices, or of what is told of them, no lines follow
pub device_lines_past : (trace : List Entry) (n i : ℕ) (rows : List DevRow) (traffic : List Traffic) → min (length rows) (length traffic) ≤ i → device_lines trace n (drop i rows) (drop i traffic) ≡ []
device_lines_past trace n zero [] traffic h = refl
device_lines_past trace n (suc i) [] traffic h = refl
device_lines_past trace n zero (row ∷ rows) [] h = refl
device_lines_past trace n (suc i) (row ∷ rows) [] h = device_lines_none trace n (drop i rows)
device_lines_past trace n zero (row ∷ rows) (moved ∷ traffic) h = (let bad : ⊥ = omega (arith, h) in absurd bad)
device_lines_past trace n (suc i) (row ∷ rows) (moved ∷ traffic) h = device_lines_past trace n i rows traffic (omega (arith, h))
