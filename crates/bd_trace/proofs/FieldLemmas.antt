-- What one more field, and one more number, adds to a text.
use Rattle.std.proofs.Common.{◌≡◌, sym, ap, ◌∙◌, ℕ, ◌+◌, List, [], ◌∷◌, ◌++◌, flat_map, append_assoc, Result, Ok, Err, OnOk, arith}
use Rattle.std.specs.List.{range_with_len}
use Rattle.std.proofs.lemmas.List.{map-id, flat_map_more}
use Rattle.std.proofs.lemmas.List.FromFn.{map-range_with_len_more}

-- a range from 0 that is longer by one ends with the number before it
pub range_and_one : (n : ℕ) → range_with_len 0 (n + 1) ≡ range_with_len 0 n ++ n ∷ []
range_and_one n =
    sym (map-id (range_with_len 0 (n + 1))) ∙ map-range_with_len_more (λ k. k) 0 n n (omega arith) ∙ ap (λ ks. ks ++ n ∷ []) (map-id (range_with_len 0 n))

-- the fields of the numbers below n, and then that of n
pub fields_and_one : (f : ℕ → List ℕ) (before : List ℕ) (n : ℕ) → (before ++ flat_map f (range_with_len 0 n)) ++ f n ≡ before ++ flat_map f (range_with_len 0 (n + 1))
fields_and_one f before n = flat_map_more f before (range_with_len 0 n) n ∙ ap (λ ks. before ++ flat_map f ks) (sym (range_and_one n))

-- what a call adds after another one
pub added_after : {T E : Type 0} (r : Result T E) (text mid new a b : List ℕ) → mid ≡ text ++ a → OnOk r (new ≡ mid ++ b) → OnOk r (new ≡ text ++ (a ++ b))
added_after (Ok x) text mid new a b e h = h ∙ ap (λ zs. zs ++ b) e ∙ append_assoc text a b
added_after (Err x) text mid new a b e h = h
