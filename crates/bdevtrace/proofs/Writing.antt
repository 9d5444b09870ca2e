-- What was written of two texts, the one after the other.
use Rattle.std.proofs.Common.{◌≡◌, ℕ, zero, suc, ◌+◌, List, [], ◌∷◌, ◌++◌, length, take, Option, sym, ◌∙◌, ap, refl, subst, zero-add, arith}
use Rattle.std.specs.Prelude.{min}
use Rattle.std.proofs.lemmas.List.{take-append-le, take_min}
use Rattle.std.specs.Io.KnownBytes.{Appends}
use Rattle.bd_report.specs.Writing.{AppendsPrefix}
use Rattle.bd_report.proofs.WritingLemmas.{appends_more}

-- a prefix of the first text is one of both
pub of_first : (old new : Option (List ℕ)) (first second : List ℕ) → AppendsPrefix old new first → AppendsPrefix old new (first ++ second)
of_first old new first second part =
    let n : ℕ = min part.0 (length first) in
    let same : take n (first ++ second) ≡ take part.0 first = take-append-le n first second (omega arith) ∙ take_min part.0 first in
    (n, subst (Appends old new) (sym same) part.1)

take_after : (xs ys : List ℕ) (n k : ℕ) → n ≡ length xs + k → take n (xs ++ ys) ≡ xs ++ take k ys
take_after [] ys n k is = ap (λ m. take m ys) (is ∙ zero-add k)
take_after (x ∷ xs) ys zero k is = absurd (omega arith)
take_after (x ∷ xs) ys (suc n) k is = ap (λ rest. x ∷ rest) (take_after xs ys n k (omega arith))

-- a prefix of the second text is one of both, once the first was written
pub of_second : (old mid new : Option (List ℕ)) (first second : List ℕ) → Appends old mid first → AppendsPrefix mid new second → AppendsPrefix old new (first ++ second)
of_second old mid new first second all part =
    (length first + part.0, subst (Appends old new) (sym (take_after first second (length first + part.0) part.0 refl)) (appends_more old mid new first (take part.0 second) all part.1))
