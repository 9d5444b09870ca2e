-- How pieces of an output come together.
use Rattle.std.proofs.Common.{◌≡◌, ℕ, ◌+◌, ◌-◌, ◌≤◌, inl, inr, List, [], ◌++◌, length, take, drop, Option, None, Some, sym, ◌∙◌, ap, subst, append_assoc, arith}
use Rattle.std.proofs.Math.Seq.{take-add}
use Rattle.std.proofs.lemmas.List.{length-drop, append-nil, take_all}
use Rattle.std.specs.Io.KnownBytes.{Appends, Keeps}
use Rattle.bd_outside.specs.Count.{Rises}

pub rises_from : (a b c : ℕ) → a ≤ b → Rises b c → Rises a c
rises_from a b c le (inl lt) = inl (omega arith)
rises_from a b c le (inr e) = inr e

pub appends_nothing : (a : Option (List ℕ)) → Appends a a []
appends_nothing None = tt
appends_nothing (Some xs) = sym (append-nil xs)

pub appends_kept : (a b c : Option (List ℕ)) (xs : List ℕ) → Appends a b xs → Keeps b c → Appends a c xs
appends_kept None b c xs p q = tt
appends_kept (Some old) None c xs p q = absurd p
appends_kept (Some old) (Some mid) None xs p q = absurd q
appends_kept (Some old) (Some mid) (Some new) xs p q = q ∙ p

pub appends_more : (a b c : Option (List ℕ)) (xs ys : List ℕ) → Appends a b xs → Appends b c ys → Appends a c (xs ++ ys)
appends_more None b c xs ys p q = tt
appends_more (Some old) None c xs ys p q = absurd p
appends_more (Some old) (Some mid) None xs ys p q = absurd q
appends_more (Some old) (Some mid) (Some new) xs ys p q = q ∙ ap (λ z. z ++ ys) p ∙ append_assoc old xs ys

-- the next piece of the same bytes, of which `&bytes[i..]` was handed out
pub appends_next : (a b c : Option (List ℕ)) (bytes : List ℕ) (i n : ℕ) → Appends a b (take i bytes) → Appends b c (take n (take (length bytes - i) (drop i bytes))) → Appends a c (take (i + n) bytes)
appends_next a b c bytes i n p q =
    let whole : take (length bytes - i) (drop i bytes) ≡ drop i bytes = take_all (length bytes - i) (drop i bytes) (omega (arith, length-drop i bytes)) in
    let Q : List ℕ → Type 0 = λ xs. Appends b c (take n xs) in
    let P : List ℕ → Type 0 = λ xs. Appends a c xs in
    subst P (sym (take-add i n bytes)) (appends_more a b c (take i bytes) (take n (drop i bytes)) p (subst Q whole q))
