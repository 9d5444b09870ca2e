-- Words, lines and numbers that were written are read as they were.
use Rattle.std.proofs.Common.{◌≡◌, ℕ, ◌+◌, ◌-◌, ◌*◌, ◌/◌, ◌%◌, ◌^◌, ◌<◌, ◌≤◌, ◌==◌, ◌&&◌, Bool, true, false, nat_lt, nat_le, List, [], ◌∷◌, ◌++◌, length, filter, get_or, decimal, Some, refl, ap, sym, ◌∙◌, arith, subst, length-append}
use Rattle.std.specs.List.{list_all, All}
use Rattle.std.proofs.lemmas.Bool.Decides.{nat_tests}
use Rattle.std.proofs.lemmas.Fmt.{decimal_by_steps, decimal_digit, first_decimal}
use Rattle.std.proofs.lemmas.List.Elements.{All-cons}
use Rattle.std.proofs.lemmas.List.Folds.{list_all-append}
use Rattle.std.proofs.lemmas.List.Splits.{slice_split_none, slice_split_at}
use Rattle.bd_jobs.specs.Words.{is_blank, is_some_word, words_of, is_digit, value_from, is_number, number_of, is_device_byte}
use Rattle.bd_jobs.specs.Generated.{spaced}

-- ---- tests of every byte

pub both : (a b : Bool) → (a && b) ≡ true → (a ≡ true) × (b ≡ true)
both true true e = (refl, refl)
both true false e = absurd (cc)
both false b e = absurd (cc)

all_both : (p : ℕ → Bool) (xs ys : List ℕ) → list_all p xs ≡ true → list_all p ys ≡ true → list_all p (xs ++ ys) ≡ true
all_both p xs ys a b = list_all-append p xs ys ∙ (rw (a, b) refl)

all_weaker : (p q : ℕ → Bool) (xs : List ℕ) → ((x : ℕ) → p x ≡ true → q x ≡ true) → list_all p xs ≡ true → list_all q xs ≡ true
all_weaker p q [] h e = refl
all_weaker p q (x ∷ xs) h e =
    let parts : (p x ≡ true) × (list_all p xs ≡ true) = both (p x) (list_all p xs) e in
    rw (h x parts.0, all_weaker p q xs h parts.1) refl

all_false : (p q : ℕ → Bool) (xs : List ℕ) → ((x : ℕ) → p x ≡ true → q x ≡ false) → list_all p xs ≡ true → All (λ x. q x ≡ false) xs
all_false p q [] h e = λ k d below. absurd (omega arith)
all_false p q (x ∷ xs) h e =
    let parts : (p x ≡ true) × (list_all p xs ≡ true) = both (p x) (list_all p xs) e in
    All-cons (λ y. q y ≡ false) x xs (h x parts.0) (all_false p q xs h parts.1)

-- ---- numbers

value-append : (n : ℕ) (ds : List ℕ) (d : ℕ) → value_from n (ds ++ d ∷ []) ≡ value_from n ds * 10 + (d - 48)
value-append n [] d = refl
value-append n (b ∷ bs) d = value-append (n * 10 + (b - 48)) bs d

-- digits of a number
pub record AreDigitsOf (n : ℕ) (ds : List ℕ) : Type 0 where
  pub some : 0 < length ds
  pub digits : list_all is_digit ds ≡ true
  pub value : value_from 0 ds ≡ n

one_digit : (n : ℕ) → n < 10 → AreDigitsOf n ((48 + n) ∷ [])
one_digit n h =
    let digit : is_digit (48 + n) ≡ true = grind (arith, nat_tests) in
    record { some = omega arith; digits = rw digit refl; value = omega arith }

more_digits : (n : ℕ) (ds : List ℕ) → 10 ≤ n → AreDigitsOf (n / 10) ds → AreDigitsOf n (ds ++ ((48 + n % 10) ∷ []))
more_digits n ds h known =
    let digit : is_digit (48 + n % 10) ≡ true = grind (arith, nat_tests) in
    record {
      some = omega (arith, length-append ds ((48 + n % 10) ∷ []));
      digits = all_both is_digit ds ((48 + n % 10) ∷ []) known.digits (rw digit refl);
      value = value-append 0 ds (48 + n % 10) ∙ omega (arith, known.value);
    }

pub decimal_digits : (n : ℕ) → n < 2 ^ 64 → AreDigitsOf n (decimal n)
decimal_digits n h = decimal_by_steps AreDigitsOf one_digit more_digits n h

digits_are : (ds : List ℕ) → 0 < length ds → list_all is_digit ds ≡ true → 48 < get_or ds 0 0 → is_number ds ≡ true
digits_are [] h e first = absurd (omega arith)
digits_are (b ∷ []) h e first = (both (is_digit b) true e).0
digits_are (b ∷ c ∷ ds) h e first =
    let other : (b == 48) ≡ false = grind (arith, nat_tests) in
    rw (other, e) refl

is_number-decimal : (n : ℕ) (small : Bool) → nat_lt 0 n ≡ small → n < 2 ^ 64 → is_number (decimal n) ≡ true
is_number-decimal n true e h =
    let digits : AreDigitsOf n (decimal n) = decimal_digits n h in
    digits_are (decimal n) digits.some digits.digits (first_decimal n (grind (arith, nat_tests)) h)
is_number-decimal n false e h =
    let none : n ≡ 0 = grind (arith, nat_tests) in
    let P : ℕ → Type 0 = λ m. is_number (decimal m) ≡ true in
    subst P (sym none) (ap is_number (decimal_digit 0 (omega arith)))

pub number-decimal : (n : ℕ) → n < 2 ^ 64 → number_of (decimal n) ≡ Some n
number-decimal n h =
    let number : is_number (decimal n) ≡ true = is_number-decimal n (nat_lt 0 n) refl h in
    let value : value_from 0 (decimal n) ≡ n = (decimal_digits n h).value in
    let fits : nat_lt n (2 ^ 64) ≡ true = grind (arith, nat_tests) in
    rw (number, value, fits) refl

-- ---- words

-- a word that may stand in a line
pub record IsWord (word : List ℕ) : Type 0 where
  pub some : 0 < length word
  pub plain : list_all is_device_byte word ≡ true

pub word-decimal : (n : ℕ) → n < 2 ^ 64 → IsWord (decimal n)
word-decimal n h =
    let digits : AreDigitsOf n (decimal n) = decimal_digits n h in
    record { some = digits.some; plain = all_weaker is_digit is_device_byte (decimal n) (λ x e. grind (arith, nat_tests)) digits.digits }

abbrev pub AreWords : List (List ℕ) → Type 0
AreWords [] = Unit {0}
AreWords (word ∷ words) = IsWord word × AreWords words

no_blank : (word : List ℕ) → IsWord word → All (λ x. is_blank x ≡ false) word
no_blank word known = all_false is_device_byte is_blank word (λ x e. grind (arith, nat_tests)) known.plain

is_some : (word : List ℕ) → IsWord word → is_some_word word ≡ true
is_some word known = let some : 0 < length word = known.some in grind (arith, nat_tests)

pub words-spaced : (words : List (List ℕ)) → AreWords words → 0 < length words → words_of (spaced words) ≡ words
words-spaced [] known h = absurd (omega arith)
words-spaced (word ∷ []) known h = ap (filter is_some_word) (slice_split_none is_blank word (no_blank word known.0)) ∙ (rw (is_some word known.0) refl)
words-spaced (word ∷ next ∷ words) known h =
    ap (filter is_some_word) (slice_split_at is_blank word 32 (spaced (next ∷ words)) (no_blank word known.0) refl)
    ∙ (rw (is_some word known.0) (ap (λ ws. word ∷ ws) (words-spaced (next ∷ words) known.1 (omega arith))))

-- ---- lines

-- a byte of a line: a blank or a letter of a word
abbrev pub is_line_byte : ℕ → Bool
is_line_byte b = nat_le 32 b && nat_le b 126

word_bytes : (word : List ℕ) → IsWord word → list_all is_line_byte word ≡ true
word_bytes word known = all_weaker is_device_byte is_line_byte word (λ x e. grind (arith, nat_tests)) known.plain

pub line_bytes : (words : List (List ℕ)) → AreWords words → list_all is_line_byte (spaced words) ≡ true
line_bytes [] known = refl
line_bytes (word ∷ []) known = word_bytes word known.0
line_bytes (word ∷ next ∷ words) known = all_both is_line_byte word (32 ∷ spaced (next ∷ words)) (word_bytes word known.0) (line_bytes (next ∷ words) known.1)
