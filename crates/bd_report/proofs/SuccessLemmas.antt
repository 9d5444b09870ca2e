-- What a mark in a row changes.
use Rattle.std.proofs.Common.{◌≡◌, refl, sym, ap, ◌∙◌, ℕ, ◌<◌, ⊎_elim, Bool, true, false, ◌&&◌, ◌||◌, List, [], ◌∷◌, ◌++◌, length, get_or, set, eqb, zero, suc, arith}
use Rattle.std.proofs.lemmas.Bool.{cases_eq}
use Rattle.std.proofs.lemmas.List.{get_or-set_other}
use Rattle.std.proofs.lemmas.Grind.{get_or-set_at}

-- one more item that is the default reads as before
pub default_push : {X : Type 0} (xs : List X) (d : X) (k : ℕ) → get_or (xs ++ d ∷ []) k d ≡ get_or xs k d
default_push [] d zero = refl
default_push [] d (suc k) = refl
default_push (x ∷ xs) d zero = refl
default_push (x ∷ xs) d (suc k) = default_push xs d k

pub or_true : (b : Bool) → true ≡ (b || true)
or_true true = refl
or_true false = refl

pub or_false : (b : Bool) → b ≡ (b || false)
or_false true = refl
or_false false = refl

-- with one more mark
pub marked : (row : List Bool) (i k : ℕ) → i < length row → get_or (set row i true) k false ≡ (get_or row k false || eqb i k)
marked row i k low =
    ⊎_elim
    (λ e.
    let same : eqb i k ≡ true = grind (arith, e) in
    get_or-set_at row i k true false e (omega (arith, low, e)) ∙ or_true (get_or row k false) ∙ ap (λ b. get_or row k false || b) (sym same))
    (λ ne.
    let apart : eqb i k ≡ false = grind (arith, ne) in
    get_or-set_other row i k true false ne ∙ or_false (get_or row k false) ∙ ap (λ b. get_or row k false || b) (sym apart))
    (cases_eq k i)

at_row : (a r b o : Bool) → ((a || (r && b)) || o) ≡ ((a || o) || (r && (true && b)))
at_row true r b o = refl
at_row false false b o = or_false o
at_row false true true true = refl
at_row false true true false = refl
at_row false true false o = or_false o

at_other : (a r : Bool) → a ≡ (a || (r && false))
at_other a true = or_false a
at_other a false = or_false a

-- where a row took one more mark, or didn't
pub row_marked : (rows : List (List Bool)) (row : List Bool) (t at : ℕ) (r : Bool) → t < length rows → ((k : ℕ) → get_or row k false ≡ (get_or (get_or rows t []) k false || (r && eqb at k))) → (thread number : ℕ) (other : Bool) → (get_or (get_or (set rows t row) thread []) number false || other) ≡ ((get_or (get_or rows thread []) number false || other) || (r && (eqb t thread && eqb at number)))
row_marked rows row t at r low is thread number other =
    ⊎_elim
    (λ e.
    let same : eqb t thread ≡ true = grind (arith, e) in
    ap (λ xs. get_or xs number false || other) (get_or-set_at rows t thread row [] e (omega (arith, low, e))) ∙
    ap (λ b. b || other) (is number) ∙
    at_row (get_or (get_or rows t []) number false) r (eqb at number) other ∙
    ap (λ b. (get_or (get_or rows t []) number false || other) || (r && (b && eqb at number))) (sym same) ∙
    ap (λ i. (get_or (get_or rows i []) number false || other) || (r && (eqb t thread && eqb at number))) (sym e))
    (λ ne.
    let apart : eqb t thread ≡ false = grind (arith, ne) in
    ap (λ xs. get_or xs number false || other) (get_or-set_other rows t thread row [] ne) ∙
    at_other (get_or (get_or rows thread []) number false || other) r ∙
    ap (λ b. (get_or (get_or rows thread []) number false || other) || (r && (b && eqb at number))) (sym apart))
    (cases_eq thread t)

among : (row b same : Bool) → (row || (b || same)) ≡ ((row || b) || same)
among true b same = refl
among false b same = refl

-- a request that was not marked, and noted among the others
pub noted_other : (row b c same old : Bool) → c ≡ (b || same) → (row || b) ≡ (old || false) → (row || c) ≡ (old || same)
noted_other row b c same old e was =
    ap (λ x. row || x) e ∙ among row b same ∙ ap (λ x. x || same) (was ∙ sym (or_false old))
