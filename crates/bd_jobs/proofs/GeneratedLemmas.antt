-- The generated script, step by step.
use Rattle.std.proofs.Common.{◌≡◌, ℕ, zero, suc, ◌+◌, ◌*◌, ◌/◌, ◌%◌, ◌<◌, ◌≤◌, add-one, List, [], ◌∷◌, ◌++◌, length, take, get_or, refl, ap, sym, ◌∙◌, arith, append_assoc, length-append}
use Rattle.std.proofs.lemmas.List.{append-nil, take_more}
use Rattle.bd_jobs.specs.declared.steps.Step.{Step}
use Rattle.bd_jobs.specs.declared.steps.Step.TheVariants.{Opens, Writes, Reads, Waits, Closes}
use Rattle.bd_jobs.specs.Generated.{writes, reads, group, full_groups, last_group, steps, step_line, steps_text, generated, step_commands, generated_commands}

-- ---- the steps of groups

pub writes-none : (first : ℕ) → writes first 0 ≡ []
unfolding writes
writes-none first = refl

pub writes-more : (first count : ℕ) → writes first (count + 1) ≡ writes first count ++ Writes (first + count) ∷ []
unfolding writes
writes-more first count = rw add-one refl

pub reads-none : (first : ℕ) → reads first 0 ≡ []
unfolding reads
reads-none first = refl

pub reads-more : (first count : ℕ) → reads first (count + 1) ≡ reads first count ++ Reads (first + count) ∷ []
unfolding reads
reads-more first count = rw add-one refl

pub groups-none : full_groups 0 ≡ []
unfolding full_groups
groups-none = refl

pub groups-more : (count : ℕ) → full_groups (count + 1) ≡ full_groups count ++ group (8 * count) 8
unfolding full_groups
groups-more count = rw add-one refl

-- new steps after those that stood there and those that were added
pub added : (before out new done more all : List Step) → out ≡ before ++ done → new ≡ out ++ more → all ≡ done ++ more → new ≡ before ++ all
added before out new done more all is e whole =
    e ∙ ap (λ steps. steps ++ more) is ∙ append_assoc before done more ∙ ap (λ steps. before ++ steps) (sym whole)

-- a group's steps, in the order in which they are added
pub group-is : (first count : ℕ) → group first count ≡ ((writes first count ++ Waits ∷ []) ++ reads first count) ++ Waits ∷ []
group-is first count =
    sym (append_assoc (writes first count ++ Waits ∷ []) (reads first count) (Waits ∷ []) ∙ append_assoc (writes first count) (Waits ∷ []) (reads first count ++ Waits ∷ []))

-- a thread's steps, likewise
pub steps-are : (n : ℕ) → steps n ≡ ((Opens ∷ full_groups (n / 8)) ++ last_group (8 * (n / 8)) (n % 8)) ++ Closes ∷ []
steps-are n = sym (append_assoc (Opens ∷ full_groups (n / 8)) (last_group (8 * (n / 8)) (n % 8)) (Closes ∷ []))

-- the last group, where there is none, and where there is one
pub last-none : (first count : ℕ) → count ≡ 0 → last_group first count ≡ []
last-none first count e = ap (last_group first) e

pub last-some : (first count : ℕ) → 0 < count → last_group first count ≡ group first count
last-some first zero h = absurd (omega arith)
last-some first (suc count) h = refl

-- ---- how many steps there are

length-writes : (first count : ℕ) → length (writes first count) ≡ count
unfolding writes
length-writes first zero = refl
length-writes first (suc count) = omega (arith, length-append (writes first count) (Writes (first + count) ∷ []), length-writes first count)

length-reads : (first count : ℕ) → length (reads first count) ≡ count
unfolding reads
length-reads first zero = refl
length-reads first (suc count) = omega (arith, length-append (reads first count) (Reads (first + count) ∷ []), length-reads first count)

length-group : (first count : ℕ) → length (group first count) ≡ 2 * count + 2
length-group first count =
    omega (arith, length-append (writes first count) (Waits ∷ (reads first count ++ Waits ∷ [])), length-append (reads first count) (Waits ∷ []), length-writes first count, length-reads first count)

length-groups : (count : ℕ) → length (full_groups count) ≡ 18 * count
unfolding full_groups
length-groups zero = refl
length-groups (suc count) = omega (arith, length-append (full_groups count) (group (8 * count) 8), length-groups count, length-group (8 * count) 8)

length-last : (first count : ℕ) → length (last_group first count) ≤ 2 * count + 2
length-last first zero = omega arith
length-last first (suc count) = omega (arith, length-group first (suc count))

pub length-steps : (n : ℕ) → n ≤ 500 → length (steps n) ≤ 1200
length-steps n h =
    omega (
      arith,
      length-append (full_groups (n / 8)) (last_group (8 * (n / 8)) (n % 8) ++ Closes ∷ []),
      length-append (last_group (8 * (n / 8)) (n % 8)) (Closes ∷ []),
      length-groups (n / 8),
      length-last (8 * (n / 8)) (n % 8),
    )

-- ---- their text

pub text-none : (thread : ℕ) → steps_text thread [] ≡ []
unfolding steps_text
text-none thread = refl

pub text-one : (thread : ℕ) (step : Step) → steps_text thread (step ∷ []) ≡ step_line thread step
unfolding steps_text
text-one thread step = append-nil (step_line thread step)

pub text-append : (thread : ℕ) (xs ys : List Step) → steps_text thread (xs ++ ys) ≡ steps_text thread xs ++ steps_text thread ys
unfolding steps_text
text-append thread [] ys = refl
text-append thread (x ∷ xs) ys = ap (λ text. step_line thread x ++ text) (text-append thread xs ys) ∙ sym (append_assoc (step_line thread x) (steps_text thread xs) (steps_text thread ys))

-- one step more
pub text-more : (thread : ℕ) (some : List Step) (i : ℕ) (none : Step) → i < length some → steps_text thread (take (i + 1) some) ≡ steps_text thread (take i some) ++ step_line thread (get_or some i none)
text-more thread some i none h =
    ap (steps_text thread) (take_more some i none h)
    ∙ text-append thread (take i some) (get_or some i none ∷ [])
    ∙ ap (λ text. steps_text thread (take i some) ++ text) (text-one thread (get_or some i none))

pub generated-none : (n : ℕ) → generated n 0 ≡ []
unfolding generated
generated-none n = refl

pub generated-more : (n thread : ℕ) → generated n (thread + 1) ≡ generated n thread ++ steps_text thread (steps n)
unfolding generated
generated-more n thread = rw add-one refl

-- ---- their commands

pub length-commands : (thread number : ℕ) (some : List Step) → length (step_commands thread number some) ≡ length some
unfolding step_commands
length-commands thread number [] = refl
length-commands thread number (step ∷ rest) = omega (arith, length-commands thread (number + 1) rest)

-- there are few of them
pub length-generated : (n threads : ℕ) → n ≤ 500 → length (generated_commands n threads) ≤ threads * 1200
unfolding generated_commands
length-generated n zero few = omega arith
length-generated n (suc thread) few =
    omega (
      arith,
      length-append (generated_commands n thread) (step_commands thread (1 + length (generated_commands n thread)) (steps n)),
      length-generated n thread few,
      length-commands thread (1 + length (generated_commands n thread)) (steps n),
      length-steps n few,
    )
