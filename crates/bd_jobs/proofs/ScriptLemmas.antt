-- The scripts of the generated text, thread by thread.
use Rattle.std.proofs.Common.{◌≡◌, ℕ, zero, suc, ◌+◌, ◌<◌, ◌≤◌, ◌==◌, Bool, true, false, cond, add-one, List, [], ◌∷◌, ◌++◌, length, take, get_or, map, refl, ap, ◌∙◌, arith, length-append, length-take}
use Rattle.std.proofs.lemmas.Bool.Decides.{nat_tests}
use Rattle.std.proofs.lemmas.List.{append-nil, take_more}
use Rattle.bd_base.specs.declared.job.Line.{Line}
use Rattle.bd_jobs.specs.declared.command.Command.{Command}
use Rattle.bd_jobs.specs.declared.steps.Step.{Step}
use Rattle.bd_jobs.specs.ScriptGrammar.{lines_for, script_if_any, scripts_below}
use Rattle.bd_jobs.specs.Generated.{steps, step_job, step_commands, generated_commands, generated_scripts}
use Rattle.bd_jobs.proofs.GeneratedLemmas.{length-commands}

-- ---- a thread's lines

-- the lines of commands
abbrev pub lines_of : List Command → List Line
lines_of commands = map (λ command. command.line) commands

lines_of-append : (xs ys : List Command) → lines_of (xs ++ ys) ≡ lines_of xs ++ lines_of ys
lines_of-append [] ys = refl
lines_of-append (x ∷ xs) ys = ap (λ ls. x.line ∷ ls) (lines_of-append xs ys)

pub step_commands-none : (thread number : ℕ) → step_commands thread number [] ≡ []
unfolding step_commands
step_commands-none thread number = refl

step_commands-one : (thread number : ℕ) (step : Step) → lines_of (step_commands thread number (step ∷ [])) ≡ record { number = number; job = step_job thread step } ∷ []
unfolding step_commands
step_commands-one thread number step = refl

step_commands-append : (thread number : ℕ) (xs ys : List Step) → step_commands thread number (xs ++ ys) ≡ step_commands thread number xs ++ step_commands thread (number + length xs) ys
unfolding step_commands
step_commands-append thread number [] ys = ap (λ n. step_commands thread n ys) (omega arith)
step_commands-append thread number (x ∷ xs) ys =
    let here : Command = record { thread = thread; line = record { number = number; job = step_job thread x } } in
    ap (λ cs. here ∷ cs) (step_commands-append thread (number + 1) xs ys ∙ ap (λ n. step_commands thread (number + 1) xs ++ step_commands thread n ys) (omega arith))

-- one line more
pub lines_of-more : (thread first : ℕ) (some : List Step) (i : ℕ) (none : Step) → i < length some
    → lines_of (step_commands thread first (take (i + 1) some)) ≡ lines_of (step_commands thread first (take i some)) ++ record { number = first + i; job = step_job thread (get_or some i none) } ∷ []
lines_of-more thread first some i none h =
    let step : Step = get_or some i none in
    let before : List Step = take i some in
    let number : length before ≡ i = omega (arith, length-take i some) in
    ap (λ steps. lines_of (step_commands thread first steps)) (take_more some i none h)
    ∙ ap lines_of (step_commands-append thread first before (step ∷ []))
    ∙ lines_of-append (step_commands thread first before) (step_commands thread (first + length before) (step ∷ []))
    ∙ ap (λ lines. lines_of (step_commands thread first before) ++ lines) (step_commands-one thread (first + length before) step)
    ∙ ap (λ k. lines_of (step_commands thread first before) ++ record { number = first + k; job = step_job thread step } ∷ []) number

-- ---- the lines of each thread

lines_for-append : (thread : ℕ) (xs ys : List Command) → lines_for thread (xs ++ ys) ≡ lines_for thread xs ++ lines_for thread ys
lines_for-append thread [] ys = refl
lines_for-append thread (x ∷ xs) ys =
    let P : Bool → Type 0 = λ b. cond b (x.line ∷ lines_for thread (xs ++ ys)) (lines_for thread (xs ++ ys)) ≡ cond b (x.line ∷ lines_for thread xs) (lines_for thread xs) ++ lines_for thread ys in
    elim (x.thread == thread) as P [
      | true ↦ ap (λ ls. x.line ∷ ls) (lines_for-append thread xs ys)
      | false ↦ lines_for-append thread xs ys
    ]

-- a thread's own commands
lines_for-own : (thread number : ℕ) (some : List Step) → lines_for thread (step_commands thread number some) ≡ lines_of (step_commands thread number some)
unfolding step_commands
lines_for-own thread number [] = refl
lines_for-own thread number (step ∷ rest) =
    let own : (thread == thread) ≡ true = grind (arith, nat_tests) in
    rw (own, lines_for-own thread (number + 1) rest) refl

-- those of another
lines_for-other : (thread other number : ℕ) (some : List Step) → (other == thread) ≡ false → lines_for thread (step_commands other number some) ≡ []
unfolding step_commands
lines_for-other thread other number [] h = refl
lines_for-other thread other number (step ∷ rest) h = rw (h, lines_for-other thread other (number + 1) rest h) refl

-- a thread has no line among the commands of those below it
lines_for-below : (n thread upto : ℕ) → upto ≤ thread → lines_for thread (generated_commands n upto) ≡ []
unfolding generated_commands
lines_for-below n thread zero h = refl
lines_for-below n thread (suc upto) h =
    let other : (upto == thread) ≡ false = grind (arith, nat_tests) in
    let number : ℕ = 1 + length (generated_commands n upto) in
    lines_for-append thread (generated_commands n upto) (step_commands upto number (steps n))
    ∙ ap (λ ls. ls ++ lines_for thread (step_commands upto number (steps n))) (lines_for-below n thread upto (omega arith))
    ∙ lines_for-other thread upto number (steps n) other

-- ---- scripts

-- a thread's commands change nothing for those below it
scripts_below-same : (commands : List Command) (thread number upto : ℕ) (some : List Step) → upto ≤ thread → scripts_below (commands ++ step_commands thread number some) upto ≡ scripts_below commands upto
scripts_below-same commands thread number zero some h = refl
scripts_below-same commands thread number (suc upto) some h =
    let other : (thread == upto) ≡ false = grind (arith, nat_tests) in
    let same : lines_for upto (commands ++ step_commands thread number some) ≡ lines_for upto commands =
    lines_for-append upto commands (step_commands thread number some) ∙ ap (λ ls. lines_for upto commands ++ ls) (lines_for-other upto thread number some other) ∙ append-nil (lines_for upto commands) in
    rw (scripts_below-same commands thread number upto some (omega arith), same) refl

-- one thread more
pub generated_scripts-more : (n thread : ℕ)
    → generated_scripts n (thread + 1) ≡ generated_scripts n thread ++ record { thread = thread; lines = lines_of (step_commands thread (1 + length (generated_commands n thread)) (steps n)) } ∷ []
unfolding generated_commands step_commands
generated_scripts-more n thread =
    let before : List Command = generated_commands n thread in
    let number : ℕ = 1 + length before in
    let own : lines_for thread (before ++ step_commands thread number (steps n)) ≡ lines_of (step_commands thread number (steps n)) =
    lines_for-append thread before (step_commands thread number (steps n))
    ∙ ap (λ lines. lines ++ lines_for thread (step_commands thread number (steps n))) (lines_for-below n thread thread (omega arith))
    ∙ lines_for-own thread number (steps n) in
    ap (generated_scripts n) (add-one thread)
    ∙ ap (λ scripts. scripts ++ script_if_any thread (lines_for thread (before ++ step_commands thread number (steps n)))) (scripts_below-same before thread number thread (steps n) (omega arith))
    ∙ ap (λ lines. scripts_below before thread ++ script_if_any thread lines) own

-- how many commands come before a thread's
pub length-generated-none : (n : ℕ) → length (generated_commands n 0) ≡ 0
unfolding generated_commands
length-generated-none n = refl

pub length-generated-more : (n thread : ℕ) → length (generated_commands n (thread + 1)) ≡ length (generated_commands n thread) + length (steps n)
unfolding generated_commands
length-generated-more n thread =
    rw add-one
    (omega (
      arith,
      length-append (generated_commands n thread) (step_commands thread (1 + length (generated_commands n thread)) (steps n)),
      length-commands thread (1 + length (generated_commands n thread)) (steps n),
    ))
