-- The grammar reads the generated script.
use Rattle.std.proofs.Common.{◌≡◌, ◌≢◌, ℕ, zero, suc, ◌+◌, ◌-◌, ◌*◌, ◌/◌, ◌%◌, ◌<◌, ◌≤◌, ◌==◌, ◌&&◌, Bool, true, false, nat_lt, nat_le, List, [], ◌∷◌, ◌++◌, length, map, take, get_or, slice_index, decimal, codes, Some, refl, ap, sym, ◌∙◌, arith, append_assoc, length-append, inr}
use Rattle.std.specs.Prelude.{option_map}
use Rattle.std.specs.List.{list_all}
use Rattle.std.proofs.Math.Seq.{get_or-append_seam, take-append_seam}
use Rattle.std.proofs.lemmas.Bool.Decides.{nat_tests}
use Rattle.std.proofs.lemmas.List.{append-nil, get_or_append_left}
use Rattle.std.proofs.lemmas.List.Folds.{list_all_at}
use Rattle.bstr.specs.Text.{lines_of, without_terminator}
use Rattle.bstr.proofs.lemmas.LineLemmas.{lines-nil, lines-append, lines-one}
use Rattle.bd_base.specs.declared.job.Line.{Line}
use Rattle.bd_jobs.specs.declared.command.Command.{Command}
use Rattle.bd_jobs.specs.declared.steps.Step.{Step}
use Rattle.bd_jobs.specs.declared.steps.Step.TheVariants.{Opens, Writes, Reads, Waits, Closes}
use Rattle.bd_jobs.specs.Words.{is_blank, is_digit, words_of}
use Rattle.bd_jobs.specs.ScriptGrammar.{lines_for, words_command, is_bare, after_line, commands_from, commands_of, text_lines, scripts_below, scripts_of}
use Rattle.bd_jobs.specs.Generated.{writes, reads, group, full_groups, last_group, steps, block_of, seed_of, step_words, spaced, step_line, steps_text, generated, step_job, step_commands, generated_commands, generated_scripts}
use Rattle.bd_jobs.proofs.GeneratedLemmas.{length-steps, length-commands, length-generated}
use Rattle.bd_jobs.proofs.ReadLemmas.{from-append}
use Rattle.bd_jobs.proofs.WrittenLemmas.{both, AreDigitsOf, decimal_digits, number-decimal, IsWord, word-decimal, AreWords, words-spaced, is_line_byte, line_bytes}

-- ---- lines of a text

byte_is : (line : List ℕ) (k : ℕ) (test : Bool) → is_line_byte (get_or line k 0) ≡ test → list_all is_line_byte line ≡ true → k < length line → 32 ≤ get_or line k 0
byte_is line k true e all h = grind (arith, nat_tests)
byte_is line k false e all h = let none : list_all is_line_byte line ≡ false = list_all_at is_line_byte line k 0 h e in absurd (cc)

byte_at : (line : List ℕ) (k : ℕ) → list_all is_line_byte line ≡ true → k < length line → 32 ≤ get_or line k 0
byte_at line k all h = byte_is line k (is_line_byte (get_or line k 0)) refl all h

ended : (line : List ℕ) → list_all is_line_byte line ≡ true → 0 < length line → without_terminator (line ++ 10 ∷ []) ≡ line
ended line all h =
    let some : nat_lt 0 (length (line ++ 10 ∷ [])) ≡ true = grind (arith, nat_tests, length-append line (10 ∷ [])) in
    let end : length (line ++ 10 ∷ []) - 1 ≡ length line = omega (arith, length-append line (10 ∷ [])) in
    let last : get_or (line ++ 10 ∷ []) (length line) 0 ≡ 10 = get_or-append_seam line 10 [] 0 in
    let front : take (length line) (line ++ 10 ∷ []) ≡ line = take-append_seam line (10 ∷ []) in
    let byte : 32 ≤ get_or line (length line - 1) 0 = byte_at line (length line - 1) all (omega arith) in
    let other : (get_or line (length line - 1) 0 == 13) ≡ false = grind (arith, nat_tests) in
    let there : nat_lt 0 (length line) ≡ true = grind (arith, nat_tests) in
    rw (some, end, last, front, there, other) refl

by_size : (xs : List ℕ) (n : ℕ) → length xs ≡ n + 1 → length xs - 1 ≡ n
by_size xs n e = omega arith

lines_first : (line rest : List ℕ) → list_all is_line_byte line ≡ true → 0 < length line → text_lines ((line ++ 10 ∷ []) ++ rest) ≡ line ∷ text_lines rest
lines_first line rest all h =
    let size : length (line ++ 10 ∷ []) ≡ length line + 1 = length-append line (10 ∷ []) in
    let last : slice_index (line ++ 10 ∷ []) (length (line ++ 10 ∷ []) - 1) ≡ 10 =
    ap (λ k. get_or (line ++ 10 ∷ []) k 0) (by_size (line ++ 10 ∷ []) (length line) size) ∙ get_or-append_seam line 10 [] 0 in
    let others : (k : ℕ) → k + 1 < length (line ++ 10 ∷ []) → slice_index (line ++ 10 ∷ []) k ≢ 10 = λ k below is.
    let inside : k < length line = omega (arith, size) in
    let byte : 32 ≤ get_or line k 0 = byte_at line k all inside in
    let same : get_or (line ++ 10 ∷ []) k 0 ≡ get_or line k 0 = get_or_append_left line (10 ∷ []) 0 k inside in
    omega arith in
    ap (map without_terminator) (lines-append (length (line ++ 10 ∷ [])) (line ++ 10 ∷ []) rest (omega arith) (inr last))
    ∙ ap (λ front. map without_terminator (front ++ lines_of rest)) (lines-one (line ++ 10 ∷ []) (omega (arith, size)) others)
    ∙ ap (λ first. first ∷ text_lines rest) (ended line all h)

-- ---- steps

-- numbers stay small
abbrev pub IsSmall : Step → Type 0
IsSmall Opens = Unit {0}
IsSmall (Writes i) = i < 1000
IsSmall (Reads i) = i < 1000
IsSmall Waits = Unit {0}
IsSmall Closes = Unit {0}

abbrev pub AreSmall : List Step → Type 0
AreSmall [] = Unit {0}
AreSmall (step ∷ rest) = IsSmall step × AreSmall rest

small-append : (xs ys : List Step) → AreSmall xs → AreSmall ys → AreSmall (xs ++ ys)
small-append [] ys a b = b
small-append (x ∷ xs) ys a b = (a.0, small-append xs ys a.1 b)

small-writes : (first count : ℕ) → first + count ≤ 1000 → AreSmall (writes first count)
unfolding writes
small-writes first zero h = tt
small-writes first (suc count) h = small-append (writes first count) (Writes (first + count) ∷ []) (small-writes first count (omega arith)) (omega arith, tt)

small-reads : (first count : ℕ) → first + count ≤ 1000 → AreSmall (reads first count)
unfolding reads
small-reads first zero h = tt
small-reads first (suc count) h = small-append (reads first count) (Reads (first + count) ∷ []) (small-reads first count (omega arith)) (omega arith, tt)

small-group : (first count : ℕ) → first + count ≤ 1000 → AreSmall (group first count)
small-group first count h =
    small-append (writes first count) (Waits ∷ (reads first count ++ Waits ∷ [])) (small-writes first count h)
    (tt, small-append (reads first count) (Waits ∷ []) (small-reads first count h) (tt, tt))

small-groups : (count : ℕ) → 8 * count ≤ 1000 → AreSmall (full_groups count)
unfolding full_groups
small-groups zero h = tt
small-groups (suc count) h = small-append (full_groups count) (group (8 * count) 8) (small-groups count (omega arith)) (small-group (8 * count) 8 (omega arith))

small-last : (first count : ℕ) → first + count ≤ 1000 → AreSmall (last_group first count)
small-last first zero h = tt
small-last first (suc count) h = small-group first (suc count) h

small-steps : (n : ℕ) → n ≤ 500 → AreSmall (steps n)
small-steps n h = (
  tt,
  small-append (full_groups (n / 8)) (last_group (8 * (n / 8)) (n % 8) ++ Closes ∷ []) (small-groups (n / 8) (omega arith))
      (small-append (last_group (8 * (n / 8)) (n % 8)) (Closes ∷ []) (small-last (8 * (n / 8)) (n % 8) (omega arith)) (tt, tt)),
)

-- ---- a step's line

word-codes : (word : List ℕ) → nat_lt 0 (length word) ≡ true → list_all (λ b. nat_le 33 b && nat_le b 126) word ≡ true → IsWord word
word-codes word some plain = record { some = grind (arith, nat_tests); plain = plain }

words-of-step : (thread : ℕ) (step : Step) → thread < 16 → IsSmall step → AreWords (step_words thread step)
words-of-step thread Opens h small = (word-decimal thread (omega arith), (word-codes (codes "open") refl refl, (word-codes (codes "h") refl refl, (word-codes (codes "P") refl refl, (word-codes (codes "w") refl refl, tt)))))
words-of-step thread (Writes i) h small =
    (word-decimal thread (omega arith), (word-codes (codes "write") refl refl, (word-codes (codes "h") refl refl, (word-decimal (block_of thread i) (omega arith), (word-codes (codes "1") refl refl, (word-decimal (seed_of thread i) (omega arith), tt))))))
words-of-step thread (Reads i) h small =
    (word-decimal thread (omega arith), (word-codes (codes "read") refl refl, (word-codes (codes "h") refl refl, (word-decimal (block_of thread i) (omega arith), (word-codes (codes "1") refl refl, tt)))))
words-of-step thread Waits h small = (word-decimal thread (omega arith), (word-codes (codes "wait") refl refl, tt))
words-of-step thread Closes h small = (word-decimal thread (omega arith), (word-codes (codes "close") refl refl, (word-codes (codes "h") refl refl, tt)))

-- a step's line without its line feed
abbrev pub line_of : ℕ → Step → List ℕ
line_of thread step = spaced (step_words thread step)

-- it begins with a digit
pub record BeginsWithDigit (line : List ℕ) : Type 0 where
  pub some : 0 < length line
  pub bare : is_bare line ≡ false

begins_digit : (word rest : List ℕ) → 0 < length word → list_all is_digit word ≡ true → BeginsWithDigit (word ++ rest)
begins_digit [] rest h all = absurd (omega arith)
begins_digit (b ∷ bs) rest h all =
    let digit : is_digit b ≡ true = (both (is_digit b) (list_all is_digit bs) all).0 in
    let other : (b == 35) ≡ false = grind (arith, nat_tests) in
    let visible : is_blank b ≡ false = grind (arith, nat_tests) in
    record { some = omega arith; bare = rw (other, visible) refl }

begins-step : (thread : ℕ) (step : Step) → thread < 16 → BeginsWithDigit (line_of thread step)
begins-step thread step h =
    let digits : AreDigitsOf thread (decimal thread) = decimal_digits thread (omega arith) in
    elim step as (λ s. BeginsWithDigit (line_of thread s)) [
      | Opens ↦ begins_digit (decimal thread) _ digits.some digits.digits
      | Writes i ↦ begins_digit (decimal thread) _ digits.some digits.digits
      | Reads i ↦ begins_digit (decimal thread) _ digits.some digits.digits
      | Waits ↦ begins_digit (decimal thread) _ digits.some digits.digits
      | Closes ↦ begins_digit (decimal thread) _ digits.some digits.digits
    ]

-- ---- a step's command

abbrev pub command_of : ℕ → ℕ → Step → Command
command_of thread number step = record { thread = thread; line = record { number = number; job = step_job thread step } }

reads_step : (threads thread number : ℕ) (earlier : ℕ → List Line) (step : Step) → thread < threads → thread < 16 → IsSmall step → words_command threads earlier number (step_words thread step) ≡ Some (command_of thread number step)
reads_step threads thread number earlier Opens below h small =
    let inside : nat_lt thread threads ≡ true = grind (arith, nat_tests) in
    rw (number-decimal thread (omega arith), inside) refl
reads_step threads thread number earlier (Writes i) below h small =
    let inside : nat_lt thread threads ≡ true = grind (arith, nat_tests) in
    rw (number-decimal thread (omega arith), inside, number-decimal (block_of thread i) (omega arith), number-decimal (seed_of thread i) (omega arith)) refl
reads_step threads thread number earlier (Reads i) below h small =
    let inside : nat_lt thread threads ≡ true = grind (arith, nat_tests) in
    rw (number-decimal thread (omega arith), inside, number-decimal (block_of thread i) (omega arith)) refl
reads_step threads thread number earlier Waits below h small =
    let inside : nat_lt thread threads ≡ true = grind (arith, nat_tests) in
    rw (number-decimal thread (omega arith), inside) refl
reads_step threads thread number earlier Closes below h small =
    let inside : nat_lt thread threads ≡ true = grind (arith, nat_tests) in
    rw (number-decimal thread (omega arith), inside) refl

some_words : (thread : ℕ) (step : Step) → 0 < length (step_words thread step)
some_words thread Opens = omega arith
some_words thread (Writes i) = omega arith
some_words thread (Reads i) = omega arith
some_words thread Waits = omega arith
some_words thread Closes = omega arith

after_step : (threads thread number : ℕ) (earlier : List Command) (step : Step) → thread < threads → thread < 16 → IsSmall step → number ≤ 20000
    → after_line threads earlier number (line_of thread step) ≡ Some (earlier ++ command_of thread number step ∷ [])
after_step threads thread number earlier step below h small few =
    let inside : nat_lt 20000 number ≡ false = grind (arith, nat_tests) in
    let words : words_of (line_of thread step) ≡ step_words thread step = words-spaced (step_words thread step) (words-of-step thread step h small) (some_words thread step) in
    let reads : words_command threads (λ t. lines_for t earlier) number (words_of (line_of thread step)) ≡ Some (command_of thread number step) =
    ap (words_command threads (λ t. lines_for t earlier) number) words ∙ reads_step threads thread number (λ t. lines_for t earlier) step below h small in
    rw (inside, (begins-step thread step h).bare, reads) refl

-- ---- a thread's lines

reads_steps : (threads thread number : ℕ) (earlier : List Command) (some : List Step) → thread < threads → thread < 16 → AreSmall some → number + length some ≤ 20001
    → commands_from threads (Some earlier) number (map (line_of thread) some) ≡ Some (earlier ++ step_commands thread number some)
unfolding step_commands
reads_steps threads thread number earlier [] below h small few = ap Some (sym (append-nil earlier))
reads_steps threads thread number earlier (step ∷ rest) below h small few =
    ap (λ s. commands_from threads s (number + 1) (map (line_of thread) rest)) (after_step threads thread number earlier step below h small.0 (omega arith))
    ∙ reads_steps threads thread (number + 1) (earlier ++ command_of thread number step ∷ []) rest below h small.1 (omega arith)
    ∙ ap Some (append_assoc earlier (command_of thread number step ∷ []) (step_commands thread (number + 1) rest))

lines-steps : (thread : ℕ) (some : List Step) (rest : List ℕ) → thread < 16 → AreSmall some → text_lines (steps_text thread some ++ rest) ≡ map (line_of thread) some ++ text_lines rest
unfolding steps_text
lines-steps thread [] rest h small = refl
lines-steps thread (step ∷ more) rest h small =
    ap text_lines (append_assoc (step_line thread step) (steps_text thread more) rest)
    ∙ lines_first (line_of thread step) (steps_text thread more ++ rest) (line_bytes (step_words thread step) (words-of-step thread step h small.0)) (begins-step thread step h).some
    ∙ ap (λ ls. line_of thread step ∷ ls) (lines-steps thread more rest h small.1)

-- ---- all threads' lines

unfoldable pub all_lines : ℕ → ℕ → List (List ℕ)
all_lines n zero = []
all_lines n (suc thread) = all_lines n thread ++ map (line_of thread) (steps n)

lines-generated : (n threads : ℕ) (rest : List ℕ) → n ≤ 500 → threads ≤ 16 → text_lines (generated n threads ++ rest) ≡ all_lines n threads ++ text_lines rest
unfolding all_lines generated
lines-generated n zero rest few h = refl
lines-generated n (suc thread) rest few h =
    ap text_lines (append_assoc (generated n thread) (steps_text thread (steps n)) rest)
    ∙ lines-generated n thread (steps_text thread (steps n) ++ rest) few (omega arith)
    ∙ ap (λ ls. all_lines n thread ++ ls) (lines-steps thread (steps n) rest (omega arith) (small-steps n few))
    ∙ sym (append_assoc (all_lines n thread) (map (line_of thread) (steps n)) (text_lines rest))

text-generated : (n threads : ℕ) → n ≤ 500 → threads ≤ 16 → text_lines (generated n threads) ≡ all_lines n threads
text-generated n threads few h =
    ap text_lines (sym (append-nil (generated n threads))) ∙ lines-generated n threads [] few h
    ∙ ap (λ ls. all_lines n threads ++ map without_terminator ls) lines-nil ∙ append-nil (all_lines n threads)

length-lines : (thread : ℕ) (some : List Step) → length (map (line_of thread) some) ≡ length some
length-lines thread [] = refl
length-lines thread (step ∷ rest) = omega (arith, length-lines thread rest)

length-same : (n threads : ℕ) → length (all_lines n threads) ≡ length (generated_commands n threads)
unfolding all_lines generated_commands
length-same n zero = refl
length-same n (suc thread) =
    omega (
      arith,
      length-append (all_lines n thread) (map (line_of thread) (steps n)),
      length-append (generated_commands n thread) (step_commands thread (1 + length (generated_commands n thread)) (steps n)),
      length-same n thread,
      length-lines thread (steps n),
      length-commands thread (1 + length (generated_commands n thread)) (steps n),
    )

reads_all : (threads n upto : ℕ) → n ≤ 500 → threads ≤ 16 → upto ≤ threads → commands_of threads (all_lines n upto) ≡ Some (generated_commands n upto)
unfolding all_lines generated_commands
reads_all threads n zero few h below = refl
reads_all threads n (suc thread) few h below =
    let size : length (all_lines n thread) ≡ length (generated_commands n thread) = length-same n thread in
    let room : (1 + length (generated_commands n thread)) + length (steps n) ≤ 20001 = omega (arith, length-generated n thread few, length-steps n few) in
    from-append threads (Some []) 1 (all_lines n thread) (map (line_of thread) (steps n))
    ∙ ap (λ s. commands_from threads s (1 + length (all_lines n thread)) (map (line_of thread) (steps n))) (reads_all threads n thread few h (omega arith))
    ∙ ap (λ m. commands_from threads (Some (generated_commands n thread)) (1 + m) (map (line_of thread) (steps n))) size
    ∙ reads_steps threads thread (1 + length (generated_commands n thread)) (generated_commands n thread) (steps n) (omega arith) (omega arith) (small-steps n few) room

-- the grammar reads the generated script
pub reads_generated : (n threads : ℕ) → n ≤ 500 → threads ≤ 16 → scripts_of threads (generated n threads) ≡ Some (generated_scripts n threads)
reads_generated n threads few h =
    ap (option_map (λ commands. scripts_below commands threads)) (ap (commands_of threads) (text-generated n threads few h) ∙ reads_all threads n threads few h (omega arith))
