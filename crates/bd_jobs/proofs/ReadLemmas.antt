-- Reading a script line by line.
use Rattle.std.proofs.Common.{◌≡◌, ℕ, ◌+◌, ◌-◌, ◌<◌, ◌≤◌, Bool, true, false, nat_lt, Bor, map, List, [], ◌∷◌, ◌++◌, length, take, Option, None, Some, if◌then◌else◌, Result, Err, subst, refl, ap, arith, sym, ◌∙◌, append_assoc, length-append, filter}
use Rattle.std.specs.Prelude.{option_map}
use Rattle.std.specs.Option.{option_and_then}
use Rattle.std.proofs.lemmas.Bool.Decides.{nat_tests}
use Rattle.std.proofs.lemmas.List.{append-nil}
use Rattle.std.proofs.Math.Seq.{take-append_seam, take-append-add}
use Rattle.bd_base.specs.declared.job.Job.{Job}
use Rattle.bd_base.specs.declared.job.Line.{Line}
use Rattle.bd_base.specs.declared.job.Script.{Script}
use Rattle.bd_jobs.specs.declared.command.Command.{Command}
use Rattle.bd_jobs.specs.declared.read.JobError.{JobError}
use Rattle.bd_jobs.specs.declared.read.JobError.TheVariants as errors
use Rattle.bd_jobs.specs.Words.{words_of, number_of}
use Rattle.bd_jobs.specs.Commands.{command_job}
use Rattle.bd_jobs.specs.Held.{all_scripts, lines_at, has_line}
use Rattle.bd_jobs.specs.ScriptGrammar.{lines_for, command_on, command_at, words_command, is_bare, after_line, commands_from, commands_of, text_lines, scripts_below, scripts_of, IsFirstOutside}
use Rattle.bd_jobs.proofs.HeldLemmas.{length-all, lines_at-all, filter-all}

-- ---- the words of a line

-- no words, or a thread alone
pub no_command : (threads : ℕ) (earlier : ℕ → List Line) (number : ℕ) (words : List (Bor (List ℕ))) → length words < 2 → None ≡ words_command threads earlier number (map (λ w. w.now) words)
no_command threads earlier number [] h = refl
no_command threads earlier number (thread ∷ []) h = refl
no_command threads earlier number (thread ∷ word ∷ args) h = absurd (omega arith)

same_at : (threads number : ℕ) (a b : ℕ → List Line) (thread : ℕ) (word : List ℕ) (args : List (List ℕ)) (below : Bool) → nat_lt thread threads ≡ below
    → ((t : ℕ) → t < threads → a t ≡ b t) → command_at threads a number (Some thread) word args ≡ command_at threads b number (Some thread) word args
same_at threads number a b thread word args true e same =
    let lines : a thread ≡ b thread = same thread (grind (arith, nat_tests, e)) in
    ap (λ ls. if nat_lt thread threads then command_on thread number (command_job ls word args) else None) lines
same_at threads number a b thread word args false e same = rw e refl

same_for : (threads number : ℕ) (a b : ℕ → List Line) (thread : Option ℕ) (word : List ℕ) (args : List (List ℕ))
    → ((t : ℕ) → t < threads → a t ≡ b t) → command_at threads a number thread word args ≡ command_at threads b number thread word args
same_for threads number a b None word args same = refl
same_for threads number a b (Some thread) word args same = same_at threads number a b thread word args (nat_lt thread threads) refl same

-- a line's command depends on the lines of the threads that there are
same_command : (threads number : ℕ) (a b : ℕ → List Line) (words : List (List ℕ)) → ((t : ℕ) → t < threads → a t ≡ b t) → words_command threads a number words ≡ words_command threads b number words
same_command threads number a b [] same = refl
same_command threads number a b (thread ∷ []) same = refl
same_command threads number a b (thread ∷ word ∷ args) same = same_for threads number a b (number_of thread) word args same

-- ---- the fold over lines

pub from-append : (threads : ℕ) (commands : Option (List Command)) (number : ℕ) (xs ys : List (List ℕ))
    → commands_from threads commands number (xs ++ ys) ≡ commands_from threads (commands_from threads commands number xs) (number + length xs) ys
from-append threads commands number [] ys = ap (λ n. commands_from threads commands n ys) (omega arith)
from-append threads commands number (x ∷ xs) ys =
    let next : Option (List Command) = option_and_then (λ earlier. after_line threads earlier number x) commands in
    from-append threads next (number + 1) xs ys ∙ ap (λ n. commands_from threads (commands_from threads next (number + 1) xs) n ys) (omega arith)

-- nothing comes of lines after one that is outside
pub from-none : (threads number : ℕ) (xs : List (List ℕ)) → commands_from threads None number xs ≡ None
from-none threads number [] = refl
from-none threads number (x ∷ xs) = from-none threads (number + 1) xs

-- the line after lines that are inside
from-next : (threads : ℕ) (front : List (List ℕ)) (commands : List Command) (line : List ℕ) (rest : List (List ℕ)) → commands_of threads front ≡ Some commands
    → commands_of threads (front ++ line ∷ rest) ≡ commands_from threads (after_line threads commands (1 + length front) line) ((1 + length front) + 1) rest
from-next threads front commands line rest reads =
    from-append threads (Some []) 1 front (line ∷ rest) ∙ ap (λ s. commands_from threads s (1 + length front) (line ∷ rest)) reads

-- ---- a thread that there is

below_on : (thread threads number : ℕ) (job : Option Job) (command : Command) → thread < threads → command_on thread number job ≡ Some command → command.thread < threads
below_on thread threads number None command h e = absurd (cc)
below_on thread threads number (Some job) command h e =
    let same : command.thread ≡ thread = cc in
    omega arith

below_if : (thread threads number : ℕ) (job : Option Job) (command : Command) (below : Bool) → nat_lt thread threads ≡ below → (if below then command_on thread number job else None) ≡ Some command → command.thread < threads
below_if thread threads number job command true h e = below_on thread threads number job command (grind (arith, nat_tests, h)) e
below_if thread threads number job command false h e = absurd (cc)

below_at : (threads number : ℕ) (a : ℕ → List Line) (thread : Option ℕ) (word : List ℕ) (args : List (List ℕ)) (command : Command) → command_at threads a number thread word args ≡ Some command → command.thread < threads
below_at threads number a None word args command e = absurd (cc)
below_at threads number a (Some thread) word args command e = below_if thread threads number (command_job (a thread) word args) command (nat_lt thread threads) refl e

-- a command's thread is one of those that there are
pub thread_below : (threads number : ℕ) (a : ℕ → List Line) (words : List (List ℕ)) (command : Command) → words_command threads a number words ≡ Some command → command.thread < threads
thread_below threads number a [] command e = absurd (cc)
thread_below threads number a (thread ∷ []) command e = absurd (cc)
thread_below threads number a (thread ∷ word ∷ args) command e = below_at threads number a (number_of thread) word args command e

-- ---- a reader

-- what a reader that has come to this line knows
pub record HasRead (threads : ℕ) (bytes : List ℕ) (scripts : List Script) (number : ℕ) (left : List (List ℕ)) : Type 0 where
  pub front : List (List ℕ)
  pub commands : List Command
  pub lines : text_lines bytes ≡ front ++ left
  pub place : number ≡ 1 + length front
  pub reads : commands_of threads front ≡ Some commands
  pub held : scripts ≡ all_scripts commands threads

pub begins : (threads : ℕ) (bytes : List ℕ) (scripts : List Script) (left : List (List ℕ)) → scripts ≡ all_scripts [] threads → left ≡ text_lines bytes → HasRead threads bytes scripts 1 left
begins threads bytes scripts left held e = record { front = []; commands = []; lines = sym e; place = refl; reads = refl; held = held }

-- one line further
one_further : (threads : ℕ) (bytes : List ℕ) (scripts new : List Script) (number : ℕ) (left rest : List (List ℕ)) (line : List ℕ) (known : HasRead threads bytes scripts number left) (more : List Command)
    → left ≡ line ∷ rest → after_line threads known.commands number line ≡ Some more → new ≡ all_scripts more threads → HasRead threads bytes new (number + 1) rest
one_further threads bytes scripts new number left rest line known more e after held = record {
  front = known.front ++ line ∷ [];
  commands = more;
  lines = known.lines ∙ ap (λ ls. known.front ++ ls) e ∙ sym (append_assoc known.front (line ∷ []) rest);
  place = omega (arith, known.place, length-append known.front (line ∷ []));
  reads = from-next threads known.front known.commands line [] known.reads ∙ ap (λ n. after_line threads known.commands n line) (sym known.place) ∙ after;
  held = held;
}

-- the lines that each thread has so far
lines_so_far : (threads : ℕ) (bytes : List ℕ) (scripts : List Script) (number : ℕ) (left : List (List ℕ)) (known : HasRead threads bytes scripts number left) (words : List (List ℕ))
    → words_command threads (λ thread. lines_for thread known.commands) number words ≡ words_command threads (lines_at scripts) number words
lines_so_far threads bytes scripts number left known words =
    sym (same_command threads number (lines_at scripts) (λ thread. lines_for thread known.commands) words (λ t below. ap (λ xs. lines_at xs t) known.held ∙ lines_at-all known.commands threads t below))

pub reads_bare : (threads : ℕ) (bytes : List ℕ) (scripts : List Script) (number : ℕ) (left rest : List (List ℕ)) (line : List ℕ) → HasRead threads bytes scripts number left
    → number ≤ 20000 → left ≡ line ∷ rest → is_bare line ≡ true → HasRead threads bytes scripts (number + 1) rest
reads_bare threads bytes scripts number left rest line known few e bare =
    let inside : nat_lt 20000 number ≡ false = grind (arith, nat_tests) in
    one_further threads bytes scripts scripts number left rest line known known.commands e (rw (inside, bare) refl) known.held

pub reads_command : (threads : ℕ) (bytes : List ℕ) (scripts new : List Script) (number : ℕ) (left rest : List (List ℕ)) (line : List ℕ) (command : Command) → HasRead threads bytes scripts number left
    → number ≤ 20000 → left ≡ line ∷ rest → is_bare line ≡ false → words_command threads (lines_at scripts) number (words_of line) ≡ Some command
    → ((commands : List Command) → (n : ℕ) → scripts ≡ all_scripts commands n → new ≡ all_scripts (commands ++ command ∷ []) n) → HasRead threads bytes new (number + 1) rest
reads_command threads bytes scripts new number left rest line command known few e bare has added =
    let inside : nat_lt 20000 number ≡ false = grind (arith, nat_tests) in
    let own : words_command threads (λ thread. lines_for thread known.commands) number (words_of line) ≡ Some command = lines_so_far threads bytes scripts number left known (words_of line) ∙ has in
    one_further threads bytes scripts new number left rest line known (known.commands ++ command ∷ []) e (rw (inside, bare, own) refl) (added known.commands threads known.held)

-- the number of scripts that a reader holds
pub holds_all : (threads : ℕ) (bytes : List ℕ) (scripts : List Script) (number : ℕ) (left : List (List ℕ)) → HasRead threads bytes scripts number left → length scripts ≡ threads
holds_all threads bytes scripts number left known = ap length known.held ∙ length-all known.commands threads

-- ---- lines outside the grammar

-- what is known of a line that is the first outside
pub record Refuses (threads : ℕ) (bytes : List ℕ) (number : ℕ) : Type 0 where
  pub first : IsFirstOutside threads bytes number
  pub whole : scripts_of threads bytes ≡ None

refuses : (threads : ℕ) (bytes : List ℕ) (scripts : List Script) (number : ℕ) (left rest : List (List ℕ)) (line : List ℕ) (known : HasRead threads bytes scripts number left)
    → left ≡ line ∷ rest → after_line threads known.commands number line ≡ None → Refuses threads bytes number
refuses threads bytes scripts number left rest line known e after =
    let here : after_line threads known.commands (1 + length known.front) line ≡ None = ap (λ n. after_line threads known.commands n line) (sym known.place) ∙ after in
    let all : text_lines bytes ≡ known.front ++ line ∷ rest = known.lines ∙ ap (λ ls. known.front ++ ls) e in
    let before : number - 1 ≡ length known.front = omega (arith, known.place) in
    let upto : number ≡ length known.front + 1 = omega (arith, known.place) in
    let inside : take (number - 1) (text_lines bytes) ≡ known.front =
    ap (λ n. take n (text_lines bytes)) before ∙ ap (take (length known.front)) all ∙ take-append_seam known.front (line ∷ rest) in
    let outside : take number (text_lines bytes) ≡ known.front ++ line ∷ [] =
    ap (λ n. take n (text_lines bytes)) upto ∙ ap (take (length known.front + 1)) all ∙ take-append-add known.front (line ∷ rest) 1 in
    let none : commands_of threads (text_lines bytes) ≡ None =
    ap (commands_of threads) all ∙ from-next threads known.front known.commands line rest known.reads
    ∙ ap (λ s. commands_from threads s ((1 + length known.front) + 1) rest) here ∙ from-none threads ((1 + length known.front) + 1) rest in
    record {
      first = record {
        before = (known.commands, ap (commands_of threads) inside ∙ known.reads);
        outside = ap (commands_of threads) outside ∙ from-next threads known.front known.commands line [] known.reads ∙ here;
      };
      whole = ap (option_map (λ commands. scripts_below commands threads)) none;
    }

-- the line that a reader names
same_line : {T : Type 0} → (at number : ℕ) → ◌≡◌ {A = Result T JobError} (Err (errors.Line at)) (Err (errors.Line number)) → at ≡ number
same_line at number e = cc

pub names_first : {T : Type 0} → (threads : ℕ) (bytes : List ℕ) (at number : ℕ) → Refuses threads bytes at → ◌≡◌ {A = Result T JobError} (Err (errors.Line at)) (Err (errors.Line number)) → IsFirstOutside threads bytes number
names_first {T} threads bytes at number refused e =
    let P : ℕ → Type 0 = λ n. IsFirstOutside threads bytes n in
    subst P (same_line {T = T} at number e) refused.first

-- a line too many
pub is_too_long : (threads : ℕ) (bytes : List ℕ) (scripts : List Script) (number : ℕ) (left rest : List (List ℕ)) (line : List ℕ) → HasRead threads bytes scripts number left
    → left ≡ line ∷ rest → 20000 < number → Refuses threads bytes number
is_too_long threads bytes scripts number left rest line known e above =
    let outside : nat_lt 20000 number ≡ true = grind (arith, nat_tests) in
    refuses threads bytes scripts number left rest line known e (rw outside refl)

-- a line that is no command
pub is_no_command : (threads : ℕ) (bytes : List ℕ) (scripts : List Script) (number : ℕ) (left rest : List (List ℕ)) (line : List ℕ) → HasRead threads bytes scripts number left
    → number ≤ 20000 → left ≡ line ∷ rest → is_bare line ≡ false → words_command threads (lines_at scripts) number (words_of line) ≡ None → Refuses threads bytes number
is_no_command threads bytes scripts number left rest line known few e bare has =
    let inside : nat_lt 20000 number ≡ false = grind (arith, nat_tests) in
    let own : words_command threads (λ thread. lines_for thread known.commands) number (words_of line) ≡ None = lines_so_far threads bytes scripts number left known (words_of line) ∙ has in
    refuses threads bytes scripts number left rest line known e (rw (inside, bare, own) refl)

-- ---- the end of a text

pub ends : (threads : ℕ) (bytes : List ℕ) (scripts : List Script) (number : ℕ) (left : List (List ℕ)) → HasRead threads bytes scripts number left → left ≡ [] → scripts_of threads bytes ≡ Some (filter has_line scripts)
ends threads bytes scripts number left known e =
    let all : text_lines bytes ≡ known.front = known.lines ∙ ap (λ ls. known.front ++ ls) e ∙ append-nil known.front in
    ap (option_map (λ commands. scripts_below commands threads)) (ap (commands_of threads) all ∙ known.reads)
    ∙ ap Some (sym (ap (filter has_line) known.held ∙ filter-all known.commands threads))
