-- What a reader holds, against the commands that it has read.
use Rattle.std.proofs.Common.{◌≡◌, ℕ, zero, suc, ◌+◌, ◌<◌, ◌≤◌, ◌==◌, Bool, true, false, cond, nat_lt, add-one, List, [], ◌∷◌, ◌++◌, length, slice_set, slice_index_or, Some, refl, ap, sym, ◌∙◌, arith, subst, filter, length-append}
use Rattle.std.specs.List.{slice_get}
use Rattle.std.proofs.Math.ListN.{set}
use Rattle.std.proofs.Math.Seq.{set-append_seam}
use Rattle.std.proofs.lemmas.Bool.Decides.{nat_tests}
use Rattle.std.proofs.lemmas.List.{set-append_left}
use Rattle.std.proofs.lemmas.List.Elements.{filter-append}
use Rattle.std.proofs.lemmas.Option.{get_or_from_slice_get}
use Rattle.bd_base.specs.declared.job.Line.{Line}
use Rattle.bd_base.specs.declared.job.Script.{Script}
use Rattle.bd_jobs.specs.declared.command.Command.{Command}
use Rattle.bd_jobs.specs.Held.{all_scripts, lines_if_any, lines_at, has_line}
use Rattle.bd_jobs.specs.ScriptGrammar.{lines_for, script_if_any, scripts_below}

-- a thread's script
abbrev pub script_for : List Command → ℕ → Script
script_for commands thread = record { thread = thread; lines = lines_for thread commands }

pub all_scripts-none : (commands : List Command) → all_scripts commands 0 ≡ []
unfolding all_scripts
all_scripts-none commands = refl

pub all_scripts-more : (commands : List Command) (n : ℕ) → all_scripts commands (n + 1) ≡ all_scripts commands n ++ script_for commands n ∷ []
unfolding all_scripts
all_scripts-more commands n = rw add-one refl

pub length-all : (commands : List Command) (n : ℕ) → length (all_scripts commands n) ≡ n
unfolding all_scripts
length-all commands zero = refl
length-all commands (suc n) = omega (arith, length-append (all_scripts commands n) (script_for commands n ∷ []), length-all commands n)

-- ---- reading

get-seam : (xs : List Script) (y : Script) → slice_get (xs ++ y ∷ []) (length xs) ≡ Some y
get-seam [] y = refl
get-seam (x ∷ xs) y = get-seam xs y

get-left : (xs : List Script) (y : Script) (t : ℕ) → t < length xs → slice_get (xs ++ y ∷ []) t ≡ slice_get xs t
get-left [] y t h = absurd (omega arith)
get-left (x ∷ xs) y zero h = refl
get-left (x ∷ xs) y (suc t) h = get-left xs y t (omega arith)

get-more : (commands : List Command) (n t : ℕ) (b : Bool) → nat_lt t n ≡ b → t < n + 1 → (t < n → slice_get (all_scripts commands n) t ≡ Some (script_for commands t))
    → slice_get (all_scripts commands n ++ script_for commands n ∷ []) t ≡ Some (script_for commands t)
get-more commands n t true e h before =
    let below : t < n = grind (arith, nat_tests, e) in
    get-left (all_scripts commands n) (script_for commands n) t (omega (arith, length-all commands n)) ∙ before below
get-more commands n t false e h before =
    let same : n ≡ t = grind (arith, nat_tests, e) in
    let all : List Script = all_scripts commands n in
    let P : ℕ → Type 0 = λ m. slice_get (all ++ script_for commands n ∷ []) m ≡ Some (script_for commands m) in
    subst P same (ap (λ m. slice_get (all ++ script_for commands n ∷ []) m) (sym (length-all commands n)) ∙ get-seam all (script_for commands n))

get-all : (commands : List Command) (n t : ℕ) → t < n → slice_get (all_scripts commands n) t ≡ Some (script_for commands t)
unfolding all_scripts
get-all commands zero t h = absurd (omega arith)
get-all commands (suc n) t h = get-more commands n t (nat_lt t n) refl (omega arith) (λ below. get-all commands n t below)

-- a thread's lines
pub lines_at-all : (commands : List Command) (n t : ℕ) → t < n → lines_at (all_scripts commands n) t ≡ lines_for t commands
lines_at-all commands n t h = ap lines_if_any (get-all commands n t h)

-- ---- one more command

lines_for-other : (commands : List Command) (c : Command) (t : ℕ) → (c.thread == t) ≡ false → lines_for t (commands ++ c ∷ []) ≡ lines_for t commands
lines_for-other [] c t h = rw h refl
lines_for-other (d ∷ ds) c t h = rw (lines_for-other ds c t h) refl

lines_for-own : (commands : List Command) (c : Command) (t : ℕ) → (c.thread == t) ≡ true → lines_for t (commands ++ c ∷ []) ≡ lines_for t commands ++ c.line ∷ []
lines_for-own [] c t h = rw h refl
lines_for-own (d ∷ ds) c t h =
    let P : Bool → Type 0 = λ b. cond b (d.line ∷ lines_for t (ds ++ c ∷ [])) (lines_for t (ds ++ c ∷ [])) ≡ cond b (d.line ∷ lines_for t ds) (lines_for t ds) ++ c.line ∷ [] in
    elim (d.thread == t) as P [
      | true ↦ ap (λ ls. d.line ∷ ls) (lines_for-own ds c t h)
      | false ↦ lines_for-own ds c t h
    ]

untouched : (commands : List Command) (c : Command) (n : ℕ) → n ≤ c.thread → all_scripts (commands ++ c ∷ []) n ≡ all_scripts commands n
unfolding all_scripts
untouched commands c zero h = refl
untouched commands c (suc n) h =
    let other : (c.thread == n) ≡ false = grind (arith, nat_tests) in
    rw (untouched commands c n (omega arith), lines_for-other commands c n other) refl

-- the thread's script with the command after its lines
abbrev pub one_more : List Command → Command → Script
one_more commands c = record { thread = c.thread; lines = lines_for c.thread commands ++ c.line ∷ [] }

one_more-is : (commands : List Command) (c : Command) → one_more commands c ≡ script_for (commands ++ c ∷ []) c.thread
one_more-is commands c =
    let own : (c.thread == c.thread) ≡ true = grind (arith, nat_tests) in
    ap (λ ls. record { thread = c.thread; lines = ls }) (sym (lines_for-own commands c c.thread own))

set-more : (commands : List Command) (c : Command) (n : ℕ) (b : Bool) → nat_lt c.thread n ≡ b → c.thread < n + 1
    → (c.thread < n → set (all_scripts commands n) c.thread (one_more commands c) ≡ all_scripts (commands ++ c ∷ []) n)
    → set (all_scripts commands n ++ script_for commands n ∷ []) c.thread (one_more commands c) ≡ all_scripts (commands ++ c ∷ []) n ++ script_for (commands ++ c ∷ []) n ∷ []
set-more commands c n true e h before =
    let below : c.thread < n = grind (arith, nat_tests, e) in
    let other : (c.thread == n) ≡ false = grind (arith, nat_tests) in
    let all : List Script = all_scripts commands n in
    let new : List Script = all_scripts (commands ++ c ∷ []) n in
    set-append_left all (script_for commands n ∷ []) c.thread (one_more commands c) (omega (arith, length-all commands n))
    ∙ ap (λ xs. xs ++ script_for commands n ∷ []) (before below)
    ∙ ap (λ ls. new ++ record { thread = n; lines = ls } ∷ []) (sym (lines_for-other commands c n other))
set-more commands c n false e h before =
    let same : c.thread ≡ n = grind (arith, nat_tests, e) in
    let all : List Script = all_scripts commands n in
    let new : List Script = all_scripts (commands ++ c ∷ []) n in
    ap (λ k. set (all ++ script_for commands n ∷ []) k (one_more commands c)) (same ∙ sym (length-all commands n))
    ∙ set-append_seam all (script_for commands n) [] (one_more commands c)
    ∙ ap (λ xs. xs ++ one_more commands c ∷ []) (sym (untouched commands c n (omega (arith, same))))
    ∙ ap (λ x. new ++ x ∷ []) (one_more-is commands c ∙ ap (script_for (commands ++ c ∷ [])) same)

set-all : (commands : List Command) (c : Command) (n : ℕ) → c.thread < n → set (all_scripts commands n) c.thread (one_more commands c) ≡ all_scripts (commands ++ c ∷ []) n
unfolding all_scripts
set-all commands c zero h = absurd (omega arith)
set-all commands c (suc n) h = set-more commands c n (nat_lt c.thread n) refl (omega arith) (λ below. set-all commands c n below)

-- ---- the scripts that have a line

keeps : (thread : ℕ) (lines : List Line) → filter has_line (record { thread = thread; lines = lines } ∷ []) ≡ script_if_any thread lines
keeps thread [] = refl
keeps thread (line ∷ lines) =
    let some : has_line (record { thread = thread; lines = line ∷ lines }) ≡ true = grind (arith, nat_tests) in
    rw some refl

pub filter-all : (commands : List Command) (n : ℕ) → filter has_line (all_scripts commands n) ≡ scripts_below commands n
unfolding all_scripts
filter-all commands zero = refl
filter-all commands (suc n) =
    filter-append has_line (all_scripts commands n) (script_for commands n ∷ []) ∙ (rw (filter-all commands n, keeps n (lines_for n commands)) refl)

-- ---- adding

pub adds : (scripts : List Script) (command : Command) (script : Script) (lines : List Line) (commands : List Command) (threads : ℕ)
    → command.thread < length scripts → script ≡ slice_index_or scripts command.thread script → lines ≡ script.lines ++ command.line ∷ [] → scripts ≡ all_scripts commands threads
    → slice_set scripts command.thread (record { thread = script.thread; lines = lines }) ≡ all_scripts (commands ++ command ∷ []) threads
adds scripts command script lines commands threads within is more held =
    let below : command.thread < threads = omega (arith, ap length held, length-all commands threads) in
    let own : script ≡ script_for commands command.thread =
    is ∙ ap (λ xs. slice_index_or xs command.thread script) held
    ∙ get_or_from_slice_get (all_scripts commands threads) command.thread (script_for commands command.thread) script (get-all commands threads command.thread below) in
    let new : record { thread = script.thread; lines = lines } ≡ one_more commands command =
    ap (λ ls. record { thread = script.thread; lines = ls }) more ∙ ap (λ s. record { thread = s.thread; lines = s.lines ++ command.line ∷ [] }) own in
    ap (λ xs. set xs command.thread (record { thread = script.thread; lines = lines })) held
    ∙ ap (set (all_scripts commands threads) command.thread) new
    ∙ set-all commands command threads below
