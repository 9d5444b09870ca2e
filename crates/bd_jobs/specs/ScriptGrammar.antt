-- A script: lines of words, the command that each line has, and the script of each thread.
use Rattle.std.specs.Prelude.{◌≡◌, ℕ, zero, suc, ◌+◌, ◌-◌, Bool, cond, ◌||◌, ◌==◌, nat_lt, List, [], ◌∷◌, ◌++◌, map, take, slice_index, Option, None, Some, option_map, if◌then◌else◌}
use Rattle.std.specs.Option.{option_and_then}
use Rattle.std.specs.List.{list_all}
use Rattle.bstr.specs.Text.{lines_of, without_terminator}
use Rattle.bd_base.specs.declared.job.Job.{Job}
use Rattle.bd_base.specs.declared.job.Line.{Line}
use Rattle.bd_base.specs.declared.job.Script.{Script}
use Rattle.bd_jobs.specs.Words.{is_blank, words_of, number_of}
use Rattle.bd_jobs.specs.Commands.{command_job}
use Rattle.bd_jobs.specs.declared.command.Command.{Command}

-- ---- the commands of a text

-- the lines of a thread among these commands, in their order
abbrev pub lines_for : ℕ → List Command → List Line
lines_for thread [] = []
lines_for thread (command ∷ commands) = cond (command.thread == thread) (command.line ∷ lines_for thread commands) (lines_for thread commands)

abbrev pub command_on : ℕ → ℕ → Option Job → Option Command
command_on thread number (Some job) = Some (record { thread = thread; line = record { number = number; job = job } })
command_on thread number None = None

-- the thread's number is below the number of threads, and the words after it are a command
abbrev pub command_at : ℕ → (ℕ → List Line) → ℕ → Option ℕ → List ℕ → List (List ℕ) → Option Command
command_at threads earlier number None word args = None
command_at threads earlier number (Some thread) word args =
    if nat_lt thread threads then command_on thread number (command_job (earlier thread) word args) else None

-- the command of a line's words: a thread, the command's word, and what it takes; each thread has the lines that stand earlier
abbrev pub words_command : ℕ → (ℕ → List Line) → ℕ → List (List ℕ) → Option Command
words_command threads earlier number (thread ∷ word ∷ args) = command_at threads earlier number (number_of thread) word args
words_command threads earlier number _ = None

-- a line without a command: it is empty, has only blanks, or begins with #
abbrev pub is_bare : List ℕ → Bool
is_bare line = (slice_index line 0 == 35) || list_all is_blank line

abbrev pub with_command : List Command → Option Command → Option (List Command)
with_command commands (Some command) = Some (commands ++ command ∷ [])
with_command commands None = None

-- the most lines of a script
abbrev pub max_lines : ℕ
max_lines = 20000

-- these commands with that of the next line, which has this number; none where that line is outside the grammar
abbrev pub after_line : ℕ → List Command → ℕ → List ℕ → Option (List Command)
after_line threads commands number line =
    cond (nat_lt max_lines number) None
    (cond (is_bare line) (Some commands) (with_command commands (words_command threads (λ thread. lines_for thread commands) number (words_of line))))

-- the commands of these lines, the first of which has this number, after those of earlier ones; none where one is outside the grammar
abbrev pub commands_from : ℕ → Option (List Command) → ℕ → List (List ℕ) → Option (List Command)
commands_from threads commands number [] = commands
commands_from threads commands number (line ∷ lines) =
    commands_from threads (option_and_then (λ earlier. after_line threads earlier number line) commands) (number + 1) lines

-- the commands of lines from the first on
abbrev pub commands_of : ℕ → List (List ℕ) → Option (List Command)
commands_of threads lines = commands_from threads (Some []) 1 lines

-- ---- a text

-- the lines of a text, each without its line feed and a carriage return before that
abbrev pub text_lines : List ℕ → List (List ℕ)
text_lines bytes = map without_terminator (lines_of bytes)

-- a thread's script, where it has a line
abbrev pub script_if_any : ℕ → List Line → List Script
script_if_any thread [] = []
script_if_any thread (line ∷ lines) = record { thread = thread; lines = line ∷ lines } ∷ []

-- the scripts of the threads below this one that have a line, by rising thread
abbrev pub scripts_below : List Command → ℕ → List Script
scripts_below commands zero = []
scripts_below commands (suc thread) = scripts_below commands thread ++ script_if_any thread (lines_for thread commands)

-- the scripts that a text gives to this number of threads; none where it is outside the grammar
abbrev pub scripts_of : ℕ → List ℕ → Option (List Script)
scripts_of threads bytes = option_map (λ commands. scripts_below commands threads) (commands_of threads (text_lines bytes))

-- the line of this number is the first outside the grammar: the lines before it are inside, and with it they aren't
pub record IsFirstOutside (threads : ℕ) (bytes : List ℕ) (number : ℕ) : Type 0 where
  pub before : (commands : List Command) × (commands_of threads (take (number - 1) (text_lines bytes)) ≡ Some commands)
  pub outside : commands_of threads (take number (text_lines bytes)) ≡ None
