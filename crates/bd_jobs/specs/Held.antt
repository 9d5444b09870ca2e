-- What a reader holds: the script of each thread, also of one without a line.
use Rattle.std.specs.Prelude.{ℕ, zero, suc, Bool, nat_lt, List, [], ◌∷◌, ◌++◌, length, Option, None, Some}
use Rattle.std.specs.List.{slice_get}
use Rattle.bd_base.specs.declared.job.Line.{Line}
use Rattle.bd_base.specs.declared.job.Script.{Script}
use Rattle.bd_jobs.specs.declared.command.Command.{Command}
use Rattle.bd_jobs.specs.ScriptGrammar.{lines_for}

-- the scripts of the threads below this one, for these commands
unfoldable pub all_scripts : List Command → ℕ → List Script
all_scripts commands zero = []
all_scripts commands (suc thread) = all_scripts commands thread ++ record { thread = thread; lines = lines_for thread commands } ∷ []

abbrev pub lines_if_any : Option Script → List Line
lines_if_any (Some script) = script.lines
lines_if_any None = []

-- the lines of a thread among these scripts, which go by thread
abbrev pub lines_at : List Script → ℕ → List Line
lines_at scripts thread = lines_if_any (slice_get scripts thread)

abbrev pub has_line : Script → Bool
has_line script = nat_lt 0 (length script.lines)
