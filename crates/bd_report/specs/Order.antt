-- The commands of all scripts, as pairs of a thread and its line.
use Rattle.std.specs.Prelude.{ℕ, List, map, flat_map}
use Rattle.bd_base.specs.declared.act.Entry.{Entry}
use Rattle.bd_base.specs.declared.job.Line.{Line}
use Rattle.bd_base.specs.declared.job.Script.{Script}
use Rattle.bd_report.specs.declared.order.Command.{Command}
use Rattle.bd_report.specs.Report.{job_line}

-- a command without the place where its line lies
abbrev pub as_told : Command → ℕ × Line
as_told command = (command.thread, command.line.now)

-- the commands of a script
abbrev pub commands_in : Script → List (ℕ × Line)
commands_in script = map (λ line. (script.thread, line)) script.lines

-- the commands of all scripts, in the order of the scripts
abbrev pub commands_of : List Script → List (ℕ × Line)
commands_of scripts = flat_map commands_in scripts

-- the report's line of a command
abbrev pub command_line : List Entry → Command → List ℕ
command_line trace command = job_line trace command.thread command.line.now
