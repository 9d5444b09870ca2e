-- What a script may do next, from its next line and what is known of its thread.
use Rattle.std.specs.Prelude.{◌≡◌, Bool, cond, not, nat_lt, Option, Some, None, option_and_then}
use Rattle.bd_base.specs.declared.job.Job.{Job}
use Rattle.bd_base.specs.declared.job.Job.TheVariants as jobs
use Rattle.bd_base.specs.declared.job.Line.{Line}
use Rattle.bd_rule_lines.specs.declared.moves.Move.{Move}
use Rattle.bd_rule_lines.specs.declared.moves.Move.TheVariants as moves
use Rattle.bd_rule_lines.specs.declared.moves.Why.{Why}
use Rattle.bd_rule_lines.specs.declared.moves.Why.TheVariants as reasons
use Rattle.bd_rule_lines.specs.Known.{Known, has_room}

-- the reason, where it holds
abbrev pub where_holds : Bool → Why → Option Why
where_holds holds why = cond holds (Some why) None

-- what a command waits for, where it waits
abbrev pub waits_for : Known → Job → Option Why
waits_for known (jobs.Submit handle op lba count) = where_holds (not (has_room known.requests)) reasons.Room
waits_for known jobs.Wait = where_holds (nat_lt 0 known.requests) reasons.Requests
waits_for known (jobs.Sleep micros) = where_holds (not (known.has_slept micros)) reasons.Time
waits_for known (jobs.Await mark) = where_holds (not (known.has_mark mark)) reasons.Mark
waits_for known (jobs.Gone handle) = where_holds (known.awaits_removal handle) reasons.Gone
waits_for known (jobs.Sized handle blocks) = where_holds (known.awaits_size handle blocks) reasons.Size
waits_for known _ = None

-- the command of the next line
abbrev pub job_if_any : Option Line → Option Job
job_if_any None = None
job_if_any (Some line) = Some line.job

-- what the next line waits for, where there is one and it waits
abbrev pub line_waits_for : Known → Option Line → Option Why
line_waits_for known line = option_and_then (waits_for known) (job_if_any line)

-- the move that a script with this next line has
abbrev pub IsNextMove : Option Line → Known → Move → Type 0
IsNextMove line known (moves.Do job) = (job_if_any line ≡ Some job.now) × (waits_for known job.now ≡ None)
IsNextMove line known (moves.Blocked why) = line_waits_for known line ≡ Some why
IsNextMove line known moves.End = line ≡ None
