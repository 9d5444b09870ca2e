-- The report of a run, as a function of its setup and its trace.
use Rattle.std.specs.Prelude.{ℕ, ◌+◌, Bool, true, false, not, ◌&&◌, ◌==◌, if◌then◌else◌, List, [], ◌∷◌, ◌++◌, take, length, max, codes, decimal, flat_map, filter_map, fold, Option, Some, None}
use Rattle.std.specs.List.{before_first, filter, find, list_any, range_with_len, slice_get}
use Rattle.std.specs.Option.{option_and_then, option_map}
use Rattle.hex.specs.Hex.{encode_lower}
use Rattle.bd_base.specs.Errno.{number_of}
use Rattle.bd_base.specs.Word.{job_word, status_word, kind_word}
use Rattle.bd_base.specs.declared.act.Act.{Act}
use Rattle.bd_base.specs.declared.act.Act.TheVariants as acts
use Rattle.bd_base.specs.declared.act.Entry.{Entry}
use Rattle.bd_base.specs.declared.act.Outcome.{Outcome}
use Rattle.bd_base.specs.declared.act.Outcome.TheVariants as outcomes
use Rattle.bd_base.specs.declared.act.Token.TheVariants as tokens
use Rattle.bd_base.specs.declared.device.DevRow.{DevRow}
use Rattle.bd_base.specs.declared.device.Kind.{Kind}
use Rattle.bd_base.specs.declared.device.Kind.TheVariants.{Malloc}
use Rattle.bd_base.specs.declared.event.Answer.TheVariants as answers
use Rattle.bd_base.specs.declared.event.RegEvent.TheVariants as events
use Rattle.bd_base.specs.declared.id.ReqId.{ReqId}
use Rattle.bd_base.specs.declared.job.Job.{Job}
use Rattle.bd_base.specs.declared.job.Job.TheVariants as jobs
use Rattle.bd_base.specs.declared.job.Line.{Line}
use Rattle.bd_base.specs.declared.job.Script.{Script}
use Rattle.bd_base.specs.declared.request.Shown.{Shown}
use Rattle.bd_base.specs.declared.request.Status.{Status}
use Rattle.bd_base.specs.declared.setup.Setup.{Setup}
use Rattle.bd_base.specs.declared.setup.Waiting.{Waiting}
use Rattle.bd_report.specs.declared.counts.Counts.{Counts}
use Rattle.bd_report.specs.declared.stats.Stats.{Stats}
use Rattle.bd_report.specs.declared.traffic.Traffic.{Traffic}
use Rattle.bd_report.specs.Counts.{count_acts}
use Rattle.bd_report.specs.Stats.{stats_of}
use Rattle.bd_report.specs.Traffic.{same_request}

-- ---- what the trace says

-- the first thing that is found in an entry
abbrev pub first_found : {X : Type 0} → (Entry → Option X) → List Entry → Option X
first_found found trace = slice_get (filter_map found trace) 0

-- the outcome of a line, if the act is that line's
abbrev pub outcome_in_act : ℕ → Act → Option Outcome
outcome_in_act number (acts.Script line outcome) = if line == number then Some outcome else None
outcome_in_act number _ = None

-- the outcome of a thread's line, if the entry is that line's
abbrev pub outcome_in : ℕ → ℕ → Entry → Option Outcome
outcome_in thread number entry = if entry.thread == thread then outcome_in_act number entry.act else None

-- a request's status and what it showed, if the act is its completion
abbrev pub completion_in_act : ReqId → Act → Option (Status × Option Shown)
completion_in_act request (acts.Complete req status shown) = if same_request req request then Some (status, shown) else None
completion_in_act request _ = None

-- the same of an entry
abbrev pub completion_in : ReqId → Entry → Option (Status × Option Shown)
completion_in request entry = completion_in_act request entry.act

-- the digest of a device's contents, if the act is its destruction and tells one
abbrev pub digest_in_act : ℕ → Act → Option (List ℕ)
digest_in_act device (acts.Destruct dev digest) = if dev.0 == device then digest else None
digest_in_act device _ = None

-- the same of an entry
abbrev pub digest_in : ℕ → Entry → Option (List ℕ)
digest_in device entry = digest_in_act device entry.act

-- ---- lines of commands

-- what a read showed
abbrev pub shown_words : Option Shown → List ℕ
shown_words None = []
shown_words (Some shown) = codes " first " ++ encode_lower shown.first ++ codes " sha256 " ++ encode_lower shown.digest

-- how a request ended; one without an end counts as skipped
abbrev pub completion_words : Option (Status × Option Shown) → List ℕ
completion_words None = codes "skipped"
completion_words (Some completion) = status_word completion.0 ++ shown_words completion.1

-- the outcome of a command; one without an outcome was skipped
abbrev pub outcome_words : List Entry → Option Outcome → List ℕ
outcome_words trace None = codes "skipped"
outcome_words trace (Some outcomes.Done) = codes "ok"
outcome_words trace (Some (outcomes.Errno errno)) = codes "errno " ++ decimal (number_of errno)
outcome_words trace (Some (outcomes.BusyOpen count)) = codes "errno 16 open " ++ decimal count
outcome_words trace (Some (outcomes.Accepted req)) = completion_words (first_found (completion_in req) trace)

-- a thread's command: its line number, thread, word and outcome
abbrev pub job_line : List Entry → ℕ → Line → List ℕ
job_line trace thread line =
    codes "job " ++ decimal line.number ++ codes " " ++ decimal thread ++ codes " " ++ job_word line.job ++ codes " " ++
    outcome_words trace (first_found (outcome_in thread line.number) trace) ++ codes "\n"

-- a line's text where the line has this number
abbrev pub job_line_if : List Entry → ℕ → ℕ → Line → List ℕ
job_line_if trace number thread line = if line.number == number then job_line trace thread line else []

-- the command with this number in a script
abbrev pub script_lines : List Entry → ℕ → Script → List ℕ
script_lines trace number script = flat_map (job_line_if trace number script.thread) script.lines

-- the command with this number in any script
abbrev pub lines_numbered : List Script → List Entry → ℕ → List ℕ
lines_numbered scripts trace number = flat_map (script_lines trace number) scripts

-- the greatest line number of a script
abbrev pub greatest_in : Script → ℕ
greatest_in script = fold (λ greatest line. max greatest line.number) 0 script.lines

-- the greatest line number of all
abbrev pub greatest_number : List Script → ℕ
greatest_number scripts = fold (λ greatest script. max greatest (greatest_in script)) 0 scripts

-- the commands in rising order of line number
abbrev pub job_lines : List Script → List Entry → List ℕ
job_lines scripts trace = flat_map (lines_numbered scripts trace) (range_with_len 0 (greatest_number scripts + 1))

-- ---- lines of removed handles

-- a handle that a thread opened for a line of its script: its number, the name that the line gives it, and its device's name
pub record Handle : Type 0 where
  pub thread : ℕ
  pub number : ℕ
  pub name : List ℕ
  pub device : List ℕ

-- a script's line was done
abbrev pub is_script : Act → Bool
is_script (acts.Script line outcome) = true
is_script _ = false

-- how many lines a thread has done
abbrev pub lines_done : List Entry → ℕ → ℕ
lines_done entries thread = count_acts is_script (Some thread) entries

-- the lines of a script, if there is one
abbrev pub lines_in : Option Script → List Line
lines_in None = []
lines_in (Some script) = script.lines

-- a thread's lines
abbrev pub lines_of : List Script → ℕ → List Line
lines_of scripts thread = lines_in (find (λ script. script.thread == thread) scripts)

-- the name that a command gives to the handle that it opens
abbrev pub name_in : Job → Option (List ℕ)
name_in (jobs.Open handle dev write) = Some handle
name_in _ = None

-- the name that a thread's next line gives to the handle that it opens, by how many lines the thread has done
abbrev pub next_name : List Script → ℕ → ℕ → Option (List ℕ)
next_name scripts thread done = option_and_then (λ line. name_in line.job) (slice_get (lines_of scripts thread) done)

-- the number and the device's name of the handle that the act opens
abbrev pub opened_in_act : Act → Option (ℕ × List ℕ)
opened_in_act (acts.Reg (events.Open device write) (answers.Opened handle dev blocks)) = Some (handle.0, device)
opened_in_act _ = None

-- a thread's handle with this number and device, if it has a name
abbrev pub handle_named : ℕ → Option (List ℕ) → ℕ × List ℕ → Option Handle
handle_named thread name opened = option_map (λ n. record { thread = thread; number = opened.0; name = n; device = opened.1 }) name

-- the handle that an entry opens for the next line of its thread, by how many lines the thread has done
abbrev pub opened_in : List Script → ℕ → Entry → Option Handle
opened_in scripts done entry = option_and_then (handle_named entry.thread (next_name scripts entry.thread done)) (opened_in_act entry.act)

-- the handle that the entry at this place opens for its thread's next line
abbrev pub opened_at : List Script → List Entry → ℕ → Option Handle
opened_at scripts trace place =
    option_and_then (λ entry. opened_in scripts (lines_done (take place trace) entry.thread) entry) (slice_get trace place)

-- the handles that were opened for the lines of scripts
abbrev pub opened_handles : List Script → List Entry → List Handle
opened_handles scripts trace = filter_map (opened_at scripts trace) (range_with_len 0 (length trace))

-- the number of the handle whose remove event the act takes
abbrev pub gone_in : Act → Option ℕ
gone_in (acts.Took source number (tokens.Gone handle)) = Some handle.0
gone_in _ = None

-- the number of the handle that the act closes
abbrev pub closed_in : Act → Option ℕ
closed_in (acts.Reg (events.Close handle) (answers.Closed destruct)) = Some handle.0
closed_in _ = None

-- whether this number was found
abbrev pub is_number : ℕ → Option ℕ → Bool
is_number number None = false
is_number number (Some found) = found == number

-- whether the thread takes the handle's remove event
abbrev pub is_told : ℕ → ℕ → Entry → Bool
is_told thread number entry = (entry.thread == thread) && is_number number (gone_in entry.act)

-- whether the handle is closed
abbrev pub is_closed : ℕ → Entry → Bool
is_closed number entry = is_number number (closed_in entry.act)

-- whether the thread took the handle's remove event before the handle was closed
abbrev pub was_told : List Entry → ℕ → ℕ → Bool
was_told trace thread number = list_any (is_told thread number) (before_first (is_closed number) trace)

-- the same of a handle and its thread
abbrev pub was_removed : List Entry → Handle → Bool
was_removed trace handle = was_told trace handle.thread handle.number

-- the handles of scripts whose remove event was taken while they were open
abbrev pub removed_handles : List Script → List Entry → List Handle
removed_handles scripts trace = filter (was_removed trace) (opened_handles scripts trace)

-- a handle's thread, name and device
abbrev pub gone_line : Handle → List ℕ
gone_line handle = codes "gone " ++ decimal handle.thread ++ codes " " ++ handle.name ++ codes " " ++ handle.device ++ codes "\n"

-- a handle's line, if the handle is this thread's
abbrev pub gone_line_of : ℕ → Handle → List ℕ
gone_line_of thread handle = if handle.thread == thread then gone_line handle else []

-- the same, if the handle has this number
abbrev pub gone_line_at : ℕ → ℕ → Handle → List ℕ
gone_line_at thread number handle = if handle.number == number then gone_line_of thread handle else []

-- the greatest thread or number of handles
abbrev pub greatest_of : (Handle → ℕ) → List Handle → ℕ
greatest_of part handles = fold (λ greatest handle. max greatest (part handle)) 0 handles

-- the lines of a thread's handles in rising order of number
abbrev pub thread_gone_lines : List Handle → ℕ → List ℕ
thread_gone_lines handles thread =
    flat_map (λ number. flat_map (gone_line_at thread number) handles) (range_with_len 0 (greatest_of (λ handle. handle.number) handles + 1))

-- the lines of handles by thread, then by number
abbrev pub ordered_lines : List Handle → List ℕ
ordered_lines handles = flat_map (thread_gone_lines handles) (range_with_len 0 (greatest_of (λ handle. handle.thread) handles + 1))

-- the handles of scripts whose remove event was taken while they were open
abbrev pub gone_lines : List Script → List Entry → List ℕ
gone_lines scripts trace = ordered_lines (removed_handles scripts trace)

-- ---- lines of waiting commands

-- a command whose base never came: its place among the commands, its method and that base
abbrev pub waiting_line : Waiting → List ℕ
waiting_line waiting = codes "waiting " ++ decimal waiting.index ++ codes " " ++ waiting.method ++ codes " " ++ waiting.base ++ codes "\n"

-- ---- lines of threads

-- how many requests were accepted, and how they ended
abbrev pub ends_words : Counts → List ℕ
ends_words counts =
    codes " accepted " ++ decimal counts.accepted ++ codes " success " ++ decimal counts.success ++
    codes " failed " ++ decimal counts.failed ++ codes " aborted " ++ decimal counts.aborted

-- a thread's counts
abbrev pub thread_line : ℕ → Counts → List ℕ
thread_line thread counts =
    codes "thread " ++ decimal thread ++ ends_words counts ++ codes " refused " ++ decimal counts.refused ++ codes "\n"

-- a script of this thread with a command
abbrev pub is_busy_script : ℕ → Script → Bool
is_busy_script thread script = (script.thread == thread) && not (length script.lines == 0)

-- a thread's counts, where it has a command
abbrev pub thread_line_if : List Script → ℕ → Counts → List ℕ
thread_line_if scripts thread counts = if list_any (is_busy_script thread) scripts then thread_line thread counts else []

-- the counts of each thread that has a command, of the threads from this number on
abbrev pub thread_lines : List Script → ℕ → List Counts → List ℕ
thread_lines scripts thread [] = []
thread_lines scripts thread (counts ∷ rest) = thread_line_if scripts thread counts ++ thread_lines scripts (thread + 1) rest

-- ---- lines of devices

-- the digest of a malloc device's contents, where its destruction told it
abbrev pub digest_words : Option (List ℕ) → List ℕ
digest_words None = []
digest_words (Some digest) = codes " sha256 " ++ encode_lower digest

-- a malloc device, whose contents are in memory
abbrev pub is_malloc : Kind → Bool
is_malloc Malloc = true
is_malloc _ = false

-- a malloc device's contents at its end; nothing for another
abbrev pub contents_words : List Entry → ℕ → Kind → List ℕ
contents_words trace device kind = if is_malloc kind then digest_words (first_found (digest_in device) trace) else []

-- a device's name, kind and size
abbrev pub device_size_words : DevRow → List ℕ
device_size_words row =
    codes "device " ++ row.name ++ codes " " ++ kind_word row.kind ++
    codes " blocks " ++ decimal row.blocks ++ codes " size " ++ decimal row.size

-- how much was read and written with success, in requests and in bytes
abbrev pub moved_words : Traffic → List ℕ
moved_words traffic =
    codes " reads " ++ decimal traffic.reads ++ codes " writes " ++ decimal traffic.writes ++
    codes " read_bytes " ++ decimal traffic.read_bytes ++ codes " write_bytes " ++ decimal traffic.write_bytes

-- a device's size, and how much was read and written with success
abbrev pub device_line : List Entry → ℕ → DevRow → Traffic → List ℕ
device_line trace device row traffic =
    device_size_words row ++ moved_words traffic ++ contents_words trace device row.kind ++ codes "\n"

-- the devices from this number on, each with what it moved
abbrev pub device_lines : List Entry → ℕ → List DevRow → List Traffic → List ℕ
device_lines trace device (row ∷ rows) (traffic ∷ rest) = device_line trace device row traffic ++ device_lines trace (device + 1) rows rest
device_lines trace device _ _ = []

-- ---- the whole

-- the counts of all threads together
abbrev pub end_line : Counts → List ℕ
end_line counts = codes "end" ++ ends_words counts ++ codes "\n"

-- what a report says of single commands, where it is full: the commands by line number, then removed handles
abbrev pub detail_lines : Bool → Setup → List Entry → List ℕ
detail_lines true setup trace = job_lines setup.scripts trace ++ gone_lines setup.scripts trace
detail_lines false setup trace = []

-- the commands and removed handles where it is full, then waiting commands, threads, devices, and the end: with these statistics
abbrev pub report_with : Bool → Setup → List Entry → Stats → List ℕ
report_with full setup trace stats =
    detail_lines full setup trace ++ flat_map waiting_line setup.waiting ++ thread_lines setup.scripts 0 stats.threads ++
    device_lines trace 0 setup.devices stats.devices ++ end_line stats.all

-- the report of a run: with the statistics of its trace
abbrev pub report_of : Bool → Setup → List Entry → List ℕ
report_of full setup trace = report_with full setup trace (stats_of setup trace)
