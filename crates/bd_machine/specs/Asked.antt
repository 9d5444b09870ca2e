-- Scripts: the next line, what decides it, which event is asked for, and its outcome.
use Rattle.std.specs.Prelude.{ℕ, Bool, true, false, cond, not, ◌&&◌, ◌||◌, ◌==◌, nat_le, List, [], length, Option, Some, None, is_none, is_some, slice_get, find, count_by, option_map, option_and_then}
use Rattle.std.specs.Bool.{beq}
use Rattle.std.specs.List.{list_any}
use Rattle.bd_base.specs.Name.{same_name}
use Rattle.bd_base.specs.declared.id.DevId.{DevId}
use Rattle.bd_base.specs.declared.id.HandleId.{HandleId}
use Rattle.bd_base.specs.declared.request.Op.{Op}
use Rattle.bd_base.specs.declared.request.Errno.TheVariants.{BadDesc, Exists}
use Rattle.bd_base.specs.declared.act.Outcome.{Outcome}
use Rattle.bd_base.specs.declared.act.Outcome.TheVariants as outcomes
use Rattle.bd_base.specs.declared.event.RegEvent.{RegEvent}
use Rattle.bd_base.specs.declared.event.RegEvent.TheVariants as events
use Rattle.bd_base.specs.declared.job.Job.{Job}
use Rattle.bd_base.specs.declared.job.Job.TheVariants as jobs
use Rattle.bd_base.specs.declared.job.Line.{Line}
use Rattle.bd_base.specs.declared.job.Script.{Script}
use Rattle.bd_base.specs.declared.setup.Setup.{Setup}
use Rattle.bd_base.specs.declared.event.ClaimKind.{ClaimKind}
use Rattle.bd_base.specs.declared.id.ReqId.{ReqId}
use Rattle.bd_base.specs.declared.request.Errno.TheVariants.{NoDev}
use Rattle.bd_base.specs.declared.request.Op.TheVariants as ops
use Rattle.bd_machine.specs.declared.state.Between.{Between}
use Rattle.bd_machine.specs.declared.state.Between.TheVariants.{Opening, Closing}
use Rattle.bd_machine.specs.declared.state.Binding.{Binding}
use Rattle.bd_machine.specs.declared.state.Decided.{Decided}
use Rattle.bd_machine.specs.declared.state.Decided.TheVariants as decisions
use Rattle.bd_machine.specs.declared.state.Handle.{Handle}
use Rattle.bd_machine.specs.declared.state.Owed.{Owed}
use Rattle.bd_machine.specs.declared.state.Owed.TheVariants as owes
use Rattle.bd_machine.specs.declared.state.Part.{Part}
use Rattle.bd_machine.specs.declared.state.Prior.{Prior}
use Rattle.bd_machine.specs.declared.state.Prior.TheVariants.{Growth}
use Rattle.bd_machine.specs.declared.state.Resetting.{Resetting}
use Rattle.bd_machine.specs.declared.state.Stage.{Stage}
use Rattle.bd_machine.specs.declared.state.Stage.TheVariants as stages
use Rattle.bd_machine.specs.declared.state.Submitted.{Submitted}
use Rattle.bd_machine.specs.Admission.{is_gone, size_of_handle}
use Rattle.bd_machine.specs.Claims.{same_kind}
use Rattle.bd_machine.specs.Injections.{asks_injection}
use Rattle.bd_machine.specs.Kept.{request_here}
use Rattle.bd_machine.specs.Registry.{handle_of, device_named}
use Rattle.bd_machine.specs.Same.{same_handle, same_op, same_if_any, same_dev, same_owed, same_request, same_stage, is_the}
use Rattle.bd_machine.specs.Users.{is_base_handle}
use Rattle.bd_machine.specs.Walks.{is_reset, reset_of}
use Rattle.bd_machine.specs.View.{View, Came}

-- the most open requests of a thread
abbrev pub most_requests : ℕ
most_requests = 1024

-- the number that names no request
abbrev pub no_request : ℕ
no_request = 18446744073709551615

-- ---- the next line

abbrev pub lines_if_any : Option Script → List Line
lines_if_any None = []
lines_if_any (Some script) = script.lines

abbrev pub lines_of : Setup → ℕ → List Line
lines_of setup t = lines_if_any (find (λ script. script.thread == t) setup.scripts)

abbrev pub next_line : Setup → ℕ → Part → Option Line
next_line setup t part = slice_get (lines_of setup t) part.next

abbrev pub job_of : Line → Job
job_of line = line.job

-- the job of the next line, while nothing decided it
abbrev pub undecided_job : Setup → ℕ → Part → Option Job
undecided_job setup t part = cond (is_none part.decided) (option_map job_of (next_line setup t part)) None

-- ---- names

abbrev pub handle_bound : Option Binding → Option HandleId
handle_bound None = None
handle_bound (Some b) = Some b.handle

-- the handle that a name is bound to
abbrev pub bound_to : Part → List ℕ → Option HandleId
bound_to part name = handle_bound (find (λ b. same_name b.name name) part.bound)

-- how many requests of a handle are open
abbrev pub open_on : Part → HandleId → ℕ
open_on part h = count_by (λ r. same_handle r.handle h) part.requests

abbrev pub has_mark : Part → List ℕ → Bool
has_mark part mark = list_any (same_name mark) part.marks

-- the name is bound to a handle that is open: one that its thread closed after the remove event leaves its name free
abbrev pub is_open_handle : View → Option HandleId → Bool
is_open_handle v None = false
is_open_handle v (Some id) = is_some (handle_of v.handles id)

-- ---- what the next line asks

abbrev pub is_job_open : View → List ℕ → Bool → Option Job → Bool
is_job_open v name write (Some (jobs.Open handle dev w)) = same_name dev name && beq w write && not (is_open_handle v (bound_to v.part handle))
is_job_open v name write _ = false

abbrev pub is_job_close : Part → HandleId → Option Job → Bool
is_job_close part id (Some (jobs.Close handle)) = is_the same_handle id (bound_to part handle)
is_job_close part id _ = false

abbrev pub is_job_claim : Part → HandleId → ClaimKind → Option Job → Bool
is_job_claim part id kind (Some (jobs.Claim handle k)) = is_the same_handle id (bound_to part handle) && same_kind k kind
is_job_claim part id kind _ = false

abbrev pub is_job_remove : List ℕ → Option Job → Bool
is_job_remove name (Some (jobs.Remove dev)) = same_name dev name
is_job_remove name _ = false

abbrev pub is_job_resize : List ℕ → ℕ → Option Job → Bool
is_job_resize name blocks (Some (jobs.Resize dev n)) = same_name dev name && (n == blocks)
is_job_resize name blocks _ = false

abbrev pub is_submitted_at : ℕ → Option HandleId → Submitted → Bool
is_submitted_at line id s = (s.line == line) && is_the same_handle s.handle id

abbrev pub seq_if_any : Option Submitted → ℕ
seq_if_any None = no_request
seq_if_any (Some s) = s.seq

-- the type that a line asks for: an abort names the request of its line, where that was accepted on the same handle
abbrev pub op_asked : Part → Option HandleId → Op → Op
op_asked part id (ops.Abort line) = ops.Abort (seq_if_any (find (is_submitted_at line id) part.submitted))
op_asked part id op = op

abbrev pub is_job_submit : Part → Option HandleId → Op → ℕ → ℕ → Option Job → Bool
is_job_submit part id op lba count (Some (jobs.Submit handle o l c)) =
    same_if_any same_handle id (bound_to part handle) && same_op (op_asked part id o) op && (l == lba) && (c == count)
is_job_submit part id op lba count _ = false

-- the next line asks for this submission
abbrev pub asks_submission : Setup → ℕ → View → Came → Option HandleId → Op → ℕ → ℕ → Bool
asks_submission setup t v came id op lba count = not came.shut && is_job_submit v.part id op lba count (undecided_job setup t v.part)

abbrev pub is_handle_on : DevId → Option Handle → Bool
is_handle_on dev None = false
is_handle_on dev (Some h) = same_dev h.dev dev

-- ---- which event is asked

-- the job of the next line, before Shutdown
abbrev pub job_now : Setup → ℕ → View → Came → Option Job
job_now setup t v came = cond came.shut None (undecided_job setup t v.part)

abbrev pub owes_it : Part → Owed → Bool
owes_it part owed = list_any (same_owed owed) part.owed

-- a script's handle without open requests is closed by the next line, or where its remove event was taken
abbrev pub may_close : Setup → ℕ → View → Came → HandleId → Bool
may_close setup t v came id =
    not (is_base_handle setup id) && is_some (handle_of v.handles id) && (open_on v.part id == 0)
    && (is_gone v.part id || is_job_close v.part id (job_now setup t v came))

-- some handle of the device is closed so
abbrev pub may_close_on : Setup → ℕ → View → Came → DevId → Bool
may_close_on setup t v came dev = list_any (λ h. same_dev h.dev dev && may_close setup t v came h.id) v.handles

-- a device whose base handle is being removed removes itself
abbrev pub owes_removal : Part → Option ℕ → Bool
owes_removal part None = false
owes_removal part (Some n) = owes_it part (owes.Remove (record { 0 = n }))

abbrev pub is_asked_remove : Setup → ℕ → View → Came → List ℕ → Bool
is_asked_remove setup t v came name =
    owes_removal v.part (device_named setup name) || is_job_remove name (job_now setup t v came) || ((t == 0) && came.shut)

-- an open reset of this thread that didn't begin yet
abbrev pub is_new_reset : Part → DevId → ReqId → Bool
is_new_reset part dev req = list_any (λ o. same_request o.id req && same_dev o.dev dev && is_reset o.op) part.requests && is_none (reset_of part req)

abbrev pub is_reset_at : DevId → Stage → Resetting → Bool
is_reset_at dev stage r = same_dev r.dev dev && same_stage r.stage stage

-- a reset of the device by this thread is at this stage
abbrev pub has_reset_at : Part → DevId → Stage → Bool
has_reset_at part dev stage = list_any (is_reset_at dev stage) part.resets

-- the entry before let the device's content grow
abbrev pub has_grown : DevId → Option Prior → Bool
has_grown dev (Some (Growth d)) = same_dev d dev
has_grown dev _ = false

-- an event is asked where nothing else has to follow
abbrev pub asks_freely : Setup → ℕ → View → Came → RegEvent → Bool
asks_freely setup t v came (events.Open name write) = is_job_open v name write (job_now setup t v came)
asks_freely setup t v came (events.Claim id kind) = is_some (handle_of v.handles id) && is_job_claim v.part id kind (job_now setup t v came)
asks_freely setup t v came (events.GetChannel dev) = false
asks_freely setup t v came (events.PutChannel dev true) = may_close_on setup t v came dev
asks_freely setup t v came (events.PutChannel dev false) = owes_it v.part (owes.Put dev)
asks_freely setup t v came (events.Close id) = owes_it v.part (owes.Close id)
asks_freely setup t v came (events.DropChannel dev) = owes_it v.part (owes.Drop dev)
asks_freely setup t v came (events.BeginRemove name) = is_asked_remove setup t v came name
asks_freely setup t v came (events.BeginReset dev req) = is_new_reset v.part dev req
asks_freely setup t v came (events.EndReset dev) = has_reset_at v.part dev stages.Drained
asks_freely setup t v came (events.FinishReset dev) = has_reset_at v.part dev stages.Thawed
asks_freely setup t v came (events.TakeInjection dev req op) = asks_injection setup t v dev req op (request_here v req)
asks_freely setup t v came (events.Destructed dev) = owes_it v.part (owes.Report dev)
asks_freely setup t v came (events.BeginResize name blocks) = is_job_resize name blocks (job_now setup t v came)
asks_freely setup t v came (events.EndResize dev) = has_grown dev v.part.prior && owes_it v.part (owes.EndResize dev)

abbrev pub is_get_of : DevId → RegEvent → Bool
is_get_of dev (events.GetChannel d) = same_dev d dev
is_get_of dev _ = false

-- the close of a handle of this device
abbrev pub is_close_on : Setup → ℕ → View → Came → DevId → RegEvent → Bool
is_close_on setup t v came dev (events.Close id) = is_handle_on dev (handle_of v.handles id) && may_close setup t v came id
is_close_on setup t v came dev _ = false

-- an open is followed by its channel, and the put of a handle's channel by its close
abbrev pub asks_between : Setup → ℕ → View → Came → RegEvent → Option Between → Bool
asks_between setup t v came event None = asks_freely setup t v came event
asks_between setup t v came event (Some (Opening u dev)) = (u == t) && is_get_of dev event
asks_between setup t v came event (Some (Closing u dev)) = (u == t) && is_close_on setup t v came dev event

-- an event is asked
abbrev pub asks_event : Setup → ℕ → View → Came → RegEvent → Bool
asks_event setup t v came event = asks_between setup t v came event came.between

-- ---- outcomes

abbrev pub decided_outcome : Decided → Outcome
decided_outcome (decisions.Opened id) = outcomes.Done
decided_outcome decisions.Closed = outcomes.Done
decided_outcome decisions.Done = outcomes.Done
decided_outcome (decisions.Refused errno) = outcomes.Errno errno
decided_outcome (decisions.Accepted req) = outcomes.Accepted req

-- 9 on a name that isn't bound; 19 on a handle that its thread closed by itself
abbrev pub claim_outcome : View → Option HandleId → Option Outcome
claim_outcome v None = Some (outcomes.Errno BadDesc)
claim_outcome v (Some id) = cond (is_some (handle_of v.handles id)) None (Some (outcomes.Errno NoDev))

abbrev pub busy_outcome : ℕ → Option Outcome
busy_outcome n = cond (n == 0) None (Some (outcomes.BusyOpen n))

abbrev pub close_outcome : View → Option HandleId → Option Outcome
close_outcome v None = Some (outcomes.Errno BadDesc)
close_outcome v (Some id) = cond (is_some (handle_of v.handles id)) (busy_outcome (open_on v.part id)) (Some (outcomes.Errno NoDev))

abbrev pub gone_outcome : Part → Option HandleId → Option Outcome
gone_outcome part None = Some (outcomes.Errno BadDesc)
gone_outcome part (Some id) = cond (is_gone part id) (Some outcomes.Done) None

-- the device of an open handle has at least this number of blocks, as far as the thread was told
abbrev pub grown_outcome : Part → ℕ → Option Handle → Option Outcome
grown_outcome part blocks None = Some (outcomes.Errno NoDev)
grown_outcome part blocks (Some h) = cond (nat_le blocks (size_of_handle part h)) (Some outcomes.Done) None

abbrev pub sized_outcome : View → ℕ → Option HandleId → Option Outcome
sized_outcome v blocks None = Some (outcomes.Errno BadDesc)
sized_outcome v blocks (Some id) = grown_outcome v.part blocks (handle_of v.handles id)

-- the outcome of a line that no entry decided, where it goes on
abbrev pub undecided_outcome : View → Job → Option Outcome
undecided_outcome v (jobs.Open handle dev write) = cond (is_open_handle v (bound_to v.part handle)) (Some (outcomes.Errno Exists)) None
undecided_outcome v (jobs.Close handle) = close_outcome v (bound_to v.part handle)
undecided_outcome v (jobs.Claim handle kind) = claim_outcome v (bound_to v.part handle)
undecided_outcome v (jobs.Submit handle op lba count) = None
undecided_outcome v (jobs.Remove dev) = None
undecided_outcome v jobs.Wait = cond (length v.part.requests == 0) (Some outcomes.Done) None
undecided_outcome v (jobs.Sleep micros) = Some outcomes.Done
undecided_outcome v (jobs.Post mark) = Some outcomes.Done
undecided_outcome v (jobs.Await mark) = cond (has_mark v.part mark) (Some outcomes.Done) None
undecided_outcome v (jobs.Gone handle) = gone_outcome v.part (bound_to v.part handle)
undecided_outcome v (jobs.Resize dev blocks) = None
undecided_outcome v (jobs.Sized handle blocks) = sized_outcome v blocks (bound_to v.part handle)

abbrev pub outcome_by : View → Option Decided → Job → Option Outcome
outcome_by v None job = undecided_outcome v job
outcome_by v (Some d) job = Some (decided_outcome d)

-- the outcome that the next line has, where it goes on
abbrev pub outcome_due : Setup → ℕ → View → Option Outcome
outcome_due setup t v = option_and_then (λ line. outcome_by v v.part.decided line.job) (next_line setup t v.part)

-- a line that may wait for good: for a mark, a remove event, a size, the open requests, or room
abbrev pub is_waiting_job : Part → Job → Bool
is_waiting_job part jobs.Wait = true
is_waiting_job part (jobs.Await mark) = true
is_waiting_job part (jobs.Gone handle) = true
is_waiting_job part (jobs.Sized handle blocks) = true
is_waiting_job part (jobs.Submit handle op lba count) = nat_le most_requests (length part.requests)
is_waiting_job part _ = false

abbrev pub is_waiting_line : View → Option Line → Bool
is_waiting_line v None = true
is_waiting_line v (Some line) = is_none v.part.decided && is_waiting_job v.part line.job && is_none (undecided_outcome v line.job)

-- the script is at its end, or its next line waits
abbrev pub is_script_blocked : Setup → ℕ → View → Bool
is_script_blocked setup t v = is_waiting_line v (next_line setup t v.part)
