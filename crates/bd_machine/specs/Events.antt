-- Reg: the registry's answer is its own, and the event is asked; what an answer changes on the thread that asked.
use Rattle.std.specs.Prelude.{ℕ, Bool, cond, ◌==◌, List, [], ◌∷◌, ◌++◌, map, find, Option, Some, None}
use Rattle.std.specs.List.{list_any}
use Rattle.bd_base.specs.declared.event.Answer.{Answer}
use Rattle.bd_base.specs.declared.event.Answer.TheVariants as answers
use Rattle.bd_base.specs.declared.event.RegEvent.{RegEvent}
use Rattle.bd_base.specs.declared.event.RegEvent.TheVariants as events
use Rattle.bd_base.specs.declared.id.DevId.{DevId}
use Rattle.bd_base.specs.declared.id.HandleId.{HandleId}
use Rattle.bd_base.specs.declared.id.ReqId.{ReqId}
use Rattle.bd_base.specs.declared.id.ThreadId.{ThreadId}
use Rattle.bd_base.specs.declared.request.Op.{Op}
use Rattle.bd_base.specs.declared.request.Op.TheVariants as ops
use Rattle.bd_base.specs.declared.request.WalkKind.TheVariants.{Freeze, Thaw, Removal}
use Rattle.bd_base.specs.declared.setup.Setup.{Setup}
use Rattle.bd_base.specs.declared.thread_set.ThreadSet.{ThreadSet}
use Rattle.bd_machine.specs.declared.guard.TheConstants.{REGISTRY_ANSWER, EVENT_ASKED}
use Rattle.bd_machine.specs.declared.state.Decided.{Decided}
use Rattle.bd_machine.specs.declared.state.Decided.TheVariants as decisions
use Rattle.bd_machine.specs.declared.state.Due.{Due}
use Rattle.bd_machine.specs.declared.state.FreezeMark.TheVariants.{Not}
use Rattle.bd_machine.specs.declared.state.News.{News}
use Rattle.bd_machine.specs.declared.state.News.TheVariants as news
use Rattle.bd_machine.specs.declared.state.Open.{Open}
use Rattle.bd_machine.specs.declared.state.Owed.{Owed}
use Rattle.bd_machine.specs.declared.state.Owed.TheVariants as owes
use Rattle.bd_machine.specs.declared.state.Part.{Part}
use Rattle.bd_machine.specs.declared.state.Resetting.{Resetting}
use Rattle.bd_machine.specs.declared.state.Stage.{Stage}
use Rattle.bd_machine.specs.declared.state.Stage.TheVariants as stages
use Rattle.bd_machine.specs.Admission.{is_gone}
use Rattle.bd_machine.specs.Asked.{asks_event, owes_removal, is_reset_at}
use Rattle.bd_machine.specs.BlockMap.{below, home}
use Rattle.bd_machine.specs.Changes.{is_dropped}
use Rattle.bd_machine.specs.Delays.{uncounted}
use Rattle.bd_machine.specs.Injections.{asked_once_more}
use Rattle.bd_machine.specs.Kept.{request_here, edited}
use Rattle.bd_machine.specs.Marks.{remarked, born_as, with_frozen}
use Rattle.bd_machine.specs.Registry.{device_named, made}
use Rattle.bd_machine.specs.Same.{same_answer, same_dev, same_owed, same_request, is_the}
use Rattle.bd_machine.specs.Table.{without_first, write}
use Rattle.bd_machine.specs.Users.{is_base_handle}
use Rattle.bd_machine.specs.Walks.{begin_walk, begin_walk_with}
use Rattle.bd_machine.specs.View.{View, Came, Change}

abbrev pub guards_reg : Setup → ℕ → View → Came → RegEvent → Answer → List (ℕ × Bool)
guards_reg setup t v came event answer =
    (REGISTRY_ANSWER, is_the same_answer answer came.answer) ∷
    (EVENT_ASKED, asks_event setup t v came event) ∷ []

-- ---- words for changes of a part

-- what an answer decides of the line that asked
abbrev pub decision_of : Answer → Option Decided
decision_of (answers.Opened id dev blocks) = Some (decisions.Opened id)
decision_of (answers.Closed destruct) = Some decisions.Closed
decision_of answers.Claimed = Some decisions.Done
decision_of (answers.Removing dev threads handles destruct) = Some decisions.Done
decision_of (answers.Resizing dev home) = Some decisions.Done
decision_of (answers.Refused errno) = Some (decisions.Refused errno)
decision_of _ = None

-- after Shutdown no line asks
abbrev pub decided_by : Came → Answer → Part → Part
decided_by came answer part = record part { decided = cond came.shut part.decided (decision_of answer) }

abbrev pub paid : Owed → Part → Part
paid owed part = record part { owed = without_first (same_owed owed) part.owed }

abbrev pub owing : Owed → Part → Part
owing owed part = record part { owed = part.owed ++ owed ∷ [] }

abbrev pub with_due : List Due → Part → Part
with_due due part = record part { due = part.due ++ due }

abbrev pub due_to : ℕ → News → List Due
due_to receiver sent = record { receiver = receiver; news = sent } ∷ []

-- a device that is to be destructed is told to its home
abbrev pub device_due : Setup → Option DevId → List Due
device_due setup None = []
device_due setup (Some dev) = due_to (home setup dev) (news.Device dev)

-- a channel that is to be dropped is told to its own thread
abbrev pub channel_due : ℕ → Option DevId → List Due
channel_due t None = []
channel_due t (Some dev) = due_to t (news.Channel dev)

abbrev pub gone_due : HandleId × ThreadId → Due
gone_due holder = record { receiver = holder.1.0; news = news.Gone holder.0 }

abbrev pub go_due : Option (ReqId × ThreadSet) → List Due
go_due None = []
go_due (Some next) = due_to next.0.thread (news.Go next.0 next.1)

abbrev pub alone : Part → Change
alone part = record { part = part; moves = [] }

-- ---- Close, GetChannel, PutChannel, DropChannel

abbrev pub closed_by : Setup → Came → HandleId → Answer → Part → Part
closed_by setup came id answer part = cond (is_base_handle setup id) (paid (owes.Close id) part) (cond (is_gone part id) part (decided_by came answer part))

abbrev pub destruct_of : Answer → Option DevId
destruct_of (answers.Closed destruct) = destruct
destruct_of (answers.Dropped what zero destruct) = destruct
destruct_of (answers.Removing dev threads handles destruct) = destruct
destruct_of (answers.Resized handles blocks destruct) = destruct
destruct_of _ = None

-- a channel that was made is frozen where the answer says so, and its delays count from 0
abbrev pub born : List DevId → DevId → Part → Part
born frozen dev part = record (remarked dev (with_frozen (born_as (list_any (same_dev dev) frozen))) part) { delayed = write same_dev part.delayed dev uncounted }

abbrev pub all_born : List DevId → List DevId → Part → Part
all_born frozen [] part = part
all_born frozen (d ∷ ds) part = all_born frozen ds (born frozen d part)

abbrev pub got_by : Setup → View → DevId → Answer → Part
got_by setup v dev (answers.Got fresh frozen) = all_born frozen (made v.channels (below setup dev)) v.part
got_by setup v dev _ = v.part

abbrev pub put_down_by : ℕ → DevId → Answer → Part → Part
put_down_by t dev (answers.PutDown left) part = with_due (cond (left == 0) (channel_due t (Some dev)) []) part
put_down_by t dev _ part = part

abbrev pub put_paid : DevId → Bool → Part → Part
put_paid dev closing part = cond closing part (paid (owes.Put dev) part)

-- the freeze mark goes with the channel
abbrev pub dropped_by : ℕ → DevId → Answer → Part → Part
dropped_by t dev (answers.Dropped what zero destruct) part = with_due (channel_due t zero) (cond (is_dropped what) (remarked dev (with_frozen Not) part) part)
dropped_by t dev _ part = part

-- ---- BeginRemove

-- a removal that the thread has to do, since a base handle's device is being removed, decides no line
abbrev pub removal_paid : Came → Answer → Option ℕ → Part → Part
removal_paid came answer None part = decided_by came answer part
removal_paid came answer (Some n) part = cond (owes_removal part (Some n)) (paid (owes.Remove (record { 0 = n })) part) (decided_by came answer part)

-- each handle's thread is told, a walk begins, and a device without handles and channels is told to its home
abbrev pub removing : Setup → ℕ → Answer → Part → Change
removing setup t (answers.Removing dev threads handles destruct) part =
    begin_walk t Removal dev threads None (alone (with_due (map gone_due handles ++ device_due setup destruct) part))
removing setup t _ part = alone part

-- ---- resets

abbrev pub time_of_op : Op → ℕ
time_of_op (ops.Reset time) = time
time_of_op _ = 0

abbrev pub time_if_any : Option Open → ℕ
time_if_any None = 0
time_if_any (Some o) = time_of_op o.op

-- the drain time of an open reset
abbrev pub drain_time : Part → ReqId → ℕ
drain_time part req = time_if_any (find (λ o. same_request o.id req) part.requests)

abbrev pub with_reset : ReqId → DevId → Stage → ThreadSet → Part → Part
with_reset req dev stage threads part = record part {
  resets = part.resets ++ record { req = req; dev = dev; stage = stage; threads = threads; time = drain_time part req } ∷ [];
}

abbrev pub reset_begun : ℕ → DevId → ReqId → Answer → Part → Change
reset_begun t dev req (answers.ResetStarted threads) part =
    begin_walk_with t Freeze dev threads (Some req) (drain_time part req) (alone (with_reset req dev stages.Freezing threads part))
reset_begun t dev req _ part = alone (with_reset req dev stages.Queued (record { 0 = 0 }) part)

abbrev pub first_req : List Resetting → DevId → Stage → Option ReqId
first_req [] dev stage = None
first_req (r ∷ rs) dev stage = cond (is_reset_at dev stage r) (Some r.req) (first_req rs dev stage)

abbrev pub advanced : DevId → Stage → Stage → Part → Part
advanced dev old new part = record part { resets = map (λ r. cond (is_reset_at dev old r) (record r { stage = new }) r) part.resets }

abbrev pub reset_thaws : ℕ → DevId → Answer → Part → Change
reset_thaws t dev (answers.ResetEnded threads) part = begin_walk t Thaw dev threads (first_req part.resets dev stages.Drained) (alone (advanced dev stages.Drained stages.Thawing part))
reset_thaws t dev _ part = alone part

abbrev pub reset_finishes : DevId → Answer → Part → Part
reset_finishes dev (answers.ResetFinished next) part = with_due (go_due next) (advanced dev stages.Thawed stages.Finished part)
reset_finishes dev _ part = part

-- ---- TakeInjection, Destructed

abbrev pub injection_taken : View → ReqId → Answer → Change
injection_taken v req (answers.Injected decision) = record { part = v.part; moves = edited req asked_once_more (request_here v req) }
injection_taken v req _ = alone v.part

abbrev pub freed_by : Answer → Part → Part
freed_by (answers.Freed (Some id)) part = owing (owes.Close id) part
freed_by _ part = part

-- ---- BeginResize, EndResize

-- the home is told to let the content grow
abbrev pub resizing : ℕ → Answer → Part → Part
resizing blocks (answers.Resizing dev home) part = with_due (due_to home.0 (news.Grow dev blocks)) part
resizing blocks _ part = part

abbrev pub sized_due : ℕ → HandleId × ThreadId → Due
sized_due blocks holder = record { receiver = holder.1.0; news = news.Sized holder.0 blocks }

-- each handle's thread is told the new size
abbrev pub resized : Answer → Part → Part
resized (answers.Resized handles blocks destruct) part = with_due (map (sized_due blocks) handles) part
resized _ part = part

abbrev pub change_reg : Setup → ℕ → View → Came → RegEvent → Answer → Change
change_reg setup t v came (events.Open name write) answer = alone (decided_by came answer v.part)
change_reg setup t v came (events.Claim id kind) answer = alone (decided_by came answer v.part)
change_reg setup t v came (events.Close id) answer = alone (with_due (device_due setup (destruct_of answer)) (closed_by setup came id answer v.part))
change_reg setup t v came (events.GetChannel dev) answer = alone (got_by setup v dev answer)
change_reg setup t v came (events.PutChannel dev closing) answer = alone (put_down_by t dev answer (put_paid dev closing v.part))
change_reg setup t v came (events.DropChannel dev) answer = alone (with_due (device_due setup (destruct_of answer)) (dropped_by t dev answer (paid (owes.Drop dev) v.part)))
change_reg setup t v came (events.BeginRemove name) answer = removing setup t answer (removal_paid came answer (device_named setup name) v.part)
change_reg setup t v came (events.BeginReset dev req) answer = reset_begun t dev req answer v.part
change_reg setup t v came (events.EndReset dev) answer = reset_thaws t dev answer v.part
change_reg setup t v came (events.FinishReset dev) answer = alone (reset_finishes dev answer v.part)
change_reg setup t v came (events.TakeInjection dev req op) answer = injection_taken v req answer
change_reg setup t v came (events.Destructed dev) answer = alone (freed_by answer (paid (owes.Report dev) v.part))
change_reg setup t v came (events.BeginResize name blocks) answer = alone (resizing blocks answer (decided_by came answer v.part))
change_reg setup t v came (events.EndResize dev) answer = alone (with_due (device_due setup (destruct_of answer)) (resized answer (paid (owes.EndResize dev) v.part)))
