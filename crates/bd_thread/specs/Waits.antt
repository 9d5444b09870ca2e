-- What a thread waits for where its turn added no entry.
use Rattle.std.specs.Prelude.{◌≡◌, ℕ, ◌<◌, ◌≤◌, ◌^◌, Bool, true, false, cond, ◌&&◌, ◌||◌, ◌==◌, nat_lt, List, [], ◌∷◌, length, find, slice_get, Option, Some, None, is_some}
use Rattle.bd_base.specs.declared.id.DevId.{DevId}
use Rattle.bd_base.specs.declared.id.ReqId.{ReqId}
use Rattle.bd_base.specs.declared.job.Job.{Job}
use Rattle.bd_base.specs.declared.job.Job.TheVariants as jobs
use Rattle.bd_base.specs.declared.setup.Setup.{Setup}
use Rattle.bd_blocks.specs.Digests.{digest_due}
use Rattle.bd_machine.specs.declared.state.Base.{Base}
use Rattle.bd_machine.specs.declared.state.Due.{Due}
use Rattle.bd_machine.specs.declared.state.Open.{Open}
use Rattle.bd_machine.specs.Asked.{bound_to, is_script_blocked, most_requests, undecided_job}
use Rattle.bd_machine.specs.BlockMap.{is_malloc}
use Rattle.bd_machine.specs.Homes.{is_base}
use Rattle.bd_machine.specs.View.{View}
use Rattle.bd_steps.specs.Asking.{is_base_if_any}
use Rattle.bd_steps.specs.Sending.{first_brought}
use Rattle.bd_flight.specs.declared.next.Step.{Step}
use Rattle.bd_flight.specs.declared.next.Step.TheVariants as steps
use Rattle.bd_flight.specs.Next.{next_step}
use Rattle.bd_links.specs.Queues.{queues_of}
use Rattle.bd_thread.specs.declared.links.Links.{Links}
use Rattle.bd_thread.specs.declared.thread.Thread.{Thread}
use Rattle.bd_thread.specs.declared.turn.Turned.{Turned}
use Rattle.bd_thread.specs.declared.turn.Turned.TheVariants.{Moved, Quiet}
use Rattle.bd_thread.specs.Aborts.{NoneNamed}
use Rattle.bd_thread.specs.Asleep.{is_asleep}
use Rattle.bd_thread.specs.Delays.{StandsStill}
use Rattle.bd_thread.specs.Destructs.{may_device_go}
use Rattle.bd_thread.specs.Duties.{NoDuty}
use Rattle.bd_thread.specs.Endings.{left_on, removal_due}
use Rattle.bd_thread.specs.Calls.{asks_next, Finds, FindsAmong, FindsNamed, NoCall}
use Rattle.bd_thread.specs.Grace.{NoDue}
use Rattle.bd_thread.specs.Limits.{NoLimit, NoWayOut}
use Rattle.bd_thread.specs.Looking.{LooksAt}
use Rattle.bd_thread.specs.Lines.{change_asked, claim_asked, close_asked, job_now, open_asked, outcome_now}
use Rattle.bd_thread.specs.Refusals.{refusal_now}
use Rattle.bd_thread.specs.Retries.{may_retry}
use Rattle.bd_thread.specs.Seen.{view_of}
use Rattle.bd_thread.specs.Sent.{has_room, may_send}
use Rattle.bd_thread.specs.Served.{next_due}
use Rattle.bd_thread.specs.Walking.{NoVisit}

-- ---- messages and pieces

-- the first message in the thread's queue can't be taken, or there is none
abbrev pub NoMessage : Thread → Links → Type 0
NoMessage t links = first_brought (queues_of links.queues.items t.me) ≡ None

-- no piece can be served on a device
abbrev pub NoPieceOn : DevId → Thread → Links → Type 0
NoPieceOn dev t links = next_due t dev ≡ None

abbrev pub waits_on : Option Base → Option DevId
waits_on None = None
waits_on (Some b) = cond (length b.queue == 0) None (Some b.dev)

-- the thread's base device at this place, if a piece waits there
abbrev pub waits_at : ℕ → Thread → Option DevId
waits_at place t = waits_on (slice_get t.part.bases place)

-- nor can one be served there
abbrev pub NoPieceAt : ℕ → Thread → Links → Type 0
NoPieceAt place t links = (dev : DevId) → waits_at place t ≡ Some dev → NoPieceOn dev t links

-- nor on any of the first n base devices of the thread
abbrev pub NoPieceBelow : ℕ → Thread → Links → Type 0
NoPieceBelow n t links = (place : ℕ) → place < n → NoPieceAt place t links

-- nor on any device
abbrev pub NoPiece : Thread → Links → Type 0
NoPiece t links = (dev : DevId) → NoPieceOn dev t links

-- nor does a soft mark become hard, or can anything be done for a line of a limited device, and no walk visits
pub record NothingToServe (t : Thread) (links : Links) : Type 0 where
  pub piece : NoPiece t links
  pub mark : NoDue t links
  pub limit : NoLimit t links
  pub walk : NoVisit t links

-- ---- pieces that are refused, and those that wait to be sent again

-- no piece is one too many on a device
abbrev pub NoRefusalOn : DevId → Thread → Links → Type 0
NoRefusalOn dev t links = refusal_now dev t links ≡ None

-- nor on the base device at this place, if one waits there
abbrev pub NoRefusalAt : ℕ → Thread → Links → Type 0
NoRefusalAt place t links = (dev : DevId) → waits_at place t ≡ Some dev → NoRefusalOn dev t links

-- nor on any of the first n base devices of the thread
abbrev pub NoRefusalBelow : ℕ → Thread → Links → Type 0
NoRefusalBelow n t links = (place : ℕ) → place < n → NoRefusalAt place t links

-- nor on any
abbrev pub NoRefusal : Thread → Links → Type 0
NoRefusal t links = (i : ℕ) (b : Base) → slice_get t.part.bases i ≡ Some b → NoRefusalOn b.dev t links

-- no piece that waits may be sent again by the channel at this place
abbrev pub NoRetryAt : ℕ → Thread → Links → Type 0
NoRetryAt place t links = may_retry place t links ≡ false

-- nor by any before it
abbrev pub NoRetryBelow : ℕ → Thread → Links → Type 0
NoRetryBelow n t links = (place : ℕ) → place < n → NoRetryAt place t links

-- nor by any
abbrev pub NoRetry : Thread → Links → Type 0
NoRetry t links = (place : ℕ) → NoRetryAt place t links

-- ---- open requests

-- a step that a thread takes by itself, beside those of a request whose pieces are back
abbrev pub is_taken_alone : Step → Bool
is_taken_alone (steps.Abort cause) = true
is_taken_alone steps.Cut = true
is_taken_alone steps.Pend = true
is_taken_alone _ = false

-- the next step of the request is no abort by a mark, not the cut, and not that it is kept without an answer; where it is an abort, nothing that it names can be stopped; it can't be released at the turn's moment, held or completed; and where it is to go to the home of a limited device, something else is to be put before, or there is no room there
pub record NoStepOf (req : ReqId) (t : Thread) (links : Links) : Type 0 where
  pub step : is_taken_alone (next_step t.setup.now t.me (view_of t links) req) ≡ false
  pub named : NoneNamed req t links
  pub still : StandsStill req t links
  pub out : NoWayOut req (next_step t.setup.now t.me (view_of t links) req) t links

-- nor can any open request of the thread
abbrev pub NoStep : Thread → Links → Type 0
NoStep t links = (i : ℕ) (o : Open) → slice_get t.part.requests i ≡ Some o → NoStepOf o.id t links

-- no step can be taken but one that asks the registry, and whether that is the next one
pub record StandsOf (asks : Bool) (req : ReqId) (t : Thread) (links : Links) : Type 0 where
  pub none : NoStepOf req t links
  pub asks_is : asks ≡ asks_next t links req

-- the same of the first n of these requests
pub record StandsAmong (found : Option ReqId) (reqs : List ReqId) (n : ℕ) (t : Thread) (links : Links) : Type 0 where
  pub none : (i : ℕ) (req : ReqId) → i < n → slice_get reqs i ≡ Some req → NoStepOf req t links
  pub finds : FindsAmong reqs n found t links

-- and of all these
pub record StandsNamed (found : Option ReqId) (reqs : List ReqId) (t : Thread) (links : Links) : Type 0 where
  pub none : (i : ℕ) (req : ReqId) → slice_get reqs i ≡ Some req → NoStepOf req t links
  pub finds : FindsNamed reqs found t links

-- and of all open requests, where this holds
pub record StandsBut (Where : Thread → Type 0) (found : Option ReqId) (t : Thread) (links : Links) : Type 0 where
  pub none : Where t → NoStep t links
  pub finds : Where t → Finds found t links

-- ---- the next line

-- it asks for a submission
abbrev pub is_submission : Option Job → Bool
is_submission (Some (jobs.Submit handle op lba count)) = true
is_submission _ = false

-- as many requests are open as may be
abbrev pub IsFilled : Thread → Links → Type 0
IsFilled t links = most_requests ≤ length t.part.requests

-- nothing can be submitted
abbrev pub NoSubmission : Thread → Links → Type 0
NoSubmission t links = is_submission (job_now t links) && nat_lt (length t.part.requests) most_requests ≡ false

-- no act can be made for the line: nothing can be opened, closed, claimed, removed, resized or submitted, and it has no outcome
pub record NoLine (t : Thread) (links : Links) : Type 0 where
  pub opening : open_asked t links ≡ None
  pub closing : close_asked t links ≡ None
  pub claiming : claim_asked t links ≡ None
  pub changing : change_asked t links ≡ None
  pub submission : NoSubmission t links
  pub outcome : outcome_now t links ≡ None

-- what no thread does: a script closes no base handle
abbrev pub is_unbuilt : Setup → View → Job → Bool
is_unbuilt setup v (jobs.Close handle) = is_base_if_any setup (bound_to v.part handle)
is_unbuilt setup v _ = false

abbrev pub asks_unbuilt : Setup → View → Option Job → Bool
asks_unbuilt setup v None = false
asks_unbuilt setup v (Some job) = is_unbuilt setup v job

-- the Shutdown came, something has to follow at the registry, the script is at its end or blocked, or its next line asks for what no thread does, or sleeps
abbrev pub is_line_waiting : Thread → Links → Bool
is_line_waiting t links =
    links.shut || is_some links.registry.state.between || is_script_blocked t.setup.now t.me (view_of t links) || asks_unbuilt t.setup.now (view_of t links) (undecided_job t.setup.now t.me t.part) || is_asleep t

-- ---- handles and devices that go

-- no handle on a device whose remove event was taken may be closed
abbrev pub NoHandleOn : DevId → Thread → Links → Type 0
NoHandleOn dev t links = left_on dev t links ≡ None

-- nor on any device with a number below this one
abbrev pub NoHandleBelow : ℕ → Thread → Links → Type 0
NoHandleBelow n t links = (dev : DevId) → dev.0 < n → NoHandleOn dev t links

-- nor on any device of the setup; their numbers have 32 bits
abbrev pub NoHandle : Thread → Links → Type 0
NoHandle t links = (dev : DevId) → dev.0 < length t.setup.now.devices → dev.0 < 2 ^ 32 → NoHandleOn dev t links

-- the device may be destructed, and what its entry shows is here
abbrev pub may_destruct : Thread → Links → DevId → Bool
may_destruct t links dev = may_device_go t links dev && is_some (digest_due (is_malloc t.setup.now dev) (find (is_base dev) t.part.bases))

abbrev pub NoDestructOn : DevId → Thread → Links → Type 0
NoDestructOn dev t links = may_destruct t links dev ≡ false

-- no device with a number below this one can be destructed
abbrev pub NoDestructBelow : ℕ → Thread → Links → Type 0
NoDestructBelow n t links = (dev : DevId) → dev.0 < n → NoDestructOn dev t links

abbrev pub NoDestruct : Thread → Links → Type 0
NoDestruct = NoDestructBelow (2 ^ 32)

-- no handle can be closed, and no device destructed
pub record NothingOwn (t : Thread) (links : Links) : Type 0 where
  pub handle : NoHandle t links
  pub device : NoDestruct t links

-- a device that is left can't be removed, or it isn't after the Shutdown, or not thread 0
abbrev pub NoRemovalOn : DevId → Thread → Links → Type 0
NoRemovalOn dev t links = removal_due dev t links ≡ None

-- nor any with a number from this one on
abbrev pub NoRemovalFrom : ℕ → Thread → Links → Type 0
NoRemovalFrom n t links = (dev : DevId) → n ≤ dev.0 → NoRemovalOn dev t links

-- nor any
abbrev pub NoRemoval : Thread → Links → Type 0
NoRemoval = NoRemovalFrom 0

-- nothing of this can be done
pub record NothingLeft (t : Thread) (links : Links) : Type 0 where
  pub removal : NoRemoval t links
  pub own : NothingOwn t links

-- ---- what is still to be put

abbrev pub NothingToSend : Thread → Links → Type 0
NothingToSend t links = may_send t links t.outbox.items ≡ false

-- there is room where the first message that is due is to go
abbrev pub may_post : Links → List Due → Bool
may_post links [] = false
may_post links (d ∷ ds) = has_room links d.receiver

abbrev pub NothingToPost : Thread → Links → Type 0
NothingToPost t links = may_post links t.part.due ≡ false

-- ---- a turn

-- nothing changed, and the thread waits for this
pub record IsIdle (Waits : Thread → Links → Type 0) (old : Thread) (before : Links) (new : Thread) (after : Links) : Type 0 where
  pub thread : new ≡ old
  pub links : after ≡ before
  pub waits : Waits old before

-- it added an entry; or nothing changed, and the thread waits for this
abbrev pub Progresses : (Thread → Links → Type 0) → Thread → Links → Thread → Links → Bool → Type 0
Progresses Waits old before new after true = length before.entries < length after.entries
Progresses Waits old before new after false = IsIdle Waits old before new after

-- what adds no entry changes nothing, and then the thread waits for this
abbrev pub Idles : (Thread → Links → Type 0) → Thread → Links → Thread → Links → Type 0
Idles Waits old before new after = length after.entries ≤ length before.entries → IsIdle Waits old before new after

-- all that a thread waits for: nothing of this can be done, by an open request where this holds
pub record IsWaiting (Where : Thread → Type 0) (t : Thread) (links : Links) : Type 0 where
  pub message : NoMessage t links
  pub refusal : NoRefusal t links
  pub retry : NoRetry t links
  pub duty : NoDuty t links
  pub piece : NoPiece t links
  pub mark : NoDue t links
  pub limit : NoLimit t links
  pub walk : NoVisit t links
  pub line : is_line_waiting t links ≡ true
  pub left : NothingLeft t links
  pub outbox : NothingToSend t links
  pub due : NothingToPost t links
  pub request : Where t → NoStep t links
  pub call : Where t → NoCall t links

-- nothing changed but what is noted to be asked of the registry and which requests are to be looked at, and the thread waits for this
pub record IsStill (Waits : Thread → Links → Type 0) (old : Thread) (before : Links) (new : Thread) (after : Links) : Type 0 where
  pub thread : new ≡ record old { calls = new.calls; touched = new.touched }
  pub links : after ≡ before
  pub waits : Waits new after

-- a quiet turn changed nothing, and the thread waits for all this, where each open request was to be looked at, or rests
abbrev pub Quiets : Thread → Links → Thread → Links → Turned → Type 0
Quiets old before new after Quiet = IsStill (IsWaiting (LooksAt old.touched)) old before new after
Quiets old before new after (Moved n) = Unit {0}
