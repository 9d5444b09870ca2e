-- What a thread does that asks the registry for nothing: what that leaves, what the thread waits for then, and when it wants the registry.
use Rattle.std.specs.Prelude.{◌≡◌, ℕ, ◌^◌, Bool, true, false, cond, not, ◌&&◌, ◌||◌, ◌==◌, nat_lt, List, [], ◌∷◌, ◌++◌, length, Option, Some, None, is_some}
use Rattle.std.specs.List.{list_any, range_with_len}
use Rattle.bd_base.specs.declared.act.Act.{Act}
use Rattle.bd_base.specs.declared.act.Entry.{Entry}
use Rattle.bd_base.specs.declared.id.ReqId.{ReqId}
use Rattle.bd_base.specs.declared.setup.Setup.{Setup}
use Rattle.bd_machine.specs.Messages.{count_at}
use Rattle.bd_machine.specs.Users.{dev_of}
use Rattle.bd_law_logs.specs.Journals.{events}
use Rattle.bd_steps.specs.Asking.{asks_registry, is_live_at}
use Rattle.bd_steps.specs.Duties.{is_pending}
use Rattle.bd_thread.specs.declared.links.Links.{Links}
use Rattle.bd_thread.specs.declared.thread.Thread.{Thread}
use Rattle.bd_thread.specs.declared.turn.Turned.{Turned}
use Rattle.bd_thread.specs.declared.turn.Turned.TheVariants.{Moved, Quiet}
use Rattle.bd_thread.specs.Acted.{is_own, ActedBy}
use Rattle.bd_thread.specs.Endings.{left_on}
use Rattle.bd_thread.specs.Calls.{NoneAsks}
use Rattle.bd_thread.specs.Grace.{NoDue}
use Rattle.bd_thread.specs.Limits.{NoLimit}
use Rattle.bd_thread.specs.Lines.{job_now, outcome_now}
use Rattle.bd_touched.specs.Reach.{Touches}
use Rattle.bd_thread.specs.Looking.{LooksAt}
use Rattle.bd_thread.specs.Waits.{IsStill, IsWaiting, NoDestruct, NoLine, NoMessage, NoPiece, NoRefusal, NoRetry, NoStep, NoSubmission, NothingToPost, NothingToSend}
use Rattle.bd_thread.specs.Walking.{NoVisit}

-- ---- what asks the registry for nothing

-- the registry is as before, and entries were only added, none of which asks it or is the Shutdown
pub record AsksNothing (before after : Links) : Type 0 where
  pub registry : after.registry ≡ before.registry
  pub entries : List Entry
  pub added : after.entries ≡ before.entries ++ entries
  pub none_asks : events entries ≡ []

-- the thread went on by such acts, the registry is as before, and none of the entries that were added asks it or is the Shutdown
pub record ActedAloneBy (may : Setup → Act → Bool) (old : Thread) (before : Links) (new : Thread) (after : Links) : Type 0 where
  pub acted : ActedBy may old before new after
  pub registry : after.registry ≡ before.registry
  pub none_asks : events acted.entries ≡ []

-- by itself
abbrev pub ActedAlone : Thread → Links → Thread → Links → Type 0
ActedAlone old before new after = ActedAloneBy is_own old before new after

-- ---- what a thread waits for then

-- nothing can be submitted, and the next line has no outcome
pub record NoLineAlone (t : Thread) (links : Links) : Type 0 where
  pub submission : NoSubmission t links
  pub outcome : outcome_now t links ≡ None

-- something is noted to be asked of the registry
abbrev pub has_calls : Thread → Bool
has_calls t = nat_lt 0 (length t.calls.items)

-- where nothing was noted and this was found, it is noted
abbrev pub calls_with : Option ReqId → List ReqId → List ReqId
calls_with (Some req) [] = req ∷ []
calls_with found calls = calls

-- all that a thread waits for but what it would ask the registry, of its open requests where this holds
pub record IsWaitingAlone (Where : Thread → Type 0) (t : Thread) (links : Links) : Type 0 where
  pub message : NoMessage t links
  pub refusal : NoRefusal t links
  pub retry : NoRetry t links
  pub piece : NoPiece t links
  pub mark : NoDue t links
  pub limit : NoLimit t links
  pub walk : NoVisit t links
  pub line : NoLineAlone t links
  pub device : NoDestruct t links
  pub outbox : NothingToSend t links
  pub due : NothingToPost t links
  pub request : Where t → NoStep t links
  -- and where nothing is noted to be asked, no open request waits for the registry
  pub call : Where t → has_calls t ≡ false → NoneAsks t links

-- quiet work changed nothing but what is noted to be asked and which requests are to be looked at, and the thread waits for all this, where each open
-- request was to be looked at, or rests
abbrev pub QuietsAlone : Thread → Links → Thread → Links → Turned → Type 0
QuietsAlone old before new after Quiet = IsStill (IsWaitingAlone (LooksAt old.touched)) old before new after
QuietsAlone old before new after (Moved n) = Unit {0}

-- ---- when it wants the registry

-- a handle is left that the thread closes by itself on the device of this number
abbrev pub is_left_at : Thread → Links → ℕ → Bool
is_left_at t links n = is_some (left_on (dev_of n) t links)

-- the same on one of the first devices, where the thread took a remove event
abbrev pub has_left : Thread → Links → ℕ → Bool
has_left t links count = not (length t.part.gone == 0) && list_any (is_left_at t links) (range_with_len 0 count)

-- after Shutdown on thread 0 one of the first devices is left to remove
abbrev pub has_removal : Thread → Links → ℕ → Bool
has_removal t links count = links.shut && (t.me == 0) && list_any (is_live_at links.registry.state) (range_with_len 0 count)

-- something is left on the devices; of more than 32 bits count it isn't told, and then it counts as so
abbrev pub is_some_left : Thread → Links → ℕ → Bool
is_some_left t links count = cond (nat_lt count (2 ^ 32)) (has_left t links count || has_removal t links count) true

-- something has to follow at the registry, the thread owes what an event does or follows, something is noted to be asked, its next line asks the registry, or something is left on the devices
abbrev pub wants_registry : Thread → Links → Bool
wants_registry t links =
    is_some links.registry.state.between || list_any is_pending t.part.owed || has_calls t || asks_registry t.setup.now t.part (job_now t links) || is_some_left t links (length t.setup.now.devices)

-- where a thread waits but for what it would ask the registry, and doesn't want that, it waits altogether: for its next line nothing can be done either
abbrev pub NothingElseWaits : Type 0
NothingElseWaits = (touched : Touches) (t : Thread) (links : Links) → IsWaitingAlone (LooksAt touched) t links → wants_registry t links ≡ false → NoLine t links × IsWaiting (LooksAt touched) t links

-- ---- counts of messages

-- how many it put to a thread
abbrev pub put_count : Thread → ℕ → ℕ
put_count t to = count_at t.part.put to

-- how many it took from one
abbrev pub taken_count : Thread → ℕ → ℕ
taken_count t source = count_at t.part.taken source
