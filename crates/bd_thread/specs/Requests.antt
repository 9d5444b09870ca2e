-- A thread's own requests: what a submission asks and what it leaves.
use Rattle.std.specs.Prelude.{◌≡◌, ℕ, ◌<◌, ◌≤◌, true, false, List, [], ◌∷◌, ◌++◌, length, map, Option, Some, None}
use Rattle.std.specs.List.{AllByRecursion, list_any}
use Rattle.bd_base.specs.declared.act.Act.{Act}
use Rattle.bd_base.specs.declared.act.Act.TheVariants as acts
use Rattle.bd_base.specs.declared.id.DevId.{DevId}
use Rattle.bd_base.specs.declared.id.HandleId.{HandleId}
use Rattle.bd_base.specs.declared.id.ReqId.{ReqId}
use Rattle.bd_base.specs.declared.request.Errno.{Errno}
use Rattle.bd_base.specs.declared.setup.Setup.{Setup}
use Rattle.bd_machine.specs.declared.state.Decided.TheVariants as decisions
use Rattle.bd_machine.specs.declared.state.Id.TheVariants as ids
use Rattle.bd_machine.specs.declared.state.Kept.{Kept}
use Rattle.bd_machine.specs.declared.state.Kept.TheVariants as keeps
use Rattle.bd_machine.specs.declared.state.Open.{Open}
use Rattle.bd_machine.specs.declared.state.Part.{Part}
use Rattle.bd_machine.specs.Admission.{refusal_of}
use Rattle.bd_machine.specs.Asked.{is_handle_on, is_job_submit, most_requests, no_request, undecided_job}
use Rattle.bd_machine.specs.Registry.{handle_of}
use Rattle.bd_machine.specs.Requests.{change_accept, new_request}
use Rattle.bd_machine.specs.Same.{same_request}
use Rattle.bd_rule_effects.specs.Lone.{lone}
use Rattle.bd_rule_view.specs.declared.names.Submission.{Submission}
use Rattle.bd_links.specs.Entries.{longer}
use Rattle.bd_tokens.specs.Tokens.{here_in, Sets}
use Rattle.bd_thread.specs.declared.links.Links.{Links}
use Rattle.bd_thread.specs.declared.requests.Refused.{Refused}
use Rattle.bd_thread.specs.declared.requests.Refused.TheVariants as refusals
use Rattle.bd_thread.specs.declared.thread.Thread.{Thread}
use Rattle.bd_thread.specs.Acted.{Acted}
use Rattle.bd_thread.specs.Seen.{untaken, view_of}

-- ---- what is asked of a thread

-- the next line asks for this submission, nothing decided it, and no Shutdown came
pub record IsAsked (t : Thread) (links : Links) (handle : Option HandleId) (asked : Submission) : Type 0 where
  pub running : links.shut ≡ false
  pub line : is_job_submit t.part handle asked.op asked.lba asked.count (undecided_job t.setup.now t.me t.part) ≡ true

-- the id is one that the thread may still give
pub record IsFresh (t : Thread) (id : ReqId) : Type 0 where
  pub own : id.thread ≡ t.me
  pub above : t.part.next_request ≤ id.seq
  pub names : id.seq < no_request

-- why the definitions refuse it, if they do
abbrev pub refusal : Thread → Links → Option HandleId → Submission → Option Errno
refusal t links handle asked = refusal_of t.setup.now (view_of t links) handle asked.op asked.lba asked.count

-- ---- what it leaves

abbrev pub refuse_act : Option HandleId → Submission → Errno → Act
refuse_act handle asked errno = acts.Refuse errno asked.lba handle asked.op asked.count

-- the part with the line refused by this errno
abbrev pub refused : Errno → Part → Part
refused errno part = untaken (record part { decided = Some (decisions.Refused errno) })

-- it was refused by this errno: that decided the line, the entry says so, and all else stayed
pub record IsRefused (errno : Errno) (handle : Option HandleId) (asked : Submission) (old : Thread) (before : Links) (new : Thread) (after : Links) : Type 0 where
  pub due : refusal old before handle asked ≡ Some errno
  pub acted : Acted old before new after
  pub thread : new ≡ record old { part = refused errno old.part }
  pub links : after ≡ record before { entries = longer old.me before.entries (refuse_act handle asked errno) }

-- no cause refuses it, but as many requests are open as may be: nothing changed
pub record IsFull (handle : HandleId) (asked : Submission) (old : Thread) (before : Links) (new : Thread) (after : Links) : Type 0 where
  pub admitted : refusal old before (Some handle) asked ≡ None
  pub full : most_requests ≤ length old.part.requests
  pub thread : new ≡ old
  pub links : after ≡ before

-- out of memory: the tokens that are on the thread, its tickets, what it did and all else that threads have together are as they were
pub record IsHeldAsBefore (old : Thread) (before : Links) (new : Thread) (after : Links) : Type 0 where
  pub held : here_in new.held.items ≡ here_in old.held.items
  pub tickets : new.purse.ids ≡ old.purse.ids
  pub links : after ≡ before

-- what a refusal leaves
abbrev pub Refuses : Refused → HandleId → Submission → Thread → Links → Thread → Links → Type 0
Refuses (refusals.Errno errno) handle asked old before new after = IsRefused errno (Some handle) asked old before new after
Refuses refusals.Full handle asked old before new after = IsFull handle asked old before new after
Refuses refusals.OutOfMemory handle asked old before new after = IsHeldAsBefore old before new after

abbrev pub accept_act : ReqId → DevId → HandleId → Submission → Act
accept_act req dev handle asked = acts.Accept dev asked.lba handle req asked.op asked.count

-- a request that was accepted, and no more
abbrev pub opened : Setup → Part → DevId → HandleId → Submission → Kept
opened setup part dev handle asked = keeps.Request (new_request setup part handle dev asked.op asked.lba asked.count)

-- the part with this request accepted
abbrev pub accepted : Setup → ℕ → Part → ReqId → DevId → HandleId → Submission → Part
accepted setup me part req dev handle asked = untaken (change_accept setup me (lone part) req dev handle asked.op asked.lba asked.count).part

-- it was accepted by this id: the request is open and here, and the entry says so
pub record IsOpened (req : ReqId) (dev : DevId) (handle : HandleId) (asked : Submission) (old : Thread) (before : Links) (new : Thread) (after : Links) : Type 0 where
  pub part : new.part ≡ accepted old.setup.now old.me old.part req dev handle asked
  pub held : Sets old.held.items new.held.items (ids.Request req) (Some (opened old.setup.now old.part dev handle asked))
  pub thread : new ≡ record old { part = new.part; held = new.held; purse = new.purse }
  pub links : after ≡ record before { entries = longer old.me before.entries (accept_act req dev handle asked) }

-- nothing spoke against it, there was room, and its ticket is kept
pub record IsAccepted (req : ReqId) (handle : HandleId) (asked : Submission) (old : Thread) (before : Links) (new : Thread) (after : Links) : Type 0 where
  pub admitted : refusal old before (Some handle) asked ≡ None
  pub room : length old.part.requests < most_requests
  pub dev : DevId
  pub on : is_handle_on dev (handle_of (view_of old before).handles handle) ≡ true
  pub opens : IsOpened req dev handle asked old before new after
  pub tickets : new.purse.ids ≡ old.purse.ids ++ req ∷ []

-- ---- tickets

-- no id stands twice
abbrev pub AreDistinct : List ReqId → Type 0
AreDistinct [] = Unit {0}
AreDistinct (x ∷ xs) = (list_any (same_request x) xs ≡ false) × AreDistinct xs

abbrev pub ids_of : List Open → List ReqId
ids_of requests = map (λ r. r.id) requests

-- a thread keeps the tickets of its open requests in their order, and gave no id twice
pub record KeepsTickets (t : Thread) : Type 0 where
  pub tickets : t.purse.ids ≡ ids_of t.part.requests
  pub distinct : AreDistinct (ids_of t.part.requests)
  pub given : AllByRecursion (λ (id : ReqId). id.seq < t.part.next_request) (ids_of t.part.requests)
