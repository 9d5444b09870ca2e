-- When a thread aborts a request, what that leaves, what a mark stops, and what an abort stops that names a request.
use Rattle.std.specs.Prelude.{◌≡◌, Bool, true, false, List, [], ◌∷◌, Option, Some, None}
use Rattle.bd_base.specs.declared.act.Act.TheVariants as acts
use Rattle.bd_base.specs.declared.id.DevId.{DevId}
use Rattle.bd_base.specs.declared.id.ReqId.{ReqId}
use Rattle.bd_base.specs.declared.request.AbortCause.{AbortCause}
use Rattle.bd_base.specs.declared.request.AbortCause.TheVariants.{Named}
use Rattle.bd_held.specs.Holds.{without_hold}
use Rattle.bd_machine.specs.declared.state.Id.TheVariants as ids
use Rattle.bd_machine.specs.declared.state.Kept.TheVariants as keeps
use Rattle.bd_machine.specs.declared.state.OpenRequest.{OpenRequest}
use Rattle.bd_machine.specs.Aborts.{aborted, stopped}
use Rattle.bd_steps.specs.Naming.{named_by}
use Rattle.bd_steps.specs.Stopping.{abortable, channels_without, may_stop, stoppable, turned_back, without_unsent}
use Rattle.bd_links.specs.Entries.{longer}
use Rattle.bd_tokens.specs.Tokens.{here_in, Sets}
use Rattle.bd_thread.specs.declared.links.Links.{Links}
use Rattle.bd_thread.specs.declared.thread.Thread.{Thread}
use Rattle.bd_thread.specs.Completions.{MayComplete}
use Rattle.bd_thread.specs.Seen.{untaken, view_of}

-- ---- an abort

-- the rules let the thread abort the request for this cause
abbrev pub may_abort : Thread → Links → ReqId → AbortCause → Bool
may_abort t links req cause = may_stop t.setup.now t.me (view_of t links) req cause

-- the request, where it is here and may be aborted
abbrev pub abort_due : Thread → Links → ReqId → AbortCause → Option OpenRequest
abort_due t links req cause = abortable t.setup.now t.me (view_of t links) req cause

-- one Abort: the request is aborted, waits at no limited device and is held no longer, and its pieces that wait unsent are no longer to be put, in flight or to be sent again; from its own thread it no longer goes to a limited device's home, and from where it waits there it is to be put back
pub record IsAborted (req : ReqId) (cause : AbortCause) (r : OpenRequest) (old : Thread) (before : Links) (new : Thread) (after : Links) : Type 0 where
  pub thread : new ≡ record old { part = untaken (stopped old.setup.now old.part req (Some r)); held = new.held; outbox = new.outbox; retries = new.retries; holds = without_hold old.holds req r.hold }
  pub held : Sets old.held.items new.held.items (ids.Request req) (Some (keeps.Request (aborted cause r)))
  pub outbox : new.outbox.items ≡ turned_back req r.trip (without_unsent req (here_in old.held.items) old.outbox.items)
  pub retries : new.retries ≡ channels_without old.setup.now req (here_in old.held.items) old.outbox.items old.retries
  pub links : after ≡ record before { entries = longer old.me before.entries (acts.Abort req cause) }

abbrev pub AbortsBy : ReqId → AbortCause → Thread → Links → Thread → Links → Bool → Option OpenRequest → Type 0
AbortsBy req cause old before new after done None = (done ≡ false) × (new ≡ old) × (after ≡ before)
AbortsBy req cause old before new after done (Some r) = (done ≡ true) × IsAborted req cause r old before new after

-- where the request may be aborted, it is; else nothing changes
abbrev pub Aborts : ReqId → AbortCause → Thread → Links → Thread → Links → Bool → Type 0
Aborts req cause old before new after done = AbortsBy req cause old before new after done (abort_due old before req cause)

-- ---- what a mark stops

-- it went one way, and then another
pub record Then (First Second : Thread → Links → Type 0) : Type 0 where
  pub middle : Thread
  pub shared : Links
  pub first : First middle shared
  pub second : Second middle shared

-- it is aborted, and completes where it is on its own thread and no piece of it is out
abbrev pub StopsBy : ReqId → AbortCause → Thread → Links → Thread → Links → Option OpenRequest → Type 0
StopsBy req cause old before new after None = (new ≡ old) × (after ≡ before)
StopsBy req cause old before new after (Some r) = Then (λ t links. IsAborted req cause r old before t links) (λ t links. MayComplete req t links new after)

-- a request is stopped, where it may be aborted; else nothing changes
abbrev pub Stops : ReqId → AbortCause → Thread → Links → Thread → Links → Type 0
Stops req cause old before new after = StopsBy req cause old before new after (abort_due old before req cause)

-- each of these requests is stopped, one after another
abbrev pub StopsEach : List ReqId → AbortCause → Thread → Links → Thread → Links → Type 0
StopsEach [] cause old before new after = (new ≡ old) × (after ≡ before)
StopsEach (req ∷ reqs) cause old before new after = Then (λ t links. Stops req cause old before t links) (λ t links. StopsEach reqs cause t links new after)

-- each open request of the thread that has the device below is stopped, in order of acceptance, and then each that waits here at a limited device;
-- a reset can't be, and the others aren't on a device that a mark of this one is for
abbrev pub StopsAll : DevId → AbortCause → Thread → Links → Thread → Links → Type 0
StopsAll dev cause old before new after = StopsEach (stoppable old.setup.now dev old.part) cause old before new after

-- ---- what an abort stops that names a request

-- the request that the abort `by` stops, where that is here
abbrev pub named_due : Thread → Links → ReqId → Option ReqId
named_due t links by = named_by t.setup.now t.me (view_of t links) by

abbrev pub StopsNamedBy : ReqId → Thread → Links → Thread → Links → Option ReqId → Type 0
StopsNamedBy by old before new after None = (new ≡ old) × (after ≡ before)
StopsNamedBy by old before new after (Some req) = Stops req (Named by) old before new after

-- the request that the abort names is stopped, where the rules let it; else nothing changes
abbrev pub StopsNamed : ReqId → Thread → Links → Thread → Links → Type 0
StopsNamed by old before new after = StopsNamedBy by old before new after (named_due old before by)

-- and then the abort completes, where it may
abbrev pub EndsAbort : ReqId → Thread → Links → Thread → Links → Type 0
EndsAbort by old before new after = Then (λ t links. StopsNamed by old before t links) (λ t links. MayComplete by t links new after)

-- it is no abort, or nothing that it names can be stopped
abbrev pub NoneNamed : ReqId → Thread → Links → Type 0
NoneNamed by t links = named_due t links by ≡ None
