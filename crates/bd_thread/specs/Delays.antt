-- When a thread holds a request that delay devices stand under, when it releases one, and what that leaves.
use Rattle.std.specs.Prelude.{◌≡◌, ℕ, ◌+◌, ◌-◌, Bool, true, false, cond, ◌&&◌, nat_le, min, Option, Some, None, is_none, is_some}
use Rattle.bd_base.specs.declared.act.Act.TheVariants as acts
use Rattle.bd_base.specs.declared.id.ReqId.{ReqId}
use Rattle.bd_held.specs.declared.held.HeldRequest.{HeldRequest}
use Rattle.bd_held.specs.Holds.{first_hold, with_hold, without_hold}
use Rattle.bd_machine.specs.declared.state.Id.TheVariants as ids
use Rattle.bd_machine.specs.declared.state.Kept.TheVariants as keeps
use Rattle.bd_machine.specs.declared.state.OpenRequest.{OpenRequest}
use Rattle.bd_machine.specs.declared.state.Part.{Part}
use Rattle.bd_machine.specs.Delays.{counted, guards_hold, guards_release, held, last_moment, latency, released}
use Rattle.bd_machine.specs.Kept.{request_here}
use Rattle.bd_machine.specs.Limits.{seen, way_of}
use Rattle.bd_machine.specs.Step.{first_failing}
use Rattle.bd_steps.specs.Completions.{ending_of}
use Rattle.bd_steps.specs.Stopping.{channels_without, without_unsent}
use Rattle.bd_links.specs.Entries.{longer}
use Rattle.bd_tokens.specs.Tokens.{here_in, Sets}
use Rattle.bd_thread.specs.declared.links.Links.{Links}
use Rattle.bd_thread.specs.declared.thread.Thread.{Thread}
use Rattle.bd_thread.specs.Aborts.{Then}
use Rattle.bd_thread.specs.Completions.{MayComplete}
use Rattle.bd_thread.specs.Seen.{untaken, view_of}

-- ---- a hold

-- the turn's moment with the latencies of all delay devices below the request
abbrev pub until_of : Thread → OpenRequest → ℕ
until_of t r = min (t.time.moment + latency t.setup.now t.part r.dev (way_of r.op)) last_moment

-- the rules let the thread hold the request until this moment
abbrev pub may_hold_until : Thread → Links → ReqId → ℕ → Bool
may_hold_until t links req until = is_none (first_failing (guards_hold t.setup.now t.me (view_of t links) req until))

abbrev pub hold_due_of : Thread → Links → ReqId → Option OpenRequest → Option (OpenRequest × ℕ)
hold_due_of t links req None = None
hold_due_of t links req (Some r) = cond (may_hold_until t links req (until_of t r)) (Some (r, until_of t r)) None

-- the request, where it is here and may be held, and until when
abbrev pub hold_due : Thread → Links → ReqId → Option (OpenRequest × ℕ)
hold_due t links req = hold_due_of t links req (request_here (view_of t links) req)

-- the part where the delay devices below the request count it
abbrev pub held_part : Thread → OpenRequest → Part
held_part t r = untaken (record t.part { delayed = counted t.setup.now t.part r.dev (way_of r.op) })

-- one Hold: the request is held until this moment, and its pieces that wait unsent are no longer to be put, in flight or to be sent again
pub record IsHeld (req : ReqId) (r : OpenRequest) (until : ℕ) (old : Thread) (before : Links) (new : Thread) (after : Links) : Type 0 where
  pub thread : new ≡ record old { part = held_part old r; held = new.held; outbox = new.outbox; retries = new.retries; holds = with_hold old.holds req until }
  pub held : Sets old.held.items new.held.items (ids.Request req) (Some (keeps.Request (held old.setup.now old.part until r)))
  pub outbox : new.outbox.items ≡ without_unsent req (here_in old.held.items) old.outbox.items
  pub retries : new.retries ≡ channels_without old.setup.now req (here_in old.held.items) old.outbox.items old.retries
  pub links : after ≡ record before { entries = longer old.me before.entries (acts.Hold req until) }

abbrev pub HoldsBy : ReqId → Thread → Links → Thread → Links → Bool → Option (OpenRequest × ℕ) → Type 0
HoldsBy req old before new after done None = (done ≡ false) × (new ≡ old) × (after ≡ before)
HoldsBy req old before new after done (Some due) = (done ≡ true) × IsHeld req due.0 due.1 old before new after

-- where the request may be held, it is; else nothing changes
abbrev pub Holds : ReqId → Thread → Links → Thread → Links → Bool → Type 0
Holds req old before new after done = HoldsBy req old before new after done (hold_due old before req)

-- ---- a release

-- the rules let the thread release the request at the turn's moment
abbrev pub may_release_now : Thread → Links → ReqId → Bool
may_release_now t links req = is_none (first_failing (guards_release t.setup.now t.me (view_of t links) req t.time.moment))

-- the request, where it is here and may be released at the turn's moment
abbrev pub release_due : Thread → Links → ReqId → Option OpenRequest
release_due t links req = cond (may_release_now t links req) (request_here (view_of t links) req) None

-- one Release, which names the turn's moment: the request is held no longer
pub record IsReleased (req : ReqId) (r : OpenRequest) (old : Thread) (before : Links) (new : Thread) (after : Links) : Type 0 where
  pub thread : new ≡ record old { part = untaken (record old.part { moments = seen old.time.moment old.part.moments }); held = new.held; holds = without_hold old.holds req r.hold }
  pub held : Sets old.held.items new.held.items (ids.Request req) (Some (keeps.Request (released r)))
  pub links : after ≡ record before { entries = longer old.me before.entries (acts.Release req old.time.moment) }

abbrev pub ReleasesBy : ReqId → Thread → Links → Thread → Links → Bool → Option OpenRequest → Type 0
ReleasesBy req old before new after done None = (done ≡ false) × (new ≡ old) × (after ≡ before)
ReleasesBy req old before new after done (Some r) = (done ≡ true) × IsReleased req r old before new after

-- where the request may be released, it is; else nothing changes
abbrev pub Releases : ReqId → Thread → Links → Thread → Links → Bool → Type 0
Releases req old before new after done = ReleasesBy req old before new after done (release_due old before req)

abbrev pub EndsHoldBy : ReqId → Thread → Links → Thread → Links → Bool → Option OpenRequest → Type 0
EndsHoldBy req old before new after done None = (done ≡ false) × (new ≡ old) × (after ≡ before)
EndsHoldBy req old before new after done (Some r) =
    (done ≡ true) × Then (λ t links. IsReleased req r old before t links) (λ t links. MayComplete req t links new after)

-- where the request may be released, it is, and then it completes where it may; else nothing changes
abbrev pub EndsHold : ReqId → Thread → Links → Thread → Links → Bool → Type 0
EndsHold req old before new after done = EndsHoldBy req old before new after done (release_due old before req)

-- ---- what a request does whose pieces are back

abbrev pub HoldsOrCompletesBy : ReqId → Thread → Links → Thread → Links → Option (OpenRequest × ℕ) → Type 0
HoldsOrCompletesBy req old before new after None = MayComplete req old before new after
HoldsOrCompletesBy req old before new after (Some due) = IsHeld req due.0 due.1 old before new after

-- it is held, where it may be; else it completes, where it may
abbrev pub HoldsOrCompletes : ReqId → Thread → Links → Thread → Links → Type 0
HoldsOrCompletes req old before new after = HoldsOrCompletesBy req old before new after (hold_due old before req)

-- it may be neither released at the turn's moment, nor held, nor completed
pub record StandsStill (req : ReqId) (t : Thread) (links : Links) : Type 0 where
  pub release : release_due t links req ≡ None
  pub hold : hold_due t links req ≡ None
  pub completion : ending_of t.setup.now t.me (view_of t links) req ≡ None

-- ---- the request whose hold ends first

abbrev pub is_release_due : Thread → Links → Option HeldRequest → Bool
is_release_due t links None = false
is_release_due t links (Some h) = nat_le h.until t.time.moment && is_some (release_due t links h.req)

-- its moment isn't there, or it may not be released
abbrev pub NoFirstRelease : Thread → Links → Type 0
NoFirstRelease t links = is_release_due t links (first_hold t.holds) ≡ false

abbrev pub lasts_from : ℕ → Option HeldRequest → Option ℕ
lasts_from now None = None
lasts_from now (Some h) = Some (h.until - now)

-- how long the first hold lasts from the turn's moment on
abbrev pub held_for : Thread → Option ℕ
held_for t = lasts_from t.time.moment (first_hold t.holds)
