-- When a request takes the decision of an error device, and when it is kept without an answer; and what that leaves.
use Rattle.std.specs.Prelude.{◌≡◌, Bool, true, false, cond, ◌&&◌, Option, Some, None, is_none}
use Rattle.bd_base.specs.declared.act.Act.TheVariants as acts
use Rattle.bd_base.specs.declared.event.Answer.{Answer}
use Rattle.bd_base.specs.declared.event.Answer.TheVariants as answers
use Rattle.bd_base.specs.declared.event.RegEvent.{RegEvent}
use Rattle.bd_base.specs.declared.event.RegEvent.TheVariants as events
use Rattle.bd_base.specs.declared.id.DevId.{DevId}
use Rattle.bd_base.specs.declared.id.ReqId.{ReqId}
use Rattle.bd_base.specs.declared.request.Decision.{Decision}
use Rattle.bd_flight.specs.declared.next.Step.{Step}
use Rattle.bd_flight.specs.declared.next.Step.TheVariants as steps
use Rattle.bd_flight.specs.Next.{may_take, next_step}
use Rattle.bd_machine.specs.declared.state.Id.TheVariants as ids
use Rattle.bd_machine.specs.declared.state.Kept.TheVariants as keeps
use Rattle.bd_machine.specs.declared.state.OpenRequest.{OpenRequest}
use Rattle.bd_machine.specs.Injections.{asked_once_more, guards_pend, injected, pended}
use Rattle.bd_machine.specs.Kept.{request_here}
use Rattle.bd_machine.specs.Registry.{answer_to}
use Rattle.bd_machine.specs.Step.{first_failing}
use Rattle.bd_links.specs.Entries.{longer}
use Rattle.bd_tokens.specs.Tokens.{Sets}
use Rattle.bd_thread.specs.declared.links.Links.{Links}
use Rattle.bd_thread.specs.declared.thread.Thread.{Thread}
use Rattle.bd_thread.specs.Lines.{asked_registry, may_ask}
use Rattle.bd_thread.specs.Seen.{untaken, view_of}

-- ---- a decision

-- what a request asks of an error device
abbrev pub asked_of : ReqId → DevId → OpenRequest → RegEvent
asked_of req dev r = events.TakeInjection dev req r.op

-- the device whose decision is the request's next step, where the rules let it ask, and the request
abbrev pub decision_of : Thread → Links → ReqId → Step → Option OpenRequest → Option (DevId × OpenRequest)
decision_of t links req (steps.Inject dev) (Some r) = cond (may_ask t links (asked_of req dev r)) (Some (dev, r)) None
decision_of t links req _ _ = None

abbrev pub decision_asked : Thread → Links → ReqId → Option (DevId × OpenRequest)
decision_asked t links req = decision_of t links req (next_step t.setup.now t.me (view_of t links) req) (request_here (view_of t links) req)

-- the registry as the event leaves it, where this is its answer
abbrev pub decided_registry : Thread → Links → ReqId → DevId → OpenRequest → Answer → Links
decided_registry t before req dev r answer =
    record before { registry = asked_registry t before (asked_of req dev r) answer; entries = longer t.me before.entries (acts.Reg (asked_of req dev r) answer) }

-- the registry told the decision, and the request has it: the two entries follow each other
pub record IsDecided (req : ReqId) (dev : DevId) (r : OpenRequest) (decision : Decision) (old : Thread) (before : Links) (new : Thread) (after : Links) : Type 0 where
  pub thread : new ≡ record old { part = untaken old.part; held = new.held }
  pub held : Sets old.held.items new.held.items (ids.Request req) (Some (keeps.Request (injected decision (asked_once_more r))))
  pub links : after ≡ (let told : Links = decided_registry old before req dev r (answers.Injected decision) in record told { entries = longer old.me told.entries (acts.Inject req dev decision) })

-- the registry answered, and nothing else changed
pub record IsUndecided (req : ReqId) (dev : DevId) (r : OpenRequest) (answer : Answer) (old : Thread) (before : Links) (new : Thread) (after : Links) : Type 0 where
  pub thread : new ≡ record old { part = untaken old.part }
  pub links : after ≡ decided_registry old before req dev r answer

abbrev pub DecidedBy : ReqId → DevId → OpenRequest → Thread → Links → Thread → Links → Answer → Type 0
DecidedBy req dev r old before new after (answers.Injected decision) = IsDecided req dev r decision old before new after
DecidedBy req dev r old before new after answer = IsUndecided req dev r answer old before new after

-- the request has what the registry told of this device
pub record TakesDecision (req : ReqId) (dev : DevId) (r : OpenRequest) (old : Thread) (before : Links) (new : Thread) (after : Links) : Type 0 where
  pub answer : Answer
  pub given : answer_to old.setup.now before.registry.state old.me (asked_of req dev r) ≡ answer
  pub decided : DecidedBy req dev r old before new after answer

abbrev pub DecidesBy : ReqId → Thread → Links → Thread → Links → Bool → Option (DevId × OpenRequest) → Type 0
DecidesBy req old before new after done None = (done ≡ false) × (new ≡ old) × (after ≡ before)
DecidesBy req old before new after done (Some due) = (done ≡ true) × TakesDecision req due.0 due.1 old before new after

-- where a decision may be asked for, it is taken; else nothing changes
abbrev pub Decides : ReqId → Thread → Links → Thread → Links → Bool → Type 0
Decides req old before new after done = DecidesBy req old before new after done (decision_asked old before req)

-- ---- a request that is kept without an answer

abbrev pub may_pend_now : Thread → Links → ReqId → Bool
may_pend_now t links req = is_none (first_failing (guards_pend t.me (view_of t links) req))

-- the request, where it is here and the rules let it be kept so
abbrev pub pend_due : Thread → Links → ReqId → Option OpenRequest
pend_due t links req = cond (may_pend_now t links req) (request_here (view_of t links) req) None

-- one Pend
pub record IsPended (req : ReqId) (r : OpenRequest) (old : Thread) (before : Links) (new : Thread) (after : Links) : Type 0 where
  pub thread : new ≡ record old { part = untaken old.part; held = new.held }
  pub held : Sets old.held.items new.held.items (ids.Request req) (Some (keeps.Request (pended r)))
  pub links : after ≡ record before { entries = longer old.me before.entries (acts.Pend req) }

abbrev pub PendsBy : ReqId → Thread → Links → Thread → Links → Bool → Option OpenRequest → Type 0
PendsBy req old before new after done None = (done ≡ false) × (new ≡ old) × (after ≡ before)
PendsBy req old before new after done (Some r) = (done ≡ true) × IsPended req r old before new after

-- where the request may be kept so, it is; else nothing changes
abbrev pub Pends : ReqId → Thread → Links → Thread → Links → Bool → Type 0
Pends req old before new after done = PendsBy req old before new after done (pend_due old before req)

-- ---- what waits for a decision

-- no decision can be taken on this request
abbrev pub NoDecisionOf : ReqId → Thread → Links → Type 0
NoDecisionOf req t links = decision_asked t links req ≡ None

abbrev pub is_inject : Step → Bool
is_inject (steps.Inject dev) = true
is_inject _ = false

-- the request's next step is a decision of an error device, as the rules let it
abbrev pub asks_decision : Thread → Links → ReqId → Bool
asks_decision t links req = is_inject (next_step t.setup.now t.me (view_of t links) req) && may_take t.setup.now t.me (view_of t links) req (next_step t.setup.now t.me (view_of t links) req)
