-- What a line asks of the registry, and what the answer leaves; what has to follow there at once; what a line's end changes, and when it comes.
use Rattle.std.specs.Prelude.{◌≡◌, ℕ, Bool, true, false, cond, ◌&&◌, ◌||◌, List, [], ◌∷◌, ◌++◌, length, Option, Some, None}
use Rattle.bd_base.specs.declared.act.Act.TheVariants as acts
use Rattle.bd_base.specs.declared.act.Outcome.{Outcome}
use Rattle.bd_base.specs.declared.event.Answer.{Answer}
use Rattle.bd_base.specs.declared.event.ClaimKind.{ClaimKind}
use Rattle.bd_base.specs.declared.event.RegEvent.{RegEvent}
use Rattle.bd_base.specs.declared.event.RegEvent.TheVariants as events
use Rattle.bd_base.specs.declared.id.DevId.{DevId}
use Rattle.bd_base.specs.declared.id.HandleId.{HandleId}
use Rattle.bd_base.specs.declared.job.Job.{Job}
use Rattle.bd_base.specs.declared.job.Job.TheVariants as jobs
use Rattle.bd_base.specs.declared.id.WalkId.{WalkId}
use Rattle.bd_base.specs.declared.job.Line.{Line}
use Rattle.bd_machine.specs.declared.state.Between.{Between}
use Rattle.bd_machine.specs.declared.state.Between.TheVariants.{Closing}
use Rattle.bd_machine.specs.declared.state.Handle.{Handle}
use Rattle.bd_machine.specs.declared.state.OpenWalk.{OpenWalk}
use Rattle.bd_machine.specs.declared.state.Part.{Part}
use Rattle.bd_machine.specs.Alone.{held_after}
use Rattle.bd_machine.specs.Asked.{asks_event, bound_to, next_line, outcome_due, undecided_job}
use Rattle.bd_machine.specs.Changes.{registry_after}
use Rattle.bd_machine.specs.Events.{change_reg}
use Rattle.bd_base.specs.declared.setup.Setup.{Setup}
use Rattle.bd_machine.specs.Registry.{answer_to, handle_of}
use Rattle.bd_machine.specs.View.{Change, View}
use Rattle.bd_machine.specs.Scripts.{change_job}
use Rattle.bd_rule_effects.specs.Begun.{begun}
use Rattle.bd_rule_effects.specs.Lone.{lone}
use Rattle.bd_registry.specs.State.{Registered, event_row}
use Rattle.bd_rule_view.specs.Came.{came_between, came_shut}
use Rattle.bd_steps.specs.Answering.{made_by as channels_made}
use Rattle.bd_steps.specs.Following.{close_due, get_due}
use Rattle.bd_steps.specs.Sending.{sent_off}
use Rattle.bd_links.specs.Entries.{longer, next_stamp}
use Rattle.bd_moment.specs.Time.{with_line_ended}
use Rattle.bd_tokens.specs.Tokens.{here_in}
use Rattle.bd_thread.specs.declared.links.Links.{Links}
use Rattle.bd_thread.specs.declared.thread.Thread.{Thread}
use Rattle.bd_thread.specs.Asleep.{is_asleep}
use Rattle.bd_thread.specs.Seen.{untaken, view_of}

-- ---- what a line asks of the registry

-- what the next line asks, while nothing decided it and no Shutdown came
abbrev pub job_now : Thread → Links → Option Job
job_now t links = cond links.shut None (undecided_job t.setup.now t.me t.part)

-- the open that a line names
abbrev pub open_of : Option Job → Option RegEvent
open_of (Some (jobs.Open handle dev write)) = Some (events.Open dev write)
open_of _ = None

abbrev pub claim_if_bound : ClaimKind → Option HandleId → Option RegEvent
claim_if_bound kind None = None
claim_if_bound kind (Some id) = Some (events.Claim id kind)

-- the claim that a line names, where its name is bound
abbrev pub claim_of : Part → Option Job → Option RegEvent
claim_of part (Some (jobs.Claim handle kind)) = claim_if_bound kind (bound_to part handle)
claim_of part _ = None

-- the change of a device that a line names: that it is removed, or that it grows
abbrev pub change_of : Option Job → Option RegEvent
change_of (Some (jobs.Remove dev)) = Some (events.BeginRemove dev)
change_of (Some (jobs.Resize dev blocks)) = Some (events.BeginResize dev blocks)
change_of _ = None

-- the number of the handle that a line closes, where its name is bound
abbrev pub close_of : Part → Option Job → Option HandleId
close_of part (Some (jobs.Close handle)) = bound_to part handle
close_of part _ = None

-- the rules let the thread ask the event, where this has to follow at the registry
abbrev pub may_ask_after : Thread → Links → Option Between → RegEvent → Bool
may_ask_after t links between event = asks_event t.setup.now t.me (view_of t links) (came_between between links.shut) event

-- the rules let the thread ask the event
abbrev pub may_ask : Thread → Links → RegEvent → Bool
may_ask t links event = may_ask_after t links links.registry.state.between event

abbrev pub if_asked : Thread → Links → Option RegEvent → Option RegEvent
if_asked t links None = None
if_asked t links (Some event) = cond (may_ask t links event) (Some event) None

-- the open that the next line asks for, where the thread may ask it
abbrev pub open_asked : Thread → Links → Option RegEvent
open_asked t links = if_asked t links (open_of (job_now t links))

-- the change of a device that the next line asks for, where the thread may ask it
abbrev pub change_asked : Thread → Links → Option RegEvent
change_asked t links = if_asked t links (change_of (job_now t links))

-- the claim that the next line asks for, where the thread may ask it
abbrev pub claim_asked : Thread → Links → Option RegEvent
claim_asked t links = if_asked t links (claim_of t.part (job_now t links))

-- the rules let the thread put the handle's channel, and close the handle then
abbrev pub may_close : Thread → Links → Handle → Bool
may_close t links h = may_ask t links (events.PutChannel h.dev true) && may_ask_after t links (Some (Closing t.me h.dev)) (events.Close h.id)

abbrev pub if_closable : Thread → Links → Option Handle → Option Handle
if_closable t links None = None
if_closable t links (Some h) = cond (may_close t links h) (Some h) None

abbrev pub handle_if_any : List Handle → Option HandleId → Option Handle
handle_if_any handles None = None
handle_if_any handles (Some id) = handle_of handles id

-- the handle that the next line closes, where it is open here and the thread may close it
abbrev pub close_asked : Thread → Links → Option Handle
close_asked t links = if_closable t links (handle_if_any (view_of t links).handles (close_of t.part (job_now t links)))

-- ---- the answer

-- the channels that a get makes, where the event is one
abbrev pub made_by : Setup → View → RegEvent → List DevId
made_by setup v event = channels_made setup v.channels event

-- what this answer to an event changes of the thread
abbrev pub change_by : Thread → Links → RegEvent → Answer → Change
change_by t links event answer = change_reg t.setup.now t.me (view_of t links) (came_shut links.shut) event answer

-- the part of the thread after this answer to an event
abbrev pub answered : Thread → Links → RegEvent → Answer → Part
answered t links event answer = untaken (change_by t links event answer).part

-- an event by which a device changes: it is removed or grows, or that ends
abbrev pub is_of_device : RegEvent → Bool
is_of_device (events.BeginRemove name) = true
is_of_device (events.Destructed dev) = true
is_of_device (events.BeginResize name blocks) = true
is_of_device (events.EndResize dev) = true
is_of_device _ = false

-- an event of a reset
abbrev pub is_of_reset : RegEvent → Bool
is_of_reset (events.BeginReset dev req) = true
is_of_reset (events.EndReset dev) = true
is_of_reset (events.FinishReset dev) = true
is_of_reset _ = false

-- the stamp of an event: one above the entries' and the registry's
abbrev pub event_stamp : Links → ℕ
event_stamp links = next_stamp (length links.entries) links.registry.last

-- the registry after this answer to an event of the thread, which its journal has
abbrev pub asked_registry : Thread → Links → RegEvent → Answer → Registered
asked_registry t links event answer = record {
  setup = links.registry.setup;
  journal = links.registry.journal ++ event_row t.me (event_stamp links) event answer ∷ [];
  last = event_stamp links;
  state = registry_after t.setup.now links.registry.state t.me (Some (record { event = event; answer = answer }));
}

-- the registry answered an event: the part and the registry are as the answer leaves them, a walk that begins by it is here and to be put, one Reg has event and answer, and all else stayed
pub record IsAnswered (event : RegEvent) (old : Thread) (before : Links) (new : Thread) (after : Links) : Type 0 where
  pub answer : Answer
  pub given : answer_to old.setup.now before.registry.state old.me event ≡ answer
  pub walk : Option (WalkId × OpenWalk)
  pub begins : (change_by old before event answer).moves ≡ begun walk
  pub thread : new ≡ record old { part = answered old before event answer; held = new.held; outbox = new.outbox }
  pub held : here_in new.held.items ≡ held_after (begun walk) (here_in old.held.items)
  pub outbox : new.outbox.items ≡ old.outbox.items ++ sent_off walk
  pub links : after ≡ record before {
    registry = asked_registry old before event answer;
    entries = longer old.me before.entries (acts.Reg event answer);
  }

-- ---- what has to follow at once

-- where an event is due, the registry answered it; else nothing changes
abbrev pub Follows : Thread → Links → Thread → Links → Option RegEvent → Type 0
Follows old before new after None = (new ≡ old) × (after ≡ before)
Follows old before new after (Some event) = IsAnswered event old before new after

-- the registry answered an event, and then at once what has to follow there
pub record IsFollowed (event : RegEvent) (due : ℕ → Option Between → Option RegEvent) (old : Thread) (before : Links) (new : Thread) (after : Links) : Type 0 where
  pub middle : Thread
  pub shared : Links
  pub answered : IsAnswered event old before middle shared
  pub followed : Follows middle shared new after (due middle.me shared.registry.state.between)

-- ---- what a line does by this

-- true where an event is asked, and it was answered; else nothing changes
abbrev pub AsksBy : Thread → Links → Thread → Links → Bool → Option RegEvent → Type 0
AsksBy old before new after asked None = (asked ≡ false) × (new ≡ old) × (after ≡ before)
AsksBy old before new after asked (Some event) = (asked ≡ true) × IsAnswered event old before new after

-- true where an open is asked: it was answered, and where it was granted the thread got its channel; else nothing changes
abbrev pub OpensBy : Thread → Links → Thread → Links → Bool → Option RegEvent → Type 0
OpensBy old before new after opened None = (opened ≡ false) × (new ≡ old) × (after ≡ before)
OpensBy old before new after opened (Some event) = (opened ≡ true) × IsFollowed event get_due old before new after

-- true where a handle is to be closed: its channel was put, and where that was granted it was closed; else nothing changes
abbrev pub ClosesBy : Thread → Links → Thread → Links → Bool → Option Handle → Type 0
ClosesBy old before new after closed None = (closed ≡ false) × (new ≡ old) × (after ≡ before)
ClosesBy old before new after closed (Some h) = (closed ≡ true) × IsFollowed (events.PutChannel h.dev true) (close_due h.id) old before new after

abbrev pub Opens : Thread → Links → Thread → Links → Bool → Type 0
Opens old before new after opened = OpensBy old before new after opened (open_asked old before)

abbrev pub Closes : Thread → Links → Thread → Links → Bool → Type 0
Closes old before new after closed = ClosesBy old before new after closed (close_asked old before)

abbrev pub Claims : Thread → Links → Thread → Links → Bool → Type 0
Claims old before new after claimed = AsksBy old before new after claimed (claim_asked old before)

abbrev pub ChangesDevice : Thread → Links → Thread → Links → Bool → Type 0
ChangesDevice old before new after changed = AsksBy old before new after changed (change_asked old before)

-- ---- a line's end

-- the part with the line of this job done
abbrev pub done : Thread → Job → Part
done t job = untaken (change_job t.setup.now (lone t.part) (Some job)).part

-- the next line ended so: it is done, the one after it is met in this turn, one Script says how it ended, and all else stayed
pub record IsEnded (outcome : Outcome) (old : Thread) (before : Links) (new : Thread) (after : Links) : Type 0 where
  pub line : Line
  pub next : next_line old.setup.now old.me old.part ≡ Some line
  pub thread : new ≡ record old { part = done old line.job; time = with_line_ended old.time }
  pub links : after ≡ record before { entries = longer old.me before.entries (acts.Script line.number outcome) }

-- true where there is an outcome, and the line ended so; else nothing changes
abbrev pub EndsBy : Thread → Links → Thread → Links → Bool → Option Outcome → Type 0
EndsBy old before new after ended None = (ended ≡ false) × (new ≡ old) × (after ≡ before)
EndsBy old before new after ended (Some outcome) = (ended ≡ true) × IsEnded outcome old before new after

-- the outcome that the next line has, where it goes on, doesn't sleep and no Shutdown came
abbrev pub outcome_now : Thread → Links → Option Outcome
outcome_now t links = cond (links.shut || is_asleep t) None (outcome_due t.setup.now t.me (view_of t links))

abbrev pub EndsLine : Thread → Links → Thread → Links → Bool → Type 0
EndsLine old before new after ended = EndsBy old before new after ended (outcome_now old before)
