-- What the completion of a request leaves.
use Rattle.std.specs.Prelude.{◌≡◌, Bool, true, false, not, List, filter, Option, Some, None}
use Rattle.bd_base.specs.declared.act.Act.TheVariants as acts
use Rattle.bd_base.specs.declared.id.ReqId.{ReqId}
use Rattle.bd_base.specs.declared.request.Shown.{Shown}
use Rattle.bd_msg.specs.Purse.{without}
use Rattle.bd_machine.specs.declared.state.Open.{Open}
use Rattle.bd_machine.specs.declared.state.Part.{Part}
use Rattle.bd_machine.specs.Requests.{change_complete}
use Rattle.bd_machine.specs.Same.{same_request}
use Rattle.bd_rule_effects.specs.Lone.{lone}
use Rattle.bd_steps.specs.declared.completion.Ending.{Ending}
use Rattle.bd_steps.specs.Completions.{ended, ending_of, Shows}
use Rattle.bd_steps.specs.Stopping.{channels_left, left_by}
use Rattle.bd_links.specs.Entries.{longer}
use Rattle.bd_tokens.specs.Tokens.{here_in}
use Rattle.bd_thread.specs.declared.links.Links.{Links}
use Rattle.bd_thread.specs.declared.thread.Thread.{Thread}
use Rattle.bd_thread.specs.Seen.{untaken, view_of}

-- the open requests without one
abbrev pub without_open : ReqId → List Open → List Open
without_open req requests = filter (λ r. not (same_request r.id req)) requests

-- the part where the request completed
abbrev pub completed : ReqId → Part → Part
completed req part = untaken (change_complete (lone part) req).part

-- the request completed so: it is no longer open, its pieces are gone and no longer to be put or to be sent again, its ticket is spent, and the entry says so
pub record IsCompleted (req : ReqId) (ending : Ending) (old : Thread) (before : Links) (new : Thread) (after : Links) : Type 0 where
  pub part : new.part ≡ completed req old.part
  pub held : here_in new.held.items ≡ ended req ending.pieces (here_in old.held.items)
  pub outbox : new.outbox.items ≡ left_by req ending.status (here_in old.held.items) old.outbox.items
  pub retries : new.retries ≡ channels_left old.setup.now req ending.status (here_in old.held.items) old.outbox.items old.retries
  pub tickets : new.purse.ids ≡ without req old.purse.ids
  pub thread : new ≡ record old { part = new.part; held = new.held; outbox = new.outbox; retries = new.retries; purse = new.purse }
  pub shown : Option Shown
  pub shows : Shows ending.showing shown
  pub links : after ≡ record before { entries = longer old.me before.entries (acts.Complete req ending.status shown) }

abbrev pub CompletesBy : ReqId → Thread → Links → Thread → Links → Bool → Option Ending → Type 0
CompletesBy req old before new after done None = (done ≡ false) × (new ≡ old) × (after ≡ before)
CompletesBy req old before new after done (Some ending) = (done ≡ true) × IsCompleted req ending old before new after

-- it completes where it may; else nothing changes
abbrev pub Completes : ReqId → Thread → Links → Thread → Links → Bool → Type 0
Completes req old before new after done = CompletesBy req old before new after done (ending_of old.setup.now old.me (view_of old before) req)

-- it completes, where it may
pub record MayComplete (req : ReqId) (old : Thread) (before : Links) (new : Thread) (after : Links) : Type 0 where
  pub done : Bool
  pub completes : Completes req old before new after done
