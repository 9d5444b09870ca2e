-- How a thread cuts a request.
use Rattle.std.specs.Prelude.{◌≡◌, ℕ, Bool, true, length, Option, Some}
use Rattle.bd_base.specs.declared.act.Act.TheVariants as acts
use Rattle.bd_base.specs.declared.id.ReqId.{ReqId}
use Rattle.bd_machine.specs.declared.state.OpenRequest.{OpenRequest}
use Rattle.bd_machine.specs.Alone.{held_after}
use Rattle.bd_machine.specs.Kept.{request_here}
use Rattle.bd_machine.specs.Requests.{cut_into, extents_of, may_cut}
use Rattle.bd_steps.specs.Pieces.{channels_cut, outbox_cut}
use Rattle.bd_links.specs.Entries.{longer}
use Rattle.bd_tokens.specs.Tokens.{here_in}
use Rattle.bd_thread.specs.declared.links.Links.{Links}
use Rattle.bd_thread.specs.declared.thread.Thread.{Thread}
use Rattle.bd_thread.specs.Seen.{untaken, view_of}

-- the request was cut where boundaries say: its pieces are here, to be put to their home in order, or to wait after those that wait already, and the entry says so
pub record IsCut (req : ReqId) (r : OpenRequest) (n : ℕ) (old : Thread) (before : Links) (new : Thread) (after : Links) : Type 0 where
  pub pieces : n ≡ length (extents_of old.setup.now r)
  pub held : here_in new.held.items ≡ held_after (cut_into old.setup.now req n (Some r)) (here_in old.held.items)
  pub outbox : new.outbox.items ≡ outbox_cut old.setup.now r.dev req n old.retries old.outbox.items
  pub retries : new.retries ≡ channels_cut old.setup.now r.dev req n old.retries
  pub thread : new ≡ record old { part = untaken old.part; held = new.held; outbox = new.outbox; retries = new.retries }
  pub links : after ≡ record before { entries = longer old.me before.entries (acts.Cut req n) }

abbrev pub CutsBy : ReqId → ℕ → Thread → Links → Thread → Links → Bool → Option OpenRequest → Type 0
CutsBy req n old before new after true (Some r) = IsCut req r n old before new after
CutsBy req n old before new after _ _ = (n ≡ 0) × (new ≡ old) × (after ≡ before)

-- the rules let the thread cut the request
abbrev pub may_cut_now : ReqId → Thread → Links → Bool
may_cut_now req t links = may_cut t.setup.now t.me (view_of t links) req (request_here (view_of t links) req)

-- where the request may be cut, it is cut into n pieces; else n is 0, and nothing changes
abbrev pub Cuts : ReqId → Thread → Links → Thread → Links → ℕ → Type 0
Cuts req old before new after n = CutsBy req n old before new after (may_cut_now req old before) (request_here (view_of old before) req)
