-- When a home sends a piece back, and what that leaves.
use Rattle.std.specs.Prelude.{◌≡◌, ℕ, Bool, true, false, [], ◌∷◌, ◌++◌, Option, Some, None}
use Rattle.bd_base.specs.declared.act.Act.TheVariants as acts
use Rattle.bd_base.specs.declared.act.Token.TheVariants as tokens
use Rattle.bd_base.specs.declared.id.DevId.{DevId}
use Rattle.bd_base.specs.declared.id.ReqId.{ReqId}
use Rattle.bd_machine.specs.Homes.{is_base, without_last}
use Rattle.bd_machine.specs.Table.{change_first}
use Rattle.bd_steps.specs.Refusing.{here_refused, refusal_due}
use Rattle.bd_links.specs.Entries.{longer}
use Rattle.bd_tokens.specs.Tokens.{here_in}
use Rattle.bd_thread.specs.declared.links.Links.{Links}
use Rattle.bd_thread.specs.declared.thread.Thread.{Thread}
use Rattle.bd_thread.specs.Seen.{untaken, view_of}

-- the piece that the thread sends back from a device: the last of its queue, where that holds more than it takes
abbrev pub refusal_now : DevId → Thread → Links → Option (ReqId × ℕ)
refusal_now dev t links = refusal_due t.setup.now t.me (view_of t links) dev

-- one NoMem: the device's queue lost its last piece, which is to be put to its own thread without an end, once, after all else
pub record IsSentBack (req : ReqId) (k : ℕ) (dev : DevId) (old : Thread) (before : Links) (new : Thread) (after : Links) : Type 0 where
  pub thread : new ≡ record old { part = untaken (record old.part { bases = change_first (is_base dev) without_last old.part.bases }); held = new.held; outbox = new.outbox }
  pub held : here_in new.held.items ≡ here_refused req k (here_in old.held.items)
  pub outbox : new.outbox.items ≡ old.outbox.items ++ (req.thread, tokens.Piece req k) ∷ []
  pub links : after ≡ record before { entries = longer old.me before.entries (acts.NoMem req k dev) }

abbrev pub SendsBackBy : DevId → Thread → Links → Thread → Links → Bool → Option (ReqId × ℕ) → Type 0
SendsBackBy dev old before new after done None = (done ≡ false) × (new ≡ old) × (after ≡ before)
SendsBackBy dev old before new after done (Some q) = (done ≡ true) × IsSentBack q.0 q.1 dev old before new after

-- the last piece of the device's queue goes back, where it is one too many; else nothing changes
abbrev pub SendsBack : DevId → Thread → Links → Thread → Links → Bool → Type 0
SendsBack dev old before new after done = SendsBackBy dev old before new after done (refusal_now dev old before)

-- the same, whether or not it goes
pub record MaySendBack (dev : DevId) (old : Thread) (before : Links) (new : Thread) (after : Links) : Type 0 where
  pub done : Bool
  pub sends : SendsBack dev old before new after done
