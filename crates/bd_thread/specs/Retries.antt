-- A piece that is back on its own thread, and those that wait to be sent again.
use Rattle.std.specs.Prelude.{◌≡◌, ℕ, Bool, true, false, [], ◌∷◌, Option, Some, None}
use Rattle.bd_base.specs.declared.act.Act.TheVariants as acts
use Rattle.bd_base.specs.declared.act.Token.{Token}
use Rattle.bd_base.specs.declared.act.Token.TheVariants as tokens
use Rattle.bd_base.specs.declared.id.ReqId.{ReqId}
use Rattle.bd_base.specs.declared.setup.Setup.{Setup}
use Rattle.bd_machine.specs.BlockMap.{home}
use Rattle.bd_machine.specs.Messages.{count_at}
use Rattle.bd_steps.specs.Returning.{channels_back}
use Rattle.bd_links.specs.Entries.{longer}
use Rattle.bd_retries.specs.declared.waiting.Waiting.{Waiting}
use Rattle.bd_retries.specs.Channels.{changed_if_any, next_at, retried}
use Rattle.bd_tokens.specs.Tokens.{here_in}
use Rattle.bd_thread.specs.declared.links.Links.{Links}
use Rattle.bd_thread.specs.declared.thread.Thread.{Thread}
use Rattle.bd_thread.specs.Delays.{HoldsOrCompletes}
use Rattle.bd_thread.specs.Sent.{may_send}

-- ---- a piece that is back

-- its channel has one piece fewer in flight, a refused one waits to be sent again, and then its request is held or completes, where it may
pub record IsBack (req : ReqId) (k : ℕ) (old : Thread) (before : Links) (new : Thread) (after : Links) : Type 0 where
  pub middle : Thread
  pub thread : middle ≡ record old { retries = middle.retries }
  pub retries : middle.retries ≡ channels_back req k (here_in old.held.items) old.retries
  pub carried : HoldsOrCompletes req middle before new after

-- ---- sending again

-- where a piece goes that waits, with its token
abbrev pub way_of : Setup → Waiting → ℕ × Token
way_of setup w = (home setup w.base, tokens.Piece w.req w.k)

abbrev pub may_go_again : Thread → Links → Option Waiting → Bool
may_go_again t links None = false
may_go_again t links (Some w) = may_send t links (way_of t.setup.now w ∷ [])

-- the first piece that waits of the channel at this place may be sent: no more of the channel are in flight than its threshold, it may go to its home, and there is room
abbrev pub may_retry : ℕ → Thread → Links → Bool
may_retry place t links = may_go_again t links (next_at t.retries place)

-- one Put of it, and it is in flight
abbrev pub RetriesBy : Thread → Links → Thread → Links → Bool → Option Waiting → Bool → Type 0
RetriesBy old before new after done (Some w) true =
    (done ≡ true) × (new.retries ≡ changed_if_any w.base retried old.retries) × (after.entries ≡ longer old.me before.entries (acts.Put (home old.setup.now w.base) (count_at old.part.put (home old.setup.now w.base)) (tokens.Piece w.req w.k)))
RetriesBy old before new after done _ _ = (done ≡ false) × (new ≡ old) × (after ≡ before)

-- the first piece that waits at this place is sent, where it may; else nothing changes
abbrev pub Retries : ℕ → Thread → Links → Thread → Links → Bool → Type 0
Retries place old before new after done = RetriesBy old before new after done (next_at old.retries place) (may_retry place old before)
