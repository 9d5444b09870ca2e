-- The outcome of a turn, and of steps of it.
use Rattle.std.specs.Prelude.{◌≡◌, ℕ, ◌-◌, ◌==◌, Bool, true, false, cond, not, List, [], ◌∷◌, ◌++◌, length, Option, Some, None, is_some}
use Rattle.bd_base.specs.declared.act.Act.TheVariants as acts
use Rattle.bd_base.specs.declared.act.ApplyEnd.TheVariants as ends
use Rattle.bd_base.specs.declared.act.Token.{Token}
use Rattle.bd_base.specs.declared.act.Token.TheVariants as tokens
use Rattle.bd_base.specs.declared.id.DevId.{DevId}
use Rattle.bd_base.specs.declared.id.ReqId.{ReqId}
use Rattle.bd_base.specs.declared.id.WalkId.{WalkId}
use Rattle.bd_machine.specs.declared.state.Id.{Id}
use Rattle.bd_machine.specs.declared.state.Id.TheVariants as ids
use Rattle.bd_machine.specs.declared.state.OpenPiece.{OpenPiece}
use Rattle.bd_machine.specs.declared.state.Progress.{Progress}
use Rattle.bd_machine.specs.declared.state.Progress.TheVariants.{Out}
use Rattle.bd_machine.specs.Kept.{as_piece}
use Rattle.bd_machine.specs.Messages.{count_at}
use Rattle.bd_links.specs.Entries.{longer}
use Rattle.bd_thread.specs.declared.links.Links.{Links}
use Rattle.bd_thread.specs.declared.thread.Thread.{Thread}
use Rattle.bd_thread.specs.declared.turn.Turned.{Turned}
use Rattle.bd_thread.specs.declared.turn.Turned.TheVariants.{Moved, Quiet}
use Rattle.bd_tokens.specs.Tokens.{here_in}
use Rattle.bd_thread.specs.Begins.{SetsOut}
use Rattle.bd_thread.specs.Calls.{NotesResets}
use Rattle.bd_thread.specs.Refusals.{MaySendBack}
use Rattle.bd_thread.specs.Retries.{IsBack}
use Rattle.bd_thread.specs.Sent.{may_send, Takes}
use Rattle.bd_thread.specs.Served.{next_due}
use Rattle.bd_thread.specs.Waits.{Idles, StandsOf}
use Rattle.bd_thread.specs.Walking.{Visits}
use Rattle.bd_thread.specs.Work.{AsksNothing}

abbrev pub turned_of : ℕ → ℕ → Turned
turned_of before after = cond (before == after) Quiet (Moved (after - before))

-- the answer tells how many acts were added
abbrev pub AddsMore : Links → Links → Turned → Type 0
AddsMore before after turned = turned ≡ turned_of (length before.entries) (length after.entries)

-- ---- a home serves a piece

-- the piece is served, and to be put to its own thread, once, after all else; without one nothing changes
abbrev pub ServesBy : Thread → Links → Thread → Links → DevId → Bool → Option Id → Type 0
ServesBy old before new after dev served None = (served ≡ false) × (new ≡ old) × (after ≡ before)
ServesBy old before new after dev served (Some (ids.Piece req k)) =
    (served ≡ true) × (new.outbox.items ≡ old.outbox.items ++ (req.thread, tokens.Piece req k) ∷ []) × (after.entries ≡ longer old.me before.entries (acts.Apply req k dev ends.Done))
ServesBy old before new after dev served (Some _) = ⊥

-- the piece that is next on the device is served
abbrev pub Serves : Thread → Links → Thread → Links → DevId → Bool → Type 0
Serves old before new after dev served = ServesBy old before new after dev served (next_due old dev)

-- ---- the first of the outbox is put

-- one Put of it, and the others stay; where it can't be put nothing changes
abbrev pub SendsBy : Thread → Links → Thread → Links → Bool → List (ℕ × Token) → Bool → Type 0
SendsBy old before new after sent (x ∷ xs) true = (sent ≡ true) × (new.outbox.items ≡ xs) × (after.entries ≡ longer old.me before.entries (acts.Put x.0 (count_at old.part.put x.0) x.1))
SendsBy old before new after sent _ _ = (sent ≡ false) × (new ≡ old) × (after ≡ before)

abbrev pub SendsFirst : Thread → Links → Thread → Links → Bool → Type 0
SendsFirst old before new after sent = SendsBy old before new after sent old.outbox.items (may_send old before old.outbox.items)

-- ---- a message is taken

-- the walk visits the thread, where the rules let it, and what its mark stops is stopped; then the resets that ask the registry for something next are noted
pub record MayVisit (walk : WalkId) (old : Thread) (before : Links) (new : Thread) (after : Links) : Type 0 where
  pub made : Bool
  pub middle : Thread
  pub visits : Visits walk old before middle after made
  pub notes : NotesResets middle new

abbrev pub ComesOwn : Bool → ReqId → ℕ → Thread → Links → Thread → Links → Type 0
ComesOwn true req k old before new after = IsBack req k old before new after
ComesOwn false req k old before new after = (new ≡ old) × (after ≡ before)

-- a piece that came to its home goes back where it is one too many there; one that isn't out is back on its own thread
abbrev pub ComesAs : Progress → DevId → ReqId → ℕ → Thread → Links → Thread → Links → Type 0
ComesAs Out dev req k old before new after = MaySendBack dev old before new after
ComesAs _ dev req k old before new after = ComesOwn (req.thread == old.me) req k old before new after

abbrev pub ComesPiece : Option OpenPiece → ReqId → ℕ → Thread → Links → Thread → Links → Type 0
ComesPiece None req k old before new after = (new ≡ old) × (after ≡ before)
ComesPiece (Some p) req k old before new after = ComesAs p.progress p.base req k old before new after

-- it takes a step by itself, and adds an entry; or it can take none but one that asks the registry, and nothing changes
pub record MayCarry (req : ReqId) (old : Thread) (before : Links) (new : Thread) (after : Links) : Type 0 where
  pub asks : Bool
  pub stands : Idles (StandsOf asks req) old before new after

abbrev pub CarriesIf : Bool → ReqId → Thread → Links → Thread → Links → Type 0
CarriesIf true req old before new after = MayCarry req old before new after
CarriesIf false req old before new after = (new ≡ old) × (after ≡ before)

-- a request that came is set out, where that is its next step; else it is carried on
pub record ComesRequest (req : ReqId) (old : Thread) (before : Links) (new : Thread) (after : Links) : Type 0 where
  pub middle : Thread
  pub done : Bool
  pub sets : SetsOut req old before middle before done
  pub rest : CarriesIf (not done) req middle before new after
  pub alone : AsksNothing before after

-- what a token that came brings about: of a request that it is set out, or carried on; of a piece that it goes back or is back; a walk's visit; and news may have begun a reset, which is noted where it asks the registry
abbrev pub Comes : Id → Thread → Links → Thread → Links → Type 0
Comes (ids.Request req) old before new after = ComesRequest req old before new after
Comes (ids.Piece req k) old before new after = ComesPiece (as_piece (here_in old.held.items (ids.Piece req k))) req k old before new after
Comes (ids.Walk walk) old before new after = MayVisit walk old before new after
Comes (ids.Notice sender receiver number) old before new after = NotesResets old new × (after ≡ before)

abbrev pub ComesIfAny : Option Id → Thread → Links → Thread → Links → Type 0
ComesIfAny None old before new after = (new ≡ old) × (after ≡ before)
ComesIfAny (Some id) old before new after = Comes id old before new after

-- the first message is taken, where it can be, and what its token brings about follows
pub record Receives (old : Thread) (before : Links) (new : Thread) (after : Links) (taken : Bool) : Type 0 where
  pub id : Option Id
  pub middle : Thread
  pub shared : Links
  pub takes : Takes old before middle shared id
  pub came : ComesIfAny id middle shared new after
  pub taken_is : taken ≡ is_some id
