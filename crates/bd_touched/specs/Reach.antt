-- Which open requests of a thread an act reaches, and which are still to be looked at.
use Rattle.std.specs.Prelude.{◌≡◌, ℕ, Bool, true, false, ◌||◌, List}
use Rattle.std.specs.List.{AllByRecursion, list_any}
use Rattle.bd_base.specs.declared.act.Act.{Act}
use Rattle.bd_base.specs.declared.act.Act.TheVariants as acts
use Rattle.bd_base.specs.declared.act.Entry.{Entry}
use Rattle.bd_base.specs.declared.act.Token.{Token}
use Rattle.bd_base.specs.declared.act.Token.TheVariants as tokens
use Rattle.bd_base.specs.declared.event.RegEvent.{RegEvent}
use Rattle.bd_base.specs.declared.event.RegEvent.TheVariants as events
use Rattle.bd_base.specs.declared.id.DevId.{DevId}
use Rattle.bd_base.specs.declared.id.ReqId.{ReqId}
use Rattle.bd_base.specs.declared.request.WalkKind.{WalkKind}
use Rattle.bd_base.specs.declared.request.WalkKind.TheVariants.{Drain}
use Rattle.bd_base.specs.declared.setup.Setup.{Setup}
use Rattle.bd_held.specs.Holds.{has_hold, HoldKey}
use Rattle.bd_machine.specs.declared.state.Hold.{Hold}
use Rattle.bd_machine.specs.declared.state.Hold.TheVariants as holds
use Rattle.bd_machine.specs.declared.state.Open.{Open}
use Rattle.bd_machine.specs.BlockMap.{below}
use Rattle.bd_machine.specs.Same.{same_request}
use Rattle.bd_machine.specs.Walks.{is_kept_waiting}
use Rattle.bd_touched.specs.declared.reach.Reach.{Reach}
use Rattle.bd_touched.specs.declared.reach.Reach.TheVariants.{Nobody, Everybody, Named, Over, Along}

-- ---- an act

-- the request that moves, or whose piece does
abbrev pub reach_of_token : Token → Reach
reach_of_token (tokens.Request req) = Named req
reach_of_token (tokens.Piece req k) = Named req
reach_of_token _ = Nobody

-- a channel that is made or dropped may change the marks of its device, and one that is made those of the devices below
abbrev pub reach_of_event : RegEvent → Reach
reach_of_event (events.TakeInjection dev req op) = Named req
reach_of_event (events.GetChannel dev) = Along dev
reach_of_event (events.DropChannel dev) = Over dev
reach_of_event _ = Nobody

-- a visit sets or takes the marks of its device, but for a drain
abbrev pub reach_of_visit : DevId → WalkKind → Reach
reach_of_visit dev Drain = Nobody
reach_of_visit dev _ = Over dev

-- an act reaches the request that it names; and one that may change the marks of devices, those that have one of them below; Grace and Due, which change the mark that a walk set on a device that they don't name, all
abbrev pub reach_of : Act → Reach
reach_of (acts.Put to number what) = reach_of_token what
reach_of (acts.Took source number what) = reach_of_token what
reach_of (acts.Reg event answer) = reach_of_event event
reach_of (acts.Accept dev lba handle req op count) = Named req
reach_of (acts.Inject req dev decision) = Named req
reach_of (acts.Pend req) = Named req
reach_of (acts.Let req dev now) = Named req
reach_of (acts.Cut req pieces) = Named req
reach_of (acts.Apply req k dev end) = Named req
reach_of (acts.NoMem req k dev) = Named req
reach_of (acts.Hold req until) = Named req
reach_of (acts.Release req now) = Named req
reach_of (acts.Abort req cause) = Named req
reach_of (acts.Complete req status shown) = Named req
reach_of (acts.Visit walk dev kind) = reach_of_visit dev kind
reach_of (acts.Grace walk until) = Everybody
reach_of (acts.Due walk now) = Everybody
reach_of _ = Nobody

-- the open request is reached: marks reach no reset, which no mark stops
abbrev pub reaches : Setup → Reach → Open → Bool
reaches setup Nobody o = false
reaches setup Everybody o = true
reaches setup (Named req) o = same_request req o.id
reaches setup (Over dev) o = is_kept_waiting setup dev o
reaches setup (Along dev) o = list_any (λ d. is_kept_waiting setup d o) (below setup dev)

-- one of these entries reaches it
abbrev pub is_reached : Setup → List Entry → Open → Bool
is_reached setup entries o = list_any (λ e. reaches setup (reach_of e.act) o) entries

-- ---- what is still to be looked at

-- all open requests, or these; and those that may rest while they are held, each until its moment
pub record Touches : Type 0 where
  pub all : Bool
  pub reqs : List ReqId
  pub holds : List HoldKey

abbrev pub is_touched : Touches → ReqId → Bool
is_touched t req = t.all || list_any (λ r. same_request r req) t.reqs

-- what is to be looked at still is
abbrev pub Covers : Touches → Touches → Type 0
Covers old new = (req : ReqId) → is_touched old req ≡ true → is_touched new req ≡ true

-- it isn't held, or stands among these with the moment until which it is
abbrev pub holds_on : List HoldKey → ReqId → Hold → Bool
holds_on keys req (holds.Until moment marked) = has_hold keys req moment
holds_on keys req _ = true

-- what may rest while it is held still may, or is to be looked at
abbrev pub KeepsHolds : Touches → Touches → Type 0
KeepsHolds old new = (req : ReqId) (hold : Hold) → holds_on old.holds req hold ≡ true → is_touched new req || holds_on new.holds req hold ≡ true

-- each of these open requests that is the thread's own is to be looked at, where it was or where one of these entries reaches it
abbrev pub TakesIn : Setup → ℕ → List Open → List Entry → Touches → Touches → Type 0
TakesIn setup me requests entries old new =
    AllByRecursion (λ (o : Open). o.id.thread ≡ me → is_touched old o.id || is_reached setup entries o ≡ true → is_touched new o.id ≡ true) requests
