-- Which open requests rest: each waits, whatever the thread does, until an act reaches it, or its hold ends.
use Rattle.std.specs.Prelude.{◌≡◌, ℕ, Bool, true, not, ◌&&◌, List, [], Option, Some, None, slice_get}
use Rattle.bd_base.specs.declared.id.ReqId.{ReqId}
use Rattle.bd_base.specs.declared.setup.Setup.{Setup}
use Rattle.bd_flight.specs.Next.{is_wait, next_step}
use Rattle.bd_held.specs.Holds.{HoldKey}
use Rattle.bd_machine.specs.declared.state.Open.{Open}
use Rattle.bd_machine.specs.declared.state.OpenRequest.{OpenRequest}
use Rattle.bd_machine.specs.Admission.{has_range}
use Rattle.bd_machine.specs.Kept.{request_here}
use Rattle.bd_machine.specs.Same.{same_dev}
use Rattle.bd_machine.specs.View.{blank_part, View}
use Rattle.bd_machine.specs.Walks.{is_reset}
use Rattle.bd_touched.specs.Reach.{holds_on}

-- what a thread sees of tokens and marks, and nothing else
abbrev pub bare : View → View
bare v = record { part = record blank_part { marked = v.part.marked }; here = v.here; handles = []; channels = λ dev. None }

-- it has a range, and by its tokens and the marks of its devices there is nothing to do, but that its hold may end, if it stands among these
abbrev pub may_rest : Setup → ℕ → View → List HoldKey → ReqId → OpenRequest → Bool
may_rest setup me v keys req r = has_range r.op && holds_on keys req r.hold && is_wait (next_step setup me (bare v) req)

-- it is no reset, and on the device that its thread has it open on, so that the marks of that device's stack are those that stop it
abbrev pub is_on_own : Open → OpenRequest → Bool
is_on_own o r = not (is_reset o.op) && same_dev r.dev o.dev

abbrev pub rests_as : Setup → ℕ → View → List HoldKey → Open → Option OpenRequest → Bool
rests_as setup me v keys o None = true
rests_as setup me v keys o (Some r) = is_on_own o r && may_rest setup me v keys o.id r

-- it isn't here, or rests here; where it is held, it stands among these
abbrev pub rests : Setup → ℕ → View → List HoldKey → Open → Bool
rests setup me v keys o = rests_as setup me v keys o (request_here v o.id)

-- the open request of this id rests so
pub record RestsById (setup : Setup) (me : ℕ) (v : View) (requests : List Open) (req : ReqId) (keys : List HoldKey) : Type 0 where
  pub place : ℕ
  pub open_at : Open
  pub at : slice_get requests place ≡ Some open_at
  pub named : open_at.id ≡ req
  pub rests_so : rests setup me v keys open_at ≡ true
