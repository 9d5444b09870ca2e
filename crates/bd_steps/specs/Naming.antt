-- Which request an abort stops that names one by its number.
use Rattle.std.specs.Prelude.{ℕ, Bool, false, cond, ◌&&◌, Option, Some, None}
use Rattle.bd_base.specs.declared.id.ReqId.{ReqId}
use Rattle.bd_base.specs.declared.request.AbortCause.TheVariants.{Named}
use Rattle.bd_base.specs.declared.request.Op.{Op}
use Rattle.bd_base.specs.declared.request.Op.TheVariants as ops
use Rattle.bd_base.specs.declared.setup.Setup.{Setup}
use Rattle.bd_machine.specs.declared.state.OpenRequest.{OpenRequest}
use Rattle.bd_machine.specs.Kept.{is_own_trip, request_here}
use Rattle.bd_machine.specs.View.{View}
use Rattle.bd_steps.specs.Stopping.{may_stop}

abbrev pub number_of_op : Op → Option ℕ
number_of_op (ops.Abort seq) = Some seq
number_of_op _ = None

-- the number that an abort names
abbrev pub number_in : Option OpenRequest → Option ℕ
number_in None = None
number_in (Some r) = number_of_op r.op

-- the request is here, and for no limited device: neither at its home nor on its way to or from it
abbrev pub has_own_trip : Option OpenRequest → Bool
has_own_trip None = false
has_own_trip (Some r) = is_own_trip r.trip

-- the thread's request of this number
abbrev pub numbered : ℕ → ℕ → ReqId
numbered me seq = record { thread = me; seq = seq }

-- that request, where it is here for no limited device, and the rules let the abort `by` stop it
abbrev pub named_here : Setup → ℕ → View → ReqId → ℕ → Option ReqId
named_here setup me v by seq = cond (has_own_trip (request_here v (numbered me seq)) && may_stop setup me v (numbered me seq) (Named by)) (Some (numbered me seq)) None

abbrev pub named_in : Setup → ℕ → View → ReqId → Option ℕ → Option ReqId
named_in setup me v by None = None
named_in setup me v by (Some seq) = named_here setup me v by seq

-- the request that the abort `by` stops, where that is here and names one
abbrev pub named_by : Setup → ℕ → View → ReqId → Option ReqId
named_by setup me v by = named_in setup me v by (number_in (request_here v by))
