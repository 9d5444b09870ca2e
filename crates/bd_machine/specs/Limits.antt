-- Limits: where a request waits, and Let and Tick.
use Rattle.std.specs.Prelude.{ℕ, ◌+◌, ◌*◌, Bool, true, false, cond, not, ◌&&◌, ◌||◌, ◌==◌, nat_lt, nat_le, List, [], ◌∷◌, ◌++◌, length, filter, find, Option, Some, None, is_none, slice_get, slice_index_or, unwrap_or}
use Rattle.bd_base.specs.declared.device.Rates.{Rates}
use Rattle.bd_base.specs.declared.id.DevId.{DevId}
use Rattle.bd_base.specs.declared.id.ReqId.{ReqId}
use Rattle.bd_base.specs.declared.request.Op.{Op}
use Rattle.bd_base.specs.declared.request.Op.TheVariants as ops
use Rattle.bd_base.specs.declared.request.Way.{Way}
use Rattle.bd_base.specs.declared.request.Way.TheVariants.{Read, Write}
use Rattle.bd_base.specs.declared.setup.Setup.{Setup}
use Rattle.bd_machine.specs.declared.guard.TheConstants.{FIRST_IN_LINE, WITHIN_LIMITS, TICK_DUE}
use Rattle.bd_machine.specs.declared.state.Limited.{Limited}
use Rattle.bd_machine.specs.declared.state.Moments.{Moments}
use Rattle.bd_machine.specs.declared.state.OpenRequest.{OpenRequest}
use Rattle.bd_machine.specs.declared.state.Part.{Part}
use Rattle.bd_machine.specs.declared.state.Starts.{Starts}
use Rattle.bd_machine.specs.declared.state.Trip.{Trip}
use Rattle.bd_machine.specs.declared.state.Trip.TheVariants as trips
use Rattle.bd_machine.specs.BlockMap.{below, home, size_of}
use Rattle.bd_machine.specs.Budget.{quotas_of, may_pass, charged, renewed, may_have_passed, starts_before}
use Rattle.bd_machine.specs.Kept.{request_here, edited}
use Rattle.bd_machine.specs.Marks.{is_marked}
use Rattle.bd_machine.specs.Same.{same_dev, same_request, is_the}
use Rattle.bd_machine.specs.Table.{change_first, without_first}
use Rattle.bd_machine.specs.View.{View, Change}

-- ---- limited devices

abbrev pub no_limit : Rates
no_limit = record { rw_ios_per_sec = 0; rw_mbytes_per_sec = 0; r_mbytes_per_sec = 0; w_mbytes_per_sec = 0 }

abbrev pub rates_of : Setup → DevId → Rates
rates_of setup dev = slice_index_or setup.rates dev.0 no_limit

abbrev pub counts_both : Rates → Bool
counts_both r = nat_lt 0 r.rw_ios_per_sec || nat_lt 0 r.rw_mbytes_per_sec

-- some limit counts requests of this way
abbrev pub counts_way : Way → Rates → Bool
counts_way Read r = counts_both r || nat_lt 0 r.r_mbytes_per_sec
counts_way Write r = counts_both r || nat_lt 0 r.w_mbytes_per_sec

abbrev pub is_limited : Setup → DevId → Bool
is_limited setup dev = counts_way Read (rates_of setup dev) || counts_way Write (rates_of setup dev)

-- the way by which limits and latencies count a type, if they do
abbrev pub way_of : Op → Option Way
way_of ops.Read = Some Read
way_of (ops.Write fill) = Some Write
way_of _ = None

-- the devices whose limits count the request, from the top down
abbrev pub limited_below : Setup → DevId → Option Way → List DevId
limited_below setup dev None = []
limited_below setup dev (Some way) = filter (λ d. counts_way way (rates_of setup d)) (below setup dev)

-- the next limited device, while the request hasn't every Let
abbrev pub next_limited : Setup → OpenRequest → Option DevId
next_limited setup r = slice_get (limited_below setup r.dev (way_of r.op)) r.lets

-- ---- requests that wait at the home

abbrev pub is_out : Trip → Bool
is_out trips.Out = true
is_out _ = false

-- the limited device at whose home a request is, if it went out to one
abbrev pub waits_at : Setup → OpenRequest → Option DevId
waits_at setup r = cond (is_out r.trip) (next_limited setup r) None

abbrev pub is_limit : DevId → Limited → Bool
is_limit dev l = same_dev l.dev dev

abbrev pub limited_here : Part → DevId → Option Limited
limited_here part dev = find (is_limit dev) part.limited

abbrev pub waiting_if_any : Option Limited → List ReqId
waiting_if_any None = []
waiting_if_any (Some l) = l.waiting

-- the requests that wait here for a device, in order of arrival
abbrev pub waiting_for : Part → DevId → List ReqId
waiting_for part dev = waiting_if_any (limited_here part dev)

abbrev pub joined : ReqId → Limited → Limited
joined req l = record l { waiting = l.waiting ++ req ∷ [] }

abbrev pub left_by : ReqId → Limited → Limited
left_by req l = record l { waiting = without_first (λ r. same_request r req) l.waiting }

-- the part where a request came to its next limited device
abbrev pub arrived : Part → ReqId → Option DevId → Part
arrived part req None = part
arrived part req (Some dev) = record part { limited = change_first (is_limit dev) (joined req) part.limited }

-- the part where a request waits no longer
abbrev pub departed : Part → ReqId → Option DevId → Part
departed part req None = part
departed part req (Some dev) = record part { limited = change_first (is_limit dev) (left_by req) part.limited }

-- ---- moments

abbrev pub first_moment : Moments → ℕ → ℕ
first_moment moments now = unwrap_or moments.first now

abbrev pub seen : ℕ → Moments → Moments
seen now moments = record { first = Some (first_moment moments now); last = now }

-- ---- Let

abbrev pub is_head : ReqId → List ReqId → Bool
is_head req [] = false
is_head req (r ∷ rs) = same_request r req

-- it waits here for the device, none came here before it, and no mark stops it here
abbrev pub is_next_in_line : Setup → View → ReqId → DevId → Option OpenRequest → Bool
is_next_in_line setup v req dev None = false
is_next_in_line setup v req dev (Some r) =
    is_out r.trip && is_none r.aborted && is_the same_dev dev (next_limited setup r) && is_head req (waiting_for v.part dev) && not (is_marked setup v.part r)

abbrev pub may_pass_by : Setup → DevId → Option Way → Option Limited → Bool
may_pass_by setup dev (Some way) (Some l) = may_pass (quotas_of (rates_of setup dev)) l.left way
may_pass_by setup dev _ _ = false

abbrev pub way_if_any : Option OpenRequest → Option Way
way_if_any None = None
way_if_any (Some r) = way_of r.op

abbrev pub guards_let : Setup → ℕ → View → ReqId → DevId → ℕ → List (ℕ × Bool)
guards_let setup t v req dev now =
    (FIRST_IN_LINE, (home setup dev == t) && is_next_in_line setup v req dev (request_here v req)) ∷
    (WITHIN_LIMITS, may_pass_by setup dev (way_if_any (request_here v req)) (limited_here v.part dev) && nat_le v.part.moments.last now) ∷ []

abbrev pub charged_by_way : Setup → DevId → ℕ → Option Way → Limited → Limited
charged_by_way setup dev bytes None l = l
charged_by_way setup dev bytes (Some way) l = record l { left = charged (quotas_of (rates_of setup dev)) way bytes l.left }

abbrev pub bytes_if_any : Setup → Option OpenRequest → ℕ
bytes_if_any setup None = 0
bytes_if_any setup (Some r) = r.count * size_of setup r.dev

-- it has one Let more
abbrev pub passed : OpenRequest → OpenRequest
passed r = record r { lets = r.lets + 1; trip = trips.Passed }

abbrev pub change_let : Setup → View → ReqId → DevId → ℕ → Change
change_let setup v req dev now = record {
  part = record v.part {
    limited = change_first (is_limit dev) (λ l. left_by req (charged_by_way setup dev (bytes_if_any setup (request_here v req)) (way_if_any (request_here v req)) l)) v.part.limited;
    moments = seen now v.part.moments;
  };
  moves = edited req passed (request_here v req);
}

-- ---- Tick

-- at first every moment up to the least one that the home's entries name
abbrev pub starts_left : Moments → ℕ → Option Starts → Starts
starts_left moments now None = record { earliest = 0; latest = first_moment moments now }
starts_left moments now (Some starts) = starts

-- this number of further timeslices may have passed, and a request waits
abbrev pub is_tick_due : Moments → ℕ → ℕ → Option Limited → Bool
is_tick_due moments now slices None = false
is_tick_due moments now slices (Some l) =
    nat_lt 0 slices && nat_lt 0 (length l.waiting) && may_have_passed now (l.slices + slices) (starts_left moments now l.starts)

abbrev pub guards_tick : Setup → ℕ → View → DevId → ℕ → ℕ → List (ℕ × Bool)
guards_tick setup t v dev now slices =
    (TICK_DUE, (home setup dev == t) && nat_le v.part.moments.last now && is_tick_due v.part.moments now slices (limited_here v.part dev)) ∷ []

abbrev pub ticked : Setup → Moments → ℕ → ℕ → Limited → Limited
ticked setup moments now slices l = record l {
  left = renewed (quotas_of (rates_of setup l.dev)) slices l.left;
  slices = l.slices + slices;
  starts = Some (starts_before now (l.slices + slices) (starts_left moments now l.starts));
}

abbrev pub change_tick : Setup → View → DevId → ℕ → ℕ → Change
change_tick setup v dev now slices = record {
  part = record v.part {
    limited = change_first (is_limit dev) (ticked setup v.part.moments now slices) v.part.limited;
    moments = seen now v.part.moments;
  };
  moves = [];
}
