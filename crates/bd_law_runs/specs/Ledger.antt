-- A device's budget, told by the entries of a history alone: what each request was accepted as, and what is left of the device's limits.
use Rattle.std.specs.Prelude.{◌≡◌, ℕ, ◌*◌, Bool, true, false, cond, List, [], ◌∷◌, Option, Some, None}
use Rattle.bd_base.specs.declared.act.Act.{Act}
use Rattle.bd_base.specs.declared.act.Act.TheVariants as acts
use Rattle.bd_base.specs.declared.act.Entry.{Entry}
use Rattle.bd_base.specs.declared.id.DevId.{DevId}
use Rattle.bd_base.specs.declared.id.ReqId.{ReqId}
use Rattle.bd_base.specs.declared.request.Op.{Op}
use Rattle.bd_base.specs.declared.request.Way.{Way}
use Rattle.bd_base.specs.declared.setup.Setup.{Setup}
use Rattle.bd_machine.specs.declared.state.Left.{Left}
use Rattle.bd_machine.specs.BlockMap.{size_of}
use Rattle.bd_machine.specs.Budget.{quotas_of, one_quota, may_pass, charged, renewed}
use Rattle.bd_machine.specs.Content.{Told}
use Rattle.bd_machine.specs.Limits.{rates_of, way_of}
use Rattle.bd_machine.specs.Run.{IsRun}
use Rattle.bd_machine.specs.Same.{same_dev, same_request}
use Rattle.bd_machine.specs.Timeslices.{Fits}

-- a request as its Accept says it
pub record Accepted : Type 0 where
  pub dev : DevId
  pub op : Op
  pub count : ℕ

-- what the entries so far tell: each request that was accepted, and what is left of the limits of one device
pub record Ledger : Type 0 where
  pub requests : ReqId → Option Accepted
  pub left : Left

-- at first no request was accepted, and each limit has one quota left
abbrev pub first_ledger : Setup → DevId → Ledger
first_ledger setup dev = record { requests = λ req. None; left = one_quota (quotas_of (rates_of setup dev)) }

-- the requests that were accepted, after an act
abbrev pub requests_by : Act → (ReqId → Option Accepted) → ReqId → Option Accepted
requests_by (acts.Accept dev lba handle req op count) requests r = cond (same_request req r) (Some (record { dev = dev; op = op; count = count })) (requests r)
requests_by _ requests r = requests r

-- a read or write is charged, once and with all its bytes
abbrev pub charged_way : Setup → DevId → ℕ → Option Way → Left → Left
charged_way setup dev bytes None left = left
charged_way setup dev bytes (Some way) left = charged (quotas_of (rates_of setup dev)) way bytes left

abbrev pub charged_for : Setup → DevId → Option Accepted → Left → Left
charged_for setup dev None left = left
charged_for setup dev (Some a) left = charged_way setup dev (a.count * size_of setup a.dev) (way_of a.op) left

-- what is left of the device's limits after an act: a Let charges its request, and a Tick renews by the timeslices that it tells
abbrev pub left_by : Setup → DevId → Act → Ledger → Left
left_by setup dev (acts.Let req d now) l = cond (same_dev d dev) (charged_for setup dev (l.requests req) l.left) l.left
left_by setup dev (acts.Tick d now slices) l = cond (same_dev d dev) (renewed (quotas_of (rates_of setup dev)) slices l.left) l.left
left_by setup dev _ l = l.left

abbrev pub ledger_by : Setup → DevId → Act → Ledger → Ledger
ledger_by setup dev act l = record { requests = requests_by act l.requests; left = left_by setup dev act l }

-- more than 0 is left of each limit that counts requests of this way
abbrev pub is_enough_left : Setup → DevId → Left → Option Way → Bool
is_enough_left setup dev left None = false
is_enough_left setup dev left (Some way) = may_pass (quotas_of (rates_of setup dev)) left way

-- it was accepted, and enough is left for it
abbrev pub may_be_let : Setup → DevId → Left → Option Accepted → Bool
may_be_let setup dev left None = false
may_be_let setup dev left (Some a) = is_enough_left setup dev left (way_of a.op)

-- a Let of the device is of a request that may pass by what is left
abbrev pub IsWithin : Setup → DevId → Ledger → Act → Type 0
IsWithin setup dev l (acts.Let req d now) = same_dev d dev ≡ true → may_be_let setup dev l.left (l.requests req) ≡ true
IsWithin setup dev l _ = Unit {0}

-- each Let of the device was allowed by what the entries before it left
abbrev pub AreWithin : Setup → DevId → Ledger → List Entry → Type 0
AreWithin setup dev l [] = Unit {0}
AreWithin setup dev l (e ∷ es) = IsWithin setup dev l e.act × AreWithin setup dev (ledger_by setup dev e.act l) es

-- some start of the first timeslice fits each Tick, and each Let was allowed by what was left
pub record KeepsBudget (setup : Setup) (dev : DevId) (es : List Entry) : Type 0 where
  pub some_start : (start : ℕ) × Fits dev start 0 es
  pub lets_within : AreWithin setup dev (first_ledger setup dev) es

-- in every run the budget of each device is kept
abbrev pub BudgetIsKept : Type 0
BudgetIsKept = (setup : Setup) (told : Told) (es : List Entry) → IsRun setup told es → (dev : DevId) → KeepsBudget setup dev es
