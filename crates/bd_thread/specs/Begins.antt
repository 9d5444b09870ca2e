-- What a thread submits for its next line, and how a request begins that was accepted.
use Rattle.std.specs.Prelude.{◌≡◌, ℕ, ◌==◌, Bool, true, false, cond, nat_lt, [], ◌∷◌, ◌++◌, length, Option, Some, None}
use Rattle.bd_base.specs.declared.act.Token.TheVariants as tokens
use Rattle.bd_base.specs.declared.id.DevId.{DevId}
use Rattle.bd_base.specs.declared.id.HandleId.{HandleId}
use Rattle.bd_base.specs.declared.id.ReqId.{ReqId}
use Rattle.bd_base.specs.declared.job.Job.{Job}
use Rattle.bd_base.specs.declared.job.Job.TheVariants as jobs
use Rattle.bd_base.specs.declared.request.Errno.{Errno}
use Rattle.bd_base.specs.declared.request.Op.{Op}
use Rattle.bd_base.specs.declared.request.Op.TheVariants as ops
use Rattle.bd_flight.specs.declared.next.Step.{Step}
use Rattle.bd_flight.specs.declared.next.Step.TheVariants as steps
use Rattle.bd_flight.specs.Next.{next_step}
use Rattle.bd_machine.specs.declared.state.Part.{Part}
use Rattle.bd_machine.specs.BlockMap.{home}
use Rattle.bd_machine.specs.Asked.{bound_to, most_requests, op_asked}
use Rattle.bd_rule_view.specs.declared.names.Submission.{Submission}
use Rattle.bd_thread.specs.declared.links.Links.{Links}
use Rattle.bd_thread.specs.declared.thread.Thread.{Thread}
use Rattle.bd_thread.specs.Aborts.{EndsAbort, Then}
use Rattle.bd_thread.specs.Cuts.{Cuts}
use Rattle.bd_thread.specs.Lines.{job_now}
use Rattle.bd_thread.specs.Requests.{refusal, IsAccepted, IsFull, IsRefused}
use Rattle.bd_thread.specs.Seen.{view_of}

-- ---- what the next line submits

-- by this name: through which handle, if the name is bound; an abort by the number of the request that its line submitted
abbrev pub submission_by : Part → Option HandleId → Op → ℕ → ℕ → Option HandleId × Submission
submission_by part handle op lba count = (handle, record { op = op_asked part handle op; lba = lba; count = count })

abbrev pub submission_of : Part → Option Job → Option (Option HandleId × Submission)
submission_of part (Some (jobs.Submit handle op lba count)) = Some (submission_by part (bound_to part handle) op lba count)
submission_of part _ = None

-- what the next line submits, where there is room for one more request
abbrev pub submission_due : Thread → Links → Option (Option HandleId × Submission)
submission_due t links = cond (nat_lt (length t.part.requests) most_requests) (submission_of t.part (job_now t links)) None

-- ---- how a request begins

-- it is noted to ask the registry, after those that are noted already
pub record IsNoted (req : ReqId) (old : Thread) (before : Links) (new : Thread) (after : Links) : Type 0 where
  pub thread : new ≡ record old { calls = new.calls }
  pub calls : new.calls.items ≡ old.calls.items ++ req ∷ []
  pub links : after ≡ before

-- it is to be put, after all else, to the home of this device
pub record IsOnItsWay (req : ReqId) (dev : DevId) (old : Thread) (before : Links) (new : Thread) (after : Links) : Type 0 where
  pub thread : new ≡ record old { outbox = new.outbox }
  pub outbox : new.outbox.items ≡ old.outbox.items ++ (home old.setup.now dev, tokens.Request req) ∷ []
  pub links : after ≡ before

abbrev pub SetsOutBy : ReqId → Thread → Links → Thread → Links → Bool → Step → Type 0
SetsOutBy req old before new after done (steps.Limit dev) = (done ≡ true) × IsOnItsWay req dev old before new after
SetsOutBy req old before new after done (steps.Inject dev) = (done ≡ true) × IsNoted req old before new after
SetsOutBy req old before new after done _ = (done ≡ false) × (new ≡ old) × (after ≡ before)

-- true where it goes next to the home of a device whose limits count it, or takes the decision of an error device: it is to be put there, or noted; else nothing changes
abbrev pub SetsOut : ReqId → Thread → Links → Thread → Links → Bool → Type 0
SetsOut req old before new after done = SetsOutBy req old before new after done (next_step old.setup.now old.me (view_of old before) req)

-- it is set out, where that is its next step
pub record MaySetOut (req : ReqId) (old : Thread) (before : Links) (new : Thread) (after : Links) : Type 0 where
  pub done : Bool
  pub sets : SetsOut req old before new after done

abbrev pub SetsOutIf : Bool → ReqId → Thread → Links → Thread → Links → Type 0
SetsOutIf true req old before new after = MaySetOut req old before new after
SetsOutIf false req old before new after = (new ≡ old) × (after ≡ before)

-- it is cut, where it may be; where it isn't cut, it is set out
pub record CutsOrSetsOut (req : ReqId) (old : Thread) (before : Links) (new : Thread) (after : Links) : Type 0 where
  pub pieces : ℕ
  pub middle : Thread
  pub shared : Links
  pub cuts : Cuts req old before middle shared pieces
  pub rest : SetsOutIf (pieces == 0) req middle shared new after

-- an abort stops the request that it names and then completes, a reset is noted, and any other is cut or set out
abbrev pub Begins : Op → ReqId → Thread → Links → Thread → Links → Type 0
Begins (ops.Abort seq) req old before new after = EndsAbort req old before new after
Begins (ops.Reset time) req old before new after = IsNoted req old before new after
Begins _ req old before new after = CutsOrSetsOut req old before new after

-- it was accepted, and then it began
pub record IsBegun (handle : HandleId) (asked : Submission) (old : Thread) (before : Links) (new : Thread) (after : Links) : Type 0 where
  pub req : ReqId
  pub middle : Thread
  pub shared : Links
  pub accepted : IsAccepted req handle asked old before middle shared
  pub begins : Begins asked.op req middle shared new after

-- ---- what a submission comes to

-- it is refused, where it has to be; else it is accepted, and begins
abbrev pub ComesTo : Option HandleId → Submission → Thread → Links → Thread → Links → Option Errno → Type 0
ComesTo handle asked old before new after (Some errno) = IsRefused errno handle asked old before new after
ComesTo (Some handle) asked old before new after None = IsBegun handle asked old before new after
ComesTo None asked old before new after None = ⊥

-- true where it was so; false, and nothing changed, where as many requests are open as may be
abbrev pub SubmitsThrough : HandleId → Submission → Thread → Links → Thread → Links → Bool → Type 0
SubmitsThrough handle asked old before new after true = ComesTo (Some handle) asked old before new after (refusal old before (Some handle) asked)
SubmitsThrough handle asked old before new after false = IsFull handle asked old before new after

abbrev pub SubmitsBy : Thread → Links → Thread → Links → Bool → Option (Option HandleId × Submission) → Type 0
SubmitsBy old before new after made None = (made ≡ false) × (new ≡ old) × (after ≡ before)
SubmitsBy old before new after made (Some due) = (made ≡ true) × ComesTo due.0 due.1 old before new after (refusal old before due.0 due.1)

-- what the next line submits is refused, or accepted and begun; where it submits nothing, or there is no room, nothing changes
abbrev pub Submits : Thread → Links → Thread → Links → Bool → Type 0
Submits old before new after made = SubmitsBy old before new after made (submission_due old before)
