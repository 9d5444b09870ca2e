-- What the next line submits, and what that comes to.
use Rattle.std.proofs.Common.{◌≡◌, ℕ, ◌<◌, Bool, true, false, cond, nat_lt, List, length, Option, Some, None, Result, Ok, Err, IfOk, refl, sym, ◌∙◌, ap, subst, ltb-true, arith}
use Rattle.bd_base.specs.declared.id.HandleId.{HandleId}
use Rattle.bd_base.specs.declared.id.ReqId.{ReqId}
use Rattle.bd_base.specs.declared.job.Job.TheVariants as jobs
use Rattle.bd_base.specs.declared.request.Errno.{Errno}
use Rattle.bd_base.specs.declared.request.Op.{Op}
use Rattle.bd_machine.specs.Asked.{bound_to, most_requests, op_asked, undecided_job}
use Rattle.bd_rule_view.specs.declared.names.Submission.{Submission}
use Rattle.bd_thread.specs.declared.links.Links.{Links}
use Rattle.bd_thread.specs.declared.thread.Thread.{Thread}
use Rattle.bd_thread.specs.Begins.{submission_by, submission_due, submission_of, Begins, ComesTo, Submits, SubmitsBy, SubmitsThrough}
use Rattle.bd_thread.specs.Lines.{job_now}
use Rattle.bd_thread.specs.Requests.{refusal, IsAccepted, IsRefused}

-- ---- what it comes to

-- a refusal
pub refused_so : (handle : Option HandleId) (asked : Submission) (old : Thread) (before : Links) (new : Thread) (after : Links) (errno : Errno)
    → IsRefused errno handle asked old before new after
    → ComesTo handle asked old before new after (refusal old before handle asked)
refused_so handle asked old before new after errno is = subst (ComesTo handle asked old before new after) (sym is.due) is

-- an acceptance, and a beginning
pub begun_so : (req : ReqId) (handle : HandleId) (asked : Submission) (old : Thread) (before : Links) (middle : Thread) (shared : Links) (new : Thread) (after : Links)
    → IsAccepted req handle asked old before middle shared
    → Begins asked.op req middle shared new after
    → ComesTo (Some handle) asked old before new after (refusal old before (Some handle) asked)
begun_so req handle asked old before middle shared new after accepted begins =
    subst (ComesTo (Some handle) asked old before new after) (sym accepted.admitted)
    (record { req = req; middle = middle; shared = shared; accepted = accepted; begins = begins })

-- ---- the next line

-- what the line submits, through a name that is bound to this handle or to none
abbrev with_handle : Option HandleId → Submission → Option HandleId × Submission
with_handle handle asked = (handle, asked)

-- what the next line submits
pub due_so : (t : Thread) (links : Links) (name : List ℕ) (op asked : Op) (lba count : ℕ) (handle : Option HandleId)
    → links.shut ≡ false
    → nat_lt (length t.part.requests) most_requests ≡ true
    → undecided_job t.setup.now t.me t.part ≡ Some (jobs.Submit name op lba count)
    → bound_to t.part name ≡ handle
    → asked ≡ op_asked t.part handle op
    → submission_due t links ≡ Some (with_handle handle (record { op = asked; lba = lba; count = count }))
due_so t links name op asked lba count handle running room is bound same =
    ap (λ b. cond b (submission_of t.part (job_now t links)) None) room
    ∙ ap (λ b. submission_of t.part (cond b None (undecided_job t.setup.now t.me t.part))) running
    ∙ ap (submission_of t.part) is
    ∙ ap (λ (h : Option HandleId). Some (submission_by t.part h op lba count)) bound
    ∙ ap (λ (o : Op). Some (with_handle handle (record { op = o; lba = lba; count = count }))) (sym same)

-- what it comes to
pub submits_so : (handle : Option HandleId) (asked : Submission) (old : Thread) (before : Links) (new : Thread) (after : Links)
    → submission_due old before ≡ Some (with_handle handle asked)
    → ComesTo handle asked old before new after (refusal old before handle asked)
    → Submits old before new after true
submits_so handle asked old before new after due comes = subst (SubmitsBy old before new after true) (sym due) (refl, comes)

-- through a handle, where there is room
pub submits_through : (handle : HandleId) (asked : Submission) (old : Thread) (before : Links) (new : Thread) (after : Links) (made : Bool)
    → nat_lt (length old.part.requests) most_requests ≡ true
    → submission_due old before ≡ Some (with_handle (Some handle) asked)
    → SubmitsThrough handle asked old before new after made
    → Submits old before new after made
submits_through handle asked old before new after true room due comes = submits_so (Some handle) asked old before new after due comes
submits_through handle asked old before new after false room due full =
    let less : length old.part.requests < most_requests = ltb-true (length old.part.requests) most_requests room in
    absurd (omega (arith, less, full.full))

-- the same of an answer
pub answers_through : {E : Type 0} (handle : HandleId) (asked : Submission) (old : Thread) (before : Links) (new : Thread) (after : Links) (made : Result Bool E)
    → nat_lt (length old.part.requests) most_requests ≡ true
    → submission_due old before ≡ Some (with_handle (Some handle) asked)
    → IfOk made (SubmitsThrough handle asked old before new after)
    → IfOk made (Submits old before new after)
answers_through handle asked old before new after (Ok made) room due through = submits_through handle asked old before new after made room due through
answers_through handle asked old before new after (Err e) room due through = tt
