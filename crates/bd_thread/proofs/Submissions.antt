-- Accept and Refuse, by the local rules.
use Rattle.std.proofs.Common.{◌≡◌, ℕ, ◌+◌, ◌<◌, ◌≤◌, Bool, true, false, not, cond, ◌&&◌, ◌==◌, nat_lt, nat_le, List, length, filter, vec_len, Option, Some, None, is_none, refl, sym, ◌∙◌, ap, subst, eq-eqb, lt-ltb, le-leb}
use Rattle.std.proofs.lemmas.Bool.{and_from}
use Rattle.std.proofs.lemmas.List.{length-append}
use Rattle.bd_base.specs.Errno.{number_of}
use Rattle.bd_base.specs.declared.act.Act.{Act}
use Rattle.bd_base.specs.declared.id.DevId.{DevId}
use Rattle.bd_base.specs.declared.id.HandleId.{HandleId}
use Rattle.bd_base.specs.declared.id.ReqId.{ReqId}
use Rattle.bd_base.specs.declared.request.Errno.{Errno}
use Rattle.bd_base.specs.declared.setup.Setup.{Setup}
use Rattle.bd_machine.specs.declared.state.Handle.{Handle}
use Rattle.bd_machine.specs.declared.state.Id.{Id}
use Rattle.bd_machine.specs.declared.state.Id.TheVariants as ids
use Rattle.bd_machine.specs.declared.state.Kept.{Kept}
use Rattle.bd_machine.specs.declared.state.Part.{Part}
use Rattle.bd_machine.specs.declared.state.Registry.{Registry}
use Rattle.bd_machine.specs.Admission.{refusal_of}
use Rattle.bd_machine.specs.Asked.{is_handle_on, is_job_submit, most_requests, no_request, undecided_job}
use Rattle.bd_machine.specs.Registry.{handle_of}
use Rattle.bd_machine.specs.Requests.{is_device_of}
use Rattle.bd_machine.specs.Same.{is_the, same_errno, same_id}
use Rattle.bd_machine.specs.View.{is_of}
use Rattle.bd_msg.specs.Purse.{Kept as Purse}
use Rattle.bd_turns.specs.declared.queue.Message.{Message}
use Rattle.bd_turns.specs.Local.{Local}
use Rattle.bd_rule_view.specs.declared.names.Submission.{Submission}
use Rattle.bd_links.specs.Entries.{longer}
use Rattle.bd_links.specs.Queues.{queues_of}
use Rattle.bd_tokens.specs.Tokens.{here_in}
use Rattle.bd_thread.specs.declared.links.Links.{Links}
use Rattle.bd_thread.specs.declared.thread.Thread.{Thread}
use Rattle.bd_thread.specs.Acted.{Acted, ActedBy}
use Rattle.bd_thread.specs.Requests.{accept_act, accepted, opened, refusal, refuse_act, refused, IsAsked, IsFresh, IsOpened}
use Rattle.bd_thread.specs.Seen.{local, local_at, view_of}
use Rattle.bd_thread.specs.Timely.{IsTimely}
use Rattle.bd_thread.proofs.Going.{Steps, steps, still_shut, acted_step}
use Rattle.bd_thread.proofs.Timing.{untimed}

-- one act that leads to this part and to what is then here
pub acted_into : {may : Setup → Act → Bool} (old : Thread) (before : Links) (new : Thread) (after : Links) (act : Act) (part : Part) (here : Id → Option Kept)
    → new.me ≡ old.me
    → new.setup ≡ old.setup
    → new.part ≡ part
    → here_in new.held.items ≡ here
    → after ≡ record before { entries = longer old.me before.entries act }
    → Steps old.setup.now old.me (local old before) act (local_at old.me part here before.registry.state before.shut (length before.entries + 1) (queues_of before.queues.items))
    → may old.setup.now act ≡ true
    → IsTimely act old new
    → ActedBy may old before new after
acted_into old before new after act part here me setup part-is here-is links leads own timely =
    let then_is : (n : ℕ) → Local = λ n. local_at old.me part here before.registry.state before.shut n (queues_of before.queues.items) in
    let counted : length before.entries + 1 ≡ length (longer old.me before.entries act) = sym (length-append before.entries _) in
    let same : then_is (length (longer old.me before.entries act)) ≡ local new after = λ i. local_at (sym me i) (sym part-is i) (sym here-is i) (sym links i).registry.state (sym links i).shut (length (sym links i).entries) (queues_of (sym links i).queues.items) in
    acted_step old before new after act me setup (ap (λ (l : Links). vec_len l.queues) links) (ap (λ (l : Links). l.registry.setup) links) (ap (λ (l : Links). l.entries) links)
    (subst (λ (l : Local). Steps old.setup.now old.me (local old before) act l) (ap then_is counted ∙ same) leads) own timely

module _ (setup : Setup) (me : ℕ) (part : Part) (here : Id → Option Kept) (registry : Registry) (shut : Bool) (stamp : ℕ) (queues : ℕ → List Message) (running : shut ≡ false) (asked : Submission) where
  -- the thread's handle of this number
  abbrev found : HandleId → Option Handle
  found handle = handle_of (filter (is_of me) registry.handles) handle

  asks : (handle : Option HandleId) → is_job_submit part handle asked.op asked.lba asked.count (undecided_job setup me part) ≡ true
      → (not shut && is_job_submit part handle asked.op asked.lba asked.count (undecided_job setup me part)) ≡ true
  asks handle line = and_from (not shut) (is_job_submit part handle asked.op asked.lba asked.count (undecided_job setup me part)) (ap not running) line

  -- a handle that is open on the device is of that device
  device_of : (dev : DevId) (h : Option Handle) → is_handle_on dev h ≡ true → is_device_of dev h ≡ true
  device_of dev None on = refl
  device_of dev (Some h) on = on

  -- **Accept**
  pub accept_steps : (req : ReqId) (dev : DevId) (handle : HandleId)
      → is_job_submit part (Some handle) asked.op asked.lba asked.count (undecided_job setup me part) ≡ true
      → refusal_of setup (local_at me part here registry shut stamp queues).view (Some handle) asked.op asked.lba asked.count ≡ None
      → is_handle_on dev (found handle) ≡ true
      → req.thread ≡ me → part.next_request ≤ req.seq → length part.requests < most_requests → req.seq < no_request
      → Steps setup me (local_at me part here registry shut stamp queues) (accept_act req dev handle asked)
      (local_at me (accepted setup me part req dev handle asked) (λ j. cond (same_id (ids.Request req) j) (Some (opened setup part dev handle asked)) (here j)) registry shut (stamp + 1) queues)
  accept_steps req dev handle line admitted on own above room names =
      steps setup me (local_at me part here registry shut stamp queues)
      (local_at me (accepted setup me part req dev handle asked) (λ j. cond (same_id (ids.Request req) j) (Some (opened setup part dev handle asked)) (here j)) registry shut (stamp + 1) queues)
      (accept_act req dev handle asked) refl refl (
        and_from (not shut && is_job_submit part (Some handle) asked.op asked.lba asked.count (undecided_job setup me part)) (is_device_of dev (found handle)) (asks (Some handle) line) (device_of dev (found handle) on),
        (
          ap is_none admitted,
          (
            and_from ((req.thread == me) && nat_le part.next_request req.seq && nat_lt (length part.requests) most_requests) (nat_lt req.seq no_request)
                (and_from ((req.thread == me) && nat_le part.next_request req.seq) (nat_lt (length part.requests) most_requests)
                (and_from (req.thread == me) (nat_le part.next_request req.seq) (eq-eqb req.thread me own) (le-leb part.next_request req.seq above))
                (lt-ltb (length part.requests) most_requests room))
                (lt-ltb req.seq no_request names),
            tt,
          ),
        ),
      )
      (ap (λ b. local_at me (accepted setup me part req dev handle asked) (λ j. cond (same_id (ids.Request req) j) (Some (opened setup part dev handle asked)) (here j)) registry b (stamp + 1) queues) (still_shut shut))

  -- **Refuse**
  pub refuse_steps : (handle : Option HandleId) (errno : Errno)
      → is_job_submit part handle asked.op asked.lba asked.count (undecided_job setup me part) ≡ true
      → refusal_of setup (local_at me part here registry shut stamp queues).view handle asked.op asked.lba asked.count ≡ Some errno
      → Steps setup me (local_at me part here registry shut stamp queues) (refuse_act handle asked errno)
      (local_at me (refused errno part) here registry shut (stamp + 1) queues)
  refuse_steps handle errno line due =
      steps setup me (local_at me part here registry shut stamp queues)
      (local_at me (refused errno part) here registry shut (stamp + 1) queues)
      (refuse_act handle asked errno) refl refl (
        asks handle line,
        (ap (is_the same_errno errno) due ∙ eq-eqb (number_of errno) (number_of errno) refl, tt),
      )
      (ap (λ b. local_at me (refused errno part) here registry b (stamp + 1) queues) (still_shut shut))

-- ---- the thread

pub opened_acted : (old : Thread) (before : Links) (new : Thread) (after : Links) (req : ReqId) (dev : DevId) (handle : HandleId) (asked : Submission)
    → IsAsked old before (Some handle) asked
    → IsFresh old req
    → refusal old before (Some handle) asked ≡ None
    → is_handle_on dev (handle_of (view_of old before).handles handle) ≡ true
    → length old.part.requests < most_requests
    → IsOpened req dev handle asked old before new after
    → Acted old before new after
opened_acted old before new after req dev handle asked is fresh admitted on room opens =
    acted_into old before new after (accept_act req dev handle asked) (accepted old.setup.now old.me old.part req dev handle asked) _
    (ap (λ (t : Thread). t.me) opens.thread) (ap (λ (t : Thread). t.setup) opens.thread) opens.part opens.held opens.links
    (accept_steps old.setup.now old.me old.part (here_in old.held.items) before.registry.state before.shut (length before.entries) (queues_of before.queues.items) is.running asked
    req dev handle is.line admitted on fresh.own fresh.above room fresh.names) refl
    (untimed (accept_act req dev handle asked) old new refl (ap (λ (t : Thread). t.time) opens.thread))

pub refused_acted : (old : Thread) (before : Links) (new : Thread) (after : Links) (handle : Option HandleId) (asked : Submission) (errno : Errno)
    → IsAsked old before handle asked
    → refusal old before handle asked ≡ Some errno
    → new ≡ record old { part = refused errno old.part }
    → after ≡ record before { entries = longer old.me before.entries (refuse_act handle asked errno) }
    → Acted old before new after
refused_acted old before new after handle asked errno is due thread links =
    acted_into old before new after (refuse_act handle asked errno) (refused errno old.part) (here_in old.held.items)
    (ap (λ (t : Thread). t.me) thread) (ap (λ (t : Thread). t.setup) thread) (ap (λ (t : Thread). t.part) thread) (ap (λ (t : Thread). here_in t.held.items) thread) links
    (refuse_steps old.setup.now old.me old.part (here_in old.held.items) before.registry.state before.shut (length before.entries) (queues_of before.queues.items) is.running asked
    handle errno is.line due) refl
    (untimed (refuse_act handle asked errno) old new refl (ap (λ (t : Thread). t.time) thread))

-- the place of a ticket is no matter of the local rules
pub opened_keeping : (old : Thread) (before : Links) (new : Thread) (after : Links) (req : ReqId) (dev : DevId) (handle : HandleId) (asked : Submission) (purse : Purse)
    → IsOpened req dev handle asked old before new after
    → IsOpened req dev handle asked old before (record new { purse = purse }) after
opened_keeping old before new after req dev handle asked purse opens = record {
  part = opens.part;
  held = opens.held;
  thread = ap (λ (t : Thread). let u : Thread = record t { purse = purse } in u) opens.thread;
  links = opens.links;
}
