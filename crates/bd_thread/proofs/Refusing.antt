-- NoMem, by the local rules; and where no base device has a piece too many.
use Rattle.std.proofs.Common.{◌≡◌, ℕ, ◌+◌, Bool, true, false, cond, List, length, Option, Some, None, refl, sym, ◌∙◌, ap, subst}
use Rattle.bd_base.specs.declared.act.Act.TheVariants as acts
use Rattle.bd_base.specs.declared.id.DevId.{DevId}
use Rattle.bd_base.specs.declared.id.ReqId.{ReqId}
use Rattle.bd_base.specs.declared.setup.Setup.{Setup}
use Rattle.bd_machine.specs.declared.state.Id.{Id}
use Rattle.bd_machine.specs.declared.state.Kept.{Kept}
use Rattle.bd_machine.specs.declared.state.Part.{Part}
use Rattle.bd_machine.specs.declared.state.Registry.{Registry}
use Rattle.bd_machine.specs.Homes.{base_here, is_base, without_last}
use Rattle.bd_machine.specs.Table.{change_first}
use Rattle.bd_machine.specs.View.{View}
use Rattle.bd_home.specs.Serving.{last_at}
use Rattle.bd_rule_requests.specs.Homes.{may_refuse}
use Rattle.bd_turns.specs.declared.queue.Message.{Message}
use Rattle.bd_turns.specs.Local.{Local}
use Rattle.bd_steps.specs.Refusing.{here_refused, if_refused, refusal_due}
use Rattle.bd_links.specs.Queues.{queues_of}
use Rattle.bd_tokens.specs.Tokens.{here_in}
use Rattle.bd_thread.specs.declared.links.Links.{Links}
use Rattle.bd_thread.specs.declared.thread.Thread.{Thread}
use Rattle.bd_thread.specs.Acted.{Acted}
use Rattle.bd_thread.specs.Refusals.{refusal_now, IsSentBack, SendsBack, SendsBackBy}
use Rattle.bd_thread.specs.Requests.{KeepsTickets}
use Rattle.bd_thread.specs.Seen.{local_at, untaken, view_of}
use Rattle.bd_thread.proofs.Going.{Steps, steps, still_shut}
use Rattle.bd_thread.proofs.Submissions.{acted_into}
use Rattle.bd_thread.proofs.Tickets.{same_tickets}
use Rattle.bd_thread.proofs.Timing.{untimed}

some_same : {X : Type 0} {x y : X} → Some x ≡ Some y → x ≡ y
some_same e = cc

none_some : {X : Type 0} {x : X} {Q : Type 0} → None ≡ Some x → Q
none_some e = cc

-- ---- the step

-- what is sent back may be refused
refusal_may : (setup : Setup) (me : ℕ) (v : View) (dev : DevId) (req : ReqId) (k : ℕ) → refusal_due setup me v dev ≡ Some (req, k) → may_refuse setup me v req k dev ≡ true
refusal_may setup me v dev req k due = go (last_at (base_here v dev)) due
  where
    may : (q : ReqId × ℕ) (b : Bool) → may_refuse setup me v q.0 q.1 dev ≡ b → cond b (Some q) None ≡ Some (req, k) → may_refuse setup me v req k dev ≡ true
    may q true is e = ap (λ (p : ReqId × ℕ). may_refuse setup me v p.0 p.1 dev) (sym (some_same e)) ∙ is
    may q false is e = none_some e

    go : (o : Option (ReqId × ℕ)) → if_refused setup me v dev o ≡ Some (req, k) → may_refuse setup me v req k dev ≡ true
    go None e = none_some e
    go (Some q) e = may q (may_refuse setup me v q.0 q.1 dev) refl e

module _ (setup : Setup) (me : ℕ) (part : Part) (here : Id → Option Kept) (registry : Registry) (shut : Bool) (stamp : ℕ) (queues : ℕ → List Message) where
  abbrev old : Local
  old = local_at me part here registry shut stamp queues

  refuse_steps : (req : ReqId) (k : ℕ) (dev : DevId)
      → may_refuse setup me old.view req k dev ≡ true
      → Steps setup me old (acts.NoMem req k dev) (local_at me (untaken (record part { bases = change_first (is_base dev) without_last part.bases })) (here_refused req k here) registry shut (stamp + 1) queues)
  refuse_steps req k dev may =
      let after : Bool → Local = λ b. local_at me (untaken (record part { bases = change_first (is_base dev) without_last part.bases })) (here_refused req k here) registry b (stamp + 1) queues in
      steps setup me old (after shut) (acts.NoMem req k dev) refl refl (may, tt) (ap after (still_shut shut))

-- **NoMem**
pub sent_back_acted : (old : Thread) (before : Links) (new : Thread) (after : Links) (req : ReqId) (k : ℕ) (dev : DevId)
    → refusal_now dev old before ≡ Some (req, k)
    → IsSentBack req k dev old before new after
    → Acted old before new after
sent_back_acted old before new after req k dev due is =
    acted_into old before new after (acts.NoMem req k dev) (untaken (record old.part { bases = change_first (is_base dev) without_last old.part.bases })) (here_refused req k (here_in old.held.items))
    (ap (λ (t : Thread). t.me) is.thread) (ap (λ (t : Thread). t.setup) is.thread) (ap (λ (t : Thread). t.part) is.thread) is.held is.links
    (refuse_steps old.setup.now old.me old.part (here_in old.held.items) before.registry.state before.shut (length before.entries) (queues_of before.queues.items) req k dev
    (refusal_may old.setup.now old.me (view_of old before) dev req k due)) refl
    (untimed (acts.NoMem req k dev) old new refl (ap (λ (t : Thread). t.time) is.thread))

pub sent_back_tickets : (old : Thread) (before : Links) (new : Thread) (after : Links) (req : ReqId) (k : ℕ) (dev : DevId) → IsSentBack req k dev old before new after → KeepsTickets old → KeepsTickets new
sent_back_tickets old before new after req k dev is keeps =
    same_tickets old new (ap (λ (t : Thread). t.purse.ids) is.thread) (ap (λ (t : Thread). t.part.requests) is.thread) (ap (λ (t : Thread). t.part.next_request) is.thread) keeps

-- where none is one too many, nothing changes
pub sends_none_back : (old : Thread) (before : Links) (dev : DevId) → refusal_now dev old before ≡ None → SendsBack dev old before old before false
sends_none_back old before dev none = subst (SendsBackBy dev old before old before false) (sym none) (refl, refl, refl)

-- where one is, it goes back
pub sends_one_back : (old : Thread) (before : Links) (new : Thread) (after : Links) (req : ReqId) (k : ℕ) (dev : DevId)
    → refusal_now dev old before ≡ Some (req, k)
    → IsSentBack req k dev old before new after
    → SendsBack dev old before new after true
sends_one_back old before new after req k dev due is = subst (SendsBackBy dev old before new after true) (sym due) (refl, is)
