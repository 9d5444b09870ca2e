-- Complete, by the local rules.
use Rattle.std.proofs.Common.{◌≡◌, ℕ, ◌+◌, Bool, true, false, cond, List, length, Option, Some, None, unwrap_or, refl, sym, ◌∙◌, ap, ap₂, subst}
use Rattle.bd_base.specs.declared.act.Act.TheVariants as acts
use Rattle.bd_base.specs.declared.id.ReqId.{ReqId}
use Rattle.bd_base.specs.declared.request.Shown.{Shown}
use Rattle.bd_base.specs.declared.setup.Setup.{Setup}
use Rattle.bd_machine.specs.declared.state.Id.{Id}
use Rattle.bd_machine.specs.declared.state.Id.TheVariants as ids
use Rattle.bd_machine.specs.declared.state.Kept.{Kept}
use Rattle.bd_machine.specs.declared.state.OpenPiece.{OpenPiece}
use Rattle.bd_machine.specs.declared.state.OpenRequest.{OpenRequest}
use Rattle.bd_machine.specs.declared.state.Part.{Part}
use Rattle.bd_machine.specs.declared.state.Registry.{Registry}
use Rattle.bd_machine.specs.Alone.{held_after}
use Rattle.bd_machine.specs.Kept.{piece_here, pieces_here}
use Rattle.bd_machine.specs.Requests.{closed_with, is_status_due, is_shown_due, pieces_closed}
use Rattle.bd_machine.specs.Same.{same_id}
use Rattle.bd_machine.specs.View.{View}
use Rattle.bd_turns.specs.declared.queue.Message.{Message}
use Rattle.bd_turns.specs.Local.{Local}
use Rattle.bd_links.specs.Queues.{queues_of}
use Rattle.bd_tokens.specs.Tokens.{here_in}
use Rattle.bd_steps.specs.declared.completion.Ending.{Ending}
use Rattle.bd_steps.specs.Completions.{ended, ending_of, Shows}
use Rattle.bd_steps.proofs.Completing.{ends_now, gone_closed, Ends}
use Rattle.bd_thread.specs.declared.links.Links.{Links}
use Rattle.bd_thread.specs.declared.thread.Thread.{Thread}
use Rattle.bd_thread.specs.Acted.{Acted}
use Rattle.bd_thread.specs.Completions.{completed, Completes, CompletesBy, IsCompleted}
use Rattle.bd_thread.specs.Seen.{local_at, view_of}
use Rattle.bd_thread.proofs.Going.{Steps, steps, still_shut}
use Rattle.bd_thread.proofs.Submissions.{acted_into}
use Rattle.bd_thread.proofs.Timing.{untimed}

-- ---- the step

module _ (setup : Setup) (me : ℕ) (part : Part) (here : Id → Option Kept) (registry : Registry) (shut : Bool) (stamp : ℕ) (queues : ℕ → List Message) (req : ReqId) (ending : Ending) (shown : Option Shown) where
  abbrev old : Local
  old = local_at me part here registry shut stamp queues

  pub complete_steps : Ends setup me old.view req ending → Shows ending.showing shown
      → Steps setup me old (acts.Complete req ending.status shown) (local_at me (completed req part) (ended req ending.pieces here) registry shut (stamp + 1) queues)
  complete_steps e shows =
      let v : View = old.view in
      let r : OpenRequest = e.request in
      let ps : List (Option OpenPiece) = pieces_here v req ending.pieces in
      let whole : pieces_here v req (unwrap_or r.pieces 0) ≡ ps = ap (pieces_here v req) e.number in
      let after : Bool → (Id → Option Kept) → Local = λ b after. local_at me (completed req part) after registry b (stamp + 1) queues in
      let bare : Id → Option Kept = λ j. cond (same_id (ids.Request req) j) None (here j) in
      steps setup me old (after shut (ended req ending.pieces here)) (acts.Complete req ending.status shown) refl refl (
        e.may,
        (
          ap (is_status_due setup v req ending.status) e.is ∙ e.status,
          (ap (is_shown_due v req ending.status shown) e.is ∙ e.shown shown shows, tt),
        ),
      )
      (ap₂ after (still_shut shut)
      (ap (λ (o : Option OpenRequest). held_after (closed_with v req o) here) e.is
      ∙ ap (λ (qs : List (Option OpenPiece)). held_after (pieces_closed req 0 qs) bare) whole
      ∙ gone_closed (piece_here v req) req 0 ending.pieces bare e.back))

pub completed_acted : (old : Thread) (before : Links) (new : Thread) (after : Links) (req : ReqId) (ending : Ending)
    → ending_of old.setup.now old.me (view_of old before) req ≡ Some ending
    → IsCompleted req ending old before new after
    → Acted old before new after
completed_acted old before new after req ending may done =
    acted_into old before new after (acts.Complete req ending.status done.shown) (completed req old.part) (ended req ending.pieces (here_in old.held.items))
    (ap (λ (t : Thread). t.me) done.thread) (ap (λ (t : Thread). t.setup) done.thread) done.part done.held done.links
    (complete_steps old.setup.now old.me old.part (here_in old.held.items) before.registry.state before.shut (length before.entries) (queues_of before.queues.items) req ending done.shown (ends_now old.setup.now old.me (view_of old before) req ending may) done.shows) refl
    (untimed (acts.Complete req ending.status done.shown) old new refl (ap (λ (t : Thread). t.time) done.thread))

-- where it doesn't complete, nothing changes
pub stays_open : (old : Thread) (before : Links) (req : ReqId) → ending_of old.setup.now old.me (view_of old before) req ≡ None → Completes req old before old before false
stays_open old before req none = subst (CompletesBy req old before old before false) (sym none) (refl, refl, refl)

-- where it does, it completed
pub completes_so : (old : Thread) (before : Links) (new : Thread) (after : Links) (req : ReqId) (ending : Ending)
    → ending_of old.setup.now old.me (view_of old before) req ≡ Some ending
    → IsCompleted req ending old before new after
    → Completes req old before new after true
completes_so old before new after req ending is done = subst (CompletesBy req old before new after true) (sym is) (refl, done)
