-- Cut, by the local rules.
use Rattle.std.proofs.Common.{◌≡◌, ℕ, ◌+◌, Bool, true, false, List, length, Option, Some, refl, sym, ◌∙◌, ap, ap₂, subst, eq-eqb}
use Rattle.bd_base.specs.declared.act.Act.TheVariants as acts
use Rattle.bd_base.specs.declared.id.ReqId.{ReqId}
use Rattle.bd_base.specs.declared.setup.Setup.{Setup}
use Rattle.bd_machine.specs.declared.state.Extent.{Extent}
use Rattle.bd_machine.specs.declared.state.Id.{Id}
use Rattle.bd_machine.specs.declared.state.Id.TheVariants as ids
use Rattle.bd_machine.specs.declared.state.Kept.{Kept}
use Rattle.bd_machine.specs.declared.state.Kept.TheVariants as keeps
use Rattle.bd_machine.specs.declared.state.OpenRequest.{OpenRequest}
use Rattle.bd_machine.specs.declared.state.Part.{Part}
use Rattle.bd_machine.specs.declared.state.Registry.{Registry}
use Rattle.bd_machine.specs.Alone.{held_after}
use Rattle.bd_machine.specs.Kept.{as_request, request_here}
use Rattle.bd_machine.specs.Requests.{cut_into, extents_of, has_extents, may_cut, pieces_made}
use Rattle.bd_turns.specs.declared.queue.Message.{Message}
use Rattle.bd_turns.specs.Local.{Local}
use Rattle.bd_links.specs.Queues.{queues_of}
use Rattle.bd_tokens.specs.Tokens.{here_in, Sets}
use Rattle.bd_thread.specs.declared.links.Links.{Links}
use Rattle.bd_thread.specs.declared.thread.Thread.{Thread}
use Rattle.bd_thread.specs.Acted.{Acted}
use Rattle.bd_thread.specs.Cuts.{may_cut_now, Cuts, CutsBy, IsCut}
use Rattle.bd_thread.specs.Seen.{local_at, untaken, view_of}
use Rattle.bd_thread.proofs.Going.{Steps, steps, still_shut}
use Rattle.bd_thread.proofs.Submissions.{acted_into}
use Rattle.bd_thread.proofs.Timing.{untimed}

-- the request by how many pieces it has, and then its pieces
pub cut_held : (setup : Setup) (req : ReqId) (r : OpenRequest) (n : ℕ) (found : List Extent) (old cut new : List (Id × Kept))
    → found ≡ extents_of setup r
    → Sets old cut (ids.Request req) (Some (keeps.Request (record r { pieces = Some n })))
    → here_in new ≡ held_after (pieces_made setup req r 0 found) (here_in cut)
    → here_in new ≡ held_after (cut_into setup req n (Some r)) (here_in old)
cut_held setup req r n found old cut new all sets made = made ∙ ap₂ (λ (es : List Extent) (here : Id → Option Kept). held_after (pieces_made setup req r 0 es) here) all sets

module _ (setup : Setup) (me : ℕ) (part : Part) (here : Id → Option Kept) (registry : Registry) (shut : Bool) (stamp : ℕ) (queues : ℕ → List Message) where
  abbrev old : Local
  old = local_at me part here registry shut stamp queues

  pub cut_steps : (req : ReqId) (r : OpenRequest) (n : ℕ)
      → as_request (here (ids.Request req)) ≡ Some r
      → may_cut setup me old.view req (Some r) ≡ true
      → n ≡ length (extents_of setup r)
      → Steps setup me old (acts.Cut req n) (local_at me (untaken part) (held_after (cut_into setup req n (Some r)) here) registry shut (stamp + 1) queues)
  cut_steps req r n is may pieces =
      let after : Bool → Option OpenRequest → Local = λ b o. local_at me (untaken part) (held_after (cut_into setup req n o) here) registry b (stamp + 1) queues in
      steps setup me old (after shut (Some r)) (acts.Cut req n) refl refl
      (ap (may_cut setup me old.view req) is ∙ may, (ap (has_extents setup n) is ∙ eq-eqb n (length (extents_of setup r)) pieces, tt))
      (ap₂ after (still_shut shut) is)

pub cut_acted : (old : Thread) (before : Links) (new : Thread) (after : Links) (req : ReqId) (r : OpenRequest) (n : ℕ)
    → request_here (view_of old before) req ≡ Some r
    → may_cut old.setup.now old.me (view_of old before) req (Some r) ≡ true
    → IsCut req r n old before new after
    → Acted old before new after
cut_acted old before new after req r n is may cut =
    acted_into old before new after (acts.Cut req n) (untaken old.part) (held_after (cut_into old.setup.now req n (Some r)) (here_in old.held.items))
    (ap (λ (t : Thread). t.me) cut.thread) (ap (λ (t : Thread). t.setup) cut.thread) (ap (λ (t : Thread). t.part) cut.thread) cut.held cut.links
    (cut_steps old.setup.now old.me old.part (here_in old.held.items) before.registry.state before.shut (length before.entries) (queues_of before.queues.items) req r n is may cut.pieces) refl
    (untimed (acts.Cut req n) old new refl (ap (λ (t : Thread). t.time) cut.thread))

-- where it may not be cut, nothing changes
pub uncut_stays : (old : Thread) (before : Links) (req : ReqId) → may_cut_now req old before ≡ false → Cuts req old before old before 0
uncut_stays old before req may =
    subst (λ b. CutsBy req 0 old before old before b (request_here (view_of old before) req)) (sym may) (refl, refl, refl)

-- where it may, it is cut
pub cut_here : (old : Thread) (before : Links) (new : Thread) (after : Links) (req : ReqId) (r : OpenRequest) (n : ℕ)
    → request_here (view_of old before) req ≡ Some r
    → may_cut old.setup.now old.me (view_of old before) req (Some r) ≡ true
    → IsCut req r n old before new after
    → Cuts req old before new after n
cut_here old before new after req r n is may cut =
    subst (λ (o : Option OpenRequest). CutsBy req n old before new after (may_cut old.setup.now old.me (view_of old before) req o) o) (sym is)
    (subst (λ b. CutsBy req n old before new after b (Some r)) (sym may) cut)
