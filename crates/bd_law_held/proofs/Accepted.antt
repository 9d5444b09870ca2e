-- Where each thread holds in time what it holds, as it sees it, each request is held in time as it was accepted.
use Rattle.std.proofs.Common.{◌≡◌, ℕ, ◌<◌, Bool, true, cond, ◌==◌, List, [], ◌∷◌, ◌++◌, Option, Some, None, refl, sym, subst, eq-eqb}
use Rattle.std.specs.List.{AllByRecursion}
use Rattle.bd_base.specs.declared.act.Act.{Act}
use Rattle.bd_base.specs.declared.act.Act.TheVariants as acts
use Rattle.bd_base.specs.declared.act.Entry.{Entry}
use Rattle.bd_base.specs.declared.id.ReqId.{ReqId}
use Rattle.bd_base.specs.declared.setup.Setup.{Setup}
use Rattle.bd_machine.specs.declared.state.Id.TheVariants.{Request}
use Rattle.bd_machine.specs.declared.state.Kept.TheVariants as keeps
use Rattle.bd_machine.specs.declared.state.OpenRequest.{OpenRequest}
use Rattle.bd_machine.specs.declared.state.State.{State}
use Rattle.bd_machine.specs.Delays.{may_hold}
use Rattle.bd_machine.specs.Guards.{guards}
use Rattle.bd_machine.specs.Kept.{request_here}
use Rattle.bd_machine.specs.Run.{IsRunFrom}
use Rattle.bd_machine.specs.Start.{start}
use Rattle.bd_machine.specs.Step.{guards_in, refusal, after}
use Rattle.bd_machine.specs.View.{view, came_for}
use Rattle.bd_machine.proofs.Acts.{Passes, passed, IsFresh}
use Rattle.bd_machine.proofs.Complete.{fresh_start}
use Rattle.bd_machine.proofs.Steps.{allowed_passes, fresh_after}
use Rattle.bd_law_runs.specs.Ledger.{Accepted, requests_by}
use Rattle.bd_law_runs.proofs.Ledger.{AreTold, asked_in, told_after}
use Rattle.bd_law_runs.proofs.Moves.{AreAsked, request_is}
use Rattle.bd_law_held.specs.Held.{held_at, held_by, held_from, held_if, AreHeldInTime, EndInTime, EndsAsAccepted, IsHeldInTime}
use Rattle.bd_law_held.specs.Laws.{HeldAsAccepted}
use Rattle.bd_law_held.proofs.Ends.{end_in_parts}

module _ (setup : Setup) (moment : ℕ) where
  -- the request that is held is as it was accepted
  now : (s : State) (t : ℕ) (act : Act) (f : ReqId → Option Accepted) → Passes (guards_in setup s t act) → AreAsked f (view s t) act (came_for setup s t act)
      → EndInTime setup moment (held_by (view s t).here act) → IsHeldInTime setup moment f act
  now s t (acts.Hold req until) f h asked ends = go (request_here (view s t) req) refl (passed (guards setup t (view s t) (acts.Hold req until) (came_for setup s t (acts.Hold req until))) h).0 ends
    where
      go : (o : Option OpenRequest) → request_here (view s t) req ≡ o → may_hold setup t (view s t) req until o ≡ true → EndInTime setup moment (held_if until o) → EndsAsAccepted setup moment until (f req)
      go None is may k = cc
      go (Some r) is may k =
          let told : Some (record { dev = r.dev; op = r.op; count = r.count }) ≡ f req = asked.here req (keeps.Request r) (request_is ((view s t).here (Request req)) r is) in
          subst (EndsAsAccepted setup moment until) told k.0
  now s t _ f h asked ends = tt

  -- what the entry's thread holds by it
  own : (s : State) (e : Entry) → EndInTime setup moment (held_at e.thread s e) → EndInTime setup moment (held_by (view s e.thread).here e.act)
  own s e h = subst (λ (b : Bool). EndInTime setup moment (cond b (held_by (view s e.thread).here e.act) [])) (eq-eqb e.thread e.thread refl) h

  all_held : (threads : ℕ) (s : State) (es : List Entry) (f : ReqId → Option Accepted) → IsFresh s → AreTold s.tokens f → IsRunFrom setup s es → AllByRecursion (λ e. e.thread < threads) es
      → ((t : ℕ) → t < threads → EndInTime setup moment (held_from setup t s es)) → AreHeldInTime setup moment f es
  all_held threads s [] f fresh told run known ends = tt
  all_held threads s (e ∷ es) f fresh told run known ends = (
    now s e.thread e.act f (allowed_passes setup s e run.0) (asked_in setup s e.thread e.act f told)
        (own s e (end_in_parts setup moment (held_at e.thread s e) (held_from setup e.thread (after setup s e) es) (ends e.thread known.0)).0),
    all_held threads (after setup s e) es (requests_by e.act f) (fresh_after setup s e fresh run.0) (told_after setup s e f fresh run.0 told) run.1 known.1
        (λ t lt. (end_in_parts setup moment (held_at t s e) (held_from setup t (after setup s e) es) (ends t lt)).1),
  )

pub held_as_accepted : HeldAsAccepted
held_as_accepted setup told es threads moment run known ends =
    all_held setup moment threads (start setup told) es (λ req. None) (fresh_start setup told) (λ r. tt) run known ends
