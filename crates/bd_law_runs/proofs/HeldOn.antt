-- An entry keeps what the state before it kept of a reset.
use Rattle.std.proofs.Common.{◌≡◌, ℕ, Bool, true, false, cond, not, ◌⊎◌, inl, inr, List, [], ◌∷◌, ◌++◌, Option, Some, None, refl, sym, ◌∙◌, ap, subst}
use Rattle.std.specs.Prelude.{slice_get, option_and_then}
use Rattle.std.specs.List.{filter}
use Rattle.std.proofs.lemmas.Bool.{cases_eq}
use Rattle.bd_base.specs.declared.act.Act.{Act}
use Rattle.bd_base.specs.declared.act.Act.TheVariants as acts
use Rattle.bd_base.specs.declared.act.Entry.{Entry}
use Rattle.bd_base.specs.declared.event.RegEvent.{RegEvent}
use Rattle.bd_base.specs.declared.event.RegEvent.TheVariants as events
use Rattle.bd_base.specs.declared.id.DevId.{DevId}
use Rattle.bd_base.specs.declared.id.ReqId.{ReqId}
use Rattle.bd_base.specs.declared.request.WalkKind.TheVariants.{Drain}
use Rattle.bd_base.specs.declared.setup.Setup.{Setup}
use Rattle.bd_machine.specs.declared.state.Id.{Id}
use Rattle.bd_machine.specs.declared.state.Kept.{Kept}
use Rattle.bd_machine.specs.declared.state.Open.{Open}
use Rattle.bd_machine.specs.declared.state.Part.{Part}
use Rattle.bd_machine.specs.declared.state.Registry.{Registry}
use Rattle.bd_machine.specs.declared.state.State.{State}
use Rattle.bd_machine.specs.declared.state.Tracked.{Tracked}
use Rattle.bd_base.specs.declared.event.Answer.{Answer}
use Rattle.bd_machine.specs.Changes.{registry_after}
use Rattle.bd_machine.specs.Guards.{guards}
use Rattle.bd_machine.specs.Same.{same_id, same_request}
use Rattle.bd_machine.specs.Step.{guards_in, change_in, refusal, after}
use Rattle.bd_machine.specs.Table.{look_up}
use Rattle.bd_machine.specs.View.{View, Came, Taking, view, part_of, message_for, came_for, asked, took, id_of}
use Rattle.bd_machine.specs.Walks.{is_drained}
use Rattle.bd_machine.proofs.Acts.{Passes, passed, IsFresh, new_id}
use Rattle.bd_machine.proofs.Steps.{allowed_passes, part_is, part_stays}
use Rattle.bd_law_runs.proofs.Covered.{RowsFine, KeptFine, DueFine, Fine, Asks, Known, change_fine}
use Rattle.bd_law_runs.proofs.Fields.{requests_after, requests_are}
use Rattle.bd_law_runs.proofs.Held.{rows_fewer, due_fewer, kept_fewer, moves_fewer, TokenFine, OwnFine, WaitsFine, Held, here_fine, message_fine, moved_fine, Begins, waits_after, Named, asks_of}
use Rattle.bd_law_runs.proofs.Ledger.{tokens_after_is}
use Rattle.bd_law_runs.proofs.Rows.{mine, BegunIn, BeginsNew, Completes, begun_stays}

registry_is : (setup : Setup) (s : State) (e : Entry) → (after setup s e).registry ≡ registry_after setup s.registry e.thread (asked e.act)
unfolding after
registry_is setup s e = refl

-- what an Accept of the reset says of its device
abbrev pub Accepting : ReqId → (DevId → Type 0) → Act → Type 0
Accepting reset D (acts.Accept d lba handle req op count) = req ≡ reset → D d
Accepting reset D _ = Unit {0}

own_after : (setup : Setup) (reset : ReqId) (D : DevId → Type 0) (t : ℕ) (v : View) (act : Act) (came : Came) → Passes (guards setup t v act came) → Accepting reset D act → (rows : List Open) → OwnFine reset D t rows → OwnFine reset D t (requests_after act rows)
own_after setup reset D t v (acts.Accept d lba handle req op count) came h accepting rows own = push rows own
  where
    at : req.thread ≡ t
    at = (new_id t v req (passed (guards setup t v (acts.Accept d lba handle req op count) came) h).1.1.0).0

    push : (rows : List Open) → OwnFine reset D t rows → OwnFine reset D t (rows ++ record { id = req; handle = handle; dev = d; op = op } ∷ [])
    push [] own = ((at, accepting), tt)
    push (o ∷ os) own = (own.0, push os own.1)
own_after setup reset D t v (acts.Complete req status shown) came h accepting rows own = fewer rows own
  where
    keep : (o : Open) (os : List Open) (b : Bool) → (o.id.thread ≡ t) × (o.id ≡ reset → D o.dev) → OwnFine reset D t os → OwnFine reset D t (cond b (o ∷ os) os)
    keep o os true h k = (h, k)
    keep o os false h k = k

    fewer : (rows : List Open) → OwnFine reset D t rows → OwnFine reset D t (filter (λ r. not (same_request r.id req)) rows)
    fewer [] own = tt
    fewer (o ∷ os) own = keep o (filter (λ r. not (same_request r.id req)) os) (not (same_request o.id req)) own.0 (fewer os own.1)
own_after setup reset D t v _ came h accepting rows own = own

module _ (setup : Setup) (s : State) (e : Entry) (reset : ReqId) (D : DevId → Type 0) (busy less : ℕ → Bool) (fresh : IsFresh s) (allowed : refusal setup s e ≡ None)
    (open_yet : Completes reset e.act → ⊥) (held : Held reset D busy s)
    (named : Named reset D busy e.act)
    (drained : (d : DevId) → D d → is_drained setup (part_of s e.thread) d Drain ≡ true → busy e.thread ≡ true → ⊥)
    (accepting : Accepting reset D e.act) (fewer : (u : ℕ) → less u ≡ true → busy u ≡ true) where
  abbrev B : Type 0
  B = BegunIn reset (part_of s reset.thread)

  abbrev N : Type 0
  N = BegunIn reset (part_of (after setup s e) reset.thread)

  abbrev t : ℕ
  t = e.thread

  passes : Passes (guards_in setup s e.thread e.act)
  passes = allowed_passes setup s e allowed

  asks : Asks reset D busy B N e.thread e.act (part_of s e.thread)
  asks = asks_of setup s e reset D busy held e.thread e.act passes named

  new_of : (act : Act) (p : Part) → Asks reset D busy B N e.thread act p → BeginsNew reset act p
  new_of (acts.Reg (events.BeginReset d r) a) p k = λ o. (k.0 o).2
  new_of _ p k = tt

  -- a reset that began goes on
  goes_on : B → N
  goes_on b = go (cases_eq e.thread reset.thread)
    where
      go : (e.thread ≡ reset.thread) ⊎ (e.thread ≡ reset.thread → ⊥) → BegunIn reset (part_of (after setup s e) reset.thread)
      go (inl same) =
          let here : BegunIn reset (part_of s e.thread) = subst (λ (u : ℕ). BegunIn reset (part_of s u)) (sym same) b in
          let later : BegunIn reset (change_in setup s e.thread e.act).part =
          begun_stays reset setup e.thread (view s e.thread) e.act (came_for setup s e.thread e.act) open_yet (new_of e.act (part_of s e.thread) asks) here in
          subst (λ (u : ℕ). BegunIn reset (part_of (after setup s e) u)) same (subst (BegunIn reset) (sym (part_is setup s e fresh allowed)) later)
      go (inr ne) = subst (BegunIn reset) (sym (part_stays setup s e fresh allowed reset.thread ne)) b

  token_on : (o : Option Tracked) → TokenFine reset D busy B o → TokenFine reset D busy (B × N) o
  token_on None k = tt
  token_on (Some x) k = kept_fewer reset D D busy busy (λ d h. h) (λ u b. b) B (B × N) (λ b. (b, goes_on b)) x.kept k

  brought : (o : Option Taking) (kept : Kept) → option_and_then (message_for s e.thread) o ≡ Some kept → KeptFine reset D busy (B × N) kept
  brought None kept h = cc
  brought (Some m) kept h = message_fine reset D busy (B × N) m.source e.thread m.number (look_up same_id s.tokens (id_of m.source e.thread m.number m.what)) kept h (token_on (look_up same_id s.tokens (id_of m.source e.thread m.number m.what)) (held.tokens (id_of m.source e.thread m.number m.what)))

  known : Known reset D busy B N e.thread setup (view s e.thread) e.act (came_for setup s e.thread e.act)
  known = record {
    passes = passes;
    rows = held.rows e.thread;
    due = held.due e.thread;
    begun = λ same b. subst (λ (u : ℕ). BegunIn reset (part_of s u)) (sym same) b;
    here = λ id kept h. here_fine reset D busy (B × N) e.thread (look_up same_id s.tokens id) kept h (token_on (look_up same_id s.tokens id) (held.tokens id));
    brought = brought (took e.act);
    drained = drained;
    asks = asks;
    owns = λ same b. subst (λ (u : ℕ). BegunIn reset (part_of (after setup s e) u)) same (subst (BegunIn reset) (sym (part_is setup s e fresh allowed)) b);
  }

  fine : Fine reset D busy B N e.thread (change_in setup s e.thread e.act)
  fine = change_fine reset D busy B N e.thread setup (view s e.thread) (came_for setup s e.thread e.act) e.act known

  rows_on : (u : ℕ) → RowsFine reset D less u (mine reset (part_of (after setup s e) u).resets)
  rows_on u = go (cases_eq e.thread u)
    where
      own : RowsFine reset D less e.thread (mine reset (part_of (after setup s e) e.thread).resets)
      own = subst (λ (p : Part). RowsFine reset D less e.thread (mine reset p.resets)) (sym (part_is setup s e fresh allowed))
          (rows_fewer reset D D busy less (λ d h. h) fewer e.thread (mine reset (change_in setup s e.thread e.act).part.resets) fine.rows)

      go : (e.thread ≡ u) ⊎ (e.thread ≡ u → ⊥) → RowsFine reset D less u (mine reset (part_of (after setup s e) u).resets)
      go (inl same) = subst (λ (w : ℕ). RowsFine reset D less w (mine reset (part_of (after setup s e) w).resets)) same own
      go (inr ne) = subst (λ (p : Part). RowsFine reset D less u (mine reset p.resets)) (sym (part_stays setup s e fresh allowed u ne)) (rows_fewer reset D D busy less (λ d h. h) fewer u (mine reset (part_of s u).resets) (held.rows u))

  due_on : (u : ℕ) → DueFine reset D less (part_of (after setup s e) u).due
  due_on u = go (cases_eq e.thread u)
    where
      own : DueFine reset D less (part_of (after setup s e) e.thread).due
      own = subst (λ (p : Part). DueFine reset D less p.due) (sym (part_is setup s e fresh allowed)) (due_fewer reset D D busy less (λ d h. h) fewer (change_in setup s e.thread e.act).part.due fine.due)

      go : (e.thread ≡ u) ⊎ (e.thread ≡ u → ⊥) → DueFine reset D less (part_of (after setup s e) u).due
      go (inl same) = subst (λ (w : ℕ). DueFine reset D less (part_of (after setup s e) w).due) same own
      go (inr ne) = subst (λ (p : Part). DueFine reset D less p.due) (sym (part_stays setup s e fresh allowed u ne)) (due_fewer reset D D busy less (λ d h. h) fewer (part_of s u).due (held.due u))

  own_on : (u : ℕ) → OwnFine reset D u (part_of (after setup s e) u).requests
  own_on u = go (cases_eq e.thread u)
    where
      own : OwnFine reset D e.thread (part_of (after setup s e) e.thread).requests
      own = subst (λ (rows : List Open). OwnFine reset D e.thread rows)
          (sym (ap (λ (p : Part). p.requests) (part_is setup s e fresh allowed) ∙ requests_are setup e.thread (view s e.thread) e.act (came_for setup s e.thread e.act)))
          (own_after setup reset D e.thread (view s e.thread) e.act (came_for setup s e.thread e.act) passes accepting (part_of s e.thread).requests (held.own e.thread))

      go : (e.thread ≡ u) ⊎ (e.thread ≡ u → ⊥) → OwnFine reset D u (part_of (after setup s e) u).requests
      go (inl same) = subst (λ (w : ℕ). OwnFine reset D w (part_of (after setup s e) w).requests) same own
      go (inr ne) = subst (λ (p : Part). OwnFine reset D u p.requests) (sym (part_stays setup s e fresh allowed u ne)) (held.own u)

  tokens_on : (id : Id) → TokenFine reset D less N (look_up same_id (after setup s e).tokens id)
  tokens_on id =
      subst (λ (ts : List (Id × Tracked)). TokenFine reset D less N (look_up same_id ts id)) (sym (tokens_after_is setup s e))
      (moved_fine reset D less N e.thread (change_in setup s e.thread e.act).moves s.tokens (λ j. old (look_up same_id s.tokens j) (held.tokens j))
      (moves_fewer reset D D busy less (λ d h. h) fewer N N (λ n. n) (change_in setup s e.thread e.act).moves fine.moves) id)
    where
      old : (o : Option Tracked) → TokenFine reset D busy B o → TokenFine reset D less N o
      old None k = tt
      old (Some x) k = kept_fewer reset D D busy less (λ d h. h) fewer B N goes_on x.kept k

  waiting_on : (n : ℕ) → WaitsFine reset D n (slice_get (after setup s e).registry.devices n)
  waiting_on n = subst (λ (r : Registry). WaitsFine reset D n (slice_get r.devices n)) (sym (registry_is setup s e)) (go e.act asks)
    where
      event_of : (event : RegEvent) (a : Answer) → Asks reset D busy B N e.thread (acts.Reg event a) (part_of s e.thread) → Begins reset D event
      event_of (events.BeginReset d r) a k = λ o. (k.0 o).1
      event_of _ a k = tt

      go : (act : Act) → Asks reset D busy B N e.thread act (part_of s e.thread) → WaitsFine reset D n (slice_get (registry_after setup s.registry e.thread (asked act)).devices n)
      go (acts.Reg event a) k = waits_after reset D s.registry.devices event a (event_of event a k) n (held.waiting n)
      go _ k = held.waiting n

  pub held_on : Held reset D less (after setup s e)
  held_on = record { rows = rows_on; due = due_on; tokens = tokens_on; own = own_on; waiting = waiting_on }
