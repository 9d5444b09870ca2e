-- **The law of turns.** An entry that a thread may make by what it sees and what is shared is allowed in the state, and the state after it is tied again.
use Rattle.std.proofs.Common.{◌≡◌, ℕ, ◌<◌, Bool, true, false, not, cond, ◌&&◌, ◌==◌, ◌⊎◌, inl, inr, nat_lt, List, [], ◌∷◌, ◌++◌, length, Option, Some, None, is_some, refl, sym, ◌∙◌, ap, subst, eqb-true, eq-eqb, ne_eqb}
use Rattle.std.proofs.lemmas.Bool.{and_parts, cases_eq}
use mathlib.Core.Path.{fun_ext}
use Rattle.bd_base.specs.declared.act.Act.{Act}
use Rattle.bd_base.specs.declared.act.Act.TheVariants as acts
use Rattle.bd_base.specs.declared.act.Entry.{Entry}
use Rattle.bd_base.specs.declared.act.Token.{Token}
use Rattle.bd_base.specs.declared.id.DevId.{DevId}
use Rattle.bd_base.specs.declared.setup.Setup.{Setup}
use Rattle.bd_machine.specs.declared.guard.TheConstants.{UNBUILT, IN_ORDER, MAY_DESTRUCT, CONTENT_DIGEST}
use Rattle.bd_machine.specs.declared.state.State.{State}
use Rattle.bd_machine.specs.Alone.{view_by}
use Rattle.bd_machine.specs.Guards.{guards, change, is_built}
use Rattle.bd_machine.specs.BlockMap.{home, row_of}
use Rattle.bd_machine.specs.Homes.{is_home, is_told, is_called_for, is_digest_due, has_destructed}
use Rattle.bd_machine.specs.Messages.{count_at, brings}
use Rattle.bd_machine.specs.Registry.{is_free}
use Rattle.bd_machine.specs.Run.{after_all}
use Rattle.bd_machine.specs.Step.{IsAllowed, first_failing, guards_in, guards_shutdown, is_in_order, is_shutdown, change_in, after}
use Rattle.bd_machine.specs.View.{View, Came, Change, Taking, view, part_of, came_for, asked}
use Rattle.bd_machine.proofs.Acts.{Passes, passed, IsFresh}
use Rattle.bd_machine.proofs.Steps.{own, frame, fresh_after}
use Rattle.bd_turns.specs.declared.queue.Message.{Message}
use Rattle.bd_turns.specs.Laws.{TurnIsRun, IsTurn, with_view}
use Rattle.bd_turns.specs.Local.{Shared, Local, first_of, came_local, refusal_local, change_local, queue_after, carried_local, local_after, Leads}
use Rattle.bd_turns.specs.Told.{IsTold}
use Rattle.bd_turns.specs.Tied.{Stand, IsTied}
use Rattle.bd_turns.proofs.Effects.{Kind, Puts, Tooks, Quiet, kind_of, brings_some}
use Rattle.bd_turns.proofs.Allowed.{all_pass, no_guards_shutdown, in_order, threads_stay}
use Rattle.bd_turns.proofs.Ids.{fresh_to, fresh_from}
use Rattle.bd_turns.proofs.Keys.{after_keyed}
use Rattle.bd_turns.proofs.PutRings.{put_rings}
use Rattle.bd_turns.proofs.Queues.{First, first_is, taken_first}
use Rattle.bd_turns.proofs.Rings.{AreRings, quiet_rings}
use Rattle.bd_turns.proofs.Told.{told_after, destruct_is_free}
use Rattle.bd_turns.proofs.TookRings.{took_rings}

-- what a thread sees in a state, with these queues
abbrev pub local_of : State → (ℕ → List Message) → ℕ → Local
local_of s queues t = record { view = view s t; shared = record { stamp = s.stamp; shut = s.shut; registry = s.registry; queues = queues } }

-- in a tied state that is what the thread sees and what is shared
pub local_is : (setup : Setup) (s : State) (views : ℕ → View) (shared : Shared) (t : ℕ) → IsTied setup s views shared → t < setup.threads → local_of s shared.queues t ≡ record { view = views t; shared = shared }
local_is setup s views shared t tied lt = λ i. record {
  view = tied.views_are t lt i;
  shared = record { stamp = tied.stamp_is i; shut = tied.shut_is i; registry = tied.registry_is i; queues = shared.queues };
}

-- ---- what comes

module _ (setup : Setup) (s : State) (t : ℕ) (queues : ℕ → List Message) where
  abbrev LocallyPasses : Act → Type 0
  LocallyPasses act = Passes (guards setup t (view s t) act (came_local setup t (local_of s queues t) act))

  took_parts : (source number : ℕ) (what : Token) → LocallyPasses (acts.Took source number what)
      → ((number == count_at (part_of s t).taken source) ≡ true) × (brings what (first_of t (queues t) (record { source = source; number = number; what = what })) ≡ true)
  took_parts source number what h =
      and_parts (number == count_at (part_of s t).taken source) (brings what (first_of t (queues t) (record { source = source; number = number; what = what })))
      (passed (guards setup t (view s t) (acts.Took source number what) (came_local setup t (local_of s queues t) (acts.Took source number what))) h).0

  pub first_took : (source number : ℕ) (what : Token) → LocallyPasses (acts.Took source number what) → First t (queues t) (record { source = source; number = number; what = what })
  first_took source number what h =
      let taking : Taking = record { source = source; number = number; what = what } in
      first_is t (queues t) taking (brings_some what (first_of t (queues t) taking) (took_parts source number what h).1)

  -- what comes to the thread lets it do and change what comes by the state does
  pub record IsAlike (act : Act) : Type 0 where
    pub guards_are : guards setup t (view s t) act (came_for setup s t act) ≡ guards setup t (view s t) act (came_local setup t (local_of s queues t) act)
    pub change_is : change setup t (view s t) act (came_for setup s t act) ≡ change setup t (view s t) act (came_local setup t (local_of s queues t) act)

  alike_of : (act : Act) → came_for setup s t act ≡ came_local setup t (local_of s queues t) act → IsAlike act
  alike_of act same = record { guards_are = ap (guards setup t (view s t) act) same; change_is = ap (change setup t (view s t) act) same }

  -- the device is called for by the same, whether its home was told to destruct it or not
  called_same : (dev : DevId) (digest : Option (List ℕ)) → IsTold setup s → LocallyPasses (acts.Destruct dev digest)
      → is_called_for (view s t) (came_for setup s t (acts.Destruct dev digest)) dev ≡ is_called_for (view s t) (came_local setup t (local_of s queues t) (acts.Destruct dev digest)) dev
  called_same dev digest told h = go (is_told (view s t) dev) refl
    where
      v : View
      v = view s t

      came : Came
      came = came_local setup t (local_of s queues t) (acts.Destruct dev digest)

      free_if : is_told v dev ≡ true → is_free setup s.registry dev ≡ true
      free_if is =
          let g = and_parts (is_home setup t dev && is_called_for v came dev) (not (has_destructed v dev)) (passed (guards setup t v (acts.Destruct dev digest) came) h).0 in
          let k = and_parts (is_home setup t dev) (is_called_for v came dev) g.0 in
          let l = and_parts (is_some (row_of setup dev)) (home setup dev == t) k.0 in
          destruct_is_free setup s t dev told (eqb-true (home setup dev) t l.1) is g.1

      go : (b : Bool) → is_told v dev ≡ b → (is_told v dev && is_free setup s.registry dev) ≡ (is_told v dev && true)
      go true is = ap (λ f. is_told v dev && f) (free_if is)
      go false is = ap (λ b. b && is_free setup s.registry dev) is ∙ sym (ap (λ b. b && true) is)

  pub alike : (act : Act) → IsTold setup s → Stand s.tokens t (part_of s t).taken (queues t) → LocallyPasses act → IsAlike act
  alike (acts.Took source number what) told st h =
      let taking : Taking = record { source = source; number = number; what = what } in
      let first = first_took source number what h in
      let same = taken_first s.tokens t (part_of s t).taken (queues t) taking first (eqb-true number (count_at (part_of s t).taken source) (took_parts source number what h).0) st ∙ sym first.came in
      alike_of (acts.Took source number what) (λ i. record { message = same i; answer = None; between = None; free = false; shut = s.shut })
  alike (acts.Destruct dev digest) told st h = record {
    guards_are = ap (λ b. (MAY_DESTRUCT, is_home setup t dev && b && not (has_destructed (view s t) dev)) ∷ (CONTENT_DIGEST, is_digest_due setup (view s t) dev digest) ∷ []) (called_same dev digest told h);
    change_is = refl;
  }
  alike act told st h = alike_of act refl

-- ---- an entry that is allowed

-- a Took takes the first message
abbrev pub TakesFirst : State → (ℕ → List Message) → ℕ → Act → Type 0
TakesFirst s queues t act = (source number : ℕ) (what : Token) → act ≡ acts.Took source number what → First t (queues t) (record { source = source; number = number; what = what })

module _ (setup : Setup) (s : State) (queues : ℕ → List Message) (stamp t : ℕ) (fresh : IsFresh s) (rings : AreRings setup s queues) (lt : t < setup.threads) where
  abbrev IsRinged : Act → Type 0
  IsRinged act = AreRings setup (after setup s (record { stamp = stamp; thread = t; act = act })) (λ r. queue_after t act (change_in setup s t act).moves r (queues r))

  rings_next : (act : Act) → IsAllowed setup s (record { stamp = stamp; thread = t; act = act }) → TakesFirst s queues t act → IsRinged act
  rings_next act allowed first = go (kind_of setup t (view s t) (came_for setup s t act) act)
    where
      go : Kind setup t (view s t) (came_for setup s t act) act → IsRinged act
      go (Puts to number what is) =
          subst IsRinged (sym is) (put_rings setup s stamp t to number what fresh (subst (λ (a : Act). IsAllowed setup s (record { stamp = stamp; thread = t; act = a })) is allowed) queues rings)
      go (Tooks source number what is) =
          subst IsRinged (sym is) (took_rings setup s stamp t source number what fresh (subst (λ (a : Act). IsAllowed setup s (record { stamp = stamp; thread = t; act = a })) is allowed) queues rings (first source number what is) lt)
      go (Quiet quiet) = quiet_rings setup s (record { stamp = stamp; thread = t; act = act }) fresh allowed queues rings lt quiet

module _ (setup : Setup) (s : State) (views : ℕ → View) (shared : Shared) (e : Entry) (tied : IsTied setup s views shared) (lt : e.thread < setup.threads) where
  abbrev here : Local
  here = local_of s shared.queues e.thread

  abbrev by_state : Local
  by_state = local_after setup e.thread (local_of s shared.queues e.thread) e

  rings_of : AreRings setup s shared.queues
  rings_of = record { stand = tied.stand; counts = tied.counts; placed = tied.placed }

  fresh_of : IsFresh s
  fresh_of = fresh_to s tied.fresh

  below : e.thread < length s.parts
  below = subst (λ (n : ℕ). e.thread < n) (sym tied.threads_are) lt

  -- **After**: an allowed entry leaves a state that is tied to what the thread's own rules say
  tied_by_state : IsAllowed setup s e → IsAlike setup s e.thread shared.queues e.act → TakesFirst s shared.queues e.thread e.act
      → IsTied setup (after setup s e) (with_view views e.thread (local_after setup e.thread (local_of s shared.queues e.thread) e).view) (local_after setup e.thread (local_of s shared.queues e.thread) e).shared
  unfolding after local_after
  tied_by_state allowed same first = record {
    stamp_is = refl;
    shut_is = refl;
    registry_is = refl;
    threads_are = threads_stay setup s e ∙ tied.threads_are;
    views_are = λ u u_lt. views_now u u_lt (cases_eq u e.thread);
    stand = now.stand;
    counts = now.counts;
    placed = now.placed;
    keyed = after_keyed setup s e tied.keyed;
    fresh = fresh_from (after setup s e) (fresh_after setup s e fresh_of allowed);
    told = told_after setup s e fresh_of allowed tied.told;
  }
    where
      change_same : change_in setup s e.thread e.act ≡ change_local setup e.thread (local_of s shared.queues e.thread) e.act
      change_same = same.change_is

      now : AreRings setup (after setup s e) (λ r. queue_after e.thread e.act (change_local setup e.thread (local_of s shared.queues e.thread) e.act).moves r (shared.queues r))
      now = subst (λ (c : Change). AreRings setup (after setup s e) (λ r. queue_after e.thread e.act c.moves r (shared.queues r))) change_same
          (rings_next setup s shared.queues e.stamp e.thread fresh_of rings_of lt e.act allowed first)

      own_view : view (after setup s e) e.thread ≡ view_by setup e.thread (view s e.thread) (change_local setup e.thread (local_of s shared.queues e.thread) e.act) (asked e.act)
      own_view = own setup s e fresh_of allowed ∙ ap (λ (c : Change). view_by setup e.thread (view s e.thread) c (asked e.act)) change_same

      views_now : (u : ℕ) → u < setup.threads → (u ≡ e.thread) ⊎ (u ≡ e.thread → ⊥) → view (after setup s e) u ≡ with_view views e.thread (carried_local setup e.thread (local_of s shared.queues e.thread) e (change_local setup e.thread (local_of s shared.queues e.thread) e.act)).view u
      views_now u u_lt (inl same) =
          ap (view (after setup s e)) same ∙ own_view
          ∙ sym (ap (λ b. cond b (view_by setup e.thread (view s e.thread) (change_local setup e.thread (local_of s shared.queues e.thread) e.act) (asked e.act)) (views u)) (eq-eqb u e.thread same))
      views_now u u_lt (inr ne) =
          frame setup s e fresh_of allowed u (λ h. ne (sym h)) ∙ tied.views_are u u_lt
          ∙ sym (ap (λ b. cond b (view_by setup e.thread (view s e.thread) (change_local setup e.thread (local_of s shared.queues e.thread) e.act) (asked e.act)) (views u)) (ne_eqb u e.thread ne))

  pub tied_after : IsAllowed setup s e → IsAlike setup s e.thread shared.queues e.act → TakesFirst s shared.queues e.thread e.act
      → IsTied setup (after setup s e) (with_view views e.thread (local_after setup e.thread (record { view = views e.thread; shared = shared }) e).view) (local_after setup e.thread (record { view = views e.thread; shared = shared }) e).shared
  tied_after allowed same first =
      subst (λ (l : Local). IsTied setup (after setup s e) (with_view views e.thread (local_after setup e.thread l e).view) (local_after setup e.thread l e).shared)
      (local_is setup s views shared e.thread tied lt) (tied_by_state allowed same first)

  -- **Allowed**: what the thread's own rules allow, the state allows
  module _ (still : is_shutdown e.act ≡ false) (passes : refusal_local setup e.thread (record { view = views e.thread; shared = shared }) e ≡ None) where
    ok : refusal_local setup e.thread (local_of s shared.queues e.thread) e ≡ None
    ok = subst (λ (l : Local). refusal_local setup e.thread l e ≡ None) (sym (local_is setup s views shared e.thread tied lt)) passes

    parts_pass : ((is_built e.act ≡ true) × (nat_lt s.stamp e.stamp ≡ true)) × Passes (guards setup e.thread (view s e.thread) e.act (came_local setup e.thread (local_of s shared.queues e.thread) e.act))
    parts_pass =
        let each = passed ((UNBUILT, is_built e.act) ∷ (IN_ORDER, nat_lt s.stamp e.stamp) ∷ guards setup e.thread (view s e.thread) e.act (came_local setup e.thread (local_of s shared.queues e.thread) e.act)) ok in
        ((each.0, each.1.0), all_pass (guards setup e.thread (view s e.thread) e.act (came_local setup e.thread (local_of s shared.queues e.thread) e.act)) each.1.1)

    alike_here : IsAlike setup s e.thread shared.queues e.act
    alike_here = alike setup s e.thread shared.queues e.act tied.told (tied.stand e.thread) parts_pass.1

    pub allowed_if : IsAllowed setup s e
    allowed_if =
        let gs : List (ℕ × Bool) = guards_shutdown setup s e.thread e.act ++ guards_in setup s e.thread e.act in
        ap (λ b. cond b (cond (is_in_order s e) (first_failing gs) (Some IN_ORDER)) (Some UNBUILT)) parts_pass.0.0
        ∙ ap (λ b. cond b (first_failing gs) (Some IN_ORDER)) (in_order s e below parts_pass.0.1)
        ∙ ap (λ (xs : List (ℕ × Bool)). first_failing (xs ++ guards_in setup s e.thread e.act)) (no_guards_shutdown setup s e.thread e.act still)
        ∙ ap first_failing alike_here.guards_are
        ∙ parts_pass.1

    takes_first : TakesFirst s shared.queues e.thread e.act
    takes_first source number what is =
        first_took setup s e.thread shared.queues source number what
        (subst (λ (a : Act). Passes (guards setup e.thread (view s e.thread) a (came_local setup e.thread (local_of s shared.queues e.thread) a))) is parts_pass.1)

    pub tied_next : IsTied setup (after setup s e) (with_view views e.thread (local_after setup e.thread (record { view = views e.thread; shared = shared }) e).view) (local_after setup e.thread (record { view = views e.thread; shared = shared }) e).shared
    tied_next = tied_after allowed_if alike_here takes_first

-- ---- a turn

pub same_view : (views : ℕ → View) (t : ℕ) (v : View) → v ≡ views t → with_view views t v ≡ views
same_view views t v is = fun_ext (λ (u : ℕ). go u (u == t) refl)
  where
    go : (u : ℕ) (b : Bool) → (u == t) ≡ b → cond b v (views u) ≡ views u
    go u true e = is ∙ ap views (sym (eqb-true u t e))
    go u false e = refl

own_view : (views : ℕ → View) (t : ℕ) (v : View) → with_view views t v t ≡ v
own_view views t v = ap (λ b. cond b v (views t)) (eq-eqb t t refl)

later_view : (views : ℕ → View) (t : ℕ) (v w : View) → with_view (with_view views t v) t w ≡ with_view views t w
later_view views t v w = fun_ext (λ (u : ℕ). go u (u == t))
  where
    go : (u : ℕ) (b : Bool) → cond b w (cond b v (views u)) ≡ cond b w (views u)
    go u true = refl
    go u false = refl

-- an entry is a step
record IsOneStep (setup : Setup) (s : State) (views : ℕ → View) (shared : Shared) (e : Entry) (t : ℕ) : Type 0 where
  allowed : IsAllowed setup s e
  tied : IsTied setup (after setup s e) (with_view views t (local_after setup t (record { view = views t; shared = shared }) e).view) (local_after setup t (record { view = views t; shared = shared }) e).shared

one_step : (setup : Setup) (s : State) (views : ℕ → View) (shared : Shared) (e : Entry) (t : ℕ) → IsTied setup s views shared → t < setup.threads → e.thread ≡ t → is_shutdown e.act ≡ false
    → refusal_local setup t (record { view = views t; shared = shared }) e ≡ None → IsOneStep setup s views shared e t
one_step setup s views shared e t tied lt is still passes =
    let P : ℕ → Type 0 = λ u. u < setup.threads → refusal_local setup u (record { view = views u; shared = shared }) e ≡ None → IsOneStep setup s views shared e u in
    let own_step : P e.thread = λ u_lt ok. record { allowed = allowed_if setup s views shared e tied u_lt still ok; tied = tied_next setup s views shared e tied u_lt still ok } in
    subst P is own_step lt passes

pub turn_is_run : TurnIsRun
turn_is_run setup s views shared t [] now tied lt leads =
    record { run = tt; tied = subst (λ (l : Local). IsTied setup s (with_view views t l.view) l.shared) leads (subst (λ (vs : ℕ → View). IsTied setup s vs shared) (sym (same_view views t (views t) refl)) tied) }
turn_is_run setup s views shared t (e ∷ es) now tied lt leads =
    let l : Local = local_after setup t (record { view = views t; shared = shared }) e in
    let step : IsOneStep setup s views shared e t = one_step setup s views shared e t tied lt leads.0 leads.1 leads.2 in
    let same : record { view = with_view views t l.view t; shared = l.shared } ≡ l = same_local l in
    let rest : IsTurn setup (after setup s e) (with_view views t l.view) t es now =
    turn_is_run setup (after setup s e) (with_view views t l.view) l.shared t es now step.tied lt (subst (λ (x : Local). Leads setup t x es now) (sym same) leads.3) in
    record {
      run = (step.allowed, rest.run);
      tied = subst (λ (vs : ℕ → View). IsTied setup (after_all setup (after setup s e) es) vs now.shared) (later_view views t l.view now.view) rest.tied;
    }
  where
    same_local : (l : Local) → record { view = with_view views t l.view t; shared = l.shared } ≡ l
    same_local l = λ i. record { view = own_view views t l.view i; shared = l.shared }
