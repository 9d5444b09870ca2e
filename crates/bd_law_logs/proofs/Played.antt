-- **The induction**: rows in order, of which each thread's part is accepted and which fit, are a run from a tied state, row by row.
use Rattle.std.proofs.Common.{◌≡◌, ℕ, ◌<◌, ◌≤◌, Bool, true, false, cond, ◌||◌, ◌==◌, nat_lt, ◌⊎◌, inl, inr, List, [], ◌∷◌, ◌++◌, drop, map, Option, Some, None, is_some, refl, sym, ◌∙◌, ap, subst, eq-eqb, ne_eqb, arith}
use Rattle.std.specs.List.{AllByRecursion}
use Rattle.std.proofs.lemmas.Bool.{and_parts, cases_eq}
use Rattle.bd_base.specs.declared.act.Act.{Act}
use Rattle.bd_base.specs.declared.act.Act.TheVariants as acts
use Rattle.bd_base.specs.declared.act.Entry.{Entry}
use Rattle.bd_base.specs.declared.act.Token.{Token}
use Rattle.bd_base.specs.declared.setup.Setup.{Setup}
use Rattle.bd_machine.specs.declared.guard.TheConstants.{UNBUILT, IN_ORDER}
use Rattle.bd_machine.specs.declared.state.Between.{Between}
use Rattle.bd_machine.specs.declared.state.Registry.{Registry}
use Rattle.bd_machine.specs.declared.state.State.{State}
use Rattle.bd_machine.specs.Guards.{guards, change, is_built}
use Rattle.bd_machine.specs.Messages.{count_at, brings}
use Rattle.bd_machine.specs.Changes.{registry_after}
use Rattle.bd_machine.specs.Run.{IsRunFrom, after_all}
use Rattle.bd_machine.specs.Step.{IsAllowed, is_later, is_shutdown, after}
use Rattle.bd_machine.specs.View.{View, Came, Move, Taking, took, asked}
use Rattle.bd_machine.proofs.Acts.{Passes, passed}
use Rattle.bd_turns.specs.declared.queue.Message.{Message}
use Rattle.bd_turns.specs.Laws.{with_view}
use Rattle.bd_turns.specs.Local.{Shared, Local, first_of, sent_by, came_local, queue_after, carried_local, local_after}
use Rattle.bd_turns.specs.Tied.{IsTied}
use Rattle.bd_turns.proofs.Allowed.{all_pass}
use Rattle.bd_turns.proofs.Effects.{brings_some}
use Rattle.bd_turns.proofs.Queues.{first_is}
use Rattle.bd_log.specs.Merge.{IsBefore, IsOrdered}
use Rattle.bd_turns.specs.declared.queue.Post.{Post}
use Rattle.bd_law_logs.specs.Rows.{Row, entries, posts, message_of, messages, came_with, came_by, change_by, view_after, CarriesBy, Accepts}
use Rattle.bd_law_logs.specs.Journals.{IsReplay, registry_by, events}
use Rattle.bd_law_logs.specs.Fits.{IsStampedBy, IsStamped, GoesWithin, sent_in, taken_in, FindsAt, sent, taken}
use Rattle.bd_law_logs.proofs.Parts.{mine-head, mine-other, all_filter}
use Rattle.bd_law_logs.proofs.Reorder.{from, moved_first, queues_moved, tied_moved}
use Rattle.bd_law_logs.proofs.Step.{IsStepped, stepped, came_is}
use Rattle.bd_law_logs.proofs.Meeting.{Meets, waits, late_sent, thread_of, part, taken_next, sent_next, if_any, if_none, Plays, Kind, Puts, Tooks, Neither, kind_of, put_plays, took_plays, neither_plays}
use Rattle.bd_law_logs.proofs.Journal.{true_before, finds_first, finds_next}

-- the next row is above the state's last entry
abbrev pub IsNextLater : State → List Row → Type 0
IsNextLater s [] = Unit {0}
IsNextLater s (r ∷ rs) = nat_lt 0 r.entry.stamp ≡ true → is_later s r.entry ≡ true

-- the rows, and more after them, may be played from this state on, and each thread's part of the rows leads it to its mark
pub record IsPlayable (setup : Setup) (shut : Bool) (s : State) (views : ℕ → View) (shared : Shared) (rows more : List Row) (marks : ℕ → View) : Type 0 where
  pub tied : IsTied setup s views shared
  pub shut_is : shared.shut ≡ shut
  pub later : IsNextLater s (rows ++ more)
  pub ordered : IsOrdered (entries (rows ++ more))
  pub within : AllByRecursion (λ r. r.entry.thread < setup.threads) (rows ++ more)
  pub accepts : (t : ℕ) → t < setup.threads → Accepts setup shut t (views t) (part t rows) (marks t)
  pub meets : (a u : ℕ) → Meets a (shared.queues u) (taken a (part u (rows ++ more))) (sent u (part a (rows ++ more)))
  pub stamped : AllByRecursion IsStamped (rows ++ more)
  pub goes : AllByRecursion (λ r. GoesWithin setup.threads r.entry.act) (rows ++ more)
  pub outer : (u : ℕ) → setup.threads ≤ u → shared.queues u ≡ []
  pub replay : IsReplay setup shared.registry (entries (rows ++ more))
  pub finds : AllByRecursion (λ r. FindsAt setup shared.registry (events (entries (rows ++ more))) r) (rows ++ more)

-- ---- the first row

-- the message of a Took that is not refused
took_one : (setup : Setup) (shut : Bool) (t : ℕ) (v : View) (o : Option Post) (between : Option Between) (source number : ℕ) (what : Token)
    → Passes (guards setup t v (acts.Took source number what) (came_with shut t (acts.Took source number what) (map message_of (posts o)) between)) → (p : Post) × (o ≡ Some p) × (p.message.sender ≡ source)
took_one setup shut t v o between source number what h = go o (brings_some what (first_of t (map message_of (posts o)) taking) brought)
  where
    taking : Taking
    taking = record { source = source; number = number; what = what }

    brought : brings what (first_of t (map message_of (posts o)) (record { source = source; number = number; what = what })) ≡ true
    brought =
        (and_parts (number == count_at v.part.taken source) (brings what (first_of t (map message_of (posts o)) (record { source = source; number = number; what = what })))
        (passed (guards setup t v (acts.Took source number what) (came_with shut t (acts.Took source number what) (map message_of (posts o)) between)) h).0).1

    head_same : (a b : Message) (as' bs : List Message) → a ∷ as' ≡ b ∷ bs → a ≡ b
    head_same a b as' bs e = cc

    go : (o : Option Post) → is_some (first_of t (map message_of (posts o)) (record { source = source; number = number; what = what })) ≡ true → (p : Post) × (o ≡ Some p) × (p.message.sender ≡ source)
    go None i = cc
    go (Some p) i =
        let f = first_is t (p.message ∷ []) (record { source = source; number = number; what = what }) i in
        (p, refl, ap (λ (m : Message). m.sender) (head_same p.message f.m [] f.ms f.is) ∙ f.sender_is)

-- the queues as the first row finds them, and what they are after it
record Readied (setup : Setup) (s : State) (views : ℕ → View) (shared : Shared) (x : Row) (moves : List Move) (rest : List Row) : Type 0 where
  queues : ℕ → List Message
  tied : IsTied setup s views (record shared { queues = queues })
  came : (q : Taking) → took x.entry.act ≡ Some q → first_of x.entry.thread (queues x.entry.thread) q ≡ first_of x.entry.thread (messages x) q
  meets : (a u : ℕ) → Meets a (queue_after x.entry.thread x.entry.act moves u (queues u)) (taken a (part u rest)) (sent u (part a rest))
  outer : (u : ℕ) → setup.threads ≤ u → queue_after x.entry.thread x.entry.act moves u (queues u) ≡ []

le_before : (x : Entry) (ys : List Row) → AllByRecursion (IsBefore x) (entries ys) → AllByRecursion (λ r. x.stamp ≤ r.entry.stamp) ys
le_before x [] h = tt
le_before x (y ∷ ys) h = (go h.0, le_before x ys h.1)
  where
    go : IsBefore x y.entry → x.stamp ≤ y.entry.stamp
    go (inl lt) = omega arith
    go (inr p) = let e : x.stamp ≡ y.entry.stamp = p.0 in omega arith

module _ (setup : Setup) (shut : Bool) (s : State) (views : ℕ → View) (shared : Shared) (x : Row) (rows more : List Row) (marks : ℕ → View) (playable : IsPlayable setup shut s views shared (x ∷ rows) more marks) where
  lt : x.entry.thread < setup.threads
  lt = playable.within.0

  accepted : Accepts setup shut x.entry.thread (views x.entry.thread) (x ∷ part x.entry.thread rows) (marks x.entry.thread)
  accepted = subst (λ (rs : List Row). Accepts setup shut x.entry.thread (views x.entry.thread) rs (marks x.entry.thread)) (mine-head thread_of x rows) (playable.accepts x.entry.thread lt)

  allowed_guards : ((is_built x.entry.act ≡ true) × (nat_lt 0 x.entry.stamp ≡ true)) × Passes (guards setup x.entry.thread (views x.entry.thread) x.entry.act (came_by shut x.entry.thread x))
  allowed_guards =
      let gs : List (ℕ × Bool) = guards setup x.entry.thread (views x.entry.thread) x.entry.act (came_by shut x.entry.thread x) in
      let each = passed ((UNBUILT, is_built x.entry.act) ∷ (IN_ORDER, nat_lt 0 x.entry.stamp) ∷ gs) accepted.2 in
      ((each.0, each.1.0), all_pass gs each.1.1)

  abbrev moves : List Move
  moves = (change_by setup shut x.entry.thread (views x.entry.thread) x).moves

  abbrev left : List Row
  left = rows ++ more

  -- what is to be taken and sent by the first row and by those after it
  abbrev Met : Act → List Post → ℕ → ℕ → Type 0
  Met act ps a u = Meets a (shared.queues u) (if_any (x.entry.thread == u) (taken_in a act ps) ++ taken a (part u (rows ++ more))) (if_any (x.entry.thread == a) (sent_in u act ps) ++ sent u (part a (rows ++ more)))

  met : (a u : ℕ) → Met x.entry.act (posts x.post) a u
  met a u =
      subst (λ (ts : List Post). Meets a (shared.queues u) ts (if_any (x.entry.thread == a) (sent_in u x.entry.act (posts x.post)) ++ sent u (part a (rows ++ more)))) (taken_next a u x (rows ++ more))
      (subst (λ (ss : List Post). Meets a (shared.queues u) (taken a (part u (x ∷ (rows ++ more)))) ss) (sent_next u a x (rows ++ more)) (playable.meets a u))

  abbrev Ready : Type 0
  Ready = Readied setup s views shared x (change_by setup shut x.entry.thread (views x.entry.thread) x).moves (rows ++ more)

  ready_put : (to number : ℕ) (what : Token) → x.entry.act ≡ acts.Put to number what → Ready
  ready_put to number what is = record {
    queues = shared.queues;
    tied = playable.tied;
    came = λ q e. (let bad : None ≡ Some q = sym (ap took is) ∙ e in cc);
    meets = λ a u. subst (λ (act : Act). Plays x.entry.thread act (posts x.post) (change_by setup shut x.entry.thread (views x.entry.thread) x).moves a u (shared.queues u) (taken a (part u (rows ++ more))) (sent u (part a (rows ++ more)))) (sym is)
        (put_plays x.entry.thread to number what (posts x.post) (change_by setup shut x.entry.thread (views x.entry.thread) x).moves a u (shared.queues u) (taken a (part u (rows ++ more))) (sent u (part a (rows ++ more))) carried)
        (met a u);
    outer = λ u le. subst (λ (act : Act). queue_after x.entry.thread act (change_by setup shut x.entry.thread (views x.entry.thread) x).moves u (shared.queues u) ≡ []) (sym is) (outside u le);
  }
    where
      carried : map message_of (posts x.post) ≡ sent_by x.entry.thread what (change_by setup shut x.entry.thread (views x.entry.thread) x).moves
      carried = subst (λ (act : Act). CarriesBy act x.entry.thread (change_by setup shut x.entry.thread (views x.entry.thread) x) (messages x)) is accepted.3

      goes : to < setup.threads
      goes = subst (λ (act : Act). GoesWithin setup.threads act) is playable.goes.0

      outside : (u : ℕ) → setup.threads ≤ u → queue_after x.entry.thread (acts.Put to number what) (change_by setup shut x.entry.thread (views x.entry.thread) x).moves u (shared.queues u) ≡ []
      outside u le =
          let below : to < setup.threads = goes in
          let ne : u ≡ to → ⊥ = λ e. omega arith in
          ap (λ b. cond b (shared.queues u ++ sent_by x.entry.thread what (change_by setup shut x.entry.thread (views x.entry.thread) x).moves) (shared.queues u)) (ne_eqb u to ne) ∙ playable.outer u le

  ready_took : (source number : ℕ) (what : Token) → x.entry.act ≡ acts.Took source number what → Ready
  ready_took source number what is = record {
    queues = queues_moved shared.queues x.entry.thread source p.message;
    tied = tied_moved setup s views shared x.entry.thread source p.message waiting.0 waiting.1 playable.tied;
    came = λ q e. (
        ap (λ b. first_of x.entry.thread (cond b (moved_first source p.message (shared.queues x.entry.thread)) (shared.queues x.entry.thread)) q) (eq-eqb x.entry.thread x.entry.thread refl)
        ∙ sym (ap (λ (o : Option Post). first_of x.entry.thread (map message_of (posts o)) q) post_is));
    meets = λ a u. subst (λ (act : Act). Meets a (queue_after x.entry.thread act (change_by setup shut x.entry.thread (views x.entry.thread) x).moves u (queues_moved shared.queues x.entry.thread source p.message u)) (taken a (part u (rows ++ more))) (sent u (part a (rows ++ more)))) (sym is)
        (took_plays x.entry.thread source number what p (change_by setup shut x.entry.thread (views x.entry.thread) x).moves a u shared.queues waiting.0 (taken a (part u (rows ++ more))) (sent u (part a (rows ++ more))) sender_is waiting.1 (met_took a u));
    outer = λ u le. subst (λ (act : Act). queue_after x.entry.thread act (change_by setup shut x.entry.thread (views x.entry.thread) x).moves u (queues_moved shared.queues x.entry.thread source p.message u) ≡ []) (sym is) (outside u le);
  }
    where
      one : (p : Post) × (x.post ≡ Some p) × (p.message.sender ≡ source)
      one = took_one setup shut x.entry.thread (views x.entry.thread) x.post x.between source number what
          (subst (λ (act : Act). Passes (guards setup x.entry.thread (views x.entry.thread) act (came_with shut x.entry.thread act (messages x) x.between))) is allowed_guards.1)

      p : Post
      p = one.0

      post_is : x.post ≡ Some p
      post_is = one.1

      sender_is : p.message.sender ≡ source
      sender_is = one.2

      met_took : (a u : ℕ) → Met (acts.Took source number what) (p ∷ []) a u
      met_took a u = subst (λ (o : Option Post). Met (acts.Took source number what) (posts o) a u) post_is (subst (λ (act : Act). Met act (posts x.post) a u) is (met a u))

      lower : p.stamp < x.entry.stamp
      lower = (subst (λ (o : Option Post). IsStampedBy x.entry.stamp (acts.Took source number what) (posts o)) post_is (subst (λ (act : Act). IsStampedBy x.entry.stamp act (posts x.post)) is playable.stamped.0)).0

      late : AllByRecursion (λ y. x.entry.stamp ≤ y.stamp) (sent x.entry.thread (part source (rows ++ more)))
      late = late_sent x.entry.thread x.entry.stamp (part source (rows ++ more))
          (all_filter (λ r. x.entry.stamp ≤ r.entry.stamp) (λ r. r.entry.thread == source) (rows ++ more) (le_before x.entry (rows ++ more) playable.ordered.0))
          (all_filter IsStamped (λ r. r.entry.thread == source) (rows ++ more) playable.stamped.1)

      own : Meets source (shared.queues x.entry.thread) (p ∷ taken source (part x.entry.thread (rows ++ more))) (sent x.entry.thread (part source (rows ++ more)))
      own =
          subst (λ (ss : List Post). Meets source (shared.queues x.entry.thread) (p ∷ taken source (part x.entry.thread (rows ++ more))) ss) (if_none (x.entry.thread == source) (sent x.entry.thread (part source (rows ++ more))))
          (subst (λ (b : Bool). Meets source (shared.queues x.entry.thread) (cond b (p ∷ []) [] ++ taken source (part x.entry.thread (rows ++ more))) (if_any (x.entry.thread == source) [] ++ sent x.entry.thread (part source (rows ++ more)))) (eq-eqb source source refl)
          (subst (λ (b : Bool). Meets source (shared.queues x.entry.thread) (if_any b (cond (source == source) (p ∷ []) []) ++ taken source (part x.entry.thread (rows ++ more))) (if_any (x.entry.thread == source) [] ++ sent x.entry.thread (part source (rows ++ more)))) (eq-eqb x.entry.thread x.entry.thread refl)
          (met_took source x.entry.thread)))

      waiting : (rest : List Message) × (from source (shared.queues x.entry.thread) ≡ p.message ∷ rest)
      waiting = waits source x.entry.stamp (shared.queues x.entry.thread) p (taken source (part x.entry.thread (rows ++ more))) (sent x.entry.thread (part source (rows ++ more))) lower late own

      outside : (u : ℕ) → setup.threads ≤ u → queue_after x.entry.thread (acts.Took source number what) (change_by setup shut x.entry.thread (views x.entry.thread) x).moves u (queues_moved shared.queues x.entry.thread source p.message u) ≡ []
      outside u le =
          let below : x.entry.thread < setup.threads = lt in
          let ne : u ≡ x.entry.thread → ⊥ = λ e. omega arith in
          ap (λ b. cond b (drop 1 (cond b (moved_first source p.message (shared.queues x.entry.thread)) (shared.queues u))) (cond b (moved_first source p.message (shared.queues x.entry.thread)) (shared.queues u))) (ne_eqb u x.entry.thread ne) ∙ playable.outer u le

  ready : Kind x.entry.act → Ready
  ready (Puts to number what is) = ready_put to number what is
  ready (Tooks source number what is) = ready_took source number what is
  ready (Neither no_put no_take queue_is no_taking) = record {
    queues = shared.queues;
    tied = playable.tied;
    came = λ q e. (let bad : None ≡ Some q = sym no_taking ∙ e in cc);
    meets = λ a u. neither_plays x.entry.thread x.entry.act (posts x.post) (change_by setup shut x.entry.thread (views x.entry.thread) x).moves a u (shared.queues u) (taken a (part u (rows ++ more))) (sent u (part a (rows ++ more)))
        (no_put u (posts x.post)) (no_take a (posts x.post)) (queue_is x.entry.thread (change_by setup shut x.entry.thread (views x.entry.thread) x).moves u (shared.queues u)) (met a u);
    outer = λ u le. queue_is x.entry.thread (change_by setup shut x.entry.thread (views x.entry.thread) x).moves u (shared.queues u) ∙ playable.outer u le;
  }

  -- what is shared after the first row
  abbrev shared_next : (ℕ → List Message) → Shared
  shared_next queues = record {
    stamp = x.entry.stamp;
    shut = shut;
    registry = registry_after setup shared.registry x.entry.thread (asked x.entry.act);
    queues = λ u. queue_after x.entry.thread x.entry.act (change_by setup shut x.entry.thread (views x.entry.thread) x).moves u (queues u);
  }

  record IsNext : Type 0 where
    views_next : ℕ → View
    shared_now : Shared
    allowed : IsAllowed setup s x.entry
    playable_next : IsPlayable setup shut (after setup s x.entry) views_next shared_now rows more marks
    registry_is : shared_now.registry ≡ registry_after setup shared.registry x.entry.thread (asked x.entry.act)

  local_next : (queues : ℕ → List Message) → came_local setup x.entry.thread (record { view = views x.entry.thread; shared = record shared { queues = queues } }) x.entry.act ≡ came_by shut x.entry.thread x
      → local_after setup x.entry.thread (record { view = views x.entry.thread; shared = record shared { queues = queues } }) x.entry ≡ record { view = view_after setup shut x.entry.thread (views x.entry.thread) x; shared = record (shared_next queues) { shut = shared.shut || is_shutdown x.entry.act } }
  unfolding local_after view_after
  local_next queues came = ap (λ (c : Came). carried_local setup x.entry.thread (record { view = views x.entry.thread; shared = record shared { queues = queues } }) x.entry (change setup x.entry.thread (views x.entry.thread) x.entry.act c)) came

  later_next : IsNextLater (after setup s x.entry) (rows ++ more)
  unfolding after
  later_next = go (rows ++ more) playable.ordered.0
    where
      go : (rs : List Row) → AllByRecursion (IsBefore x.entry) (entries rs) → IsNextLater (after setup s x.entry) rs
      go [] h = tt
      go (r ∷ rs) h = λ p. true_before x.entry r.entry h.0

  finds_later : (rs : List Row) → AllByRecursion (IsBefore x.entry) (entries rs) → AllByRecursion (λ r. FindsAt setup shared.registry (events (x.entry ∷ entries (rows ++ more))) r) rs
      → AllByRecursion (λ r. FindsAt setup (registry_after setup shared.registry x.entry.thread (asked x.entry.act)) (events (entries (rows ++ more))) r) rs
  finds_later [] h u = tt
  finds_later (r ∷ rs) h u = (finds_next setup shared.registry x.entry r (entries (rows ++ more)) h.0 u.0, finds_later rs h.1 u.1)

  next : IsNext
  next = record {
    views_next = with_view views x.entry.thread (view_after setup shut x.entry.thread (views x.entry.thread) x);
    shared_now = shared_next r.queues;
    allowed = step.allowed;
    registry_is = refl;
    playable_next = record {
      tied = tied_next;
      shut_is = refl;
      later = later_next;
      ordered = playable.ordered.1;
      within = playable.within.1;
      accepts = λ u u_lt. accepts_next u u_lt (cases_eq u x.entry.thread);
      meets = r.meets;
      stamped = playable.stamped.1;
      goes = playable.goes.1;
      outer = r.outer;
      replay = playable.replay.1;
      finds = finds_later (rows ++ more) playable.ordered.0 playable.finds.1;
    };
  }
    where
      r : Ready
      r = ready (kind_of x.entry.act)

      came : came_local setup x.entry.thread (record { view = views x.entry.thread; shared = record shared { queues = r.queues } }) x.entry.act ≡ came_by shut x.entry.thread x
      came = came_is setup x.entry.thread (record { view = views x.entry.thread; shared = record shared { queues = r.queues } }) x shut playable.shut_is r.came playable.replay.0
          (finds_first setup shared.registry x (entries (rows ++ more)) playable.ordered.0 playable.finds.0)

      step : IsStepped setup s views (record shared { queues = r.queues }) x.entry
      step = stepped setup s views (record shared { queues = r.queues }) x.entry r.tied lt accepted.1 allowed_guards.0.0 allowed_guards.0.1 (playable.later allowed_guards.0.1)
          (subst (λ (c : Came). Passes (guards setup x.entry.thread (views x.entry.thread) x.entry.act c)) (sym came) allowed_guards.1)

      shut_now : (shared.shut || is_shutdown x.entry.act) ≡ shut
      shut_now = ap (λ b. shared.shut || b) accepted.1 ∙ or_false shared.shut ∙ playable.shut_is
        where
          or_false : (b : Bool) → (b || false) ≡ b
          or_false true = refl
          or_false false = refl

      local_is : local_after setup x.entry.thread (record { view = views x.entry.thread; shared = record shared { queues = r.queues } }) x.entry ≡ record { view = view_after setup shut x.entry.thread (views x.entry.thread) x; shared = shared_next r.queues }
      local_is = local_next r.queues came ∙ ap (λ (b : Bool). record { view = view_after setup shut x.entry.thread (views x.entry.thread) x; shared = record (shared_next r.queues) { shut = b } }) shut_now

      tied_next : IsTied setup (after setup s x.entry) (with_view views x.entry.thread (view_after setup shut x.entry.thread (views x.entry.thread) x)) (shared_next r.queues)
      tied_next = subst (λ (l : Local). IsTied setup (after setup s x.entry) (with_view views x.entry.thread l.view) l.shared) local_is step.tied

      accepts_next : (u : ℕ) → u < setup.threads → (u ≡ x.entry.thread) ⊎ (u ≡ x.entry.thread → ⊥)
          → Accepts setup shut u (with_view views x.entry.thread (view_after setup shut x.entry.thread (views x.entry.thread) x) u) (part u rows) (marks u)
      accepts_next u u_lt (inl e) =
          subst (λ (v : View). Accepts setup shut u v (part u rows) (marks u)) (sym (ap (λ b. cond b (view_after setup shut x.entry.thread (views x.entry.thread) x) (views u)) (eq-eqb u x.entry.thread e)))
          (subst (λ (k : ℕ). Accepts setup shut k (view_after setup shut x.entry.thread (views x.entry.thread) x) (part k rows) (marks k)) (sym e) accepted.4)
      accepts_next u u_lt (inr ne) =
          subst (λ (v : View). Accepts setup shut u v (part u rows) (marks u)) (sym (ap (λ b. cond b (view_after setup shut x.entry.thread (views x.entry.thread) x) (views u)) (ne_eqb u x.entry.thread ne)))
          (subst (λ (rs : List Row). Accepts setup shut u (views u) rs (marks u)) (mine-other thread_of u x rows (λ e. ne (sym e))) (playable.accepts u u_lt))

-- ---- all rows

-- the rows are a run, and the rest may be played after them
pub record ArePlayed (setup : Setup) (shut : Bool) (s : State) (registry : Registry) (rows more : List Row) (marks : ℕ → View) : Type 0 where
  pub run : IsRunFrom setup s (entries rows)
  pub views : ℕ → View
  pub shared : Shared
  pub playable : IsPlayable setup shut (after_all setup s (entries rows)) views shared [] more marks
  pub registry_is : shared.registry ≡ registry_by setup registry (entries rows)

pub are_played : (setup : Setup) (shut : Bool) (s : State) (views : ℕ → View) (shared : Shared) (rows more : List Row) (marks : ℕ → View) → IsPlayable setup shut s views shared rows more marks → ArePlayed setup shut s shared.registry rows more marks
are_played setup shut s views shared [] more marks playable = record { run = tt; views = views; shared = shared; playable = playable; registry_is = refl }
are_played setup shut s views shared (x ∷ rows) more marks playable =
    let n = next setup shut s views shared x rows more marks playable in
    let rest = are_played setup shut (after setup s x.entry) n.views_next n.shared_now rows more marks n.playable_next in
    record { run = (n.allowed, rest.run); views = rest.views; shared = rest.shared; playable = rest.playable; registry_is = rest.registry_is ∙ ap (λ (r : Registry). registry_by setup r (entries rows)) n.registry_is }
