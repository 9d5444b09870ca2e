-- One entry from a tied state, where its stamp and thread are above those of the entry before.
use Rattle.std.proofs.Common.{◌≡◌, ℕ, ◌<◌, Bool, true, false, cond, ◌&&◌, nat_lt, List, [], ◌∷◌, ◌++◌, length, Option, Some, None, is_some, option_and_then, option_map, refl, sym, ◌∙◌, ap, subst}
use Rattle.std.proofs.lemmas.Bool.{and_from, lt-ltb}
use Rattle.bd_base.specs.declared.act.Entry.{Entry}
use Rattle.bd_base.specs.declared.setup.Setup.{Setup}
use Rattle.bd_machine.specs.declared.guard.TheConstants.{UNBUILT, IN_ORDER}
use Rattle.bd_machine.specs.declared.state.Between.{Between}
use Rattle.bd_machine.specs.declared.state.Registry.{Registry}
use Rattle.bd_machine.specs.declared.state.State.{State}
use Rattle.bd_machine.specs.Guards.{guards, is_built}
use Rattle.bd_machine.specs.Registry.{Question}
use Rattle.bd_machine.specs.Step.{IsAllowed, first_failing, guards_in, guards_shutdown, is_in_order, is_later, is_shutdown, after}
use Rattle.bd_machine.specs.View.{View, Taking, took, asked, destructed_by}
use Rattle.bd_machine.proofs.Acts.{Passes, passed}
use Rattle.bd_turns.specs.declared.queue.Message.{Message}
use Rattle.bd_turns.specs.Laws.{IsTurn, with_view}
use Rattle.bd_turns.specs.Local.{Shared, Local, first_of, answer_by, came_local, refusal_local, local_after}
use Rattle.bd_turns.specs.Tied.{IsTied}
use Rattle.bd_turns.proofs.Allowed.{all_pass, no_guards_shutdown}
use Rattle.bd_turns.proofs.Going.{leads_one}
use Rattle.bd_turns.proofs.Turns.{turn_is_run}
use Rattle.bd_law_logs.specs.Rows.{Row, messages, answer_of, came_by}
use Rattle.bd_law_logs.specs.Journals.{IsAnswered, IsBetweenIfAny}
use Rattle.bd_law_logs.specs.Fits.{Finds}

-- ---- stamps

-- the state as if no entry had come
abbrev unstamped : State → State
unstamped s = record s { stamp = 0 }

tied_unstamped : (setup : Setup) (s : State) (views : ℕ → View) (shared : Shared) → IsTied setup s views shared → IsTied setup (unstamped s) views (record shared { stamp = 0 })
tied_unstamped setup s views shared tied = record {
  stamp_is = refl;
  shut_is = tied.shut_is;
  registry_is = tied.registry_is;
  threads_are = tied.threads_are;
  views_are = tied.views_are;
  stand = tied.stand;
  counts = tied.counts;
  placed = tied.placed;
  keyed = tied.keyed;
  fresh = record { requests = tied.fresh.requests; walks = tied.fresh.walks; notices = tied.fresh.notices; pieces = tied.fresh.pieces };
  told = record { due = tied.told.due; tokens = tied.told.tokens; owed = tied.told.owed; reports = tied.told.reports };
}

-- the entry is allowed, and the state after it is tied to what the rules say
pub record IsStepped (setup : Setup) (s : State) (views : ℕ → View) (shared : Shared) (e : Entry) : Type 0 where
  pub allowed : IsAllowed setup s e
  pub tied : IsTied setup (after setup s e) (with_view views e.thread (local_after setup e.thread (record { view = views e.thread; shared = shared }) e).view) (local_after setup e.thread (record { view = views e.thread; shared = shared }) e).shared

module _ (setup : Setup) (s : State) (views : ℕ → View) (shared : Shared) (e : Entry) (tied : IsTied setup s views shared) (lt : e.thread < setup.threads) (still : is_shutdown e.act ≡ false)
    (built : is_built e.act ≡ true) (positive : nat_lt 0 e.stamp ≡ true) (later : is_later s e ≡ true)
    (passes : Passes (guards setup e.thread (views e.thread) e.act (came_local setup e.thread (record { view = views e.thread; shared = shared }) e.act))) where
  abbrev at_zero : Local
  at_zero = record { view = views e.thread; shared = record shared { stamp = 0 } }

  unrefused : refusal_local setup e.thread (record { view = views e.thread; shared = record shared { stamp = 0 } }) e ≡ None
  unrefused =
      let gs : List (ℕ × Bool) = guards setup e.thread (views e.thread) e.act (came_local setup e.thread (record { view = views e.thread; shared = shared }) e.act) in
      all_pass ((UNBUILT, is_built e.act) ∷ (IN_ORDER, nat_lt 0 e.stamp) ∷ gs) (built, (positive, passed gs passes))

  turn : IsTurn setup (unstamped s) views e.thread (e ∷ []) (local_after setup e.thread (record { view = views e.thread; shared = record shared { stamp = 0 } }) e)
  turn =
      turn_is_run setup (unstamped s) views (record shared { stamp = 0 }) e.thread (e ∷ []) (local_after setup e.thread (record { view = views e.thread; shared = record shared { stamp = 0 } }) e)
      (tied_unstamped setup s views shared tied) lt
      (leads_one setup e.thread (record { view = views e.thread; shared = record shared { stamp = 0 } }) e refl still unrefused)

  in_order : is_in_order s e ≡ true
  in_order =
      let below : e.thread < length s.parts = subst (λ (n : ℕ). e.thread < n) (sym tied.threads_are) lt in
      and_from (nat_lt e.thread (length s.parts) && nat_lt 0 e.stamp) (is_later s e)
      (and_from (nat_lt e.thread (length s.parts)) (nat_lt 0 e.stamp) (lt-ltb e.thread (length s.parts) below) positive) later

  allowed : IsAllowed setup s e
  allowed =
      let gs : List (ℕ × Bool) = guards_in setup s e.thread e.act in
      let old = turn.run.0 in
      let each = passed ((UNBUILT, is_built e.act) ∷ (IN_ORDER, is_in_order (unstamped s) e) ∷ guards_shutdown setup (unstamped s) e.thread e.act ++ gs) old in
      let rest : first_failing (guards_shutdown setup (unstamped s) e.thread e.act ++ gs) ≡ None = all_pass (guards_shutdown setup (unstamped s) e.thread e.act ++ gs) each.1.1 in
      let guards_pass : first_failing gs ≡ None = sym (ap (λ (xs : List (ℕ × Bool)). first_failing (xs ++ gs)) (no_guards_shutdown setup (unstamped s) e.thread e.act still)) ∙ rest in
      ap (λ b. cond b (cond (is_in_order s e) (first_failing (guards_shutdown setup s e.thread e.act ++ gs)) (Some IN_ORDER)) (Some UNBUILT)) built
      ∙ ap (λ b. cond b (first_failing (guards_shutdown setup s e.thread e.act ++ gs)) (Some IN_ORDER)) in_order
      ∙ ap (λ (xs : List (ℕ × Bool)). first_failing (xs ++ gs)) (no_guards_shutdown setup s e.thread e.act still)
      ∙ guards_pass

  pub stepped : IsStepped setup s views shared e
  unfolding after local_after
  stepped = record { allowed = allowed; tied = turn.tied }

-- ---- what comes

message_came : (t : ℕ) (queue ms : List Message) (o : Option Taking) → ((q : Taking) → o ≡ Some q → first_of t queue q ≡ first_of t ms q)
    → option_and_then (first_of t queue) o ≡ option_and_then (first_of t ms) o
message_came t queue ms None h = refl
message_came t queue ms (Some q) h = h q refl

answer_came : (setup : Setup) (registry : Registry) (t : ℕ) (o : Option Question) → IsAnswered setup registry t o → option_map (answer_by setup registry t) o ≡ option_map answer_of o
answer_came setup registry t None h = refl
answer_came setup registry t (Some q) h = ap Some h

between_came : (registry : Registry) (between : Option Between) (o : Option Question) → IsBetweenIfAny registry between o → option_and_then (λ q. registry.between) o ≡ option_and_then (λ q. between) o
between_came registry between None h = refl
between_came registry between (Some q) h = h

-- what is shared brings what the row says
pub came_is : (setup : Setup) (t : ℕ) (l : Local) (r : Row) (shut : Bool) → l.shared.shut ≡ shut → ((q : Taking) → took r.entry.act ≡ Some q → first_of t (l.shared.queues t) q ≡ first_of t (messages r) q)
    → IsAnswered setup l.shared.registry t (asked r.entry.act) → Finds l.shared.registry r → came_local setup t l r.entry.act ≡ came_by shut t r
came_is setup t l r shut shut_is message answer finds =
    λ i. record {
      message = message_came t (l.shared.queues t) (messages r) (took r.entry.act) message i;
      answer = answer_came setup l.shared.registry t (asked r.entry.act) answer i;
      between = between_came l.shared.registry r.between (asked r.entry.act) finds i;
      free = is_some (destructed_by r.entry.act);
      shut = shut_is i;
    }
