-- **Took**: its message was the first of the queue, and the ring has it no more.
use Rattle.std.proofs.Common.{◌≡◌, ℕ, ◌+◌, ◌<◌, ◌≤◌, Bool, true, false, cond, ◌==◌, ◌⊎◌, inl, inr, List, [], ◌∷◌, drop, Option, Some, None, refl, sym, ◌∙◌, ap, ap₂, subst, eqb-true, eq-eqb, ne_eqb, arith}
use Rattle.std.proofs.lemmas.Bool.{and_parts, cases_eq}
use Rattle.bd_base.specs.declared.act.Act.TheVariants as acts
use Rattle.bd_base.specs.declared.act.Entry.{Entry}
use Rattle.bd_base.specs.declared.act.Token.{Token}
use Rattle.bd_base.specs.declared.setup.Setup.{Setup}
use Rattle.bd_machine.specs.declared.state.Id.{Id}
use Rattle.bd_machine.specs.declared.state.Kept.{Kept}
use Rattle.bd_machine.specs.declared.state.Part.{Part}
use Rattle.bd_machine.specs.declared.state.Place.{Place}
use Rattle.bd_machine.specs.declared.state.Place.TheVariants.{At, Ring, Nowhere}
use Rattle.bd_machine.specs.declared.state.State.{State}
use Rattle.bd_machine.specs.declared.state.Tracked.{Tracked}
use Rattle.bd_machine.specs.Messages.{count_at, brings, taken_by}
use Rattle.bd_machine.specs.Placement.{place, place_of}
use Rattle.bd_machine.specs.Same.{same_id}
use Rattle.bd_machine.specs.Step.{guards_in, change_in, refusal, moved, after}
use Rattle.bd_machine.specs.Table.{look_up, write}
use Rattle.bd_machine.specs.View.{Move, Taking, part_of, message_of, id_of, view, came_for}
use Rattle.bd_machine.proofs.Acts.{Passes, passed, IsFresh}
use Rattle.bd_machine.proofs.Laws.{tracked, found-moved}
use Rattle.bd_machine.proofs.Steps.{allowed_passes, part_is, part_stays}
use Rattle.bd_machine.proofs.Tables.{id_same}
use Rattle.bd_turns.specs.declared.queue.Message.{Message}
use Rattle.bd_turns.specs.Local.{queue_after}
use Rattle.bd_turns.specs.Tied.{Stand, IsQueued, IsPlaced, count_from}
use Rattle.bd_turns.proofs.Effects.{took_taken, took_put}
use Rattle.bd_turns.proofs.Homing.{Takes, takes}
use Rattle.bd_turns.proofs.Queues.{one, write_count, First, stand_rest, queued_rest, moved_keeps}
use Rattle.bd_turns.proofs.Rings.{AreRings, tokens_are, same_for_each, stand_on, home_placed, all_placed}

module _ (setup : Setup) (s : State) (stamp t source number : ℕ) (what : Token) (fresh : IsFresh s) (allowed : refusal setup s (record { stamp = stamp; thread = t; act = acts.Took source number what }) ≡ None) (queues : ℕ → List Message) (rings : AreRings setup s queues)
    (first : First t (queues t) (record { source = source; number = number; what = what })) where
  abbrev e : Entry
  e = record { stamp = stamp; thread = t; act = acts.Took source number what }

  abbrev next : State
  next = after setup s (record { stamp = stamp; thread = t; act = acts.Took source number what })

  abbrev taking : Taking
  taking = record { source = source; number = number; what = what }

  abbrev took_queues : ℕ → List Message
  took_queues = λ r. cond (r == t) (drop 1 (queues r)) (queues r)

  abbrev id : Id
  id = id_of source t number what

  abbrev brought : Option Kept
  brought = message_of source t number (look_up same_id s.tokens (id_of source t number what))

  passes : Passes (guards_in setup s t (acts.Took source number what))
  passes = allowed_passes setup s e allowed

  guard : ((number == count_at (part_of s t).taken source) ≡ true) × (brings what brought ≡ true)
  guard = and_parts (number == count_at (part_of s t).taken source) (brings what brought) (passed (guards_in setup s t (acts.Took source number what)) passes).0

  number_is : number ≡ count_at (part_of s t).taken source
  number_is = eqb-true number (count_at (part_of s t).taken source) guard.0

  abbrev counted : Part
  counted = record (part_of s t) { taken = write ◌==◌ (part_of s t).taken source (number + 1) }

  taking_in : Takes (id_of source t number what) brought (taken_by setup t what counted brought (id_of source t number what)).moves
  taking_in = takes setup t source number what counted brought guard.1

  abbrev move : Move
  move = taking_in.first

  moves_are : (change_in setup s t (acts.Took source number what)).moves ≡ move ∷ taking_in.rest
  moves_are = taking_in.moves_are

  abbrev taken_after : List (ℕ × ℕ)
  taken_after = write ◌==◌ (part_of s t).taken source (number + 1)

  taken_own : (part_of next t).taken ≡ taken_after
  taken_own = ap (λ (p : Part). p.taken) (part_is setup s e fresh allowed) ∙ took_taken setup t (view s t) (came_for setup s t (acts.Took source number what)) source number what

  taken_other : (r : ℕ) → (r ≡ t → ⊥) → (part_of next r).taken ≡ (part_of s r).taken
  taken_other r ne = ap (λ (p : Part). p.taken) (part_stays setup s e fresh allowed r (λ h. ne (sym h)))

  put_is : (a : ℕ) → (part_of next a).put ≡ (part_of s a).put
  put_is = same_for_each setup s e fresh allowed (λ (p : Part). p.put) (took_put setup t (view s t) (came_for setup s t (acts.Took source number what)) source number what)

  queue_own : took_queues t ≡ first.ms
  queue_own = ap (λ b. cond b (drop 1 (queues t)) (queues t)) (eq-eqb t t refl) ∙ ap (drop 1) first.is

  queue_other : (r : ℕ) → (r ≡ t → ⊥) → took_queues r ≡ queues r
  queue_other r ne = ap (λ b. cond b (drop 1 (queues r)) (queues r)) (ne_eqb r t ne)

  -- the messages after it have other numbers
  later : (a k : ℕ) → count_at taken_after a ≤ k → (source ≡ a) × (number ≡ k) → ⊥
  later a k le h =
      let c : count_at taken_after a ≡ number + 1 = write_count (part_of s t).taken source a (number + 1) ∙ ap (λ (b : Bool). cond b (number + 1) (count_at (part_of s t).taken a)) (eq-eqb source a h.0) in
      let e : number ≡ k = h.1 in
      omega arith

  stand_own : Stand next.tokens t taken_after first.ms
  stand_own = stand_on setup s e fresh allowed t taken_after first.ms (λ a k le h. later a k le h.1) (stand_rest s.tokens t (part_of s t).taken (queues t) taking first number_is (rings.stand t))

  stand : (r : ℕ) → Stand next.tokens r (part_of next r).taken (took_queues r)
  stand r = go (cases_eq r t)
    where
      go : (r ≡ t) ⊎ (r ≡ t → ⊥) → Stand next.tokens r (part_of next r).taken (took_queues r)
      go (inl same) = subst (λ (u : ℕ). Stand next.tokens u (part_of next u).taken (took_queues u)) (sym same)
          (subst (λ (l : List (ℕ × ℕ)). Stand next.tokens t l (took_queues t)) (sym taken_own) (subst (Stand next.tokens t taken_after) (sym queue_own) stand_own))
      go (inr ne) = subst (λ (l : List (ℕ × ℕ)). Stand next.tokens r l (took_queues r)) (sym (taken_other r ne)) (subst (Stand next.tokens r (part_of s r).taken) (sym (queue_other r ne))
          (stand_on setup s e fresh allowed r (part_of s r).taken (queues r) (λ a k le h. ne h.0) (rings.stand r)))

  counts : (r a : ℕ) → count_at (part_of next a).put r ≡ count_at (part_of next r).taken a + count_from a (took_queues r)
  counts r a = ap (λ (l : List (ℕ × ℕ)). count_at l r) (put_is a) ∙ rings.counts r a ∙ go (cases_eq r t)
    where
      before : count_from a (queues t) ≡ one (source == a) + count_from a first.ms
      before = ap (count_from a) first.is ∙ ap (λ (x : ℕ). one (x == a) + count_from a first.ms) first.sender_is

      now : count_at (part_of next t).taken a ≡ cond (source == a) (number + 1) (count_at (part_of s t).taken a)
      now = ap (λ (l : List (ℕ × ℕ)). count_at l a) taken_own ∙ write_count (part_of s t).taken source a (number + 1)

      left : count_from a (took_queues t) ≡ count_from a first.ms
      left = ap (count_from a) queue_own

      sum : (b : Bool) → (source == a) ≡ b → count_at (part_of s t).taken a + (one b + count_from a first.ms) ≡ cond b (number + 1) (count_at (part_of s t).taken a) + count_from a first.ms
      sum true is = let n : number ≡ count_at (part_of s t).taken a = number_is ∙ ap (count_at (part_of s t).taken) (eqb-true source a is) in omega arith
      sum false is = omega arith

      go : (r ≡ t) ⊎ (r ≡ t → ⊥) → count_at (part_of s r).taken a + count_from a (queues r) ≡ count_at (part_of next r).taken a + count_from a (took_queues r)
      go (inl same) = subst (λ (u : ℕ). count_at (part_of s u).taken a + count_from a (queues u) ≡ count_at (part_of next u).taken a + count_from a (took_queues u)) (sym same)
          (ap (λ (n : ℕ). count_at (part_of s t).taken a + n) before ∙ sum (source == a) refl ∙ sym (ap₂ (λ (x y : ℕ). x + y) now left))
      go (inr ne) = sym (ap₂ (λ (x y : ℕ). x + y) (ap (λ (l : List (ℕ × ℕ)). count_at l a) (taken_other r ne)) (ap (count_from a) (queue_other r ne)))

  placed : t < setup.threads → (i : Id) → IsPlaced setup next took_queues i (place next i)
  placed lt i =
      subst (λ (ts : List (Id × Tracked)). IsPlaced setup next took_queues i (place_of (look_up same_id ts i))) (sym tokens_now)
      (moved_keeps (λ j o. IsPlaced setup next took_queues j (place_of o)) t taking_in.rest (moved t (move ∷ []) s.tokens)
      (λ j. subst (λ (o : Option Tracked). IsPlaced setup next took_queues j (place_of o)) (sym (found-moved t move s.tokens j)) (first_placed j))
      (all_placed setup s e fresh allowed took_queues taking_in.rest lt taking_in.homes) i)
    where
      tokens_now : next.tokens ≡ moved t taking_in.rest (moved t (move ∷ []) s.tokens)
      tokens_now = tokens_are setup s e fresh allowed ∙ ap (λ (ms : List Move). moved t ms s.tokens) moves_are

      differ : true ≡ false → ⊥
      differ h = cc

      other : (i : Id) → same_id id i ≡ false → id ≡ i → ⊥
      other i no_hit same = let hit : same_id id i ≡ true = subst (λ (j : Id). same_id id j ≡ true) same (id_same.same_self id) in differ (sym hit ∙ no_hit)

      own : (i : Id) → same_id id i ≡ false → IsQueued i t (part_of s t).taken (queues t) → IsQueued i t (part_of next t).taken (took_queues t)
      own i no_hit h = subst (λ (l : List (ℕ × ℕ)). IsQueued i t l (took_queues t)) (sym taken_own) (subst (IsQueued i t taken_after) (sym queue_own)
          (queued_rest i t (part_of s t).taken (queues t) taking first number_is (other i no_hit) h))

      keep : (i : Id) → same_id id i ≡ false → (p : Place) → IsPlaced setup s queues i p → IsPlaced setup next took_queues i p
      keep i no_hit (At u) h = h
      keep i no_hit (Ring a r n) h = pick (cases_eq r t)
        where
          pick : (r ≡ t) ⊎ (r ≡ t → ⊥) → IsQueued i r (part_of next r).taken (took_queues r)
          pick (inl same) = subst (λ (u : ℕ). IsQueued i u (part_of next u).taken (took_queues u)) (sym same) (own i no_hit (subst (λ (u : ℕ). IsQueued i u (part_of s u).taken (queues u)) same h))
          pick (inr ne) = subst (λ (l : List (ℕ × ℕ)). IsQueued i r l (took_queues r)) (sym (taken_other r ne)) (subst (IsQueued i r (part_of s r).taken) (sym (queue_other r ne)) h)
      keep i no_hit Nowhere h = tt

      first_placed : (j : Id) → IsPlaced setup next took_queues j (place_of (cond (same_id move.id j) (Some (tracked t move)) (look_up same_id s.tokens j)))
      first_placed j = subst (λ (k : Id). IsPlaced setup next took_queues j (place_of (cond (same_id k j) (Some (tracked t move)) (look_up same_id s.tokens j)))) (sym taking_in.id_is) (go (same_id id j) refl)
        where
          go : (b : Bool) → same_id id j ≡ b → IsPlaced setup next took_queues j (place_of (cond b (Some (tracked t move)) (look_up same_id s.tokens j)))
          go true is = home_placed setup s e fresh allowed took_queues move.going j lt taking_in.home
          go false is = keep j is (place s j) (rings.placed j)

  pub took_rings : t < setup.threads → AreRings setup next (λ r. queue_after t (acts.Took source number what) (change_in setup s t (acts.Took source number what)).moves r (queues r))
  took_rings lt = record { stand = stand; counts = counts; placed = placed lt }
