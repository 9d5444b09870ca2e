-- A tied state stays tied where the first message of a sender is put before all others of the queue: a queue counts each sender's messages by themselves.
use Rattle.std.proofs.Common.{◌≡◌, ℕ, ◌+◌, Bool, true, false, cond, ◌==◌, inl, inr, List, [], ◌∷◌, filter, Some, refl, sym, ◌∙◌, ap, ap₂, subst, eqb-true, ne_eqb, arith}
use Rattle.std.proofs.lemmas.Bool.{eqb-false}
use Rattle.bd_base.specs.declared.setup.Setup.{Setup}
use Rattle.bd_machine.specs.declared.state.Id.{Id}
use Rattle.bd_machine.specs.declared.state.Place.{Place}
use Rattle.bd_machine.specs.declared.state.Place.TheVariants.{At, Ring, Nowhere}
use Rattle.bd_machine.specs.declared.state.State.{State}
use Rattle.bd_machine.specs.declared.state.Tracked.{Tracked}
use Rattle.bd_machine.specs.Messages.{count_at}
use Rattle.bd_machine.specs.Placement.{place}
use Rattle.bd_machine.specs.Same.{same_id}
use Rattle.bd_machine.specs.Table.{look_up, without_first}
use Rattle.bd_machine.specs.View.{View, part_of, message_of, id_of}
use Rattle.bd_turns.specs.declared.queue.Message.{Message}
use Rattle.bd_turns.specs.Local.{Shared}
use Rattle.bd_turns.specs.Tied.{id_next, one_more, Stand, IsQueued, IsPlaced, count_from, IsTied}
use Rattle.bd_turns.proofs.Queues.{write_count}

abbrev pub is_from : ℕ → Message → Bool
is_from a m = m.sender == a

abbrev pub from : ℕ → List Message → List Message
from a ms = filter (is_from a) ms

-- the queue with the first message of a sender before all others
abbrev pub moved_first : ℕ → Message → List Message → List Message
moved_first a m ms = m ∷ without_first (is_from a) ms

-- ---- tables with the same counts

abbrev SameCounts : List (ℕ × ℕ) → List (ℕ × ℕ) → Type 0
SameCounts x y = (a : ℕ) → count_at x a ≡ count_at y a

more_same : (x y : List (ℕ × ℕ)) (b : ℕ) → SameCounts x y → SameCounts (one_more x b) (one_more y b)
more_same x y b h a =
    write_count x b a (count_at x b + 1) ∙ ap₂ (λ (n k : ℕ). cond (b == a) (n + 1) k) (h b) (h a) ∙ sym (write_count y b a (count_at y b + 1))

id_same_count : (r : ℕ) (x y : List (ℕ × ℕ)) (m : Message) → SameCounts x y → id_next r x m ≡ id_next r y m
id_same_count r x y m h = ap (λ (n : ℕ). id_of m.sender r n m.what) (h m.sender)

stand_same : (tokens : List (Id × Tracked)) (r : ℕ) (x y : List (ℕ × ℕ)) (ms : List Message) → SameCounts x y → Stand tokens r x ms → Stand tokens r y ms
stand_same tokens r x y [] h st = tt
stand_same tokens r x y (m ∷ ms) h st = (
  subst (λ (n : ℕ). message_of m.sender r n (look_up same_id tokens (id_of m.sender r n m.what)) ≡ Some m.kept) (h m.sender) st.0,
  stand_same tokens r (one_more x m.sender) (one_more y m.sender) ms (more_same x y m.sender h) st.1,
)

queued_same : (id : Id) (r : ℕ) (x y : List (ℕ × ℕ)) (ms : List Message) → SameCounts x y → IsQueued id r x ms → IsQueued id r y ms
queued_same id r x y [] h q = elim q [ ]
queued_same id r x y (m ∷ ms) h (inl e) = inl (sym (id_same_count r x y m h) ∙ e)
queued_same id r x y (m ∷ ms) h (inr q) = inr (queued_same id r (one_more x m.sender) (one_more y m.sender) ms (more_same x y m.sender h) q)

-- ---- two messages of different senders

more_other : (x : List (ℕ × ℕ)) (a b : ℕ) → (a ≡ b → ⊥) → count_at (one_more x a) b ≡ count_at x b
more_other x a b ne = write_count x a b (count_at x a + 1) ∙ ap (λ c. cond c (count_at x a + 1) (count_at x b)) (ne_eqb a b ne)

both_more : (x : List (ℕ × ℕ)) (a b : ℕ) → (a ≡ b → ⊥) → SameCounts (one_more (one_more x a) b) (one_more (one_more x b) a)
both_more x a b ne c =
    write_count (one_more x a) b c (count_at (one_more x a) b + 1)
    ∙ ap₂ (λ (n k : ℕ). cond (b == c) (n + 1) k) (more_other x a b ne) (write_count x a c (count_at x a + 1))
    ∙ go (b == c) (a == c) refl refl
    ∙ sym (ap₂ (λ (n k : ℕ). cond (a == c) (n + 1) k) (more_other x b a (λ e. ne (sym e))) (write_count x b c (count_at x b + 1)))
    ∙ sym (write_count (one_more x b) a c (count_at (one_more x b) a + 1))
  where
    go : (p q : Bool) → (b == c) ≡ p → (a == c) ≡ q → cond p (count_at x b + 1) (cond q (count_at x a + 1) (count_at x c)) ≡ cond q (count_at x a + 1) (cond p (count_at x b + 1) (count_at x c))
    go true true e f = absurd (ne (eqb-true a c f ∙ sym (eqb-true b c e)))
    go true false e f = refl
    go false true e f = refl
    go false false e f = refl

module _ (x : List (ℕ × ℕ)) (q m : Message) (ms : List Message) (ne : q.sender ≡ m.sender → ⊥) where
  stand_swap : (tokens : List (Id × Tracked)) (r : ℕ) → Stand tokens r x (q ∷ m ∷ ms) → Stand tokens r x (m ∷ q ∷ ms)
  stand_swap tokens r st = (
    subst (λ (n : ℕ). message_of m.sender r n (look_up same_id tokens (id_of m.sender r n m.what)) ≡ Some m.kept) (more_other x q.sender m.sender ne) st.1.0,
    (
      subst (λ (n : ℕ). message_of q.sender r n (look_up same_id tokens (id_of q.sender r n q.what)) ≡ Some q.kept) (sym (more_other x m.sender q.sender (λ e. ne (sym e)))) st.0,
      stand_same tokens r (one_more (one_more x q.sender) m.sender) (one_more (one_more x m.sender) q.sender) ms (both_more x q.sender m.sender ne) st.1.1,
    ),
  )

  queued_swap : (id : Id) (r : ℕ) → IsQueued id r x (q ∷ m ∷ ms) → IsQueued id r x (m ∷ q ∷ ms)
  queued_swap id r (inl e) = inr (inl (ap (λ (n : ℕ). id_of q.sender r n q.what) (more_other x m.sender q.sender (λ e. ne (sym e))) ∙ e))
  queued_swap id r (inr (inl e)) = inl (ap (λ (n : ℕ). id_of m.sender r n m.what) (sym (more_other x q.sender m.sender ne)) ∙ e)
  queued_swap id r (inr (inr h)) = inr (inr (queued_same id r (one_more (one_more x q.sender) m.sender) (one_more (one_more x m.sender) q.sender) ms (both_more x q.sender m.sender ne) h))

-- ---- the first message of a sender is put before all others

abbrev Firsts : ℕ → Message → List Message → List Message → Type 0
Firsts a m rest ms = from a ms ≡ m ∷ rest

same_head : {X : Type 0} (x y : X) (xs ys : List X) → x ∷ xs ≡ y ∷ ys → x ≡ y
same_head x y xs ys e = cc

same_tail : {X : Type 0} (x y : X) (xs ys : List X) → x ∷ xs ≡ y ∷ ys → xs ≡ ys
same_tail x y xs ys e = cc

is_sender : (a : ℕ) (m : Message) (rest ms : List Message) → Firsts a m rest ms → m.sender ≡ a
is_sender a m rest [] h = cc
is_sender a m rest (q ∷ ms) h = go (q.sender == a) refl h (is_sender a m rest ms)
  where
    go : (b : Bool) → (q.sender == a) ≡ b → cond b (q ∷ from a ms) (from a ms) ≡ m ∷ rest → (Firsts a m rest ms → m.sender ≡ a) → m.sender ≡ a
    go true e f k = sym (ap (λ (x : Message). x.sender) (same_head q m (from a ms) rest f)) ∙ eqb-true q.sender a e
    go false e f k = k f

-- what is shown of the queue with q first, where that of the rest is known
module _ (a : ℕ) (m : Message) (rest : List Message) where
  without_same : (q : Message) (ms : List Message) → (q.sender == a) ≡ true → without_first (is_from a) (q ∷ ms) ≡ ms
  without_same q ms e = ap (λ b. cond b ms (q ∷ without_first (is_from a) ms)) e

  without_other : (q : Message) (ms : List Message) → (q.sender == a) ≡ false → without_first (is_from a) (q ∷ ms) ≡ q ∷ without_first (is_from a) ms
  without_other q ms e = ap (λ b. cond b ms (q ∷ without_first (is_from a) ms)) e

  head_is : (q : Message) (ms : List Message) → (q.sender == a) ≡ true → Firsts a m rest (q ∷ ms) → q ≡ m
  head_is q ms e h = same_head q m (from a ms) rest (sym (ap (λ b. cond b (q ∷ from a ms) (from a ms)) e) ∙ h)

  tail_has : (q : Message) (ms : List Message) → (q.sender == a) ≡ false → Firsts a m rest (q ∷ ms) → Firsts a m rest ms
  tail_has q ms e h = sym (ap (λ b. cond b (q ∷ from a ms) (from a ms)) e) ∙ h

  differs : (q : Message) (ms : List Message) → (q.sender == a) ≡ false → Firsts a m rest ms → q.sender ≡ m.sender → ⊥
  differs q ms e h same = eqb-false q.sender a e (same ∙ is_sender a m rest ms h)

  pub stand_moved : (tokens : List (Id × Tracked)) (r : ℕ) (x : List (ℕ × ℕ)) (ms : List Message) → Firsts a m rest ms → Stand tokens r x ms → Stand tokens r x (moved_first a m ms)
  stand_moved tokens r x [] h st = cc
  stand_moved tokens r x (q ∷ ms) h st = go (q.sender == a) refl (λ k. stand_moved tokens r (one_more x q.sender) ms k st.1)
    where
      go : (b : Bool) → (q.sender == a) ≡ b → (Firsts a m rest ms → Stand tokens r (one_more x q.sender) (moved_first a m ms)) → Stand tokens r x (moved_first a m (q ∷ ms))
      go true e ih = subst (λ (w : List Message). Stand tokens r x (m ∷ w)) (sym (without_same q ms e)) (subst (λ (y : Message). Stand tokens r x (y ∷ ms)) (head_is q ms e h) st)
      go false e ih =
          let h' = tail_has q ms e h in
          subst (λ (w : List Message). Stand tokens r x (m ∷ w)) (sym (without_other q ms e))
          (stand_swap x q m (without_first (is_from a) ms) (differs q ms e h') tokens r (st.0, ih h'))

  pub queued_moved : (id : Id) (r : ℕ) (x : List (ℕ × ℕ)) (ms : List Message) → Firsts a m rest ms → IsQueued id r x ms → IsQueued id r x (moved_first a m ms)
  queued_moved id r x [] h st = cc
  queued_moved id r x (q ∷ ms) h st = go (q.sender == a) refl st (queued_moved id r (one_more x q.sender) ms)
    where
      inner : (Firsts a m rest ms → IsQueued id r (one_more x q.sender) ms → IsQueued id r (one_more x q.sender) (moved_first a m ms)) → Firsts a m rest ms → IsQueued id r x (q ∷ ms) → IsQueued id r x (q ∷ moved_first a m ms)
      inner ih h' (inl f) = inl f
      inner ih h' (inr k) = inr (ih h' k)

      go : (b : Bool) → (q.sender == a) ≡ b → IsQueued id r x (q ∷ ms) → (Firsts a m rest ms → IsQueued id r (one_more x q.sender) ms → IsQueued id r (one_more x q.sender) (moved_first a m ms)) → IsQueued id r x (moved_first a m (q ∷ ms))
      go true e st ih = subst (λ (w : List Message). IsQueued id r x (m ∷ w)) (sym (without_same q ms e)) (subst (λ (y : Message). IsQueued id r x (y ∷ ms)) (head_is q ms e h) st)
      go false e st ih =
          let h' = tail_has q ms e h in
          subst (λ (w : List Message). IsQueued id r x (m ∷ w)) (sym (without_other q ms e))
          (queued_swap x q m (without_first (is_from a) ms) (differs q ms e h') id r (inner ih h' st))

  pub count_moved : (b : ℕ) (ms : List Message) → Firsts a m rest ms → count_from b (moved_first a m ms) ≡ count_from b ms
  count_moved b [] h = cc
  count_moved b (q ∷ ms) h = go (q.sender == a) refl (count_moved b ms)
    where
      go : (c : Bool) → (q.sender == a) ≡ c → (Firsts a m rest ms → count_from b (moved_first a m ms) ≡ count_from b ms) → count_from b (moved_first a m (q ∷ ms)) ≡ count_from b (q ∷ ms)
      go true e k = ap (λ (w : List Message). count_from b (m ∷ w)) (without_same q ms e) ∙ ap (λ (y : Message). count_from b (y ∷ ms)) (sym (head_is q ms e h))
      go false e k =
          let ih : count_from b (moved_first a m ms) ≡ count_from b ms = k (tail_has q ms e h) in
          let w : count_from b (m ∷ without_first (is_from a) (q ∷ ms)) ≡ count_from b (m ∷ q ∷ without_first (is_from a) ms) = ap (λ (w : List Message). count_from b (m ∷ w)) (without_other q ms e) in
          omega arith

  pub from_moved : (b : ℕ) (ms : List Message) → Firsts a m rest ms → from b (moved_first a m ms) ≡ from b ms
  from_moved b [] h = cc
  from_moved b (q ∷ ms) h = go (q.sender == a) refl (from_moved b ms)
    where
      go : (c : Bool) → (q.sender == a) ≡ c → (Firsts a m rest ms → from b (moved_first a m ms) ≡ from b ms) → from b (moved_first a m (q ∷ ms)) ≡ from b (q ∷ ms)
      go true e k = ap (λ (w : List Message). from b (m ∷ w)) (without_same q ms e) ∙ ap (λ (y : Message). from b (y ∷ ms)) (sym (head_is q ms e h))
      go false e k =
          let h' = tail_has q ms e h in
          ap (λ (w : List Message). from b (m ∷ w)) (without_other q ms e)
          ∙ two (m.sender == b) (q.sender == b) refl refl (differs q ms e h') (from b (without_first (is_from a) ms))
          ∙ ap (λ (w : List Message). cond (q.sender == b) (q ∷ w) w) (k h')
        where
          two : (c d : Bool) → (m.sender == b) ≡ c → (q.sender == b) ≡ d → (q.sender ≡ m.sender → ⊥) → (w : List Message)
              → cond c (m ∷ cond d (q ∷ w) w) (cond d (q ∷ w) w) ≡ cond d (q ∷ cond c (m ∷ w) w) (cond c (m ∷ w) w)
          two true true f g ne w = absurd (ne (eqb-true q.sender b g ∙ sym (eqb-true m.sender b f)))
          two true false f g ne w = refl
          two false true f g ne w = refl
          two false false f g ne w = refl

-- ---- a tied state

-- the queues with the first message of a sender to t before all others
abbrev pub queues_moved : (ℕ → List Message) → ℕ → ℕ → Message → ℕ → List Message
queues_moved queues t a m r = cond (r == t) (moved_first a m (queues t)) (queues r)

-- **Reordered**: the state is tied to these queues too
pub tied_moved : (setup : Setup) (s : State) (views : ℕ → View) (shared : Shared) (t a : ℕ) (m : Message) (rest : List Message) → Firsts a m rest (shared.queues t)
    → IsTied setup s views shared → IsTied setup s views (record shared { queues = queues_moved shared.queues t a m })
tied_moved setup s views shared t a m rest h tied = record {
  stamp_is = tied.stamp_is;
  shut_is = tied.shut_is;
  registry_is = tied.registry_is;
  threads_are = tied.threads_are;
  views_are = tied.views_are;
  stand = λ r. at (λ (k : ℕ) (q : List Message). Stand s.tokens k (part_of s k).taken q) r tied.stand (stand_moved a m rest s.tokens t (part_of s t).taken (shared.queues t) h (tied.stand t));
  counts = λ r b. at (λ (k : ℕ) (q : List Message). count_at (part_of s b).put k ≡ count_at (part_of s k).taken b + count_from b q) r (λ k. tied.counts k b)
      (tied.counts t b ∙ ap (λ (n : ℕ). count_at (part_of s t).taken b + n) (sym (count_moved a m rest b (shared.queues t) h)));
  placed = λ id. placed id (place s id) (tied.placed id);
  keyed = tied.keyed;
  fresh = tied.fresh;
  told = tied.told;
}
  where
    at : (P : ℕ → List Message → Type 0) (r : ℕ) → ((k : ℕ) → P k (shared.queues k)) → P t (moved_first a m (shared.queues t)) → P r (queues_moved shared.queues t a m r)
    at P r old now = go (r == t) refl
      where
        go : (b : Bool) → (r == t) ≡ b → P r (cond b (moved_first a m (shared.queues t)) (shared.queues r))
        go true e = subst (λ (k : ℕ). P k (moved_first a m (shared.queues t))) (sym (eqb-true r t e)) now
        go false e = old r

    placed : (id : Id) (p : Place) → IsPlaced setup s shared.queues id p → IsPlaced setup s (queues_moved shared.queues t a m) id p
    placed id (At u) h' = h'
    placed id (Ring b r n) h' = go (r == t) refl
      where
        go : (c : Bool) → (r == t) ≡ c → IsQueued id r (part_of s r).taken (cond c (moved_first a m (shared.queues t)) (shared.queues r))
        go true e =
            let k : IsQueued id t (part_of s t).taken (shared.queues t) = subst (λ (u : ℕ). IsQueued id u (part_of s u).taken (shared.queues u)) (eqb-true r t e) h' in
            subst (λ (u : ℕ). IsQueued id u (part_of s u).taken (moved_first a m (shared.queues t))) (sym (eqb-true r t e)) (queued_moved a m rest id t (part_of s t).taken (shared.queues t) h k)
        go false e = h'
    placed id Nowhere h' = tt
