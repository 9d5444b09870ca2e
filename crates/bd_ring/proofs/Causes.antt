-- What the cause of a refused put comes to for a sender that is alone.
use Rattle.std.proofs.Common.{◌≡◌, ◌≢◌, ℕ, zero, suc, ◌≤◌, List, [], ◌∷◌, ◌++◌, length, sym, refl, ap, subst, ◌∙◌, arith}
use Rattle.std.proofs.lemmas.List.{length-append}
use Rattle.atomic_table.specs.Seated.{TableId}
use Rattle.crossbeam_queue.specs.Fifo.{Held}
use Rattle.bd_ring.specs.declared.ring_rule.View.{View}
use Rattle.bd_turns.specs.declared.queue.Post.{Post}
use Rattle.bd_ring.specs.Posts.{sent_by}
use Rattle.bd_ring.specs.Rings.{Place, Sender, WasFull}
use Rattle.bd_ring.specs.RingRule.{HoldsLast}
use Rattle.bd_ring.proofs.Posts.{sent_by-append, sent_one_other, front}

later : (k : ℕ) (x : Post) (items : List Post) → x.message.sender ≢ k → sent_by k (x ∷ items) ≡ sent_by k items
later k x items other = sent_by-append k (x ∷ []) items ∙ ap (λ l. l ++ sent_by k items) (sent_one_other k x other)

-- where no other sender has messages there, all are of sender 0
all_own : (items : List Post) → ((k : ℕ) → 1 ≤ k → sent_by k items ≡ []) → length (sent_by 0 items) ≡ length items
all_own [] none = refl
all_own (x ∷ items) none = by_sender (λ rest. all_own items rest) x.message.sender refl
  where
    not_nil : (y : Post) (ys : List Post) → y ∷ ys ≡ [] → ⊥
    not_nil y ys e = cc

    by_sender : (((k : ℕ) → 1 ≤ k → sent_by k items ≡ []) → length (sent_by 0 items) ≡ length items) → (from : ℕ) → x.message.sender ≡ from → length (sent_by 0 (x ∷ items)) ≡ length (x ∷ items)
    by_sender own zero is =
        let first : sent_by 0 (x ∷ items) ≡ x ∷ sent_by 0 items = subst (λ k. sent_by k (x ∷ items) ≡ x ∷ sent_by k items) is (front x items) in
        let rest = own (λ k le. sym (later k x items (λ e. absurd (omega arith))) ∙ none k le) in
        ap length first ∙ ap suc rest
    by_sender own (suc from) is =
        absurd (not_nil x (sent_by x.message.sender items) (sym (front x items) ∙ none x.message.sender (omega arith)))

pub full_alone : (place : Place) (s : Sender) → WasFull place s → (s.senders ≡ 1) × (s.number ≡ 0) → place.capacity ≤ length s.put
full_alone place s full alone =
    let own : length (sent_by s.number full.0) ≡ length full.0 = ap (λ k. length (sent_by k full.0)) alone.1 ∙ all_own full.0 (λ k le. full.3 k (let one = alone.0 in omega arith)) in
    let put : length s.put ≡ length (full.2.0 ++ sent_by s.number full.0) = ap length full.2.1 in
    let both = length-append full.2.0 (sent_by s.number full.0) in
    let room = full.1 in
    omega arith

-- the same, from what the queue tells a sender's pass
pub refused_alone : (capacity number : ℕ) (ring : TableId) (v : View) (refused : ℕ) (place : Place) (s : Sender) → capacity ≡ place.capacity → v.from ≡ number → record { ring = ring; senders = v.senders; number = number; put = v.put; refused = refused } ≡ s
    → Held capacity (HoldsLast v) → (s.senders ≡ 1) × (s.number ≡ 0) → place.capacity ≤ length s.put
refused_alone capacity number ring v refused place s cap from is h =
    full_alone place s (subst (λ (t : Sender). WasFull place t) is (h.0, h.1 ∙ cap, (h.2.0.0, h.2.0.1 ∙ ap (λ f. h.2.0.0 ++ sent_by f h.0) from), h.2.1))
