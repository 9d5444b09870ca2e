-- From what the receiver's pass knows to what contracts say of takes and of a settled ring.
use Rattle.std.proofs.Common.{◌≡◌, ℕ, ◌<◌, List, [], ◌∷◌, ◌++◌, Option, Some, None, MatchOption, length, get_or, sym, refl, ap, ◌∙◌, subst, arith}
use Rattle.std.proofs.lemmas.List.{append-nil, nil_from_length}
use Rattle.crossbeam_queue.specs.Fifo.{Held}
use Rattle.bd_turns.specs.declared.queue.Post.{Post}
use Rattle.bd_ring.specs.declared.ring_rule.View.{View}
use Rattle.bd_ring.specs.Posts.{sent_by}
use Rattle.bd_ring.specs.RingRule.{after_take, Delivers, IsNext}
use Rattle.bd_ring.specs.Rings.{Account, left_of, IsSettled, IsSpent, HandsOut}
use Rattle.bd_ring.proofs.Posts.{sent_by-append, all_pop, left_after, front, is_made}

abbrev pub account : View → Account
account v = record { puts = v.ended; taken = v.taken }

left_is : (v : View) (items : List Post) (k : ℕ) → Delivers v items → k < length v.ended → left_of (account v) k ≡ sent_by k items
left_is v items k d lt = left_after k (get_or v.ended k []) v.taken items (d.0 k lt)

pub settled : (v : View) (items : List Post) → Delivers v items → IsSettled (account v)
settled v items d k lt = ap (λ l. sent_by k v.taken ++ l) (left_is v items k d lt) ∙ sym (sent_by-append k v.taken items) ∙ sym (d.0 k lt)

all_taken : (v : View) (items : List Post) → length items ≡ 0 → Delivers v items → IsSpent (account v)
all_taken v items none d k lt = sym (d.0 k lt ∙ ap (λ l. sent_by k (v.taken ++ l)) (nil_from_length items none) ∙ ap (sent_by k) (append-nil v.taken))

delivered_after : (v : View) (x : Post) (items : List Post) → Delivers v (x ∷ items) → Delivers (after_take v x) items
delivered_after v x items d = ((λ k lt. d.0 k lt ∙ ap (sent_by k) (sym (all_pop v.taken x items))), (λ k le. ap (sent_by k) (all_pop v.taken x items) ∙ d.1 k le))

hands_out : (v : View) (x : Post) (items : List Post) → v.made ≡ length v.ended → Delivers v (x ∷ items) → HandsOut (account v) x (account (after_take v x))
hands_out v x items made d =
    let lt = is_made (length v.ended) v.taken x items (λ le. d.1 x.message.sender (omega arith)) in
    let d' = delivered_after v x items d in
    (refl, lt, left_is v (x ∷ items) x.message.sender d lt ∙ front x items ∙ ap (λ l. x ∷ l) (sym (left_is (after_take v x) items x.message.sender d' lt)), settled (after_take v x) items d')

pub next_returns : (v w : View) (old : Account) (r : Option Post) → v.made ≡ length v.ended → account v ≡ old
    → MatchOption r ((w ≡ v) × Held 0 (Delivers v)) (λ x. IsNext v x w)
    → MatchOption r ((account w ≡ old) × IsSpent old) (λ m. HandsOut old m (account w))
next_returns v w old None made is h = (ap account h.0 ∙ is, subst IsSpent is (all_taken v h.1.0 h.1.1 h.1.2))
next_returns v w old (Some x) made is h =
    subst (λ a. HandsOut a x (account w)) is (subst (λ (u : View). HandsOut (account v) x (account u)) (sym h.0) (hands_out v x h.1.0 made h.1.1))
