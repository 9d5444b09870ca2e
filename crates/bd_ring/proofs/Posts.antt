-- The notes of one sender, as messages are put and taken.
use Rattle.std.proofs.Common.{◌≡◌, ◌≢◌, ℕ, ◌<◌, ◌≤◌, ◌⊎◌, ⊎_elim, arith, List, [], ◌∷◌, ◌++◌, length, drop, sym, refl, ap, ◌∙◌, append_assoc, eqb, eq-eqb, ne_eqb}
use Rattle.std.proofs.lemmas.List.{append-nil, drop_at}
use Rattle.std.proofs.lemmas.List.Elements.{filter-append}
use Rattle.bd_turns.specs.declared.queue.Post.{Post}
use Rattle.bd_ring.specs.Posts.{sent_by}
use Rattle.bd_ring.specs.RingRule.{all_put}

pub sent_by-append : (p : ℕ) (xs ys : List Post) → sent_by p (xs ++ ys) ≡ sent_by p xs ++ sent_by p ys
sent_by-append p xs ys = filter-append (λ n. eqb n.message.sender p) xs ys

pub sent_one_other : (p : ℕ) (n : Post) → n.message.sender ≢ p → sent_by p (n ∷ []) ≡ []
sent_one_other p n other = rw (ne_eqb n.message.sender p other)

pub sent_one_own : (p : ℕ) (n : Post) → n.message.sender ≡ p → sent_by p (n ∷ []) ≡ n ∷ []
sent_one_own p n own = rw (eq-eqb n.message.sender p own)

-- all that was put, after one message more
all_push : (got : List Post) (items : List Post) (x : Post) → all_put got (items ++ x ∷ []) ≡ all_put got items ++ x ∷ []
all_push got items x = sym (append_assoc got items (x ∷ []))

-- all that was put is the same after a take
pub all_pop : (got : List Post) (x : Post) (items : List Post) → all_put (got ++ x ∷ []) items ≡ all_put got (x ∷ items)
all_pop got x items = append_assoc got (x ∷ []) items

pub sent_push_other : (p : ℕ) (got : List Post) (items : List Post) (x : Post) → x.message.sender ≢ p → sent_by p (all_put got (items ++ x ∷ [])) ≡ sent_by p (all_put got items)
sent_push_other p got items x other =
    ap (sent_by p) (all_push got items x) ∙ sent_by-append p (all_put got items) (x ∷ []) ∙ ap (λ l. sent_by p (all_put got items) ++ l) (sent_one_other p x other) ∙ append-nil (sent_by p (all_put got items))

pub sent_push_own : (p : ℕ) (got : List Post) (items : List Post) (x : Post) → x.message.sender ≡ p → sent_by p (all_put got (items ++ x ∷ [])) ≡ sent_by p (all_put got items) ++ x ∷ []
sent_push_own p got items x own =
    ap (sent_by p) (all_push got items x) ∙ sent_by-append p (all_put got items) (x ∷ []) ∙ ap (λ l. sent_by p (all_put got items) ++ l) (sent_one_own p x own)

-- what a sender put, without what was taken of it, is what the ring holds of it
pub left_after : (p : ℕ) (put taken : List Post) (items : List Post) → put ≡ sent_by p (all_put taken items) → drop (length (sent_by p taken)) put ≡ sent_by p items
left_after p put taken items e = ap (drop (length (sent_by p taken))) (e ∙ sent_by-append p taken items) ∙ drop_at (sent_by p taken) (sent_by p items) (length (sent_by p taken)) refl

-- the first message is the first of its sender
pub front : (x : Post) (items : List Post) → sent_by x.message.sender (x ∷ items) ≡ x ∷ sent_by x.message.sender items
front x items = sent_by-append x.message.sender (x ∷ []) items ∙ ap (λ l. l ++ sent_by x.message.sender items) (sent_one_own x.message.sender x refl)

-- where senders from n on have put nothing, the sender of a message is below n
pub is_made : (n : ℕ) (taken : List Post) (x : Post) (items : List Post) → (n ≤ x.message.sender → sent_by x.message.sender (all_put taken (x ∷ items)) ≡ []) → x.message.sender < n
is_made n taken x items none = ⊎_elim (λ (h : x.message.sender < n). h) (λ (h : n ≤ x.message.sender). absurd (not_nil (sent_by x.message.sender taken) x (sent_by x.message.sender items) (
    ap (λ l. sent_by x.message.sender taken ++ l) (sym (front x items)) ∙ sym (sent_by-append x.message.sender taken (x ∷ items)) ∙ none h))) (below_or_above x.message.sender n)
  where
    below_or_above : (a b : ℕ) → (a < b) ⊎ (b ≤ a)
    below_or_above a b = grind arith

    not_nil : (xs : List Post) (y : Post) (ys : List Post) → xs ++ y ∷ ys ≡ [] → ⊥
    not_nil [] y ys e = cc
    not_nil (x ∷ xs) y ys e = cc
