-- The senders of a new ring, and the same after each put its messages.
use Rattle.std.proofs.Common.{◌≡◌, ℕ, zero, suc, ◌+◌, ◌<◌, ◌⊎◌, Some, List, [], ◌∷◌, length, map, get_or, sym, refl, ap, subst, ◌∙◌, ⊎_elim, arith}
use Rattle.std.specs.Prelude.{slice_get}
use Rattle.std.proofs.lemmas.List.{length-append, get_or_append_left, get_or_push}
use Rattle.std.proofs.lemmas.Option.{get_or_from_slice_get}
use Rattle.atomic_table.specs.Seated.{TableId}
use Rattle.bd_ring.specs.Rings.{Sender, first_senders, AreSendersOf}
use Rattle.bd_ring.specs.Counting.{first_posts, HasPut, HavePut, AreNew}

abbrev pub new_sender : TableId → ℕ → ℕ → Sender
new_sender ring senders k = record { ring = ring; senders = senders; number = k; put = []; refused = 0 }

pub length-first_senders : (ring : TableId) (senders n : ℕ) → length (first_senders ring senders n) ≡ n
length-first_senders ring senders zero = refl
length-first_senders ring senders (suc n) = length-append (first_senders ring senders n) (new_sender ring senders n ∷ []) ∙ ap (λ k. k + 1) (length-first_senders ring senders n) ∙ omega arith

below_or_at : (k n : ℕ) → k < suc n → (k < n) ⊎ (k ≡ n)
below_or_at k n h = grind arith

pub first_senders-at : (ring : TableId) (senders n k : ℕ) (d : Sender) → k < n → get_or (first_senders ring senders n) k d ≡ new_sender ring senders k
first_senders-at ring senders zero k d h = absurd (omega arith)
first_senders-at ring senders (suc n) k d h = ⊎_elim
    (λ (lt : k < n). get_or_append_left (first_senders ring senders n) (new_sender ring senders n ∷ []) d k (let e = length-first_senders ring senders n in omega arith) ∙ first_senders-at ring senders n k d lt)
    (λ (is : k ≡ n). get_or_push (first_senders ring senders n) (new_sender ring senders n) d k (length-first_senders ring senders n ∙ sym is) ∙ ap (new_sender ring senders) (sym is))
    (below_or_at k n h)

pub are_new : (ring : TableId) (senders n : ℕ) (sends : List Sender) → sends ≡ first_senders ring senders n → AreNew ring sends
are_new ring senders n sends is k d lt =
    let lt' : k < n = omega (arith, ap length is, length-first_senders ring senders n) in
    let e : get_or sends k d ≡ new_sender ring senders k = ap (λ l. get_or l k d) is ∙ first_senders-at ring senders n k d lt' in
    (ap (λ (s : Sender). s.ring) e, ap (λ (s : Sender). s.put) e)

-- a sender after its messages
after : (ring : TableId) (senders n count : ℕ) (before now : List Sender) → before ≡ first_senders ring senders n → HavePut count before now → (k : ℕ) (d : Sender) → k < n → HasPut count (new_sender ring senders k) (get_or now k d)
after ring senders n count before now is put k d lt =
    subst (λ (s : Sender). HasPut count s (get_or now k d)) (ap (λ l. get_or l k d) is ∙ first_senders-at ring senders n k d lt) (put k d (omega (arith, ap length is, length-first_senders ring senders n)))

inside : (xs : List Sender) (k : ℕ) (s : Sender) → slice_get xs k ≡ Some s → k < length xs
inside [] k s e = absurd (cc)
inside (x ∷ xs) zero s e = omega arith
inside (x ∷ xs) (suc k) s e = let h = inside xs k s e in omega arith

pub are_senders : (ring : TableId) (senders n count : ℕ) (before now : List Sender) → before ≡ first_senders ring senders n → length now ≡ length before → HavePut count before now → AreSendersOf ring now
are_senders ring senders n count before now is len put k s at =
    let lt = inside now k s at in
    let e : s ≡ get_or now k s = sym (get_or_from_slice_get now k s s at) in
    let has = after ring senders n count before now is put k s (omega (arith, ap length is, length-first_senders ring senders n)) in
    (ap (λ (s : Sender). s.ring) e ∙ has.ring, ap (λ (s : Sender). s.number) e ∙ has.number)

get_or-map_put : (xs : List Sender) (k : ℕ) (d : Sender) → k < length xs → get_or (map (λ (s : Sender). s.put) xs) k [] ≡ (get_or xs k d).put
get_or-map_put [] k d h = absurd (omega arith)
get_or-map_put (x ∷ xs) zero d h = refl
get_or-map_put (x ∷ xs) (suc k) d h = let lt : k < length xs = omega arith in get_or-map_put xs k d lt

pub put_of : (ring : TableId) (senders n count : ℕ) (before now : List Sender) → before ≡ first_senders ring senders n → length now ≡ length before → HavePut count before now
    → (k : ℕ) → k < n → get_or (map (λ (s : Sender). s.put) now) k [] ≡ first_posts k count
put_of ring senders n count before now is len put k lt =
    get_or-map_put now k (new_sender ring senders k) (omega (arith, ap length is, length-first_senders ring senders n)) ∙ (after ring senders n count before now is put k (new_sender ring senders k) lt).put
