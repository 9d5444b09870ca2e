-- Passes that are exchanged: one, a row, all.
use Rattle.std.proofs.Common.{◌≡◌, ◌≢◌, ℕ, ◌+◌, ◌-◌, ◌<◌, ◌≤◌, ◌⊎◌, inl, inr, ⊎_elim, Option, Some, None, List, ◌++◌, length, set, vec_len, sym, refl, ap, ◌∙◌, subst, arith}
use Rattle.std.specs.Prelude.{slice_get}
use Rattle.std.proofs.lemmas.List.{set-append_left, set-append_right, length-set, length-map}
use Rattle.std.proofs.lemmas.Option.{slice_get_within, slice_get_past, same_Some}
use Rattle.bd_ring.specs.Rings.{Sender}
use Rattle.bd_wires.proofs.Lists.{same_or_not, below_or_at, below_or_past, slice_get-set_same, slice_get-set_other, map-set_same, from_map}
use Rattle.bd_wires.specs.declared.wires.Passes.{Passes}
use Rattle.bd_wires.specs.Transposing.{send_of, send_at, IsSquare, KeepsRest, Exchanged, RowExchanged, TransposedTo, Transposed}

rest-set : (xs : List Passes) (i : ℕ) (q q' : Passes) → slice_get xs i ≡ Some q → q'.take ≡ q.take → q'.slot ≡ q.slot → vec_len q'.sends ≡ vec_len q.sends → KeepsRest xs (set xs i q')
rest-set xs i q q' at take slot many = record {
  takes = map-set_same (λ q. q.take) xs i q q' at take;
  slots = map-set_same (λ q. q.slot) xs i q q' at slot;
  many = map-set_same (λ q. vec_len q.sends) xs i q q' at many;
}

pub rest-same : (xs : List Passes) → KeepsRest xs xs
rest-same xs = record { takes = refl; slots = refl; many = refl }

pub rest-then : (xs ys zs : List Passes) → KeepsRest xs ys → KeepsRest ys zs → KeepsRest xs zs
rest-then xs ys zs f g = record { takes = g.takes ∙ f.takes; slots = g.slots ∙ f.slots; many = g.many ∙ f.many }

pub rest-length : (xs ys : List Passes) → KeepsRest xs ys → length ys ≡ length xs
rest-length xs ys r = sym (length-map ys (λ q. q.take)) ∙ ap length r.takes ∙ length-map xs (λ q. q.take)

-- what stands at a place has the rest of what stood there
pub kept : (xs ys : List Passes) → KeepsRest xs ys → (t : ℕ) (q : Passes) → slice_get ys t ≡ Some q
    → (p : Passes) × (slice_get xs t ≡ Some p) × (q.take ≡ p.take) × (q.slot ≡ p.slot) × (vec_len q.sends ≡ vec_len p.sends)
kept xs ys r t q at =
    let a = from_map (λ (q : Passes). q.take) xs ys t q r.takes at in
    let b = from_map (λ (q : Passes). q.slot) xs ys t q r.slots at in
    let c = from_map (λ (q : Passes). vec_len q.sends) xs ys t q r.many at in
    let ab = same_Some b.0 a.0 (sym b.1 ∙ a.1) in
    let ac = same_Some c.0 a.0 (sym c.1 ∙ a.1) in
    (a.0, a.1, a.2, b.2 ∙ ap (λ (p : Passes). p.slot) ab, c.2 ∙ ap (λ (p : Passes). vec_len p.sends) ac)

pub rest-back : (xs ys : List Passes) → KeepsRest xs ys → KeepsRest ys xs
rest-back xs ys r = record { takes = sym r.takes; slots = sym r.slots; many = sym r.many }

pub square-kept : (xs ys : List Passes) → IsSquare (length xs) xs → KeepsRest xs ys → IsSquare (length ys) ys
square-kept xs ys square r t q at = let k = kept xs ys r t q at in k.4 ∙ square t k.0 k.1 ∙ sym (rest-length xs ys r)

here : (xs : List Passes) (i b : ℕ) (q : Passes) → i < length xs → send_at (set xs i q) i b ≡ slice_get q.sends.items b
here xs i b q lt = ap (λ o. send_of o b) (slice_get-set_same xs i q lt)

other : (xs : List Passes) (i a b : ℕ) (q : Passes) → a ≢ i → send_at (set xs i q) a b ≡ send_at xs a b
other xs i a b q ne = ap (λ o. send_of o b) (slice_get-set_other xs i a q ne)

pub exchanged : (xs : List Passes) (s t : ℕ) (p q p' q' : Passes) (x y : Sender) → s < t
    → slice_get xs s ≡ Some p → slice_get xs t ≡ Some q → slice_get p.sends.items t ≡ Some y → slice_get q.sends.items s ≡ Some x
    → (p'.take ≡ p.take) × (p'.slot ≡ p.slot) × (vec_len p'.sends ≡ vec_len p.sends) × (p'.sends.items ≡ set p.sends.items t x)
    → (q'.take ≡ q.take) × (q'.slot ≡ q.slot) × (vec_len q'.sends ≡ vec_len q.sends) × (q'.sends.items ≡ set q.sends.items s y)
    → Exchanged s t xs (set (set xs s p') t q')
exchanged xs s t p q p' q' x y lt at_s at_t old_y old_x is_p is_q =
    let ys : List Passes = set xs s p' in
    let in_s = slice_get_within xs s p at_s in
    let in_t : t < length ys = subst (λ n. t < n) (sym (length-set xs s p')) (slice_get_within xs t q at_t) in
    let in_p = slice_get_within p.sends.items t y old_y in
    let in_q = slice_get_within q.sends.items s x old_x in
    let s_not_t : s ≢ t = omega arith in
    let t_not_s : t ≢ s = omega arith in
    let still : slice_get ys t ≡ Some q = slice_get-set_other xs s t p' t_not_s ∙ at_t in
    record {
      rest = rest-then xs ys (set ys t q') (rest-set xs s p p' at_s is_p.0 is_p.1 is_p.2) (rest-set ys t q q' still is_q.0 is_q.1 is_q.2);
      first = other ys t s t q' s_not_t ∙ here xs s t p' in_s ∙ ap (λ l. slice_get l t) is_p.3 ∙ slice_get-set_same p.sends.items t x in_p ∙ sym old_x ∙ sym (ap (λ o. send_of o s) at_t);
      second = here ys t s q' in_t ∙ ap (λ l. slice_get l s) is_q.3 ∙ slice_get-set_same q.sends.items s y in_q ∙ sym old_y ∙ sym (ap (λ o. send_of o t) at_s);
      others = λ a b not_first not_second. ⊎_elim
          (λ (is : a ≡ t). subst (λ k. send_at (set ys t q') k b ≡ send_at xs k b) (sym is)
          (here ys t b q' in_t ∙ ap (λ l. slice_get l b) is_q.3 ∙ slice_get-set_other q.sends.items s b y (not_second is) ∙ sym (ap (λ o. send_of o b) at_t)))
          (λ (ne : a ≢ t). other ys t a b q' ne ∙ ⊎_elim
          (λ (is : a ≡ s). subst (λ k. send_at ys k b ≡ send_at xs k b) (sym is)
          (here xs s b p' in_s ∙ ap (λ l. slice_get l b) is_p.3 ∙ slice_get-set_other p.sends.items t b x (not_first is) ∙ sym (ap (λ o. send_of o b) at_s)))
          (λ (ne : a ≢ s). other xs s a b p' ne)
          (same_or_not a s))
          (same_or_not a t);
    }

-- two parts of a list, each with an element replaced
pub in_parts : (xs front back : List Passes) (s t : ℕ) (p q : Passes) → xs ≡ front ++ back → length front ≡ t → s < t → set (set xs s p) t q ≡ set front s p ++ set back 0 q
in_parts xs front back s t p q is len lt =
    let lt' : s < length front = omega arith in
    let n : length (set front s p) ≡ t = length-set front s p ∙ len in
    let zero_is : t - t ≡ 0 = omega arith in
    ap (λ l. set (set l s p) t q) is ∙ ap (λ l. set l t q) (set-append_left front back s p lt')
    ∙ set-append_right (set front s p) back t t q n (omega arith) ∙ ap (λ k. set front s p ++ set back k q) zero_is

-- ---- a row

pub row-none : (t : ℕ) (xs : List Passes) → RowExchanged t 0 xs xs
row-none t xs = record { rest = rest-same xs; row = λ k lt. absurd (omega arith); column = λ k lt. absurd (omega arith); others = λ a b f g. refl }

pub row-more : (t s : ℕ) (xs ys zs : List Passes) → s < t → RowExchanged t s xs ys → Exchanged s t ys zs → RowExchanged t (s + 1) xs zs
row-more t s xs ys zs lt r e = record {
  rest = rest-then xs ys zs r.rest e.rest;
  row = λ k h. ⊎_elim
      (λ (below : k < s). e.others t k (λ z. omega arith) (λ z w. omega arith) ∙ r.row k below)
      (λ (is : k ≡ s). subst (λ j. send_at zs t j ≡ send_at xs j t) (sym is) (e.second ∙ r.others s t (λ z. omega arith) (λ z. omega arith)))
      (below_or_at k s h);
  column = λ k h. ⊎_elim
      (λ (below : k < s). e.others k t (λ z w. omega arith) (λ z w. omega arith) ∙ r.column k below)
      (λ (is : k ≡ s). subst (λ j. send_at zs j t ≡ send_at xs t j) (sym is) (e.first ∙ r.others t s (λ z. omega arith) (λ z. omega arith)))
      (below_or_at k s h);
  others = λ a b f g. e.others a b (λ is w. (let u = g w in omega arith)) (λ is w. (let u = f is in omega arith)) ∙ r.others a b (λ is. (let u = f is in omega arith)) (λ is. (let u = g is in omega arith));
}

-- ---- all

pub all-none : (xs : List Passes) → TransposedTo 0 xs xs
all-none xs = record { rest = rest-same xs; within = λ a b h. absurd (omega arith); others = λ a b h. refl }

pub all-more : (t : ℕ) (xs ys zs : List Passes) → TransposedTo t xs ys → RowExchanged t t ys zs → TransposedTo (t + 1) xs zs
all-more t xs ys zs w r = record {
  rest = rest-then xs ys zs w.rest r.rest;
  within = λ a b h k. ⊎_elim
      (λ (lt_a : a < t). ⊎_elim
      (λ (lt_b : b < t). r.others a b (λ z. omega arith) (λ z. omega arith) ∙ w.within a b lt_a lt_b)
      (λ (is_b : b ≡ t). subst (λ j. send_at zs a j ≡ send_at xs j a) (sym is_b) (r.column a lt_a ∙ w.others t a (λ z. omega arith)))
      (below_or_at b t k))
      (λ (is_a : a ≡ t). subst (λ i. send_at zs i b ≡ send_at xs b i) (sym is_a) (⊎_elim
      (λ (lt_b : b < t). r.row b lt_b ∙ w.others b t (λ z. omega arith))
      (λ (is_b : b ≡ t). subst (λ j. send_at zs t j ≡ send_at xs j t) (sym is_b) (r.others t t (λ z. omega arith) (λ z. omega arith) ∙ w.others t t (λ z. omega arith)))
      (below_or_at b t k)))
      (below_or_at a t h);
  others = λ a b f. r.others a b (λ z. (let u : a < t + 1 = omega arith in let v = f u in omega arith)) (λ z. ⊎_elim (λ (lt : a < t). (let u : a < t + 1 = omega arith in let v = f u in omega arith)) (λ (le : t ≤ a). le) (below_or_past a t))
      ∙ w.others a b (λ z. (let u : a < t + 1 = omega arith in let v = f u in omega arith));
}

none_of : (o : Option Passes) (b : ℕ) → ((p : Passes) → o ≡ Some p → length p.sends.items ≤ b) → send_of o b ≡ None
none_of None b h = refl
none_of (Some p) b h = slice_get_past p.sends.items b (h p refl)

none_beyond : (xs : List Passes) (a b : ℕ) → IsSquare (length xs) xs → (length xs ≤ a) ⊎ (length xs ≤ b) → send_at xs a b ≡ None
none_beyond xs a b square far = none_of (slice_get xs a) b (λ p at. ⊎_elim
    (λ (past : length xs ≤ a). let lt = slice_get_within xs a p at in absurd (omega arith))
    (λ (past : length xs ≤ b). let n = sym p.sends.ok.0 ∙ square a p at in omega arith)
    far)

pub transposed : (xs ys : List Passes) (n : ℕ) → IsSquare (length xs) xs → n ≡ length xs → TransposedTo n xs ys → Transposed xs ys
transposed xs ys n square is w = record {
  rest = w.rest;
  all = λ a b. ⊎_elim
      (λ (lt_a : a < length xs). ⊎_elim
      (λ (lt_b : b < length xs). w.within a b (omega arith) (omega arith))
      (λ (far : length xs ≤ b). w.others a b (λ z. omega arith) ∙ none_beyond xs a b square (inr far) ∙ sym (none_beyond xs b a square (inl far)))
      (below_or_past b (length xs)))
      (λ (far : length xs ≤ a). w.others a b (λ z. omega arith) ∙ none_beyond xs a b square (inl far) ∙ sym (none_beyond xs b a square (inr far)))
      (below_or_past a (length xs));
}

-- whose it is
pub send_some : (o : Option Passes) (k : ℕ) (e : Sender) → send_of o k ≡ Some e → (p : Passes) × (o ≡ Some p) × (slice_get p.sends.items k ≡ Some e)
send_some None k e at = absurd (cc)
send_some (Some p) k e at = (p, refl, at)
