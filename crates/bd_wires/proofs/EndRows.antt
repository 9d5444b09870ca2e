-- The passes of each ring at the end.
use Rattle.std.proofs.Common.{◌≡◌, ℕ, zero, suc, ◌+◌, ◌<◌, ⊎_elim, Some, List, [], ◌∷◌, ◌++◌, false, length, map, get_or, vec_len, sym, refl, ap, ◌∙◌, subst, arith}
use Rattle.std.specs.Prelude.{slice_get}
use Rattle.std.specs.List.{zip}
use Rattle.std.proofs.lemmas.List.{append_assoc, length-map, length_push, map-append}
use Rattle.std.proofs.lemmas.Option.{slice_get_within, slice_get-get_or, get_or_from_slice_get, same_Some}
use Rattle.bd_base.specs.declared.act.Entry.{Entry}
use Rattle.bd_ring.specs.Posts.{sent_by}
use Rattle.bd_ring.specs.Rings.{AreSendersOf, Place, Receiver, Sender}
use Rattle.bd_ring.specs.SlotRule.{BeginsWithEach, StartsWith}
use Rattle.bd_ring.specs.Slots.{Ending, Holder}
use Rattle.bd_wires.specs.declared.wires.Passes.{Passes}
use Rattle.bd_wires.specs.declared.wires.Wires.{Wires}
use Rattle.bd_wires.specs.Rows.{AreRows, IsDrained, AreDrained}
use Rattle.bd_wires.specs.Transposing.{send_of, send_at, IsSquare, Transposed}
use Rattle.bd_wires.specs.Wires.{put_by, AreDelivered, AreLinked}
use Rattle.bd_wires.proofs.Lists.{below_or_at, map_at, slice_get-push, slice_get-push_before, zip_at}
use Rattle.bd_wires.proofs.Exchanging.{kept, rest-back, rest-length, send_some}

-- ---- transposed

pub linked_square : (n : ℕ) (w : Wires) (xs : List Passes) → n ≡ length xs → AreLinked n w xs → IsSquare (length xs) xs
linked_square n w xs len linked t q at = (linked.1 t q at).sends ∙ len

pub rows_linked : (n : ℕ) (w : Wires) (xs ys : List Passes) → n ≡ length xs → AreLinked n w xs → Transposed xs ys → AreRows w ys
rows_linked n w xs ys len linked r =
    let len' : n ≡ length ys = len ∙ sym (rest-length xs ys r.rest) in (
      linked.0 ∙ len',
      λ t q at.
          let k = kept xs ys r.rest t q at in
          let l = linked.1 t k.0 k.1 in
          let in_t = slice_get_within ys t q at in
          record {
            take = λ d. ap (λ (v : Receiver). v.ring) k.2 ∙ l.takes d;
            senders = k.4 ∙ l.sends ∙ sym (ap (λ (v : Receiver). v.senders) k.2 ∙ l.senders);
            sends = λ d s e at_e.
                let there : send_at xs s t ≡ Some e = sym (r.all t s) ∙ ap (λ o. send_of o s) at ∙ at_e in
                let from = send_some (slice_get xs s) t e there in
                let ls = linked.1 s from.0 from.1 in
                let is = sym (get_or_from_slice_get from.0.sends.items t e e from.2) in
                let in_rings : t < length w.rings.items = (let a = sym w.rings.ok.0 ∙ linked.0 in omega arith) in
                (ap (λ (v : Sender). v.ring) is ∙ ls.sends_to t d e in_rings, ap (λ (v : Sender). v.number) is ∙ ls.numbers t e (omega arith));
            slot = ap (λ (v : Holder). v.slot) k.3 ∙ l.slot;
            thread = ap (λ (v : Holder). v.thread) k.3 ∙ l.thread;
            passes = λ z. ap (λ (v : Holder). v.passes) k.3 ∙ l.passes z ∙ len';
            free = ap (λ (v : Holder). v.holds) k.3 ∙ l.free;
          },
    )

pub delivered : (n : ℕ) (w : Wires) (xs ys : List Passes) → n ≡ length xs → AreLinked n w xs → Transposed xs ys → AreDrained ys → AreDelivered xs
delivered n w xs ys len linked r drained s t p q at_s at_t =
    let back = kept ys xs (rest-back xs ys r.rest) t q at_t in
    let q' = back.0 in
    let none : Sender = record { ring = q.take.ring; senders = 0; number = 0; put = []; refused = 0 } in
    let within = slice_get_within xs t q at_t in
    let many = (linked.1 s p at_s).sends in
    let items = p.sends.ok.0 in
    let e = get_or p.sends.items t none in
    let at_e = slice_get-get_or p.sends.items t none (omega arith) in
    let at_q = sym (ap (λ o. send_of o s) back.1) ∙ r.all t s ∙ ap (λ o. send_of o t) at_s ∙ at_e in
    let d = drained t q' back.1 s e at_q in
    (d.0, ap (λ (v : Receiver). sent_by s v.taken ++ d.0) back.2 ∙ d.1 ∙ sym (ap put_by at_e))

-- ---- the first row, and the others

pub record IsEndable (w : Wires) (r : Place) (t : ℕ) (q : Passes) : Type 0 where
  pub take : q.take.ring ≡ r.ring
  pub senders : vec_len q.sends ≡ q.take.senders
  pub sends : AreSendersOf r.ring q.sends.items
  pub slot : q.slot.slot ≡ w.slot
  pub thread : q.slot.thread ≡ t
  pub free : q.slot.holds ≡ false

endable : (w : Wires) (rows : List Passes) (t : ℕ) (r : Place) (q : Passes) → AreRows w rows → slice_get w.rings.items t ≡ Some r → slice_get rows t ≡ Some q → IsEndable w r t q
endable w rows t r q h at_r at =
    let row = h.1 t q at in
    let is = get_or_from_slice_get w.rings.items t r r at_r in
    record {
      take = row.take r ∙ ap (λ (v : Place). v.ring) is;
      senders = row.senders;
      sends = subst (λ (v : Place). AreSendersOf v.ring q.sends.items) is (row.sends r);
      slot = row.slot;
      thread = row.thread;
      free = row.free;
    }

pub first_row : (w : Wires) (rows rest : List Passes) (rings : List Place) (r : Place) (q : Passes) → AreRows w rows → w.rings.items ≡ r ∷ rings → rows ≡ q ∷ rest
    → IsEndable w r 0 q × (q.slot.passes ≡ length rest + 1)
first_row w rows rest rings r q h is_rings is_rows =
    let at = ap (λ l. slice_get l 0) is_rows in
    let n : length rows ≡ length rest + 1 = ap length is_rows ∙ omega arith in
    (endable w rows 0 r q h (ap (λ l. slice_get l 0) is_rings) at, (h.1 0 q at).passes refl ∙ n)

pub later_row : (w : Wires) (rows rest : List Passes) (rings : List Place) (r0 r : Place) (q0 q : Passes) (k : ℕ) → AreRows w rows → w.rings.items ≡ r0 ∷ rings → rows ≡ q0 ∷ rest
    → slice_get rings k ≡ Some r → slice_get rest k ≡ Some q → IsEndable w r (suc k) q
later_row w rows rest rings r0 r q0 q k h is_rings is_rows at_r at =
    endable w rows (suc k) r q h (ap (λ l. slice_get l (suc k)) is_rings ∙ at_r) (ap (λ l. slice_get l (suc k)) is_rows ∙ at)

pub same_rest : (w : Wires) (rows rest : List Passes) (rings : List Place) (r : Place) (q : Passes) → AreRows w rows → w.rings.items ≡ r ∷ rings → rows ≡ q ∷ rest → length rings ≡ length rest
same_rest w rows rest rings r q h is_rings is_rows =
    let a : length (r ∷ rings) ≡ length (q ∷ rest) = sym (ap length is_rings) ∙ sym w.rings.ok.0 ∙ h.0 ∙ ap length is_rows in
    omega arith

pub all_drained : (rows rest : List Passes) (rings : List Place) (q0 : Passes) (yielded : List (Place × Passes)) → length rings ≡ length rest → rows ≡ q0 ∷ rest → yielded ≡ zip rings rest
    → IsDrained q0.take.taken q0.sends.items → ((k : ℕ) (p : Place × Passes) → slice_get yielded k ≡ Some p → IsDrained p.1.take.taken p.1.sends.items) → AreDrained rows
all_drained rows rest rings q0 yielded same is_rows is first others = λ t q at. go t q (ap (λ l. slice_get l t) (sym is_rows) ∙ at)
  where
    go : (t : ℕ) (q : Passes) → slice_get (q0 ∷ rest) t ≡ Some q → IsDrained q.take.taken q.sends.items
    go zero q at = subst (λ (v : Passes). IsDrained v.take.taken v.sends.items) (same_Some q0 q at) first
    go (suc k) q at = let z = zip_at rings rest k q same at in others k (z.0, q) (ap (λ l. slice_get l k) is ∙ z.1)

-- ---- the journal

pub wrote_at : (rows : List Passes) (wrote : List (List Entry)) (t : ℕ) (q : Passes) → wrote ≡ map (λ (p : Passes). p.slot.wrote) rows → slice_get rows t ≡ Some q
    → (t < length wrote) × (get_or wrote t [] ≡ q.slot.wrote)
wrote_at rows wrote t q is at =
    let within = slice_get_within rows t q at in
    let n : length wrote ≡ length rows = ap length is ∙ length-map rows (λ (p : Passes). p.slot.wrote) in
    (omega arith, ap (λ (l : List (List Entry)). get_or l t []) is ∙ map_at (λ (p : Passes). p.slot.wrote) rows t q [] at)

pub seen_at : (rows : List Passes) (seen : List (List Entry)) (journal : List Entry) (t : ℕ) (q : Passes) → seen ≡ map (λ (p : Passes). p.slot.seen) rows → BeginsWithEach journal seen
    → slice_get rows t ≡ Some q → StartsWith journal q.slot.seen
seen_at rows seen journal t q is begins at =
    let within = slice_get_within rows t q at in
    let n : length seen ≡ length rows = ap length is ∙ length-map rows (λ (p : Passes). p.slot.seen) in
    let same = ap (λ (l : List (List Entry)). get_or l t []) is ∙ map_at (λ (p : Passes). p.slot.seen) rows t q [] at in
    subst (StartsWith journal) same (begins t (omega arith))

-- ---- the loop over the later rows

-- what was settled, with these more
abbrev pub ending_of : Ending → List (Place × Passes) → Ending
ending_of s ys = record s { wrote = s.wrote ++ map (λ (p : Place × Passes). p.1.slot.wrote) ys; seen = s.seen ++ map (λ (p : Place × Passes). p.1.slot.seen) ys }

ending_more : (s : Ending) (ys : List (Place × Passes)) (p : Place × Passes)
    → record (ending_of s ys) { wrote = (ending_of s ys).wrote ++ p.1.slot.wrote ∷ []; seen = (ending_of s ys).seen ++ p.1.slot.seen ∷ [] } ≡ ending_of s (ys ++ p ∷ [])
ending_more s ys p =
    let wrote = append_assoc s.wrote (map (λ (p : Place × Passes). p.1.slot.wrote) ys) (p.1.slot.wrote ∷ []) ∙ ap (λ l. s.wrote ++ l) (sym (map-append (λ (p : Place × Passes). p.1.slot.wrote) ys (p ∷ []))) in
    let seen = append_assoc s.seen (map (λ (p : Place × Passes). p.1.slot.seen) ys) (p.1.slot.seen ∷ []) ∙ ap (λ l. s.seen ++ l) (sym (map-append (λ (p : Place × Passes). p.1.slot.seen) ys (p ∷ []))) in
    λ i. record s { wrote = wrote i; seen = seen i }

pub ending_next : (s before after : Ending) (ys : List (Place × Passes)) (p : Place × Passes) → before ≡ ending_of s ys
    → after ≡ record before { wrote = before.wrote ++ p.1.slot.wrote ∷ []; seen = before.seen ++ p.1.slot.seen ∷ [] } → after ≡ ending_of s (ys ++ p ∷ [])
ending_next s before after ys p is e = e ∙ ap (λ (b : Ending). record b { wrote = b.wrote ++ p.1.slot.wrote ∷ []; seen = b.seen ++ p.1.slot.seen ∷ [] }) is ∙ ending_more s ys p

pub drained_more : (ys : List (Place × Passes)) (p : Place × Passes) → ((k : ℕ) (q : Place × Passes) → slice_get ys k ≡ Some q → IsDrained q.1.take.taken q.1.sends.items) → IsDrained p.1.take.taken p.1.sends.items
    → (k : ℕ) (q : Place × Passes) → slice_get (ys ++ p ∷ []) k ≡ Some q → IsDrained q.1.take.taken q.1.sends.items
drained_more ys p h here k q at =
    let within = slice_get_within (ys ++ p ∷ []) k q at in
    let more = length_push ys p in
    ⊎_elim
    (λ (lt : k < length ys). h k q (sym (slice_get-push_before ys p k lt) ∙ at))
    (λ (is : k ≡ length ys). subst (λ (v : Place × Passes). IsDrained v.1.take.taken v.1.sends.items) (same_Some p q (sym (slice_get-push ys p) ∙ ap (λ j. slice_get (ys ++ p ∷ []) j) (sym is) ∙ at)) here)
    (below_or_at k (length ys) (omega arith))
