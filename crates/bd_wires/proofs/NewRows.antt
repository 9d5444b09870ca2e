-- The passes of new rings, and what they are once they are transposed.
use Rattle.std.proofs.Common.{◌≡◌, ℕ, zero, suc, ◌+◌, ◌<◌, ⊎_elim, Option, Some, None, List, [], ◌∷◌, ◌++◌, false, length, map, get_or, vec_len, sym, refl, ap, ◌∙◌, subst, arith}
use Rattle.std.specs.Prelude.{slice_get}
use Rattle.std.proofs.lemmas.List.{length-append, get_or_append_left, get_or_push, length_push}
use Rattle.std.proofs.lemmas.Option.{slice_get_within, slice_get-get_or, same_Some}
use Rattle.bd_base.specs.declared.journal.Start.{Start}
use Rattle.bd_ring.specs.Rings.{Place, Receiver, Sender, first_senders, new_senders}
use Rattle.bd_ring.specs.Slots.{Holder, holder, later_holders, new_holders}
use Rattle.bd_wires.specs.declared.wires.Passes.{Passes}
use Rattle.bd_wires.specs.declared.wires.Wires.{Wires}
use Rattle.bd_wires.specs.Rows.{IsNewRow, AreNewRows}
use Rattle.bd_wires.specs.Transposing.{send_of, send_at, IsSquare, Transposed}
use Rattle.bd_wires.specs.Wires.{put_by, AreNew}
use Rattle.bd_wires.proofs.Lists.{below_or_at, slice_get-push_before, slice_get-push, map_get}
use Rattle.bd_wires.proofs.Exchanging.{kept, rest-length, send_some}

-- one more ring
pub new_rows_more : (threads : ℕ) (rings : List Place) (rows : List Passes) (ring : Place) (q : Passes) → length rows ≡ length rings → AreNewRows threads rings rows
    → q.take ≡ record { ring = ring.ring; senders = threads; taken = []; missed = 0 } → q.sends.items ≡ new_senders ring.ring threads → AreNewRows threads (rings ++ ring ∷ []) (rows ++ q ∷ [])
new_rows_more threads rings rows ring q len h take sends = λ t p at.
    let within = slice_get_within (rows ++ q ∷ []) t p at in
    let more = length_push rows q in
    ⊎_elim
    (λ (lt : t < length rows).
    let old = h t p (sym (slice_get-push_before rows q t lt) ∙ at) in
    let lt' : t < length rings = omega arith in
    record {
      take = λ d. old.take d ∙ ap (λ (r : Place). record { ring = r.ring; senders = threads; taken = []; missed = 0 }) (sym (get_or_append_left rings (ring ∷ []) d t lt'));
      sends = λ d. old.sends d ∙ ap (λ (r : Place). new_senders r.ring threads) (sym (get_or_append_left rings (ring ∷ []) d t lt'));
    })
    (λ (is : t ≡ length rows).
    let same = same_Some q p (sym (slice_get-push rows q) ∙ ap (λ k. slice_get (rows ++ q ∷ []) k) (sym is) ∙ at) in
    let here : length rings ≡ t = sym len ∙ sym is in
    subst (IsNewRow threads (rings ++ ring ∷ []) t) same (record {
      take = λ d. take ∙ ap (λ (r : Place). record { ring = r.ring; senders = threads; taken = []; missed = 0 }) (sym (get_or_push rings ring d t here));
      sends = λ d. sends ∙ ap (λ (r : Place). new_senders r.ring threads) (sym (get_or_push rings ring d t here));
    }))
    (below_or_at t (length rows) (omega arith))

abbrev pub new_sender : Place → ℕ → ℕ → Sender
new_sender r senders k = record { ring = r.ring; senders = senders; number = k; put = []; refused = 0 }

length-first : (r : Place) (senders n : ℕ) → length (first_senders r.ring senders n) ≡ n
length-first r senders zero = refl
length-first r senders (suc n) = length-append (first_senders r.ring senders n) (new_sender r senders n ∷ []) ∙ ap (λ k. k + 1) (length-first r senders n) ∙ omega arith

first_at : (r : Place) (senders n k : ℕ) (e : Sender) → slice_get (first_senders r.ring senders n) k ≡ Some e → e ≡ new_sender r senders k
first_at r senders zero k e at = absurd (cc)
first_at r senders (suc n) k e at =
    let before = first_senders r.ring senders n in
    let len = length-first r senders n in
    let more = length_push before (new_sender r senders n) in
    let within = slice_get_within (before ++ new_sender r senders n ∷ []) k e at in
    ⊎_elim
    (λ (lt : k < n). first_at r senders n k e (sym (slice_get-push_before before (new_sender r senders n) k (omega arith)) ∙ at))
    (λ (is : k ≡ n). sym (same_Some (new_sender r senders n) e (sym (slice_get-push before (new_sender r senders n)) ∙ ap (λ j. slice_get (before ++ new_sender r senders n ∷ []) j) (len ∙ sym is) ∙ at)) ∙ ap (new_sender r senders) (sym is))
    (below_or_at k n (omega arith))

-- ---- new passes of the slot

record IsHolder (w : Wires) (start : Start) (n t : ℕ) (h : Holder) : Type 0 where
  slot : h.slot ≡ w.slot
  thread : h.thread ≡ t
  passes : t ≡ 0 → h.passes ≡ n
  free : h.holds ≡ false
  seen : h.seen ≡ []
  wrote : h.wrote ≡ []
  start_is : h.start ≡ start

length-later : (w : Wires) (start : Start) (n : ℕ) → length (later_holders w.slot start (suc n)) ≡ n
length-later w start zero = refl
length-later w start (suc n) = length-append (later_holders w.slot start (suc n)) (holder w.slot start (suc n) 0 ∷ []) ∙ ap (λ k. k + 1) (length-later w start n) ∙ omega arith

later_at : (w : Wires) (start : Start) (n k : ℕ) (h : Holder) → slice_get (later_holders w.slot start (suc n)) k ≡ Some h → h ≡ holder w.slot start (suc k) 0
later_at w start zero k h at = absurd (cc)
later_at w start (suc n) k h at =
    let before = later_holders w.slot start (suc n) in
    let len = length-later w start n in
    let more = length_push before (holder w.slot start (suc n) 0) in
    let within = slice_get_within (before ++ holder w.slot start (suc n) 0 ∷ []) k h at in
    ⊎_elim
    (λ (lt : k < n). later_at w start n k h (sym (slice_get-push_before before (holder w.slot start (suc n) 0) k (omega arith)) ∙ at))
    (λ (is : k ≡ n). sym (same_Some (holder w.slot start (suc n) 0) h (sym (slice_get-push before (holder w.slot start (suc n) 0)) ∙ ap (λ j. slice_get (before ++ holder w.slot start (suc n) 0 ∷ []) j) (len ∙ sym is) ∙ at))
    ∙ ap (λ j. holder w.slot start (suc j) 0) (sym is))
    (below_or_at k n (omega arith))

holder_at : (w : Wires) (start : Start) (n t : ℕ) (h : Holder) → slice_get (new_holders w.slot start n) t ≡ Some h → IsHolder w start n t h
holder_at w start n zero h at =
    let same = same_Some (holder w.slot start 0 n) h at in
    subst (IsHolder w start n 0) same (record { slot = refl; thread = refl; passes = λ z. refl; free = refl; seen = refl; wrote = refl; start_is = refl })
holder_at w start zero (suc t) h at = absurd (cc)
holder_at w start (suc n) (suc t) h at =
    let same = later_at w start n t h at in
    subst (IsHolder w start (suc n) (suc t)) (sym same) (record { slot = refl; thread = refl; passes = λ z. absurd (omega arith); free = refl; seen = refl; wrote = refl; start_is = refl })

pub length-new_holders : (w : Wires) (start : Start) (n : ℕ) → 0 < n → length (new_holders w.slot start n) ≡ n
length-new_holders w start zero lt = absurd (omega arith)
length-new_holders w start (suc n) lt = ap (λ k. suc k) (length-later w start n)

-- ---- transposed

pub new_square : (threads : ℕ) (rings : List Place) (rows : List Passes) → 0 < length rings → length rows ≡ threads → AreNewRows threads rings rows → IsSquare (length rows) rows
new_square threads [] rows some len h t q at = absurd (omega arith)
new_square threads (r ∷ rs) rows some len h t q at = q.sends.ok.0 ∙ ap length ((h t q at).sends r) ∙ length-first (get_or (r ∷ rs) t r) threads threads ∙ sym len

module _ (threads : ℕ) (w : Wires) (rows ys : List Passes) (h : AreNewRows threads w.rings.items rows) (r : Transposed rows ys) where
  pub send_is : (t k : ℕ) (q : Passes) (e : Sender) (d : Place) → slice_get ys t ≡ Some q → slice_get q.sends.items k ≡ Some e → e ≡ new_sender (get_or w.rings.items k d) threads t
  send_is t k q e d at at_e =
      let there : send_at rows k t ≡ Some e = sym (r.all t k) ∙ ap (λ o. send_of o k) at ∙ at_e in
      let from = send_some (slice_get rows k) t e there in
      first_at (get_or w.rings.items k d) threads threads t e (ap (λ l. slice_get l t) (sym ((h k from.0 from.1).sends d)) ∙ from.2)

put_none : (o : Option Sender) → ((e : Sender) → o ≡ Some e → e.put ≡ []) → put_by o ≡ []
put_none None h = refl
put_none (Some e) h = h e refl

pub connected : (threads : ℕ) (start : Start) (w : Wires) (rows ys : List Passes) → 0 < threads → length w.rings.items ≡ threads → length rows ≡ threads
    → map (λ (q : Passes). q.slot) rows ≡ new_holders w.slot start threads → AreNewRows threads w.rings.items rows → Transposed rows ys → AreNew threads start w ys
connected threads start w rows ys some rings len slots h r =
    let len' : length ys ≡ threads = rest-length rows ys r.rest ∙ len in
    let some_rings : 0 < length w.rings.items = omega arith in
    let square = new_square threads w.rings.items rows some_rings len h in
    let holder_of = λ (t : ℕ) (p : Passes) (at : slice_get rows t ≡ Some p). holder_at w start threads t p.slot (ap (λ l. slice_get l t) (sym slots) ∙ map_get (λ (q : Passes). q.slot) rows t p at) in
    record {
      len = len';
      linked = (
        w.rings.ok.0 ∙ rings,
        λ t q at.
            let k = kept rows ys r.rest t q at in
            let row = h t k.0 k.1 in
            let is = holder_of t k.0 k.1 in
            let many : vec_len q.sends ≡ threads = k.4 ∙ square t k.0 k.1 ∙ len in
            let items : length q.sends.items ≡ threads = sym q.sends.ok.0 ∙ many in
            record {
              rings = w.rings.ok.0 ∙ rings;
              takes = λ d. ap (λ (v : Receiver). v.ring) (k.2 ∙ row.take d);
              senders = ap (λ (v : Receiver). v.senders) (k.2 ∙ row.take (any w.rings.items some_rings));
              sends = many;
              sends_to = λ j d e lt. ap (λ (v : Sender). v.ring) (send_is threads w rows ys h r t j q (get_or q.sends.items j e) d at (slice_get-get_or q.sends.items j e (omega arith)));
              numbers = λ j e lt. ap (λ (v : Sender). v.number) (send_is threads w rows ys h r t j q (get_or q.sends.items j e) (any w.rings.items some_rings) at (slice_get-get_or q.sends.items j e (omega arith)));
              slot = ap (λ (v : Holder). v.slot) k.3 ∙ is.slot;
              thread = ap (λ (v : Holder). v.thread) k.3 ∙ is.thread;
              passes = λ z. ap (λ (v : Holder). v.passes) k.3 ∙ is.passes z;
              free = ap (λ (v : Holder). v.holds) k.3 ∙ is.free;
            },
      );
      unused = λ t q at.
          let k = kept rows ys r.rest t q at in
          let row = h t k.0 k.1 in
          let is = holder_of t k.0 k.1 in
          record {
            taken = ap (λ (v : Receiver). v.taken) (k.2 ∙ row.take (any w.rings.items some_rings));
            put = λ j. put_none (slice_get q.sends.items j) (λ e at_e. ap (λ (v : Sender). v.put) (send_is threads w rows ys h r t j q e (any w.rings.items some_rings) at at_e));
            seen = ap (λ (v : Holder). v.seen) k.3 ∙ is.seen;
            wrote = ap (λ (v : Holder). v.wrote) k.3 ∙ is.wrote;
            start_is = ap (λ (v : Holder). v.start) k.3 ∙ is.start_is;
          };
    }
  where
    any : (rs : List Place) → 0 < length rs → Place
    any [] lt = absurd (omega arith)
    any (x ∷ rs) lt = x
