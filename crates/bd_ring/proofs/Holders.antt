-- Lists of a slot's passes: new ones, and those that are given back at the end.
use Rattle.std.proofs.Common.{◌≡◌, ℕ, zero, suc, ◌+◌, ◌<◌, ◌≤◌, Some, List, [], ◌∷◌, ◌++◌, length, map, get_or, sym, refl, ap, ◌∙◌, subst, false, arith}
use Rattle.std.specs.Prelude.{slice_get}
use Rattle.std.proofs.lemmas.Option.{slice_get_read}
use Rattle.atomic_table.specs.Seated.{TableId}
use Rattle.bd_base.specs.declared.act.Entry.{Entry}
use Rattle.bd_base.specs.declared.journal.Start.{Start}
use Rattle.bd_ring.specs.declared.slot_rule.SlotView.{SlotView}
use Rattle.crossbeam_queue.specs.Fifo.{Held}
use Rattle.bd_ring.specs.SlotRule.{IsAway, rows_of}
use Rattle.bd_ring.specs.Rings.{one_further}
use Rattle.bd_ring.specs.Slots.{Holder, AreHoldersOf, after_miss, holder, later_holders, seen_as, IsSound, WasAway}

pub later_holders-more : (slot : TableId) (start : Start) (n : ℕ) → 1 ≤ n → later_holders slot start (n + 1) ≡ later_holders slot start n ++ holder slot start n 0 ∷ []
later_holders-more slot start zero h = absurd (omega arith)
later_holders-more slot start (suc n) h = let e : suc n + 1 ≡ suc (suc n) = omega arith in ap (later_holders slot start) e

pub first_is : (slot : TableId) (passes : List Holder) (first : Holder) (rest : List Holder) → AreHoldersOf slot passes → passes ≡ first ∷ rest
    → (first.slot ≡ slot) × (first.thread ≡ 0) × (first.holds ≡ false) × (first.passes ≡ length rest + 1)
first_is slot passes first rest h e =
    let at : slice_get passes 0 ≡ Some first = ap (λ l. slice_get l 0) e in
    let f = h.each 0 first at in
    let n : length passes ≡ length rest + 1 = ap length e ∙ omega arith in
    (f.0, f.1, f.2, h.all first at ∙ n)

pub later_is : (slot : TableId) (passes : List Holder) (first : Holder) (rest : List Holder) → AreHoldersOf slot passes → passes ≡ first ∷ rest
    → (k : ℕ) (p : Holder) → (k < length rest) × (p ≡ get_or rest k p) → (p.slot ≡ slot) × (p.thread ≡ k + 1) × (p.holds ≡ false)
later_is slot passes first rest h e k p t =
    let at : slice_get passes (suc k) ≡ Some p = ap (λ l. slice_get l (suc k)) e ∙ slice_get_read rest (length rest) k p refl t.0 t.1 in
    let f = h.each (suc k) p at in
    let n : suc k ≡ k + 1 = omega arith in
    (f.0, f.1 ∙ n, f.2)

-- the rows of each pass, read from the list of all rows
pub rows_at : (passes : List Holder) (first : Holder) (rest : List Holder) (wrote : List (List Entry)) (journal : List Entry) → passes ≡ first ∷ rest → wrote ≡ first.wrote ∷ map (λ p. p.wrote) rest
    → ((k : ℕ) → k < length wrote → rows_of k journal ≡ get_or wrote k [])
    → (k : ℕ) (p : Holder) → slice_get passes k ≡ Some p → rows_of k journal ≡ p.wrote
rows_at passes first rest wrote journal e is rows k p at =
    let there = inside (first ∷ rest) k (ap (λ l. slice_get l k) (sym e) ∙ at) in
    rows k (subst (λ (l : List (List Entry)). k < length l) (sym is) there.0) ∙ ap (λ (l : List (List Entry)). get_or l k []) is ∙ there.1
  where
    inside : (ps : List Holder) (i : ℕ) → slice_get ps i ≡ Some p → (i < length (map (λ q. q.wrote) ps)) × (get_or (map (λ q. q.wrote) ps) i [] ≡ p.wrote)
    inside [] i e = absurd (cc)
    inside (q ∷ ps) zero e = let s : q ≡ p = cc in (omega arith, ap (λ (y : Holder). y.wrote) s)
    inside (q ∷ ps) (suc i) e = let r = inside ps i e in (let l = r.0 in omega arith, r.1)

-- what a try of the slot comes to that found the value away
pub missed_by : {R : Type 0} (slot slot' : TableId) (borrowed missed : ℕ) (v w : SlotView) (old : Holder) → slot' ≡ slot → seen_as slot borrowed missed v ≡ old → IsSound v
    → (w ≡ v) × Held 0 (λ (items : List R). length items ≡ 0 → IsAway v) → (seen_as slot' borrowed (one_further missed) w ≡ after_miss old) × WasAway old
missed_by slot slot' borrowed missed v w old same is sound h =
    let away = h.1.2 h.1.1 in
    ((λ i. after_miss (seen_as (same i) borrowed missed (h.0 i))) ∙ ap after_miss is, subst WasAway is (away.0, away.1, (λ z. away.2 ((sound.2 z).0)), away.3))
