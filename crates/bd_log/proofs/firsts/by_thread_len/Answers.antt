use Rattle.std.proofs.Common.{◌≡◌, ℕ, ◌+◌, ◌-◌, ◌<◌, ◌≤◌, ◌⊎◌, inl, inr, List, length, get_or, sym, ◌∙◌, ap, subst, arith}
use Rattle.std.proofs.lemmas.Bool.{cases_eq}
use Rattle.std.proofs.lemmas.List.{get_or_default}
use Rattle.bd_log.specs.Merge.{Part}
use Rattle.bd_log.proofs.firsts.by_thread_len.Goals as goal

-- one part more, with a greater thread than that before it
order_more : (parts : List Part) (place : ℕ) (p q : Part) → 1 ≤ place → place < length parts → p ≡ get_or parts place p → q ≡ get_or parts (place - 1) q → q.thread < p.thread → ((i j : ℕ) (d : Part) → i < j → j < place → (get_or parts i d).thread < (get_or parts j d).thread) → (i j : ℕ) (d : Part) → i < j → j < place + 1 → (get_or parts i d).thread < (get_or parts j d).thread
order_more parts place p q some within is_p is_q lt so_far i j d h h' = go (cases_eq j place) (cases_eq i (place - 1))
  where
    here : (get_or parts place d).thread ≡ p.thread
    here = ap (λ (r : Part). r.thread) (get_or_default parts place d p within ∙ sym is_p)

    last : (get_or parts (place - 1) d).thread ≡ q.thread
    last = ap (λ (r : Part). r.thread) (get_or_default parts (place - 1) d q (omega arith) ∙ sym is_q)

    go : (j ≡ place) ⊎ (j ≡ place → ⊥) → (i ≡ place - 1) ⊎ (i ≡ place - 1 → ⊥) → (get_or parts i d).thread < (get_or parts j d).thread
    go (inr ne) k = so_far i j d h (omega (arith, h', ne))
    go (inl at) (inl at') =
        subst (λ (m : ℕ). (get_or parts i d).thread < (get_or parts m d).thread) (sym at)
        (subst (λ (m : ℕ). (get_or parts m d).thread < (get_or parts place d).thread) (sym at') (omega (arith, here, last, lt)))
    go (inl at) (inr ne) =
        let sooner : (get_or parts i d).thread < (get_or parts (place - 1) d).thread = so_far i (place - 1) d (omega (arith, at, h, ne)) (omega (arith, some)) in
        subst (λ (m : ℕ). (get_or parts i d).thread < (get_or parts m d).thread) (sym at) (omega (arith, here, last, lt, sooner))

pub loop-place-preserved : goal.loop-place-preserved
loop-place-preserved c =
    let p : Part = c.index-parts-place.result in
    let q : Part = c.index-parts-place-in-loop-place.result in
    order_more c.args.parts.now c.loop-place.place p q c.loop-place.auto.place c.loop-place-test.true c.index-parts-place.is c.index-parts-place-in-loop-place.is (omega (arith, c.if-thread.false, c.thread.ensures, c.thread-in-loop-place.ensures)) c.loop-place.invariant
