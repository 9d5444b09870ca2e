-- Each kind of step keeps the rule of a ring.
use Rattle.std.proofs.Common.{◌≡◌, ◌≢◌, ℕ, zero, suc, ◌+◌, ◌<◌, ◌≤◌, true, false, true≢false, List, [], ◌∷◌, ◌++◌, length, set, get_or, sym, refl, ap, ◌∙◌, subst, ⊎_elim, ◌⊎◌, arith}
use Rattle.std.proofs.lemmas.List.{length-set, length-append, get_or_append_left, get_or_push}
use mathlib.Core.Option.{some, some-ne-none, some-injective}
use lib.ListN.{get_elem?}
use Rattle.crossbeam_queue.specs.Fifo.{Pushes, Pops, Forks, Merges, Learns}
use Rattle.bd_turns.specs.declared.queue.Post.{Post}
use Rattle.bd_ring.specs.declared.ring_rule.View.{View}
use Rattle.bd_ring.specs.Posts.{sent_by}
use Rattle.bd_ring.specs.RingRule.{receiver, sender, nobody, after_put, after_take, all_put, Fits, Rules, RingRule, HoldsLast, Delivers, IsTaken, IsNext}
use Rattle.bd_ring.proofs.Views.{below, All, all_set, all_snoc, was_there}
use Rattle.bd_ring.proofs.Posts.{sent_by-append, all_pop, sent_push_other, sent_push_own, is_made}

-- the rule, with the number of passes as a number of its own
abbrev RulesAt : ℕ → ℕ → List (List Post) → List Post → List Post → List View → Type 0
RulesAt passes senders ended taken items views =
    ((k : ℕ) → k < length ended → get_or ended k [] ≡ sent_by k (all_put taken items))
    × ((k : ℕ) → passes ≤ k + 1 + senders → sent_by k (all_put taken items) ≡ [])
    × (passes ≤ senders + 1 + senders)
    × All (Fits passes senders ended taken items) views

rules_at : (passes senders : ℕ) (ended : List (List Post)) (taken : List Post) (items : List Post) (views : List View) → passes ≡ length views → RulesAt passes senders ended taken items views → Rules senders ended taken items views
rules_at passes senders ended taken items views e r = subst (λ n. RulesAt n senders ended taken items views) e r

off : false ≡ true → ⊥
off e = true≢false (sym e)

pub begins : RingRule [] (receiver 0 0 [] [] ∷ [])
begins = (0, [], [], ((λ k h. absurd (omega arith)), (λ k h. refl), omega arith, one))
  where
    one : All (Fits 1 0 [] [] []) (receiver 0 0 [] [] ∷ [])
    one zero v e = subst (Fits 1 0 [] [] [] 0) (some-injective _ _ e) ((λ s. absurd (off s)), (λ _. (refl, refl, refl, refl, refl)))
    one (suc pass) v e = absurd (some-ne-none v (sym e))

pub puts : (n pass : ℕ) (v : View) (x : Post) → v.sends ≡ true → x.message.sender ≡ v.from → Pushes RingRule n pass v x (λ w. w ≡ after_put v x)
puts n pass v x sends from items views _ h at =
    let w : View = after_put v x in
    let senders = h.0 in
    let ended = h.1 in
    let taken = h.2 in
    let mine = h.3.3 pass v at in
    let here = mine.0 sends in
    let inside : pass < length views = below views pass v at in (
      w,
      (
        senders,
        ended,
        taken,
        rules_at (length views) senders ended taken (items ++ x ∷ []) (set views pass w) (sym (length-set views pass w)) (
          (λ k lt. h.3.0 k lt ∙ sym (sent_push_other k taken items x (λ e. absurd (let m = here.1 in omega arith)))),
          (λ k le. sent_push_other k taken items x (λ e. absurd (let p = here.0 in omega arith)) ∙ h.3.1 k le),
          h.3.2,
          (all_set (Fits (length views) senders ended taken (items ++ x ∷ [])) views pass w
              ((λ _. (here.0, here.1, ap (λ l. l ++ x ∷ []) here.2 ∙ sym (sent_push_own v.from taken items x from), here.3)), mine.1)
              (λ j u other e.
              let theirs = h.3.3 j u e in (
                (λ s. let f = theirs.0 s in (f.0, f.1, f.2 ∙ sym (sent_push_other u.from taken items x (λ same. absurd (other (f.0 ∙ let p = here.0 in omega arith)))), f.3)),
                theirs.1,
              ))),
        ),
      ),
      refl,
    )

pub takes : (pass : ℕ) (v : View) → v.receives ≡ true → Pops RingRule pass v (IsTaken v)
takes pass v may x items views h at =
    let w : View = after_take v x in
    let senders = h.0 in
    let ended = h.1 in
    let taken : List Post = h.2 ++ x ∷ [] in
    let mine = h.3.3 pass v at in
    let here = mine.1 may in
    let same : all_put h.2 (x ∷ items) ≡ all_put taken items = sym (all_pop h.2 x items) in (
      w,
      (
        senders,
        ended,
        taken,
        rules_at (length views) senders ended taken items (set views pass w) (sym (length-set views pass w)) (
          (λ k lt. h.3.0 k lt ∙ ap (sent_by k) same),
          (λ k le. ap (sent_by k) (sym same) ∙ h.3.1 k le),
          h.3.2,
          (all_set (Fits (length views) senders ended taken items) views pass w
              ((λ s. let f = mine.0 s in (f.0, f.1, f.2 ∙ ap (sent_by v.from) same, f.3)), (λ _. (here.0, here.1, here.2, ap (λ l. l ++ x ∷ []) here.3, here.4)))
              (λ j u other e.
              let theirs = h.3.3 j u e in (
                (λ s. let f = theirs.0 s in (f.0, f.1, f.2 ∙ ap (sent_by u.from) same, f.3)),
                (λ t. absurd (other ((theirs.1 t).0 ∙ sym here.0))),
              ))),
        ),
      ),
      (refl, is_made v.made h.2 x items (λ le. h.3.1 x.message.sender (let m = here.1 in omega arith))),
    )

-- what the receiver learns at any moment
pub delivers : (pass : ℕ) (v : View) → v.receives ≡ true → Learns RingRule pass v (Delivers v)
delivers pass v may items views h at =
    let here = (h.3.3 pass v at).1 may in
    let P : List (List Post) × List Post → Type 0 = λ y. ((k : ℕ) → k < length y.0 → get_or y.0 k [] ≡ sent_by k (all_put y.1 items)) × ((k : ℕ) → v.made ≤ k → sent_by k (all_put y.1 items) ≡ []) in
    subst P (λ i. (sym here.2 i, sym here.3 i)) (h.3.0, (λ k le. h.3.1 k (let m = here.1 in omega arith)))

-- what a sender learns at any moment
pub holds_last : (pass : ℕ) (v : View) → v.sends ≡ true → Learns RingRule pass v (HoldsLast v)
holds_last pass v sends items views h at =
    let here = (h.3.3 pass v at).0 sends in (
      (sent_by v.from h.2, here.2 ∙ sent_by-append v.from h.2 items),
      (λ k le. second_nil (sent_by k h.2) (sent_by k items) (sym (sent_by-append k h.2 items) ∙ h.3.1 k (let m = h.3.2 in let s = here.3 in omega arith))),
    )
  where
    second_nil : (xs ys : List Post) → xs ++ ys ≡ [] → ys ≡ []
    second_nil [] ys e = e
    second_nil (x ∷ xs) ys e = absurd (cc)

-- a split that counts a sender
pub counts : (pass : ℕ) (v : View) → v.receives ≡ true → v.made ≡ 0 → Forks RingRule pass v (receiver (v.senders + 1) v.made v.ended v.taken) nobody
counts pass v may none items views h at =
    let left : View = receiver (v.senders + 1) v.made v.ended v.taken in
    let here = (h.3.3 pass v at).1 may in
    let senders : ℕ = h.0 + 1 in
    let n : ℕ = length views + 1 in
    let alone : length views ≡ 1 + h.0 = let m = here.1 in omega arith in
    let len : n ≡ length (set views pass left ++ nobody ∷ []) = omega (arith, length-append (set views pass left) (nobody ∷ []), length-set views pass left) in
    let F : ℕ → View → Type 0 = Fits n senders h.1 h.2 items in
    let olds : All F (set views pass left) =
    all_set F views pass left ((λ s. absurd (off s)), (λ _. (here.0, (let m = here.1 in omega arith), here.2, here.3, ap (λ k. k + 1) here.4)))
    (λ j u other e.
    let f = h.3.3 j u e in (
      (λ s. absurd (let p = (f.0 s).0 in let b = below views j u e in omega arith)),
      (λ t. absurd (other ((f.1 t).0 ∙ sym here.0))),
    )) in (
      senders,
      h.1,
      h.2,
      rules_at n senders h.1 h.2 items (set views pass left ++ nobody ∷ []) len (
        h.3.0,
        (λ k le. h.3.1 k (omega arith)),
        omega arith,
        all_snoc F (set views pass left) nobody olds ((λ s. absurd (off s)), (λ t. absurd (off t))),
      ),
    )

-- a split that makes a sender
pub forks : (pass : ℕ) (v : View) → v.receives ≡ true → v.ended ≡ [] → v.made < v.senders → Forks RingRule pass v (receiver v.senders (v.made + 1) v.ended v.taken) (sender v.senders v.made [])
forks pass v may none room items views h at =
    let left : View = receiver v.senders (v.made + 1) v.ended v.taken in
    let right : View = sender v.senders v.made [] in
    let here = (h.3.3 pass v at).1 may in
    let n : ℕ = length views + 1 in
    let len : n ≡ length (set views pass left ++ right ∷ []) = omega (arith, length-append (set views pass left) (right ∷ []), length-set views pass left) in
    let none_ended : length h.1 ≡ 0 = ap length (sym here.2 ∙ none) in
    let F : ℕ → View → Type 0 = Fits n h.0 h.1 h.2 items in
    let olds : All F (set views pass left) =
    all_set F views pass left ((λ s. absurd (off s)), (λ _. (here.0, (let m = here.1 in omega arith), here.2, here.3, here.4)))
    (λ j u other e. let f = h.3.3 j u e in (f.0, (λ t. absurd (other ((f.1 t).0 ∙ sym here.0))))) in
    let new : F (length (set views pass left)) right = (
      (λ _. (
        (let m = here.1 in omega (arith, length-set views pass left)),
        (omega arith),
        sym (h.3.1 v.made (let m = here.1 in omega arith)),
        here.4,
      )),
      (λ t. absurd (off t)),
    ) in (
      h.0,
      h.1,
      h.2,
      rules_at n h.0 h.1 h.2 items (set views pass left ++ right ∷ []) len (
        h.3.0,
        (λ k le. h.3.1 k (omega arith)),
        (let m = here.1 in let s = here.4 in omega arith),
        all_snoc F (set views pass left) right olds new,
      ),
    )

-- a join
pub merges : (pass : ℕ) (v : View) (other : ℕ) (u : View) → v.receives ≡ true → u.sends ≡ true → u.from ≡ length v.ended
    → Merges RingRule pass v other u (receiver v.senders v.made (v.ended ++ u.put ∷ []) v.taken) nobody
merges pass v other u may sends next items views h at apart at' =
    let both : View = receiver v.senders v.made (v.ended ++ u.put ∷ []) v.taken in
    let here = (h.3.3 pass v at).1 may in
    let was : get_elem? views other ≡ some u = was_there views pass other both u apart at' in
    let theirs = (h.3.3 other u was).0 sends in
    let from_is : u.from ≡ length h.1 = next ∙ ap length here.2 in
    let ended : List (List Post) = h.1 ++ u.put ∷ [] in
    let longer : length ended ≡ length h.1 + 1 = omega (arith, length-append h.1 (u.put ∷ [])) in
    let n : ℕ = length views in
    let F : ℕ → View → Type 0 = Fits n h.0 ended h.2 items in
    let G : ℕ → View → Type 0 = λ j y. j ≢ other → F j y in
    let now : All G (set views pass both) =
    all_set G views pass both (λ _. ((λ s. absurd (off s)), (λ _. (here.0, here.1, ap (λ l. l ++ u.put ∷ []) here.2, here.3, here.4))))
    (λ j y away e there.
    let f = h.3.3 j y e in (
      (λ s. let g = f.0 s in (g.0, above_next (length h.1) (length ended) u.from y.from j other h.0 longer from_is theirs.0 g.0 there g.1, g.2, g.3)),
      (λ t. absurd (away ((f.1 t).0 ∙ sym here.0))),
    )) in
    let len : n ≡ length (set (set views pass both) other nobody) = omega (arith, length-set (set views pass both) other nobody, length-set views pass both) in (
      h.0,
      ended,
      h.2,
      rules_at n h.0 ended h.2 items (set (set views pass both) other nobody) len (
        settled_more h.1 u.put (all_put h.2 items) h.3.0 (ap (λ k. sent_by k (all_put h.2 items)) (sym from_is) ∙ sym theirs.2),
        h.3.1,
        h.3.2,
        all_set F (set views pass both) other nobody ((λ s. absurd (off s)), (λ t. absurd (off t))) (λ j y there e. now j y e there),
      ),
    )
  where
    above_next : (a b from from' j other senders : ℕ) → b ≡ a + 1 → from ≡ a → other ≡ from + 1 + senders → j ≡ from' + 1 + senders → j ≢ other → a ≤ from' → b ≤ from'
    above_next a b from from' j other senders p q r s ne le = omega (arith)

    settled_more : (ended : List (List Post)) (put all : List Post) → ((k : ℕ) → k < length ended → get_or ended k [] ≡ sent_by k all) → sent_by (length ended) all ≡ put
        → (k : ℕ) → k < length (ended ++ put ∷ []) → get_or (ended ++ put ∷ []) k [] ≡ sent_by k all
    settled_more ended put all before own k lt = ⊎_elim
        (λ (less : k < length ended). get_or_append_left ended (put ∷ []) [] k less ∙ before k less)
        (λ (is : k ≡ length ended). get_or_push ended put [] k (sym is) ∙ sym own ∙ ap (λ i. sent_by i all) (sym is))
        (below_or_at k (length ended) (omega (arith, length-append ended (put ∷ []))))
      where
        below_or_at : (k n : ℕ) → k < n + 1 → (k < n) ⊎ (k ≡ n)
        below_or_at k n h = grind arith

-- a take once all senders have ended
pub takes_rest : (pass : ℕ) (v : View) → v.receives ≡ true → Pops RingRule pass v (IsNext v)
takes_rest pass v may x items views h at = let t = takes pass v may x items views h at in (t.0, t.1, (t.2.0, (items, delivers pass v may (x ∷ items) views h at)))
