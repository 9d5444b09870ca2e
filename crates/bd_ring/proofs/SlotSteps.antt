-- Each kind of step keeps the rule of a slot.
use Rattle.std.proofs.Common.{◌≡◌, ◌≢◌, ℕ, zero, suc, ◌+◌, ◌<◌, ◌≤◌, ◌⊎◌, Bool, true, false, true≢false, Option, Some, None, List, [], ◌∷◌, ◌++◌, length, set, drop, get_or, eqb, eq-eqb, ne_eqb, sym, refl, ap, ◌∙◌, subst, ⊎_elim, append_assoc, arith}
use Rattle.std.specs.Prelude.{All as Each}
use Rattle.std.proofs.lemmas.List.{length-set, length-append, get_or_append_left, get_or_push, append-nil, drop_at as drop-append}
use Rattle.std.proofs.lemmas.List.Elements.{filter-append, All-head, All-tail}
use mathlib.Core.Option.{some, some-ne-none, some-injective}
use lib.ListN.{get_elem?}
use Rattle.crossbeam_queue.specs.Fifo.{Pushes, Pops, Forks, Merges, Learns}
use Rattle.crossbeam_queue.proofs.Lists.{set_here, set_else, at_longer}
use Rattle.bd_base.specs.declared.act.Entry.{Entry}
use Rattle.bd_base.specs.declared.journal.Start.{Start}
use Rattle.bd_ring.specs.declared.slot_rule.SlotView.{SlotView}
use Rattle.bd_ring.specs.SlotRule.{rows_of, StartsWith, BeginsWithEach, AddsOwn, newcomer, opened_at, server, nobody, one_more, with_ended, after_give, after_take, IsTaken, IsAway, IsLast, Fits, Whereabouts, SlotRule}
use Rattle.bd_ring.proofs.Views.{below, same_view, All, all_set, all_snoc, was_there}

off : false ≡ true → ⊥
off e = true≢false (sym e)

on_off : (b : Bool) → b ≡ true → b ≡ false → ⊥
on_off b e f = true≢false (sym e ∙ f)

pub rows_of-append : (k : ℕ) (xs ys : List Entry) → rows_of k (xs ++ ys) ≡ rows_of k xs ++ rows_of k ys
rows_of-append k xs ys = filter-append (λ r. eqb r.thread k) xs ys

rows_of_own : (k : ℕ) (rows : List Entry) → Each (λ r. r.thread ≡ k) rows → rows_of k rows ≡ rows
rows_of_own k [] own = refl
rows_of_own k (r ∷ rs) own = rw (eq-eqb r.thread k (All-head (λ (x : Entry). x.thread ≡ k) r rs own)) (ap (λ l. r ∷ l) (rows_of_own k rs (All-tail (λ (x : Entry). x.thread ≡ k) r rs own)))

rows_of_other : (j k : ℕ) (rows : List Entry) → j ≢ k → Each (λ r. r.thread ≡ k) rows → rows_of j rows ≡ []
rows_of_other j k [] apart own = refl
rows_of_other j k (r ∷ rs) apart own =
    rw (ne_eqb r.thread j (λ e. apart (sym e ∙ All-head (λ (x : Entry). x.thread ≡ k) r rs own))) (rows_of_other j k rs apart (All-tail (λ (x : Entry). x.thread ≡ k) r rs own))

-- what a journal has of thread j, after rows of thread k alone
unmoved : (j k : ℕ) (now rows : List Entry) → j ≢ k → Each (λ r. r.thread ≡ k) rows → rows_of j (now ++ rows) ≡ rows_of j now
unmoved j k now rows apart own = rows_of-append j now rows ∙ ap (λ l. rows_of j now ++ l) (rows_of_other j k rows apart own) ∙ append-nil (rows_of j now)

moved : (k : ℕ) (now rows : List Entry) → Each (λ r. r.thread ≡ k) rows → rows_of k (now ++ rows) ≡ rows_of k now ++ rows
moved k now rows own = rows_of-append k now rows ∙ ap (λ l. rows_of k now ++ l) (rows_of_own k rows own)

further : (now rows first : List Entry) → StartsWith now first → StartsWith (now ++ rows) first
further now rows first s = (s.0 ++ rows, ap (λ l. l ++ rows) s.1 ∙ append_assoc first s.0 rows)

settled_more : (ended : List (List Entry)) (wrote now : List Entry) → ((k : ℕ) → k < length ended → get_or ended k [] ≡ rows_of (k + 1) now) → rows_of (length ended + 1) now ≡ wrote
    → (k : ℕ) → k < length (ended ++ wrote ∷ []) → get_or (ended ++ wrote ∷ []) k [] ≡ rows_of (k + 1) now
settled_more ended wrote now before own k lt = ⊎_elim
    (λ (less : k < length ended). get_or_append_left ended (wrote ∷ []) [] k less ∙ before k less)
    (λ (is : k ≡ length ended). get_or_push ended wrote [] k (sym is) ∙ sym own ∙ ap (λ i. rows_of (i + 1) now) (sym is))
    (below_or_at k (length ended) (omega (arith, length-append ended (wrote ∷ []))))
  where
    below_or_at : (k n : ℕ) → k < n + 1 → (k < n) ⊎ (k ≡ n)
    below_or_at k n h = grind arith

seen_further : (now rows : List Entry) (viewed : List (List Entry)) → BeginsWithEach now viewed → BeginsWithEach (now ++ rows) viewed
seen_further now rows viewed h k lt = further now rows (get_or viewed k []) (h k lt)

seen_more : (now seen : List Entry) (viewed : List (List Entry)) → BeginsWithEach now viewed → StartsWith now seen → BeginsWithEach now (viewed ++ seen ∷ [])
seen_more now seen viewed h s k lt = ⊎_elim
    (λ (less : k < length viewed). subst (StartsWith now) (sym (get_or_append_left viewed (seen ∷ []) [] k less)) (h k less))
    (λ (is : k ≡ length viewed). subst (StartsWith now) (sym (get_or_push viewed seen [] k (sym is))) s)
    (below_or_at k (length viewed) (omega (arith, length-append viewed (seen ∷ []))))
  where
    below_or_at : (k n : ℕ) → k < n + 1 → (k < n) ⊎ (k ≡ n)
    below_or_at k n h = grind arith

seen_first : (now seen : List Entry) (viewed : List (List Entry)) → StartsWith now seen → BeginsWithEach now viewed → BeginsWithEach now (seen ∷ viewed)
seen_first now seen viewed s h zero lt = s
seen_first now seen viewed s h (suc k) lt = h k (omega arith)

module _ {R : Type 0} (journal : R → List Entry) (begins : R → Start) where
  abbrev Rule : List R → List SlotView → Type 0
  Rule = SlotRule journal begins

  abbrev Where : Start → List Entry → Option ℕ → List R → List SlotView → Type 0
  Where = Whereabouts journal begins

  -- the rule, with the number of passes as a number of its own
  rules_at : (passes : ℕ) (start : Start) (now : List Entry) (ended : List (List Entry)) (holder : Option ℕ) (items : List R) (views : List SlotView) → passes ≡ length views
      → Where start now holder items views
      → ((k : ℕ) → k < length ended → get_or ended k [] ≡ rows_of (k + 1) now)
      → ((k : ℕ) → passes ≤ k → rows_of k now ≡ [])
      → All (Fits passes start now ended holder) views
      → Rule items views
  rules_at passes start now ended holder items views e a b c d =
      (start, now, ended, holder, subst (λ n. Where start now holder items views × ((k : ℕ) → k < length ended → get_or ended k [] ≡ rows_of (k + 1) now) × ((k : ℕ) → n ≤ k → rows_of k now ≡ []) × All (Fits n start now ended holder) views) e (a, b, c, d))

  -- with a holder, there is nothing in the slot
  is_out : (start : Start) (now : List Entry) (holder : Option ℕ) (items : List R) (views : List SlotView) (h : ℕ) → holder ≡ Some h → Where start now holder items views → items ≡ []
  is_out start now None items views h e w = cc
  is_out start now (Some g) items views h e w = w.0

  -- with something in the slot, there is no holder
  is_in : (start : Start) (now : List Entry) (holder : Option ℕ) (x : R) (items : List R) (views : List SlotView) → Where start now holder (x ∷ items) views
      → (holder ≡ None) × (items ≡ []) × (journal x ≡ now) × (begins x ≡ start)
  is_in start now None x items views w = let e : x ≡ w.0 = cc in (refl, cc, ap journal e ∙ w.2, ap begins e ∙ w.3)
  is_in start now (Some h) x items views w = cc

  pub starts : Rule [] (newcomer ∷ [])
  starts = rules_at 1 newcomer.start [] [] (Some 0) [] (newcomer ∷ []) refl (refl, (newcomer, refl, refl)) (λ k h. absurd (omega arith)) (λ k h. refl) one
    where
      one : All (Fits 1 newcomer.start [] [] (Some 0)) (newcomer ∷ [])
      one zero v e = subst (Fits 1 newcomer.start [] [] (Some 0) 0) (some-injective _ _ e) (
        (λ _. (refl, (λ n. absurd (n refl)), ([], refl), refl, (λ o. absurd (off o)))),
        (λ _. (refl, refl, refl, refl, (λ k lt. absurd (omega arith)))),
        (λ _. (refl, refl, refl)),
      )
      one (suc pass) v e = absurd (some-ne-none v (sym e))

  -- the first give
  pub opens : (n pass : ℕ) (x : R) → journal x ≡ [] → Pushes Rule n pass newcomer x (λ w. w ≡ opened_at (begins x))
  opens n pass x none items views _ h at =
      let w : SlotView = opened_at (begins x) in
      let mine = h.4.3 pass newcomer at in
      let leads = mine.1 refl in
      let held = mine.2 refl in
      let passes : length views ≡ 1 = sym leads.2 in
      let empty : items ≡ [] = is_out h.0 h.1 h.3 items views pass held.0 h.4.0 in
      let known_none : [] ≡ h.2 = leads.3 in (
        w,
        rules_at (length views) (begins x) [] [] None (items ++ x ∷ []) (set views pass w) (sym (length-set views pass w))
            (x, ap (λ l. l ++ x ∷ []) empty, none, refl)
            (λ k lt. absurd (omega arith))
            (λ k le. refl)
            (all_set (Fits (length views) (begins x) [] [] None) views pass w (
              (λ _. (leads.0, (λ o. absurd (o refl)), ([], refl), refl, (λ _. refl))),
              (λ _. (leads.0, refl, leads.2, refl, (λ k lt. absurd (omega arith)))),
              (λ o. absurd (off o)),
            )
            (λ j u other e. absurd (other (let b = below views j u e in let z = leads.0 in omega arith)))),
        refl,
      )

  -- a give
  pub gives : (n pass : ℕ) (v : SlotView) (x : R) → v.holds ≡ true → v.opened ≡ true → begins x ≡ v.start → AddsOwn v.thread v.seen (journal x) → Pushes Rule n pass v x (λ w. w ≡ after_give v (journal x))
  gives n pass v x holds opened start own items views _ h at =
      let w : SlotView = after_give v (journal x) in
      let mine = h.4.3 pass v at in
      let held = mine.2 holds in
      let serves = mine.0 held.1 in
      let rows = own.0 in
      let now : List Entry = h.1 ++ rows in
      let is_now : journal x ≡ now = own.1 ∙ ap (λ l. l ++ rows) held.2 in
      let empty : items ≡ [] = is_out h.0 h.1 h.3 items views pass held.0 h.4.0 in
      let added : drop (length v.seen) (journal x) ≡ rows = ap (drop (length v.seen)) own.1 ∙ drop-append v.seen rows (length v.seen) refl in
      let inside : pass < length views = below views pass v at in (
        w,
        rules_at (length views) h.0 now h.2 None (items ++ x ∷ []) (set views pass w) (sym (length-set views pass w))
            (x, ap (λ l. l ++ x ∷ []) empty, is_now, start ∙ serves.4 opened)
            (λ k lt. h.4.1 k lt ∙ sym (unmoved (k + 1) v.thread h.1 rows (λ e. absurd (let s = serves.1 (λ z. absurd (omega arith)) in omega arith)) own.2))
            (λ k le. unmoved k v.thread h.1 rows (λ e. absurd (let z = serves.0 in omega arith)) own.2 ∙ h.4.2 k le)
            (all_set (Fits (length views) h.0 now h.2 None) views pass w (
              (λ _. (
                serves.0,
                serves.1,
                ([], sym is_now ∙ sym (append-nil (journal x))),
                moved v.thread h.1 rows own.2 ∙ ap (λ l. l ++ rows) serves.3 ∙ ap (λ l. v.wrote ++ l) (sym added),
                serves.4,
              )),
              (λ o. let f = mine.1 o in (f.0, f.1, f.2, f.3, seen_further h.1 rows v.viewed f.4)),
              (λ o. absurd (off o)),
            )
            (λ j u other e.
            let theirs = h.4.3 j u e in (
              (λ s.
                  let f = theirs.0 s in (
                    f.0,
                    f.1,
                    further h.1 rows u.seen f.2,
                    unmoved u.thread v.thread h.1 rows (λ same. other (f.0 ∙ same ∙ sym serves.0)) own.2 ∙ f.3,
                    f.4,
                  )),
              (λ o. let f = theirs.1 o in (f.0, f.1, f.2, f.3, seen_further h.1 rows u.viewed f.4)),
              (λ o. absurd (other (same_some j pass (sym (theirs.2 o).0 ∙ held.0)))),
            ))),
        refl,
      )
    where
      same_some : (a b : ℕ) → Some a ≡ Some b → a ≡ b
      same_some a b e = cc

  -- a take
  pub takes : (pass : ℕ) (v : SlotView) → v.serves ≡ true → v.opened ≡ true → Pops Rule pass v (λ x w. IsTaken v (journal x) (begins x) w)
  takes pass v serves opened x items views h at =
      let w : SlotView = after_take v (journal x) in
      let mine = h.4.3 pass v at in
      let here = mine.0 serves in
      let home = is_in h.0 h.1 h.3 x items views h.4.0 in (
        w,
        rules_at (length views) h.0 h.1 h.2 (Some pass) items (set views pass w) (sym (length-set views pass w))
            (home.1, (w, set_here views pass w (below views pass v at), refl))
            h.4.1
            h.4.2
            (all_set (Fits (length views) h.0 h.1 h.2 (Some pass)) views pass w (
              (λ _. (here.0, here.1, ([], sym home.2 ∙ sym (append-nil (journal x))), here.3, here.4)),
              mine.1,
              (λ _. (refl, serves, home.2)),
            )
            (λ j u other e. let theirs = h.4.3 j u e in (theirs.0, theirs.1, (λ o. absurd (none_some j (sym home.0 ∙ (theirs.2 o).0)))))),
        (refl, subst (λ l. StartsWith l v.seen) (sym home.2) here.2, ap (rows_of v.thread) home.2 ∙ here.3, home.3 ∙ sym (here.4 opened)),
      )
    where
      none_some : (a : ℕ) → None ≡ Some a → ⊥
      none_some a e = cc

  -- what another pass learns moves the value nowhere
  stays : (start : Start) (now : List Entry) (holder : Option ℕ) (items : List R) (views : List SlotView) (pass : ℕ) (v w : SlotView)
      → get_elem? views pass ≡ some v → v.holds ≡ false → Where start now holder items views → Where start now holder items (set views pass w)
  stays start now None items views pass v w at free h = h
  stays start now (Some g) items views pass v w at free h =
      (h.0, (h.1.0, set_else views pass g w (λ same. on_off h.1.0.holds h.1.2 (ap (λ (y : SlotView). y.holds) (same_view views pass h.1.0 v (subst (λ j. get_elem? views j ≡ some h.1.0) same h.1.1) at) ∙ free)) ∙ h.1.1, h.1.2))

  stays_longer : (start : Start) (now : List Entry) (holder : Option ℕ) (items : List R) (views : List SlotView) (w : SlotView)
      → Where start now holder items views → Where start now holder items (views ++ w ∷ [])
  stays_longer start now None items views w h = h
  stays_longer start now (Some g) items views w h = (h.0, (h.1.0, at_longer views (w ∷ []) g h.1.0 h.1.1, h.1.2))

  -- a split
  pub forks : (pass : ℕ) (v : SlotView) → v.leads ≡ true → v.opened ≡ true → v.holds ≡ false → v.ended ≡ [] → Forks Rule pass v (one_more v) (server v.made v.start)
  forks pass v leads opened free none items views h at =
      let left : SlotView = one_more v in
      let right : SlotView = server v.made v.start in
      let mine = h.4.3 pass v at in
      let here = mine.1 leads in
      let serves = mine.0 here.1 in
      let vs : List SlotView = set views pass left in
      let len : length vs ≡ length views = length-set views pass left in
      let no_ended : length h.2 ≡ 0 = ap length (sym here.3 ∙ none) in
      let F : ℕ → SlotView → Type 0 = Fits (length views + 1) h.0 h.1 h.2 h.3 in
      rules_at (length views + 1) h.0 h.1 h.2 h.3 items (vs ++ right ∷ []) (omega (arith, length-append vs (right ∷ []), len))
      (stays_longer h.0 h.1 h.3 items vs right (stays h.0 h.1 h.3 items views pass v left at free h.4.0))
      h.4.1
      (λ k le. h.4.2 k (omega arith))
      (all_snoc F vs right
      (all_set F views pass left
      (mine.0, (λ _. (here.0, here.1, ap (λ n. n + 1) here.2, here.3, here.4)), mine.2)
      (λ j u other e. let theirs = h.4.3 j u e in (theirs.0, (λ o. absurd (other ((theirs.1 o).0 ∙ sym here.0))), theirs.2))) (
        (λ _. (len ∙ sym here.2, (λ n. positive v.made (length h.2) n no_ended), (h.1, refl), h.4.2 v.made (let m = here.2 in omega arith), (λ _. serves.4 opened))),
        (λ o. absurd (off o)),
        (λ o. absurd (off o)),
      ))
    where
      positive : (a b : ℕ) → a ≢ 0 → b ≡ 0 → b < a
      positive a b n e = omega arith

  -- a join
  pub merges : (pass : ℕ) (v : SlotView) (other : ℕ) (u : SlotView) → v.leads ≡ true → v.holds ≡ false → u.serves ≡ true → u.holds ≡ false → u.thread ≡ length v.ended + 1
      → Merges Rule pass v other u (with_ended v u) nobody
  merges pass v other u leads free serves free' next items views h at apart at' =
      let both : SlotView = with_ended v u in
      let mine = h.4.3 pass v at in
      let here = mine.1 leads in
      let was : get_elem? views other ≡ some u = was_there views pass other both u apart at' in
      let theirs = (h.4.3 other u was).0 serves in
      let thread_is : u.thread ≡ length h.2 + 1 = next ∙ ap (λ l. length l + 1) here.3 in
      let ended : List (List Entry) = h.2 ++ u.wrote ∷ [] in
      let longer : length ended ≡ length h.2 + 1 = omega (arith, length-append h.2 (u.wrote ∷ [])) in
      let n : ℕ = length views in
      let vs : List SlotView = set views pass both in
      let F : ℕ → SlotView → Type 0 = Fits n h.0 h.1 ended h.3 in
      let G : ℕ → SlotView → Type 0 = λ j y. j ≢ other → F j y in
      let serves' = mine.0 here.1 in
      let now : All G vs =
      all_set G views pass both
      (λ _. ((λ s. (serves'.0, (λ z. absurd (z (sym serves'.0 ∙ here.0))), serves'.2, serves'.3, serves'.4)), (λ _. (here.0, here.1, here.2, ap (λ l. l ++ u.wrote ∷ []) here.3, seen_more h.1 u.seen v.viewed here.4 theirs.2)), (λ o. absurd (on_off v.holds o free))))
      (λ j y away e there.
      let f = h.4.3 j y e in (
        (λ s. let q = f.0 s in (q.0, (λ z. above_next (length h.2) (length ended) u.thread y.thread j other longer thread_is theirs.0 q.0 there (q.1 z)), q.2, q.3, q.4)),
        (λ o. absurd (away ((f.1 o).0 ∙ sym here.0))),
        f.2,
      )) in
      rules_at n h.0 h.1 ended h.3 items (set vs other nobody) (omega (arith, length-set vs other nobody, length-set views pass both))
      (stays h.0 h.1 h.3 items vs other u nobody at' free' (stays h.0 h.1 h.3 items views pass v both at free h.4.0))
      (settled_more h.2 u.wrote h.1 h.4.1 (ap (λ k. rows_of k h.1) (sym thread_is) ∙ theirs.3))
      h.4.2
      (all_set F vs other nobody ((λ o. absurd (off o)), (λ o. absurd (off o)), (λ o. absurd (off o))) (λ j y there e. now j y e there))
    where
      above_next : (a b thread thread' j other : ℕ) → b ≡ a + 1 → thread ≡ a + 1 → other ≡ thread → j ≡ thread' → j ≢ other → a < thread' → b < thread'
      above_next a b thread thread' j other p q r s ne lt = omega arith

  -- what a pass without the value learns of an empty slot
  pub away : (pass : ℕ) (v : SlotView) → v.serves ≡ true → v.holds ≡ false → Learns Rule pass v (λ items. length items ≡ 0 → IsAway v)
  away pass v serves free items views h at empty = by_holder h.0 h.1 h.3 items h.4.0 h.4.3 empty
    where
      by_holder : (start : Start) (now : List Entry) (holder : Option ℕ) (items : List R) → Where start now holder items views → All (Fits (length views) start now h.2 holder) views → length items ≡ 0 → IsAway v
      by_holder start now None items w fits none = absurd (let one : length items ≡ 1 = ap length w.1 in omega arith)
      by_holder start now (Some g) items w fits none =
          let mine = fits pass v at in
          let here = mine.0 serves in
          let theirs = fits g w.1.0 w.1.1 in
          let its = theirs.0 ((theirs.2 w.1.2).1) in
          let not_mine : g ≢ pass = λ same. on_off w.1.0.holds w.1.2 (ap (λ (y : SlotView). y.holds) (same_view views pass w.1.0 v (subst (λ j. get_elem? views j ≡ some w.1.0) same w.1.1) at) ∙ free) in (
            g,
            (λ same. not_mine (same ∙ sym here.0)),
            (λ leads. let b = below views g w.1.0 w.1.1 in let m = (mine.1 leads).2 in omega arith),
            (now, here.2, here.3),
          )

  -- what the holder learns: it can give
  pub empty : (pass : ℕ) (v : SlotView) → v.holds ≡ true → Learns Rule pass v (λ items. items ≡ [])
  empty pass v holds items views h at = is_out h.0 h.1 h.3 items views pass ((h.4.3 pass v at).2 holds).0 h.4.0

  -- what the leading pass learns once all others have ended
  pub there : (pass : ℕ) (v : SlotView) → v.leads ≡ true → v.holds ≡ false → v.made ≡ length v.ended + 1 → Learns Rule pass v (λ items. length items ≡ 1)
  there pass v leads free all items views h at = by_holder h.0 h.1 h.3 items h.4.0 h.4.3
    where
      first_only : (g pass thread ended ended' made passes : ℕ) → g ≡ thread → (thread ≢ 0 → ended < thread) → g < passes → ended ≡ ended' → made ≡ ended' + 1 → made ≡ passes → pass ≡ 0 → g ≡ pass
      first_only g pass thread ended ended' made passes a b c d e f z = grind arith

      by_holder : (start : Start) (now : List Entry) (holder : Option ℕ) (items : List R) → Where start now holder items views → All (Fits (length views) start now h.2 holder) views → length items ≡ 1
      by_holder start now None items w fits = ap length w.1
      by_holder start now (Some g) items w fits =
          let here = (h.4.3 pass v at).1 leads in
          let held = (fits g w.1.0 w.1.1).2 w.1.2 in
          let its = (fits g w.1.0 w.1.1).0 held.1 in
          let inside : g < length views = below views g w.1.0 w.1.1 in
          let known_is : length h.2 ≡ length v.ended = ap length (sym here.3) in
          let not_first : g ≢ pass = λ same. on_off w.1.0.holds w.1.2 (ap (λ (y : SlotView). y.holds) (same_view views pass w.1.0 v (subst (λ j. get_elem? views j ≡ some w.1.0) same w.1.1) at) ∙ free) in
          absurd (not_first (first_only g pass w.1.0.thread (length h.2) (length v.ended) v.made (length views) its.0 its.1 inside known_is all here.2 here.0))

  -- the take at the end
  pub closes : (pass : ℕ) (v : SlotView) → v.leads ≡ true → v.opened ≡ true → v.thread ≡ 0 → Pops Rule pass v (λ x w. IsLast v (journal x) (begins x))
  closes pass v leads opened first x items views h at =
      let here = (h.4.3 pass v at).1 leads in
      let home = is_in h.0 h.1 h.3 x items views h.4.0 in
      let t = takes pass v here.1 opened x items views h at in (
        t.0,
        t.1,
        (
          t.2.3,
          ap (λ k. rows_of k (journal x)) (sym first) ∙ t.2.2,
          (λ k lt. subst (λ (l : List (List Entry)). get_or l k [] ≡ rows_of (k + 1) (journal x)) (sym here.3) (h.4.1 k (subst (λ (l : List (List Entry)). k < length l) here.3 lt) ∙ ap (rows_of (k + 1)) (sym home.2))),
          (λ k le. ap (rows_of k) home.2 ∙ h.4.2 k (subst (λ n. n ≤ k) here.2 le)),
          subst (λ l. BeginsWithEach l (v.seen ∷ v.viewed)) (sym home.2) (seen_first h.1 v.seen v.viewed (subst (λ l. StartsWith l v.seen) home.2 t.2.1) here.4),
        ),
      )

  pub opens_as : (n pass : ℕ) (v : SlotView) (x : R) → v ≡ newcomer → journal x ≡ [] → Pushes Rule n pass v x (λ w. w ≡ opened_at (begins x))
  opens_as n pass v x is none = subst (λ (u : SlotView). Pushes Rule n pass u x (λ w. w ≡ opened_at (begins x))) (sym is) (opens n pass x none)
