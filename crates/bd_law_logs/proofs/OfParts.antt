-- The merge of parts, one for each thread, is the merge of the logs.
use Rattle.std.proofs.Common.{◌≡◌, ℕ, zero, suc, ◌<◌, ◌≤◌, ◌⊎◌, inl, inr, List, [], ◌∷◌, length, get_or, Contains, refl, sym, ◌∙◌, ap, subst, arith}
use Rattle.std.specs.List.{AllByRecursion}
use Rattle.std.proofs.lemmas.Bool.{cases_lt}
use Rattle.bd_base.specs.declared.act.Entry.{Entry}
use Rattle.bd_log.specs.Merge.{Part, threads_of, entries_of, IsMerge}
use Rattle.bd_log.proofs.Order.{all_map}
use Rattle.bd_law_logs.specs.Rows.{Row, entries}
use Rattle.bd_law_logs.specs.Laws.{ArePartsOf, MergeOfParts}
use Rattle.bd_law_logs.proofs.Merged.{thread_in}
use Rattle.bd_law_logs.proofs.Parts.{mine-other}

none_mine : (t : ℕ) (es : List Entry) → AllByRecursion (λ e. e.thread ≡ t → ⊥) es → entries_of t es ≡ []
none_mine t [] h = refl
none_mine t (e ∷ es) h = mine-other thread_in t e es h.0 ∙ none_mine t es h.1

len_threads : (parts : List Part) → length (threads_of parts) ≡ length parts
len_threads [] = refl
len_threads (p ∷ ps) = ap (λ (n : ℕ). suc n) (len_threads ps)

thread_at : (parts : List Part) (k : ℕ) (d : Part) (e : ℕ) → k < length parts → get_or (threads_of parts) k e ≡ (get_or parts k d).thread
thread_at [] k d e lt = absurd (omega arith)
thread_at (p ∷ ps) zero d e lt = refl
thread_at (p ∷ ps) (suc k) d e lt = let lt' : k < length ps = omega arith in thread_at ps k d e lt'

module _ (threads : ℕ) (logs : ℕ → List Row) (parts : List Part) (merged : List Entry) (are : ArePartsOf threads logs parts) (m : IsMerge parts merged) where
  blank : Part
  blank = record { thread = 0; entries = [] }

  below : (t : ℕ) → Contains (threads_of parts) t → t < threads
  below t c =
      let lt : c.0 < length parts = subst (λ (n : ℕ). c.0 < n) (len_threads parts) c.1 in
      let in_threads : c.0 < threads = subst (λ (n : ℕ). c.0 < n) are.len lt in
      let same : c.0 ≡ t = sym (ap (λ (p : Part). p.thread) (are.each c.0 blank in_threads)) ∙ sym (thread_at parts c.0 blank t lt) ∙ c.2 in
      subst (λ (n : ℕ). n < threads) same in_threads

  part_is : (t : ℕ) → (t < threads) ⊎ (threads ≤ t) → entries_of t merged ≡ entries (logs t)
  part_is t (inl lt) =
      let lt' : t < length parts = subst (λ (n : ℕ). t < n) (sym are.len) lt in
      subst (λ (p : Part). entries_of p.thread merged ≡ p.entries) (are.each t blank lt) (m.own t blank lt')
  part_is t (inr ge) =
      none_mine t merged (all_map (λ x. Contains (threads_of parts) x.thread) (λ x. x.thread ≡ t → ⊥) merged (λ x c e. not_below t ge (subst (λ (n : ℕ). n < threads) e (below x.thread c))) m.known)
      ∙ sym (ap entries (are.none_else t ge))
    where
      not_below : (t : ℕ) → threads ≤ t → t < threads → ⊥
      not_below t ge lt = omega arith

pub merge_of_parts : MergeOfParts
merge_of_parts threads logs parts merged are m = record { ordered = m.ordered; parts = λ t. part_is threads logs parts merged are m t (cases_lt t threads) }
