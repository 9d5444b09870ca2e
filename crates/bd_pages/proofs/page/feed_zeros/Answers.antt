use Rattle.std.proofs.Common.{ℕ, List, ◌++◌, take, replicate, append_assoc, subst, ap, ◌∙◌, arith}
use Rattle.std.proofs.lemmas.List.{take-replicate, replicate-append-replicate}
use Rattle.sha2.specs.Hashers.{Holds256}
use Rattle.bd_pages.proofs.page.feed_zeros.Goals as goal

pub loop-done-preserved : goal.loop-done-preserved
loop-done-preserved c =
    let zeros : ℕ → List ℕ = λ n. replicate n 0 in
    let count : ℕ = c.least-count.result in (
      omega arith,
      λ m holds.
          subst (λ (xs : List ℕ). Holds256 c.update.new.self xs)
          (append_assoc m (zeros c.loop-done.done) (take count (zeros 1024))
          ∙ ap (λ (xs : List ℕ). m ++ (zeros c.loop-done.done ++ xs)) (take-replicate count 1024 0 (omega arith))
          ∙ ap (λ (xs : List ℕ). m ++ xs) (replicate-append-replicate c.loop-done.done count 0))
          (c.update.ensures (m ++ zeros c.loop-done.done) (c.loop-done.invariant.1 m holds)),
    )
