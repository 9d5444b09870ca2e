use Rattle.std.proofs.Common.{◌+◌, ◌%◌, ◌≤◌, ◌++◌, ℕ, List, length, take, drop, append_assoc, ap, subst, sym, ◌∙◌, arith}
use Rattle.std.proofs.lemmas.List.{drop-drop}
use Rattle.bd_pages.specs.Leaf.{Leaf}
use Rattle.bd_pages.specs.Table.{flat}
use Rattle.bd_pages.proofs.Splices.{take_more}
use Rattle.bd_pages.proofs.Steps.{page_there, page_has, page_reads}
use Rattle.bd_pages.proofs.table.read.Goals as goal

pub bounds-pages-place : goal.bounds-pages-place
bounds-pages-place c = page_there (length (flat c.args.pages.now)) c.args.pages.now (c.args.at + c.loop-done.done) c.reach-count.result c.requires.paged (omega arith) (omega arith)

pub read-requires : goal.read-requires
read-requires c =
    let place : ℕ = c.args.at + c.loop-done.done in
    subst (λ (p : Leaf). place % 65536 + c.reach-count.result ≤ length p.bytes) (sym c.index-pages-place.is)
    (page_has (length (flat c.args.pages.now)) c.args.pages.now place c.reach-count.result c.requires.paged (omega arith) (omega arith) (omega arith) c.index-pages-place.result)

pub loop-done-preserved : goal.loop-done-preserved
loop-done-preserved c =
    let place : ℕ = c.args.at + c.loop-done.done in
    let all : List ℕ = flat c.args.pages.now in
    let reads = page_reads (length all) c.args.pages.now place c.reach-count.result c.requires.paged (omega arith) (omega arith) (omega arith) c.index-pages-place.result in
    let more = take_more c.loop-done.done c.reach-count.result (drop c.args.at all) in (
      omega arith,
      c.in_ok-read.ensures
          ∙ ap (λ (xs : List ℕ). xs ++ take c.reach-count.result (drop (place % 65536) c.index-pages-place.result.bytes)) c.loop-done.invariant.1
          ∙ ap (λ (p : Leaf). (c.args.to.now.items ++ take c.loop-done.done (drop c.args.at all)) ++ take c.reach-count.result (drop (place % 65536) p.bytes)) c.index-pages-place.is
          ∙ ap (λ (xs : List ℕ). (c.args.to.now.items ++ take c.loop-done.done (drop c.args.at all)) ++ xs) (sym reads ∙ ap (λ (xs : List ℕ). take c.reach-count.result xs) (sym (drop-drop c.loop-done.done c.args.at all)))
          ∙ append_assoc c.args.to.now.items (take c.loop-done.done (drop c.args.at all)) (take c.reach-count.result (drop c.loop-done.done (drop c.args.at all)))
          ∙ ap (λ (xs : List ℕ). c.args.to.now.items ++ xs) (sym more),
    )
