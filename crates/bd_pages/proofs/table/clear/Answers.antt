use Rattle.std.proofs.Common.{◌≡◌, ◌+◌, ◌/◌, ℕ, List, length, replicate, ap, ◌∙◌, arith}
use Rattle.std.proofs.lemmas.List.{length-replicate, replicate-append-replicate}
use Rattle.bd_pages.specs.Bytes.{written}
use Rattle.bd_pages.specs.Leaf.{Leaf}
use Rattle.bd_pages.specs.Table.{flat}
use Rattle.bd_pages.proofs.Splices.{written_twice}
use Rattle.bd_pages.proofs.Steps.{map_stays, page_there, page_has, page_put, page_cut}
use Rattle.bd_pages.proofs.table.clear.Goals as goal

pub bounds-pages-place : goal.bounds-pages-place
bounds-pages-place c = page_there (length (flat c.args.pages.now)) c.loop-done.pages (c.args.at + c.loop-done.done) c.reach-count.result c.loop-done.invariant.2 (omega arith) (omega arith)

pub clear-requires : goal.clear-requires
clear-requires c = page_has (length (flat c.args.pages.now)) c.loop-done.pages (c.args.at + c.loop-done.done) c.reach-count.result c.loop-done.invariant.2 (omega arith) (omega arith) (omega arith) c.index-pages-place.result

pub loop-done-preserved : goal.loop-done-preserved
loop-done-preserved c =
    let place : ℕ = c.args.at + c.loop-done.done in
    let len : ℕ = length (flat c.args.pages.now) in
    let count : ℕ = c.reach-count.result in
    let d : Leaf = c.index-pages-place.result in
    let zeros : ℕ → List ℕ = λ n. replicate n 0 in
    let long : length (zeros count) ≡ count = length-replicate count 0 in
    let done : length (zeros c.loop-done.done) ≡ c.loop-done.done = length-replicate c.loop-done.done 0 in
    let wrote = ap (λ (p : Leaf). p.bytes) c.clear.ensures in (
      omega arith,
      page_put len c.loop-done.pages place count c.loop-done.invariant.2 (omega arith) (omega arith) (omega arith) d c.clear.new.self (zeros count) long wrote
          ∙ ap (λ (xs : List ℕ). written place (zeros count) xs) c.loop-done.invariant.1
          ∙ written_twice c.args.at place (zeros c.loop-done.done) (zeros count) (flat c.args.pages.now) (omega arith) (omega (arith, done))
          ∙ ap (λ (xs : List ℕ). written c.args.at xs (flat c.args.pages.now)) (replicate-append-replicate c.loop-done.done count 0),
      page_cut len c.loop-done.pages place count c.loop-done.invariant.2 (omega arith) (omega arith) (omega arith) d c.clear.new.self (zeros count) long wrote,
      map_stays (λ (x : Leaf). x.taken) c.loop-done.pages (place / 65536) d c.clear.new.self (page_there len c.loop-done.pages place count c.loop-done.invariant.2 (omega arith) (omega arith)) (ap (λ (p : Leaf). p.taken) c.clear.ensures)
          ∙ c.loop-done.invariant.3,
    )
