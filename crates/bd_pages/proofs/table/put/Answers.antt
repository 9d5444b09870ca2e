use Rattle.std.proofs.Common.{◌≡◌, ◌+◌, ◌-◌, ◌/◌, ◌++◌, ℕ, List, length, take, drop, ap, sym, ◌∙◌, arith}
use Rattle.std.proofs.lemmas.List.{length-take, length-take-le, length-drop}
use Rattle.bd_pages.specs.Bytes.{written}
use Rattle.bd_pages.specs.Leaf.{Leaf}
use Rattle.bd_pages.specs.Table.{flat}
use Rattle.bd_pages.proofs.Splices.{take_more, written_twice}
use Rattle.bd_pages.proofs.Steps.{map_stays, page_there, page_has, page_put, page_cut, page_within, taken_same}
use Rattle.bd_pages.proofs.table.put.Goals as goal

pub bounds-pages-place : goal.bounds-pages-place
bounds-pages-place c = page_there (length (flat c.args.pages.now)) c.loop-done.pages (c.args.at + c.loop-done.done) c.reach-count.result c.loop-done.invariant.2 (omega arith) (omega arith)

pub put-requires-clause-taken : goal.put-requires-clause-taken
put-requires-clause-taken c =
    let place : ℕ = c.args.at + c.loop-done.done in
    let d : Leaf = c.index-pages-place.result in
    let there = page_there (length (flat c.args.pages.now)) c.args.pages.now place c.reach-count.result c.requires.paged (omega arith) (omega arith) in
    taken_same c.args.pages.now c.loop-done.pages (place / 65536) d c.loop-done.invariant.3 there
    ∙ c.requires.ready (place / 65536) d (omega arith) (page_within c.args.at (length c.args.bytes.now) (place / 65536) (omega arith) (omega arith))

pub put-requires-clause-inside : goal.put-requires-clause-inside
put-requires-clause-inside c =
    let has = page_has (length (flat c.args.pages.now)) c.loop-done.pages (c.args.at + c.loop-done.done) c.reach-count.result c.loop-done.invariant.2 (omega arith) (omega arith) (omega arith) c.index-pages-place.result in
    let same : length (take (c.loop-done.done + c.reach-count.result - c.loop-done.done) (drop c.loop-done.done c.args.bytes.now)) ≡ c.reach-count.result = omega (arith, length-take (c.loop-done.done + c.reach-count.result - c.loop-done.done) (drop c.loop-done.done c.args.bytes.now), length-drop c.loop-done.done c.args.bytes.now) in
    omega (arith, has, same)

pub loop-done-preserved : goal.loop-done-preserved
loop-done-preserved c =
    let place : ℕ = c.args.at + c.loop-done.done in
    let len : ℕ = length (flat c.args.pages.now) in
    let count : ℕ = c.reach-count.result in
    let d : Leaf = c.index-pages-place.result in
    let bytes : List ℕ = c.args.bytes.now in
    let new : List ℕ = take (c.loop-done.done + count - c.loop-done.done) (drop c.loop-done.done bytes) in
    let long : length new ≡ count = omega (arith, length-take (c.loop-done.done + count - c.loop-done.done) (drop c.loop-done.done bytes), length-drop c.loop-done.done bytes) in
    let done : length (take c.loop-done.done bytes) ≡ c.loop-done.done = length-take-le c.loop-done.done bytes (omega arith) in
    let width : c.loop-done.done + count - c.loop-done.done ≡ count = omega arith in
    let wrote = ap (λ (p : Leaf). p.bytes) c.put.ensures in (
      omega arith,
      page_put len c.loop-done.pages place count c.loop-done.invariant.2 (omega arith) (omega arith) (omega arith) d c.put.new.self new long wrote
          ∙ ap (λ (xs : List ℕ). written place new xs) c.loop-done.invariant.1
          ∙ written_twice c.args.at place (take c.loop-done.done bytes) new (flat c.args.pages.now) (omega arith) (omega (arith, done))
          ∙ ap (λ (xs : List ℕ). written c.args.at xs (flat c.args.pages.now)) (ap (λ (m : ℕ). take c.loop-done.done bytes ++ take m (drop c.loop-done.done bytes)) width ∙ sym (take_more c.loop-done.done count bytes)),
      page_cut len c.loop-done.pages place count c.loop-done.invariant.2 (omega arith) (omega arith) (omega arith) d c.put.new.self new long wrote,
      map_stays (λ (x : Leaf). x.taken) c.loop-done.pages (place / 65536) d c.put.new.self (page_there len c.loop-done.pages place count c.loop-done.invariant.2 (omega arith) (omega arith)) (ap (λ (p : Leaf). p.taken) c.put.ensures)
          ∙ c.loop-done.invariant.3,
    )
