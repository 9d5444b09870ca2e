use Rattle.std.proofs.Common.{◌≡◌, ◌+◌, ◌*◌, ◌/◌, ◌%◌, ℕ, List, length, get_or, ap, sym, subst, ◌∙◌, arith}
use Rattle.bd_base.specs.Pattern.{pattern}
use Rattle.bd_pages.specs.Bytes.{written}
use Rattle.bd_pages.specs.Leaf.{Leaf}
use Rattle.bd_pages.specs.Table.{IsCut, flat, pieces}
use Rattle.bd_pages.proofs.Cuts.{cut_length}
use Rattle.bd_pages.proofs.Fills.{pattern_length, pattern_more}
use Rattle.bd_pages.proofs.Splices.{written_twice}
use Rattle.bd_pages.proofs.Steps.{map_stays, page_there, page_has, page_put, page_cut, page_within, taken_same}
use Rattle.bd_pages.proofs.table.fill_block.Goals as goal

pub bounds-pages-place : goal.bounds-pages-place
bounds-pages-place c = page_there (length (flat c.args.pages.now)) c.loop-done.pages (c.args.at + c.loop-done.done) c.reach-count.result c.loop-done.invariant.2 (omega arith) (omega arith)

pub fill-requires-clause-taken : goal.fill-requires-clause-taken
fill-requires-clause-taken c =
    let place : ℕ = c.args.at + c.loop-done.done in
    let d : Leaf = c.index-pages-place.result in
    let there = page_there (length (flat c.args.pages.now)) c.args.pages.now place c.reach-count.result c.requires.paged (omega arith) (omega arith) in
    taken_same c.args.pages.now c.loop-done.pages (place / 65536) d c.loop-done.invariant.3 there
    ∙ c.requires.ready (place / 65536) d (omega arith) (page_within c.args.at c.args.n (place / 65536) (omega arith) (omega arith))

pub fill-requires-clause-inside : goal.fill-requires-clause-inside
fill-requires-clause-inside c = page_has (length (flat c.args.pages.now)) c.loop-done.pages (c.args.at + c.loop-done.done) c.reach-count.result c.loop-done.invariant.2 (omega arith) (omega arith) (omega arith) c.index-pages-place.result

pub loop-done-preserved : goal.loop-done-preserved
loop-done-preserved c =
    let place : ℕ = c.args.at + c.loop-done.done in
    let len : ℕ = length (flat c.args.pages.now) in
    let count : ℕ = c.reach-count.result in
    let d : Leaf = c.index-pages-place.result in
    let other : ℕ = c.args.seed % 256 + 7 * (c.loop-done.done % 256) in
    let before : List ℕ = pattern c.args.seed c.args.block c.loop-done.done in
    let new : List ℕ = pattern other c.args.block count in
    let long : length new ≡ count = pattern_length other c.args.block count in
    let done : length before ≡ c.loop-done.done = pattern_length c.args.seed c.args.block c.loop-done.done in
    let wrote = ap (λ (p : Leaf). p.bytes) c.fill.ensures ∙ ap (λ (s : ℕ). written (place % 65536) (pattern s c.args.block count) (get_or c.loop-done.pages (place / 65536) d).bytes) c.shifted.ensures in (
      omega arith,
      page_put len c.loop-done.pages place count c.loop-done.invariant.2 (omega arith) (omega arith) (omega arith) d c.fill.new.self new long wrote
          ∙ ap (λ (xs : List ℕ). written place new xs) c.loop-done.invariant.1
          ∙ written_twice c.args.at place before new (flat c.args.pages.now) (omega arith) (omega (arith, done))
          ∙ ap (λ (xs : List ℕ). written c.args.at xs (flat c.args.pages.now)) (pattern_more c.args.seed c.args.block c.loop-done.done count (c.loop-done.done + count) (omega arith)),
      page_cut len c.loop-done.pages place count c.loop-done.invariant.2 (omega arith) (omega arith) (omega arith) d c.fill.new.self new long wrote,
      map_stays (λ (x : Leaf). x.taken) c.loop-done.pages (place / 65536) d c.fill.new.self (page_there len c.loop-done.pages place count c.loop-done.invariant.2 (omega arith) (omega arith)) (ap (λ (p : Leaf). p.taken) c.fill.ensures)
          ∙ c.loop-done.invariant.3,
    )

pub returns-clause-paged : goal.returns-clause-paged
returns-clause-paged c =
    let len : ℕ = length (flat c.args.pages.now) in
    subst (λ (n : ℕ). IsCut n (pieces c.loop-done.pages)) (sym (cut_length len (pieces c.loop-done.pages) c.loop-done.invariant.2)) c.loop-done.invariant.2
