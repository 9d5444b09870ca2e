use Rattle.std.proofs.Common.{◌*◌, ◌/◌, ◌<◌, ℕ, List, length, set, refl, ap, sym, subst, arith}
use Rattle.std.proofs.Math.Nat.{mul-le-mul_right}
use Rattle.bd_pages.specs.Fills.{patterns}
use Rattle.bd_pages.specs.Leaf.{Leaf}
use Rattle.bd_pages.specs.Table.{IsCut, flat, pieces}
use Rattle.bd_pages.proofs.Cuts.{cut_length}
use Rattle.bd_pages.proofs.Fills.{patterns_length, range_taken}
use Rattle.bd_pages.proofs.Steps.{map_stays, page_there, page_has, page_put, page_cut, page_within}
use Rattle.bd_pages.proofs.table.fill_some.Goals as goal

pub fill_block-requires-clause-ready : goal.fill_block-requires-clause-ready
fill_block-requires-clause-ready c =
    let size : ℕ = c.args.span.size in
    let one = mul-le-mul_right {m = 1} {n = c.args.span.count} size (omega arith) in
    range_taken c.args.span.at (c.args.span.count * size) c.args.span.at size c.args.pages.now c.args.pages.now (omega arith) (omega (arith, one)) c.requires.paged (omega arith) refl c.requires.ready

pub bounds-pages-span : goal.bounds-pages-span
bounds-pages-span c =
    let count : ℕ = c.whole_blocks-count.result in
    let some : 0 < count * c.args.span.size = c.whole_blocks-count.ensures.some (omega arith) in
    let few = mul-le-mul_right {m = count} {n = c.args.span.count} c.args.span.size c.whole_blocks-count.ensures.most in
    page_there (length (flat c.args.pages.now)) c.args.pages.now c.args.span.at (count * c.args.span.size) c.requires.paged (omega (arith, few)) some

pub fill_blocks-requires-clause-taken : goal.fill_blocks-requires-clause-taken
fill_blocks-requires-clause-taken c =
    let all : ℕ = c.args.span.count * c.args.span.size in
    let count : ℕ = c.whole_blocks-count.result in
    let some : 0 < count * c.args.span.size = c.whole_blocks-count.ensures.some (omega arith) in
    let few = mul-le-mul_right {m = count} {n = c.args.span.count} c.args.span.size c.whole_blocks-count.ensures.most in
    c.requires.ready (c.args.span.at / 65536) c.index-pages-span.result (omega arith) (page_within c.args.span.at all (c.args.span.at / 65536) (omega (arith, few, some)) (omega (arith, few, some)))

pub fill_blocks-requires-clause-inside : goal.fill_blocks-requires-clause-inside
fill_blocks-requires-clause-inside c =
    let count : ℕ = c.whole_blocks-count.result in
    let some : 0 < count * c.args.span.size = c.whole_blocks-count.ensures.some (omega arith) in
    let few = mul-le-mul_right {m = count} {n = c.args.span.count} c.args.span.size c.whole_blocks-count.ensures.most in
    page_has (length (flat c.args.pages.now)) c.args.pages.now c.args.span.at (count * c.args.span.size) c.requires.paged (omega (arith, few)) some c.whole_blocks-count.ensures.near c.index-pages-span.result

pub returns-clause-bytes : goal.returns-clause-bytes
returns-clause-bytes c =
    let size : ℕ = c.args.span.size in
    let count : ℕ = c.whole_blocks-count.result in
    let some : 0 < count * size = c.whole_blocks-count.ensures.some (omega arith) in
    let few = mul-le-mul_right {m = count} {n = c.args.span.count} size c.whole_blocks-count.ensures.most in
    let new : List ℕ = patterns c.args.seed c.args.number size count in
    page_put (length (flat c.args.pages.now)) c.args.pages.now c.args.span.at (count * size) c.requires.paged (omega (arith, few)) some c.whole_blocks-count.ensures.near c.index-pages-span.result
    c.fill_blocks.new.self new (patterns_length c.args.seed c.args.number size count) (ap (λ (p : Leaf). p.bytes) c.fill_blocks.ensures)

pub returns-clause-paged : goal.returns-clause-paged
returns-clause-paged c =
    let size : ℕ = c.args.span.size in
    let count : ℕ = c.whole_blocks-count.result in
    let some : 0 < count * size = c.whole_blocks-count.ensures.some (omega arith) in
    let few = mul-le-mul_right {m = count} {n = c.args.span.count} size c.whole_blocks-count.ensures.most in
    let new : List ℕ = patterns c.args.seed c.args.number size count in
    let len : ℕ = length (flat c.args.pages.now) in
    let cut = page_cut len c.args.pages.now c.args.span.at (count * size) c.requires.paged (omega (arith, few)) some c.whole_blocks-count.ensures.near c.index-pages-span.result
    c.fill_blocks.new.self new (patterns_length c.args.seed c.args.number size count) (ap (λ (p : Leaf). p.bytes) c.fill_blocks.ensures) in
    subst (λ (n : ℕ). IsCut n (pieces (set c.args.pages.now (c.args.span.at / 65536) c.fill_blocks.new.self))) (sym (cut_length len (pieces (set c.args.pages.now (c.args.span.at / 65536) c.fill_blocks.new.self)) cut)) cut

pub returns-clause-taken : goal.returns-clause-taken
returns-clause-taken c =
    let size : ℕ = c.args.span.size in
    let count : ℕ = c.whole_blocks-count.result in
    let some : 0 < count * size = c.whole_blocks-count.ensures.some (omega arith) in
    let few = mul-le-mul_right {m = count} {n = c.args.span.count} size c.whole_blocks-count.ensures.most in
    let there = page_there (length (flat c.args.pages.now)) c.args.pages.now c.args.span.at (count * size) c.requires.paged (omega (arith, few)) some in
    map_stays (λ (x : Leaf). x.taken) c.args.pages.now (c.args.span.at / 65536) c.index-pages-span.result c.fill_blocks.new.self there (ap (λ (p : Leaf). p.taken) c.fill_blocks.ensures)
