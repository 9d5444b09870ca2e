use Rattle.std.proofs.Common.{◌≡◌, ◌+◌, ◌*◌, ◌-◌, ℕ, List, length, ap, sym, subst, ◌∙◌, arith}
use Rattle.std.proofs.Math.Nat.{mul-le-mul_right}
use Rattle.bd_pages.specs.Bytes.{written}
use Rattle.bd_pages.specs.Fills.{patterns}
use Rattle.bd_pages.specs.Table.{IsCut, flat, pieces}
use Rattle.bd_pages.proofs.Cuts.{cut_length}
use Rattle.bd_pages.proofs.Fills.{patterns_both, patterns_length, range_taken, span_parts}
use Rattle.bd_pages.proofs.Splices.{length_written, written_twice}
use Rattle.bd_pages.proofs.table.fill_blocks.Goals as goal

pub fill_some-done-requires-clause-paged : goal.fill_some-done-requires-clause-paged
fill_some-done-requires-clause-paged c =
    let len : ℕ = length (flat c.args.pages.now) in
    subst (λ (n : ℕ). IsCut n (pieces c.loop-done.pages)) (sym (cut_length len (pieces c.loop-done.pages) c.loop-done.invariant.2)) c.loop-done.invariant.2

pub fill_some-done-requires-clause-inside : goal.fill_some-done-requires-clause-inside
fill_some-done-requires-clause-inside c =
    let len : ℕ = length (flat c.args.pages.now) in
    let parts = span_parts c.loop-done.done c.args.span.count c.args.span.size c.loop-done.invariant.0 in
    let same = cut_length len (pieces c.loop-done.pages) c.loop-done.invariant.2 in
    omega (arith, parts, same)

pub fill_some-done-requires-clause-ready : goal.fill_some-done-requires-clause-ready
fill_some-done-requires-clause-ready c =
    let size : ℕ = c.args.span.size in
    let done : ℕ = c.loop-done.done in
    let left : ℕ = (c.args.span.count - done) * size in
    let parts = span_parts done c.args.span.count size c.loop-done.invariant.0 in
    range_taken c.args.span.at (c.args.span.count * size) (c.args.span.at + done * size) left c.args.pages.now c.loop-done.pages (omega arith) (omega (arith, parts)) c.requires.paged (omega arith) c.loop-done.invariant.3 c.requires.ready

pub loop-done-preserved : goal.loop-done-preserved
loop-done-preserved c =
    let old : List ℕ = flat c.args.pages.now in
    let at : ℕ = c.args.span.at in
    let size : ℕ = c.args.span.size in
    let done : ℕ = c.loop-done.done in
    let some : ℕ = c.fill_some-done.result in
    let new : List ℕ = patterns c.args.seed (c.args.number + done) size some in
    let before : List ℕ = patterns c.args.seed c.args.number size done in
    let all : List ℕ = patterns c.args.seed c.args.number size (done + some) in
    let first = patterns_length c.args.seed c.args.number size done in
    let long = patterns_length c.args.seed c.args.number size (done + some) in
    let few = mul-le-mul_right {m = done + some} {n = c.args.span.count} size (omega (arith, c.fill_some-done.ensures.most)) in
    let wrote : flat c.fill_some-done.new.pages ≡ written at all old =
    c.fill_some-done.ensures.bytes
    ∙ ap (λ (xs : List ℕ). written (at + done * size) new xs) c.loop-done.invariant.1
    ∙ written_twice at (at + done * size) before new old (omega arith) (omega (arith, first))
    ∙ ap (λ (xs : List ℕ). written at xs old) (patterns_both c.args.seed c.args.number size done some) in (
      omega (arith, c.fill_some-done.ensures.most),
      wrote,
      subst (λ (n : ℕ). IsCut n (pieces c.fill_some-done.new.pages)) (ap length wrote ∙ length_written at all old (omega (arith, long, few))) c.fill_some-done.ensures.paged,
      c.fill_some-done.ensures.taken ∙ c.loop-done.invariant.3,
    )

pub returns-clause-paged : goal.returns-clause-paged
returns-clause-paged c =
    let len : ℕ = length (flat c.args.pages.now) in
    subst (λ (n : ℕ). IsCut n (pieces c.loop-done.pages)) (sym (cut_length len (pieces c.loop-done.pages) c.loop-done.invariant.2)) c.loop-done.invariant.2
