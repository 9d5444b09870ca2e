use Rattle.std.proofs.Common.{◌≡◌, ℕ, ◌+◌, ◌≤◌, false, List, length, take, drop, refl, ap, sym, ◌∙◌, arith}
use Rattle.bd_base.specs.declared.request.Fill.{Fill}
use Rattle.bd_pages.specs.Bytes.{written}
use Rattle.bd_pages.specs.Fills.{filled}
use Rattle.bd_pages.proofs.Splices.{length_written}
use Rattle.bd_volume.proofs.Orders.{as_written}
use Rattle.bd_volume.proofs.Steps.{filled_step}
use Rattle.bd_volume.proofs.Zeros.{filled_count, range_length}
use Rattle.bd_volume.proofs.volume.Volume.fill_each.Goals as goal

pub overflow_add-lba : goal.overflow_add-lba
overflow_add-lba c = omega (arith, c.requires.inside, c.len-len.ensures, c.len-len.type_inv, c.loop-done.invariant.1)

pub overflow_add-lba-in-loop-done : goal.overflow_add-lba-in-loop-done
overflow_add-lba-in-loop-done c = omega (arith, c.requires.inside, c.len-len.ensures, c.len-len.type_inv, c.loop-done.invariant.1)

pub loop-done-init : goal.loop-done-init
loop-done-init c =
    let old : List (List ℕ) = c.args.self.now.blocks in
    let lba : ℕ = c.args.lba in
    let done : ℕ = c.near-done.result in
    let part : List (List ℕ) = take done (drop lba old) in
    let inside : lba + done ≤ length old = omega (arith, c.requires.inside, c.near-done.ensures.most) in
    let long : length (filled c.args.fill c.args.number part) ≡ done = filled_count c.args.fill c.args.number part ∙ range_length lba done old inside in (
      c.near-done.ensures.some c.requires.some,
      c.near-done.ensures.most,
      c.in_ok-fill_one.ensures.cluster,
      c.in_ok-fill_one.ensures.ok ∙ as_written lba done (filled c.args.fill c.args.number part) old long,
    )

pub fill_one-requires-in-loop-done-clause-inside : goal.fill_one-requires-in-loop-done-clause-inside
fill_one-requires-in-loop-done-clause-inside c =
    let old : List (List ℕ) = c.args.self.now.blocks in
    let lba : ℕ = c.args.lba in
    let done : ℕ = c.loop-done.done in
    let part : List (List ℕ) = take done (drop lba old) in
    let inside : lba + done ≤ length old = omega (arith, c.requires.inside, c.loop-done.invariant.1) in
    let long : length (filled c.args.fill c.args.number part) ≡ done = filled_count c.args.fill c.args.number part ∙ range_length lba done old inside in
    let same : length c.loop-done.self.blocks ≡ length old = ap length c.loop-done.invariant.3 ∙ length_written lba (filled c.args.fill c.args.number part) old (omega (arith, inside, long)) in
    omega (arith, c.requires.inside, c.near-some.ensures.most, c.loop-done.invariant.1, same)

pub loop-done-preserved : goal.loop-done-preserved
loop-done-preserved c =
    let old : List (List ℕ) = c.args.self.now.blocks in
    let rest : Fill = record { seed = c.args.fill.seed; flip = false } in
    let inside : c.args.lba + c.loop-done.done + c.near-some.result ≤ length old = omega (arith, c.requires.inside, c.near-some.ensures.most, c.loop-done.invariant.1) in (
      omega (arith, c.loop-done.invariant.0),
      omega (arith, c.near-some.ensures.most, c.loop-done.invariant.1),
      c.in_ok-fill_one-2.ensures.cluster ∙ c.loop-done.invariant.2,
      c.in_ok-fill_one-2.ensures.ok ∙ filled_step c.args.lba c.loop-done.done c.near-some.result old c.loop-done.self.blocks inside c.args.fill rest c.args.number refl c.loop-done.invariant.0 c.loop-done.invariant.3,
    )

pub returns-clause-ok : goal.returns-clause-ok
returns-clause-ok c =
    let old : List (List ℕ) = c.args.self.now.blocks in
    let lba : ℕ = c.args.lba in
    let n : ℕ = c.args.count in
    let part : List (List ℕ) = take n (drop lba old) in
    let all : c.loop-done.done ≡ n = omega (arith, c.loop-done.invariant.1, c.loop-done-test.false) in
    let long : length (filled c.args.fill c.args.number part) ≡ n = filled_count c.args.fill c.args.number part ∙ range_length lba n old c.requires.inside in
    c.loop-done.invariant.3
    ∙ ap (λ (k : ℕ). written lba (filled c.args.fill c.args.number (take k (drop lba old))) old) all
    ∙ sym (as_written lba n (filled c.args.fill c.args.number part) old long)
