use Rattle.std.proofs.Common.{◌+◌, ◌*◌, ◌≤◌, ℕ, List, length, replicate, ap, subst, sym, ◌∙◌, arith}
use Rattle.std.proofs.lemmas.List.{length-replicate}
use Rattle.bd_pages.specs.Leaf.{Leaf}
use Rattle.bd_pages.specs.Bytes.{written}
use Rattle.bd_pages.specs.Pages.{IsWhole, blocks_of}
use Rattle.bd_pages.specs.Table.{flat}
use Rattle.bd_pages.proofs.Splices.{length_written}
use Rattle.bd_pages.proofs.Ranges.{changed, range_inside, range_small, range_zeroed}
use Rattle.bd_pages.proofs.pages.Pages.zero.Goals as goal

pub overflow_mul-lba : goal.overflow_mul-lba
overflow_mul-lba c = let small = range_small c.self.inside.size c.self.inside.count c.args.lba c.args.count c.self.inside.pages.items c.args.self.now c.self.view_is c.self.invariant c.requires in omega (arith, small)

pub overflow_mul-count : goal.overflow_mul-count
overflow_mul-count c = let small = range_small c.self.inside.size c.self.inside.count c.args.lba c.args.count c.self.inside.pages.items c.args.self.now c.self.view_is c.self.invariant c.requires in omega (arith, small)

pub clear-requires-clause-inside : goal.clear-requires-clause-inside
clear-requires-clause-inside c =
    subst (λ (pages : List Leaf). c.args.lba * c.self.inside.size + c.args.count * c.self.inside.size ≤ length (flat pages)) (sym c.as_mut_slice.ensures.value)
    (range_inside c.self.inside.size c.self.inside.count c.args.lba c.args.count c.self.inside.pages.items c.args.self.now c.self.view_is c.self.invariant c.requires)

pub clear-requires-clause-small : goal.clear-requires-clause-small
clear-requires-clause-small c = range_small c.self.inside.size c.self.inside.count c.args.lba c.args.count c.self.inside.pages.items c.args.self.now c.self.view_is c.self.invariant c.requires

pub invariant_of-self : goal.invariant_of-self
invariant_of-self c =
    let size : ℕ = c.self.inside.size in
    let old : List Leaf = c.self.inside.pages.items in
    let zeros : List ℕ = replicate (c.args.count * size) 0 in
    let same = changed c.self.inside.pages.len c.clear.new.pages old (omega arith) in
    let inside = range_inside size c.self.inside.count c.args.lba c.args.count old c.args.self.now c.self.view_is c.self.invariant c.requires in
    let wrote = c.clear.ensures.bytes ∙ ap (λ (pages : List Leaf). written (c.args.lba * size) zeros (flat pages)) c.as_mut_slice.ensures.value in
    subst (IsWhole size c.self.inside.count) (sym same) (record {
      paged = c.clear.ensures.paged;
      all = ap length wrote ∙ length_written (c.args.lba * size) zeros (flat old) (omega (arith, inside, length-replicate {A = ℕ} (c.args.count * size) 0)) ∙ c.self.invariant.all;
      small = c.self.invariant.small;
    })

pub returns-clause-blocks : goal.returns-clause-blocks
returns-clause-blocks c =
    let size : ℕ = c.self.inside.size in
    let old : List Leaf = c.self.inside.pages.items in
    let blocks : List ℕ → List (List ℕ) = λ b. blocks_of size c.self.inside.count b in
    let zeros : List ℕ = replicate (c.args.count * size) 0 in
    let same = changed c.self.inside.pages.len c.clear.new.pages old (omega arith) in
    ap blocks (ap flat same ∙ c.clear.ensures.bytes)
    ∙ ap (λ (pages : List Leaf). blocks (written (c.args.lba * size) zeros (flat pages))) c.as_mut_slice.ensures.value
    ∙ range_zeroed size c.self.inside.count c.args.lba c.args.count old c.args.self.now c.self.view_is c.self.invariant c.requires
