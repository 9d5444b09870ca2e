use Rattle.std.proofs.Common.{◌≡◌, ◌+◌, ◌*◌, ◌≤◌, ℕ, List, length, ap, subst, sym, ◌∙◌, arith}
use Rattle.std.proofs.lemmas.Result.{on_ok_weaker}
use Rattle.bd_pages.specs.Leaf.{Leaf}
use Rattle.bd_pages.specs.Bytes.{written}
use Rattle.bd_pages.specs.Pages.{IsWhole, Paged, blocks_of}
use Rattle.bd_pages.specs.Table.{flat}
use Rattle.bd_pages.proofs.Ranges.{changed, range_inside, range_small, range_written}
use Rattle.bd_pages.proofs.pages.Pages.write.Goals as goal

pub overflow_mul-at : goal.overflow_mul-at
overflow_mul-at c = let small = range_small c.self.inside.size c.self.inside.count c.args.lba c.args.count c.self.inside.pages.items c.args.self.now c.self.view_is c.self.invariant c.requires.inside in omega (arith, small)

pub write-requires-clause-inside : goal.write-requires-clause-inside
write-requires-clause-inside c =
    let size : ℕ = c.self.inside.size in
    let long : length c.args.bytes.now ≡ c.args.count * size = c.requires.whole ∙ sym (ap (λ (p : Paged). c.args.count * p.size) c.self.view_is) in
    let inside = range_inside size c.self.inside.count c.args.lba c.args.count c.self.inside.pages.items c.args.self.now c.self.view_is c.self.invariant c.requires.inside in
    subst (λ (pages : List Leaf). c.args.lba * size + length c.args.bytes.now ≤ length (flat pages)) (sym c.as_mut_slice.ensures.value) (omega (arith, inside, long))

pub write-requires-clause-small : goal.write-requires-clause-small
write-requires-clause-small c =
    let size : ℕ = c.self.inside.size in
    let long : length c.args.bytes.now ≡ c.args.count * size = c.requires.whole ∙ sym (ap (λ (p : Paged). c.args.count * p.size) c.self.view_is) in
    let small = range_small size c.self.inside.count c.args.lba c.args.count c.self.inside.pages.items c.args.self.now c.self.view_is c.self.invariant c.requires.inside in
    omega (arith, small, long)

pub invariant_of-self : goal.invariant_of-self
invariant_of-self c =
    let old : List Leaf = c.self.inside.pages.items in
    let same = changed c.self.inside.pages.len c.write.new.pages old (omega arith) in
    subst (IsWhole c.self.inside.size c.self.inside.count) (sym same) (record {
      paged = c.write.ensures.paged;
      all = c.write.ensures.len ∙ ap (λ (pages : List Leaf). length (flat pages)) c.as_mut_slice.ensures.value ∙ c.self.invariant.all;
      small = c.self.invariant.small;
    })

pub returns-clause-blocks : goal.returns-clause-blocks
returns-clause-blocks c =
    let size : ℕ = c.self.inside.size in
    let old : List Leaf = c.self.inside.pages.items in
    let blocks : List ℕ → List (List ℕ) = λ b. blocks_of size c.self.inside.count b in
    let same = changed c.self.inside.pages.len c.write.new.pages old (omega arith) in
    let long : length c.args.bytes.now ≡ c.args.count * size = c.requires.whole ∙ sym (ap (λ (p : Paged). c.args.count * p.size) c.self.view_is) in
    on_ok_weaker c.write.result
    (λ wrote.
    ap blocks (ap flat same ∙ wrote)
    ∙ ap (λ (pages : List Leaf). blocks (written (c.args.lba * size) c.args.bytes.now (flat pages))) c.as_mut_slice.ensures.value
    ∙ range_written size c.self.inside.count c.args.lba c.args.count old c.args.self.now c.self.view_is c.self.invariant c.requires.inside c.args.bytes.now long)
    c.write.ensures.bytes
