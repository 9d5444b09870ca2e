use Rattle.std.proofs.Common.{◌≡◌, ◌+◌, ◌*◌, ◌≤◌, ◌++◌, ℕ, List, length, take, drop, ap, subst, sym, ◌∙◌, arith}
use Rattle.std.proofs.lemmas.Result.{on_ok_weaker}
use Rattle.bd_pages.specs.Leaf.{Leaf}
use Rattle.bd_pages.specs.Bytes.{written}
use Rattle.bd_pages.specs.Fills.{bytes_filled, filled}
use Rattle.bd_pages.specs.Pages.{Paged, blocks_of}
use Rattle.bd_pages.specs.Table.{flat}
use Rattle.bd_pages.proofs.Chunks.{blocks_even}
use Rattle.bd_pages.proofs.Even.{Even, even_range, range_length}
use Rattle.bd_pages.proofs.Fills.{filled_blocks, filled_length}
use Rattle.bd_pages.proofs.Ranges.{changed, range_inside, range_small, range_written}
use Rattle.bd_pages.proofs.pages.Pages.fill.Goals as goal

pub overflow_mul-span : goal.overflow_mul-span
overflow_mul-span c = let small = range_small c.self.inside.size c.self.inside.count c.args.lba c.args.count c.self.inside.pages.items c.args.self.now c.self.view_is c.self.invariant c.requires.inside in omega (arith, small)

pub fill-requires-clause-inside : goal.fill-requires-clause-inside
fill-requires-clause-inside c =
    subst (λ (pages : List Leaf). c.args.lba * c.self.inside.size + c.args.count * c.self.inside.size ≤ length (flat pages)) (sym c.as_mut_slice.ensures.value)
    (range_inside c.self.inside.size c.self.inside.count c.args.lba c.args.count c.self.inside.pages.items c.args.self.now c.self.view_is c.self.invariant c.requires.inside)

pub fill-requires-clause-small : goal.fill-requires-clause-small
fill-requires-clause-small c = range_small c.self.inside.size c.self.inside.count c.args.lba c.args.count c.self.inside.pages.items c.args.self.now c.self.view_is c.self.invariant c.requires.inside

pub returns-clause-blocks : goal.returns-clause-blocks
returns-clause-blocks c =
    let size : ℕ = c.self.inside.size in
    let count : ℕ = c.args.count in
    let old : List Leaf = c.self.inside.pages.items in
    let now : Paged = c.args.self.now in
    let range : List (List ℕ) = take count (drop c.args.lba now.blocks) in
    let bytes : List ℕ = bytes_filled c.args.fill c.args.number size count in
    let among : List (List ℕ) → List (List ℕ) = λ bs. take c.args.lba now.blocks ++ bs ++ drop (c.args.lba + count) now.blocks in
    let even : Even size now.blocks = subst (λ (p : Paged). Even size p.blocks) c.self.view_is (blocks_even size c.self.inside.count (flat old) c.self.invariant.all) in
    let cut : blocks_of size count bytes ≡ filled c.args.fill c.args.number range =
    ap (λ (n : ℕ). blocks_of size n (bytes_filled c.args.fill c.args.number size n)) (sym (range_length c.args.lba count now.blocks c.requires.inside))
    ∙ filled_blocks c.args.fill c.args.number size range (even_range size c.args.lba count now.blocks even) in
    let same = changed c.self.inside.pages.len c.fill.new.pages old (omega arith) in
    let blocks : List ℕ → List (List ℕ) = λ b. blocks_of size c.self.inside.count b in
    on_ok_weaker c.fill.result
    (λ put.
    ap blocks (ap flat same ∙ put)
    ∙ ap (λ (pages : List Leaf). blocks (written (c.args.lba * size) bytes (flat pages))) c.as_mut_slice.ensures.value
    ∙ range_written size c.self.inside.count c.args.lba count old now c.self.view_is c.self.invariant c.requires.inside bytes (filled_length c.args.fill c.args.number size count)
    ∙ ap (λ (s : ℕ). among (blocks_of s count bytes)) (sym (ap (λ (p : Paged). p.size) c.self.view_is))
    ∙ ap among cut)
    c.fill.ensures.bytes
