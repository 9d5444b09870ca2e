use Rattle.std.proofs.Common.{◌+◌, ◌*◌, ◌≤◌, ◌++◌, ℕ, List, length, take, drop, ap, subst, sym, ◌∙◌, arith}
use Rattle.bd_pages.specs.Leaf.{Leaf}
use Rattle.bd_pages.specs.Table.{flat}
use Rattle.bd_pages.proofs.Ranges.{range_inside, range_small, range_read}
use Rattle.bd_pages.proofs.pages.Pages.read.Goals as goal

pub overflow_mul-len : goal.overflow_mul-len
overflow_mul-len c = let small = range_small c.self.inside.size c.self.inside.count c.args.lba c.args.count c.self.inside.pages.items c.args.self.now c.self.view_is c.self.invariant c.requires in omega (arith, small)

pub overflow_mul-lba : goal.overflow_mul-lba
overflow_mul-lba c = let small = range_small c.self.inside.size c.self.inside.count c.args.lba c.args.count c.self.inside.pages.items c.args.self.now c.self.view_is c.self.invariant c.requires in omega (arith, small)

pub read-requires-clause-inside : goal.read-requires-clause-inside
read-requires-clause-inside c =
    subst (λ (pages : List Leaf). c.args.lba * c.self.inside.size + c.args.count * c.self.inside.size ≤ length (flat pages)) (sym c.as_slice.ensures.value)
    (range_inside c.self.inside.size c.self.inside.count c.args.lba c.args.count c.self.inside.pages.items c.args.self.now c.self.view_is c.self.invariant c.requires)

pub read-requires-clause-small : goal.read-requires-clause-small
read-requires-clause-small c = range_small c.self.inside.size c.self.inside.count c.args.lba c.args.count c.self.inside.pages.items c.args.self.now c.self.view_is c.self.invariant c.requires

pub returns : goal.returns
returns c =
    let size : ℕ = c.self.inside.size in
    c.from_vec.ensures
    ∙ c.in_ok-read.ensures
    ∙ ap (λ (xs : List ℕ). xs ++ take (c.args.count * size) (drop (c.args.lba * size) (flat c.as_slice.result.now))) c.in_ok-bytes.ensures.items
    ∙ ap (λ (pages : List Leaf). take (c.args.count * size) (drop (c.args.lba * size) (flat pages))) c.as_slice.ensures.value
    ∙ range_read c.self.inside.size c.self.inside.count c.args.lba c.args.count c.self.inside.pages.items c.args.self.now c.self.view_is c.self.invariant c.requires
