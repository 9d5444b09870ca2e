use Rattle.std.proofs.Common.{◌≡◌, ◌-◌, ◌+◌, ◌*◌, ◌≤◌, ◌++◌, ℕ, List, replicate, ap, ◌∙◌, arith}
use Rattle.std.proofs.Math.Nat.{add-mul}
use Rattle.bd_pages.specs.Leaf.{Leaf}
use Rattle.bd_pages.specs.Table.{flat}
use Rattle.bd_pages.proofs.Growths.{fewer_blocks, fewer_taken, grown_blocks}
use Rattle.bd_pages.proofs.pages.Pages.grow.Goals as goal

pub returns-then-count-self-clause-blocks : goal.returns-then-count-self-clause-blocks
returns-then-count-self-clause-blocks c =
    let old : List Leaf = c.self.inside.pages.items in
    fewer_blocks c.self.inside.size c.self.inside.count c.args.blocks old old c.args.self.now c.self.view_is c.self.invariant.all (omega arith)

pub returns-then-count-self-clause-taken : goal.returns-then-count-self-clause-taken
returns-then-count-self-clause-taken c =
    let old : List Leaf = c.self.inside.pages.items in
    fewer_taken c.self.inside.size c.self.inside.count c.args.blocks old old c.args.self.now c.self.view_is c.self.invariant.all (omega arith) c.self.invariant.paged

pub returns-clause-blocks : goal.returns-clause-blocks
returns-clause-blocks c =
    let size : ℕ = c.self.inside.size in
    let count : ℕ = c.self.inside.count in
    let n : ℕ = c.args.blocks in
    let few : count ≤ n = omega arith in
    let both : count + (n - count) ≡ n = omega (arith, few) in
    let bytes : count * size + (n - count) * size ≡ n * size = let parts = add-mul count (n - count) size in omega (arith, parts, ap (λ (k : ℕ). k * size) both) in
    let more : c.in-Some.len - count * size ≡ (n - count) * size = omega (arith, bytes, c.in-Some.ensures) in
    grown_blocks size count n c.self.inside.pages.items c.grow.new.pages.items c.args.self.now c.self.view_is c.self.invariant.all few
    (c.in_ok-grow.ensures.bytes ∙ ap (λ (k : ℕ). flat c.self.inside.pages.items ++ replicate k 0) more)
