use Rattle.std.proofs.Common.{◌+◌, ◌*◌, ◌≤◌, ℕ, List, length, replicate, ap, subst, sym, ◌∙◌, arith}
use Rattle.bd_pages.specs.Bytes.{written}
use Rattle.bd_pages.specs.Pages.{blocks_of}
use Rattle.bd_pages.proofs.Chunks.{length_blocks}
use Rattle.bd_volume.proofs.Stores.{changed, span_inside, span_zeroed, stored_length}
use Rattle.bd_volume.proofs.store.Store.zero.Goals as goal

pub clear-requires : goal.clear-requires
clear-requires c =
    let e = c.span-span.ensures in
    subst (λ (bytes : List ℕ). c.span-span.result.at + c.span-span.result.count * c.span-span.result.size ≤ length bytes) (sym c.as_mut_slice.ensures.value)
    (span_inside c.self.inside.size c.self.inside.count c.args.at c.args.count c.self.inside.bytes.items c.args.self.now c.self.view_is c.self.invariant c.requires
    c.span-span.result.at c.span-span.result.size c.span-span.result.count e.at e.size e.count)

pub returns-clause-blocks : goal.returns-clause-blocks
returns-clause-blocks c =
    let e = c.span-span.ensures in
    let size : ℕ = c.self.inside.size in
    let count : ℕ = c.self.inside.count in
    let bytes : List ℕ = c.self.inside.bytes.items in
    let zeros : List ℕ = replicate (c.span-span.result.count * c.span-span.result.size) 0 in
    ap (λ (bs : List ℕ). blocks_of size count bs)
    (changed c.self.inside.bytes.len c.clear.new.bytes bytes (omega arith)
    ∙ c.clear.ensures
    ∙ ap (λ (bs : List ℕ). written c.span-span.result.at zeros bs) c.as_mut_slice.ensures.value)
    ∙ span_zeroed size count c.args.at c.args.count bytes c.args.self.now c.self.view_is c.self.invariant c.requires
    c.span-span.result.at c.span-span.result.size c.span-span.result.count e.at e.size e.count

pub returns-clause-long : goal.returns-clause-long
returns-clause-long c =
    length_blocks c.self.inside.size c.self.inside.count _ ∙ sym (stored_length c.self.inside.size c.self.inside.count c.self.inside.bytes.items c.args.self.now c.self.view_is)
