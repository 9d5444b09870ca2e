use Rattle.std.proofs.Common.{◌+◌, ◌*◌, ◌≤◌, ℕ, List, length, take, drop, ap, subst, sym, ◌∙◌}
use Rattle.bd_volume.proofs.Stores.{span_inside, span_read}
use Rattle.bd_volume.proofs.store.Store.read.Goals as goal

pub part-requires : goal.part-requires
part-requires c =
    let e = c.span-span.ensures in
    subst (λ (bytes : List ℕ). c.span-span.result.at + c.span-span.result.count * c.span-span.result.size ≤ length bytes) (sym c.as_slice.ensures.value)
    (span_inside c.self.inside.size c.self.inside.count c.args.at c.args.count c.self.inside.bytes.items c.args.self.now c.self.view_is c.self.invariant c.requires
    c.span-span.result.at c.span-span.result.size c.span-span.result.count e.at e.size e.count)

pub returns : goal.returns
returns c =
    let e = c.span-span.ensures in
    c.in_ok-bytes.ensures
    ∙ ap (λ (bs : List ℕ). take (c.span-span.result.count * c.span-span.result.size) (drop c.span-span.result.at bs)) c.as_slice.ensures.value
    ∙ span_read c.self.inside.size c.self.inside.count c.args.at c.args.count c.self.inside.bytes.items c.args.self.now c.self.view_is c.self.invariant c.requires
    c.span-span.result.at c.span-span.result.size c.span-span.result.count e.at e.size e.count
