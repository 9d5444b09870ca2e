use Rattle.std.proofs.Common.{arith}
use Rattle.bd_volume.proofs.Stores.{range_inside}
use Rattle.bd_volume.proofs.store.Store.span.Goals as goal

pub overflow_mul-result : goal.overflow_mul-result
overflow_mul-result c =
    let inside = range_inside c.self.inside.size c.self.inside.count c.args.at c.args.count c.self.inside.bytes.items c.args.self.now c.self.view_is c.self.invariant c.requires in
    omega (arith, inside, c.len-len.ensures, c.len-len.type_inv)

pub returns-clause-small : goal.returns-clause-small
returns-clause-small c =
    let inside = range_inside c.self.inside.size c.self.inside.count c.args.at c.args.count c.self.inside.bytes.items c.args.self.now c.self.view_is c.self.invariant c.requires in
    omega (arith, inside, c.len-len.ensures, c.len-len.type_inv)
