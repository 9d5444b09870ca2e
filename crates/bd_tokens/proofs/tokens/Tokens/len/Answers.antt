use Rattle.std.proofs.Common.{◌≤◌, length, arith}
use Rattle.bd_tokens.proofs.tokens.Tokens.len.Goals as goal

pub overflow_add-result : goal.overflow_add-result
overflow_add-result c = let few : length c.self.inside.rows.items ≤ 4096 = c.self.invariant.few in grind (arith, few, c.count.ensures.within, c.as_slice.ensures.value, c.len.ensures.small)
