use Rattle.std.proofs.Common.{arith}
use Rattle.std.specs.Int.{w16}
use Rattle.std.proofs.lemmas.Nat.Bits.{bit_at_set_same, bit_at_set_other}
use Rattle.bd_base.proofs.thread_set.ThreadSet.insert.Goals as goal

pub returns-clause-same : goal.returns-clause-same
returns-clause-same c = bit_at_set_same w16 c.args.self.now.0 c.args.t.0 (omega arith)

pub returns-clause-others : goal.returns-clause-others
returns-clause-others c = λ k other. bit_at_set_other w16 c.args.self.now.0 c.args.t.0 (omega arith) k other
