use Rattle.std.proofs.Common.{arith}
use Rattle.std.specs.Int.{w16}
use Rattle.std.proofs.lemmas.Nat.Bits.{bit_at-trailing_zeros}
use Rattle.bd_base.proofs.thread_set.ThreadSet.first.Goals as goal

pub returns-else-self-eq0 : goal.returns-else-self-eq0
returns-else-self-eq0 c =
    let zeros = bit_at-trailing_zeros w16 c.args.self.now.0 (omega arith) (omega arith) in
    record { below = zeros.0; inside = zeros.1; least = λ k lt inside. let clear = zeros.2 k lt in omega arith }
