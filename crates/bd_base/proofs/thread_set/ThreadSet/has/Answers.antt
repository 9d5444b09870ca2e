use Rattle.std.proofs.Common.{◌≡◌, arith}
use Rattle.std.specs.Int.{bit_at}
use Rattle.std.proofs.lemmas.Bool.Decides.{nat_tests}
use Rattle.std.proofs.lemmas.Nat.Bits.{bit_at_above}
use Rattle.bd_base.proofs.thread_set.ThreadSet.has.Goals as goal

pub returns-else-t-lt16 : goal.returns-else-t-lt16
returns-else-t-lt16 c =
    let zero : bit_at c.args.self.now.0 c.args.t.0 ≡ 0 = bit_at_above c.args.self.now.0 16 c.args.t.0 (omega arith) (omega arith) in
    grind (arith, nat_tests, zero)
