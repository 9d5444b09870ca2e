use Rattle.std.proofs.Common.{◌≡◌, ◌+◌, ◌++◌, length, arith}
use Rattle.std.proofs.lemmas.Grind.{common_steps}
use Rattle.bd_log.specs.Log.{stamped}
use Rattle.bd_log.proofs.Stamping.{log_all}
use Rattle.bd_log.proofs.log.Log.push_all.Goals as goal

pub invariant_of-self-2 : goal.invariant_of-self-2
invariant_of-self-2 c =
    let log = c.self.inside in
    let items : c.append.new.self.items ≡ log.entries.items ++ stamped log.thread log.last c.args.entries.items = grind (arith, common_steps) in
    let last : c.in-Some.last ≡ log.last + length c.args.entries.items = grind (arith, common_steps) in
    rw items (log_all log.thread log.last c.in-Some.last log.entries.items c.args.entries.items c.self.invariant last)
