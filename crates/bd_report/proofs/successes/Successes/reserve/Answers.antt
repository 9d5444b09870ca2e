use Rattle.std.proofs.Common.{ap, false, get_or, [], ◌||◌}
use Rattle.bd_report.specs.Index.{key_of}
use Rattle.bd_report.proofs.successes.Successes.reserve.Goals as goal

pub returns-clause-same : goal.returns-clause-same
returns-clause-same c request =
    ap (λ b. get_or (get_or c.args.self.now.by_number request.thread []) request.seq false || b) (c.reserve.ensures.keys.2 (key_of request))
